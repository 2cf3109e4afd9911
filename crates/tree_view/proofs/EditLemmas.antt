-- What the edited ends of a tree's rows say of its pairs.
use Rattle.std.proofs.Common.{◌≡◌, ℕ, Bool, true, false, ◌&&◌, ◌||◌, List, [], ◌∷◌, refl, sym, ap, ◌∙◌, eqb}
use Rattle.std.specs.List.{list_any}
use Rattle.rank_set.specs.Ranks.{Ranks, has, in_order}
use Rattle.call_path.specs.Path.{Path, is_path}
use Rattle.call_path.specs.Pairs.{pairs_at, is_pair}
use Rattle.call_path.proofs.PathLemmas.{and_false, is_path-exact}
use Rattle.prefix_tree.specs.Tree.{Marks}
use Rattle.prefix_tree.specs.Joined.{in_rows}
use Rattle.prefix_tree.proofs.PairLemmas.{and_swap, any-pairs_of_set, any-flat_map, any_alike}
use Rattle.tree_view.specs.Selections.{edited}

-- at a path, what is said of each row's path is said of the path
at_path : (f : Path → Bool) (q p : Path) → (is_path q p && f p) ≡ (is_path q p && f q)
at_path f q p = by (is_path q p) refl
  where
    by : (b : Bool) → is_path q p ≡ b → (b && f p) ≡ (b && f q)
    by true e = ap f (sym (is_path-exact q p e))
    by false e = refl

-- a pair of the edited ends is an end of the row at its path
pub is_pair-edited : (h : Path → Marks → Ranks) (es : List (Path × Marks)) (r : ℕ) (q : Path) → is_pair (edited h es) r q ≡ in_rows (λ m. has (h q m) r) es q
is_pair-edited h es r q =
    any-flat_map (λ x. eqb x.0 r && is_path q x.1) (λ (e : Path × Marks). pairs_at (in_order (h e.0 e.1)) e.0) es
    ∙ any_alike (λ (e : Path × Marks). list_any (λ x. eqb x.0 r && is_path q x.1) (pairs_at (in_order (h e.0 e.1)) e.0)) (λ e. is_path q e.0 && has (h q e.1) r)
    (λ e. any-pairs_of_set (is_path q) (h e.0 e.1) e.0 r ∙ and_swap (has (h e.0 e.1) r) (is_path q e.0) ∙ at_path (λ p. has (h p e.1) r) q e.0) es

-- tests of marks that agree find alike
pub in_rows-alike : (f g : Marks → Bool) → ((m : Marks) → f m ≡ g m) → (es : List (Path × Marks)) (q : Path) → in_rows f es q ≡ in_rows g es q
in_rows-alike f g same es q = any_alike (λ (e : Path × Marks). is_path q e.0 && f e.1) (λ e. is_path q e.0 && g e.1) (λ e. ap (λ b. is_path q e.0 && b) (same e.1)) es

-- a test that has nothing to do with the marks
pub in_rows-and : (f : Marks → Bool) (b : Bool) (es : List (Path × Marks)) (q : Path) → in_rows (λ m. f m && b) es q ≡ (in_rows f es q && b)
in_rows-and f b [] q = refl
in_rows-and f b (e ∷ es) q = ap (λ c. (is_path q e.0 && (f e.1 && b)) || c) (in_rows-and f b es q) ∙ spread (is_path q e.0) (f e.1) (in_rows f es q) b
  where
    spread : (x y z b : Bool) → ((x && (y && b)) || (z && b)) ≡ (((x && y) || z) && b)
    spread true true true true = refl
    spread true true true false = refl
    spread true true false true = refl
    spread true true false false = refl
    spread true false z b = refl
    spread false y z b = refl

-- no marks pass
pub in_rows-never : (es : List (Path × Marks)) (q : Path) → in_rows (λ m. false) es q ≡ false
in_rows-never [] q = refl
in_rows-never (e ∷ es) q = (λ i. and_false (is_path q e.0) i || in_rows-never es q i)
