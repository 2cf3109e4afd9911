-- What it says of paths that they are the same, and which paths are among the prefixes of another.
use Rattle.std.proofs.Common.{◌≡◌, ℕ, Bool, true, false, ◌&&◌, ◌||◌, List, [], ◌∷◌, map, refl, sym, ap, ◌∙◌}
use Rattle.std.specs.List.{list_any}
use Rattle.std.specs.Ordering.{eq_by_cmp, is_eq, nat_cmp, ordering_then}
use Rattle.std.specs.declared.cmp.Ordering.{Ordering}
use Rattle.std.specs.declared.cmp.Ordering.TheVariants.{Less, Equal, Greater}
use Rattle.std.specs.Cmp.{Equal-is, tied_itself}
use Rattle.std.specs.Cmp.Lexicographic.{slice_cmp}
use Rattle.call_path.specs.Path.{Path, path_cmp, is_path, is_prefix, path_cmp_total, path_cmp_exact}
use Rattle.call_path.specs.Pairs.{is_below, prefixes}

-- paths that tie are equal
pub is_path-exact : (p q : Path) → is_path p q ≡ true → p ≡ q
is_path-exact p q e = path_cmp_exact p q ((Equal-is (path_cmp p q)).0 e)

-- a path ties with itself
pub is_path-itself : (p : Path) → is_path p p ≡ true
is_path-itself p = ap is_eq (tied_itself path_cmp_total p)

-- a test and false
pub and_false : (a : Bool) → (a && false) ≡ false
and_false true = refl
and_false false = refl

pub and_or : (a b c : Bool) → (a && (b || c)) ≡ ((a && b) || (a && c))
and_or true b c = refl
and_or false b c = refl

-- two orders one after the other tie where both do
pub then_equal : (o s : Ordering) → is_eq (ordering_then o s) ≡ (is_eq o && is_eq s)
then_equal Less s = refl
then_equal Equal s = refl
then_equal Greater s = refl

-- two paths are the same where the first frames and the rests are
pub is_path-cons : (g f : List ℕ) (q p : Path) → is_path (g ∷ q) (f ∷ p) ≡ (eq_by_cmp (slice_cmp nat_cmp) g f && is_path q p)
is_path-cons g f q p = then_equal (slice_cmp nat_cmp g f) (path_cmp q p)

pub root_or_below : (p q : Path) → (is_path q [] || (is_below q && is_prefix q p)) ≡ is_prefix q p
root_or_below p [] = refl
root_or_below p (g ∷ q) = refl

-- the prefixes of a path
pub any-under : (f g : List ℕ) (q : Path) (ps : List Path) → list_any (is_path (g ∷ q)) (map (λ s. f ∷ s) ps) ≡ (eq_by_cmp (slice_cmp nat_cmp) g f && list_any (is_path q) ps)
any-under f g q [] = sym (and_false _)
any-under f g q (p ∷ ps) = (λ i. is_path-cons g f q p i || any-under f g q ps i) ∙ sym (and_or (eq_by_cmp (slice_cmp nat_cmp) g f) (is_path q p) (list_any (is_path q) ps))

pub none-under : (f : List ℕ) (ps : List Path) → list_any (is_path []) (map (λ s. f ∷ s) ps) ≡ false
none-under f [] = refl
none-under f (p ∷ ps) = none-under f ps

-- a path is among the prefixes below the root where it is one
pub any-prefixes : (p q : Path) → list_any (is_path q) (prefixes p) ≡ (is_below q && is_prefix q p)
any-prefixes [] [] = refl
any-prefixes [] (g ∷ q) = refl
any-prefixes (f ∷ p) [] = none-under f (prefixes p)
any-prefixes (f ∷ p) (g ∷ q) =
    (λ i. is_path-cons g f q [] i || any-under f g q (prefixes p) i)
    ∙ ap (λ b. (eq_by_cmp (slice_cmp nat_cmp) g f && is_path q []) || (eq_by_cmp (slice_cmp nat_cmp) g f && b)) (any-prefixes p q)
    ∙ sym (and_or (eq_by_cmp (slice_cmp nat_cmp) g f) (is_path q []) (is_below q && is_prefix q p))
    ∙ ap (λ b. eq_by_cmp (slice_cmp nat_cmp) g f && b) (root_or_below p q)
