-- The paths of a rank in their order, as the keys of a map: so that lists of the same paths are equal.
use Rattle.std.proofs.Common.{◌≡◌, ℕ, true, false, cond, ◌&&◌, ◌||◌, eqb, List, [], ◌∷◌, Some, None, Option, is_some, length, map, refl, sym, ap, ◌∙◌, subst, arith, T}
use Rattle.std.specs.List.{list_any, AllByRecursion}
use Rattle.std.specs.List.Sorted.{IsStrictlySortedBy}
use Rattle.std.specs.FinMap as finmap
use Rattle.std.specs.FinMap.Entries.{by_order}
use Rattle.std.specs.Ordering.{is_lt, is_eq}
use Rattle.std.specs.declared.cmp.Ordering.TheVariants.{Less, Equal, Greater}
use Rattle.call_path.specs.Path.{Path, path_cmp, is_path, path_cmp_total, path_cmp_exact}
use Rattle.call_path.specs.Pairs.{Pairs, is_pair}
use Rattle.prefix_tree.proofs.Rows.{first, second, less}
use Rattle.equiv_class.specs.Classes.{paths_of, put_path}

-- the paths of the rank's pairs, each with a mark
abbrev pub marked_paths : Pairs → ℕ → List (Path × Unit {0})
marked_paths [] r = []
marked_paths (e ∷ P) r = cond (eqb e.0 r) ((e.1, tt) ∷ marked_paths P r) (marked_paths P r)

no_entry : (es : List (Path × Unit {0})) → length es ≡ 0 → es ≡ []
no_entry [] e = refl
no_entry (x ∷ es) e = absurd (omega (arith, e))

keys-put : (p : Path) (es : List (Path × Unit {0})) → map (λ e. e.0) (finmap.put path_cmp p tt es) ≡ put_path p (map (λ e. e.0) es)
keys-put p [] = refl
keys-put p (e ∷ es) = elim (path_cmp p e.0) as (λ o. map (λ x. x.0) (by_order o (let m : Path × Unit {0} = (p, tt) in m ∷ e ∷ es) (let m : Path × Unit {0} = (e.0, tt) in m ∷ es) (e ∷ finmap.put path_cmp p tt es)) ≡ cond (is_lt o) (p ∷ e.0 ∷ map (λ x. x.0) es) (cond (is_eq o) (e.0 ∷ map (λ x. x.0) es) (e.0 ∷ put_path p (map (λ x. x.0) es)))) [
  | Less ↦ refl
  | Equal ↦ refl
  | Greater ↦ ap (λ ps. e.0 ∷ ps) (keys-put p es)
]

-- the paths of a rank are the keys of the map of its marked paths
pub keys-marked_paths : (P : Pairs) (r : ℕ) → paths_of P r ≡ finmap.keys (finmap.from_entries {R = path_cmp} (marked_paths P r))
keys-marked_paths [] r = sym (ap (λ (es : List (Path × Unit {0})). map (λ e. e.0) es) (no_entry _ (sym (finmap.len-entries (finmap.from_entries {R = path_cmp} [])) ∙ finmap.len-empty path_cmp (Unit {0}))))
keys-marked_paths (e ∷ P) r = elim (eqb e.0 r) as (λ b. cond b (put_path e.1 (paths_of P r)) (paths_of P r) ≡ finmap.keys (finmap.from_entries {R = path_cmp} (cond b ((e.1, tt) ∷ marked_paths P r) (marked_paths P r)))) [
  | true ↦ ap (put_path e.1) (keys-marked_paths P r) ∙ sym (keys-put e.1 (finmap.entries (finmap.from_entries {R = path_cmp} (marked_paths P r)))) ∙ sym (ap (λ (es : List (Path × Unit {0})). map (λ x. x.0) es) (finmap.entries-insert path_cmp_total (finmap.from_entries {R = path_cmp} (marked_paths P r)) e.1 tt))
  | false ↦ keys-marked_paths P r
]

-- a path is among those of the rank where the two are a pair
pub find_paths : (P : Pairs) (r : ℕ) (q : Path) → is_some (finmap.find path_cmp q (marked_paths P r)) ≡ is_pair P r q
find_paths [] r q = refl
find_paths (e ∷ P) r q = elim (eqb e.0 r) as (λ b. is_some (finmap.find path_cmp q (cond b ((e.1, tt) ∷ marked_paths P r) (marked_paths P r))) ≡ (b && is_path q e.1 || is_pair P r q)) [
  | true ↦ elim (is_path q e.1) as (λ c. is_some (cond c (Some tt) (finmap.find path_cmp q (marked_paths P r))) ≡ (c || is_pair P r q)) [ true ↦ refl | false ↦ find_paths P r q ]
  | false ↦ find_paths P r q
]

-- an option of nothing is whether it is there
pub tags : (x : Option (Unit {0})) → x ≡ cond (is_some x) (Some tt) None
tags None = refl
tags (Some u) = refl

-- ranks that were seen in the same paths have the same list of paths
pub paths_of-same : (P Q : Pairs) (r s : ℕ) → ((p : Path) → is_pair P r p ≡ is_pair Q s p) → paths_of P r ≡ paths_of Q s
paths_of-same P Q r s same =
    keys-marked_paths P r ∙ ap finmap.keys (finmap.same_map path_cmp_total path_cmp_exact (finmap.from_entries {R = path_cmp} (marked_paths P r)) (finmap.from_entries {R = path_cmp} (marked_paths Q s)) (λ q.
    finmap.get-from_entries path_cmp_total (marked_paths P r) q ∙ tags _ ∙ ap (λ b. cond b (Some tt) None) (find_paths P r q ∙ same q ∙ sym (find_paths Q s q)) ∙ sym (tags _) ∙ sym (finmap.get-from_entries path_cmp_total (marked_paths Q s) q)))
    ∙ sym (keys-marked_paths Q s)

-- the list has just the paths that the rank was seen in
pub any-paths_of : (P : Pairs) (r : ℕ) (p : Path) → list_any (is_path p) (paths_of P r) ≡ is_pair P r p
any-paths_of P r p =
    let m : finmap.FinMap path_cmp (Unit {0}) = finmap.from_entries {R = path_cmp} (marked_paths P r) in
    ap (list_any (is_path p)) (keys-marked_paths P r) ∙ sym (finmap.contains_key-keys m p) ∙ ap is_some (finmap.get-from_entries path_cmp_total (marked_paths P r) p) ∙ find_paths P r p

increasing : (x y : Path) → path_cmp x y ≡ Less → (zs : List Path) → AllByRecursion (λ z. path_cmp y z ≡ Less) zs → AllByRecursion (λ z. path_cmp x z ≡ Less) zs
increasing x y lt [] h = tt
increasing x y lt (z ∷ zs) h = (path_cmp_total.trans x y z lt h.0, increasing x y lt zs h.1)

all_later : (es : List (Path × Unit {0})) (e : Path × Unit {0}) → T (finmap.is_sorted path_cmp (e ∷ es)) → AllByRecursion (λ y. path_cmp e.0 y ≡ Less) (map (λ x. x.0) es)
all_later [] e up = tt
all_later (f ∷ es) e up = let lt = less _ (first _ _ (first _ _ up)) in (lt, increasing e.0 f.0 lt (map (λ x. x.0) es) (all_later es f (second _ _ up)))

keys_sorted : (es : List (Path × Unit {0})) → T (finmap.is_sorted path_cmp es) → IsStrictlySortedBy path_cmp (map (λ e. e.0) es)
unfolding IsStrictlySortedBy
keys_sorted [] up = tt
keys_sorted (e ∷ es) up = (all_later es e up, keys_sorted es (second _ _ up))

-- the list is in order, each path once
pub paths_of-sorted : (P : Pairs) (r : ℕ) → IsStrictlySortedBy path_cmp (paths_of P r)
paths_of-sorted P r =
    let m : finmap.FinMap path_cmp (Unit {0}) = finmap.from_entries {R = path_cmp} (marked_paths P r) in
    subst (IsStrictlySortedBy path_cmp) (sym (keys-marked_paths P r)) (keys_sorted (finmap.entries m) (finmap.entries_sorted m))
