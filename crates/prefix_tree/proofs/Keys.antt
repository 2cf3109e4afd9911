-- Maps of rows whose keys stand among some paths.
use Rattle.std.proofs.Common.{◌≡◌, ℕ, ◌+◌, ◌-◌, ◌≤◌, Bool, true, false, ◌||◌, cond, List, [], ◌∷◌, length, Option, Some, None, refl, sym, ap, ◌∙◌, arith}
use Rattle.std.specs.Prelude.{is_some}
use Rattle.std.specs.List.{list_any}
use Rattle.std.specs.FinMap as finmap
use Rattle.std.proofs.lemmas.Bool.{true≢false}
use Rattle.call_path.specs.Path.{Path, path_cmp, path_cmp_total, path_cmp_exact, is_path}
use Rattle.prefix_tree.specs.Tree.{Marks}
use Rattle.prefix_tree.specs.Joined.{Below, seen, if_some}

-- a map without a key is empty
no_key : (b : Below) → ((p : Path) → finmap.contains_key b p ≡ true → false ≡ true) → b ≡ finmap.empty
no_key b h = finmap.same_map path_cmp_total path_cmp_exact b finmap.empty (λ q. by_option q (finmap.get b q) refl ∙ sym (finmap.get-empty path_cmp q))
  where
    by_option : (q : Path) (o : Option Marks) → finmap.get b q ≡ o → finmap.get b q ≡ None
    by_option q None e = e
    by_option q (Some m) e = absurd (true≢false (sym (h q (ap is_some e))))

-- a key that is left after one is removed is another one
removed_has : (b : Below) (p q : Path) → finmap.contains_key (finmap.remove b p) q ≡ true → (is_path q p ≡ false) × (finmap.contains_key b q ≡ true)
removed_has b p q h =
    let g = ap is_some (finmap.get-remove path_cmp_total b p q) in
    by_case (is_path q p) refl (sym g ∙ h)
  where
    by_case : (c : Bool) → is_path q p ≡ c → is_some (cond c None (finmap.get b q)) ≡ true → (is_path q p ≡ false) × (finmap.contains_key b q ≡ true)
    by_case true e k = absurd (true≢false (sym k))
    by_case false e k = (e, k)

one_fewer : (c : Bool) (a b : ℕ) → a ≡ cond c (b - 1) b → b ≤ a + 1
one_fewer true a b e = omega arith
one_fewer false a b e = omega arith

or_false : (a b : Bool) → (a || b) ≡ true → a ≡ false → b ≡ true
or_false true b h e = absurd (true≢false e)
or_false false b h e = h

-- a map has no more keys than there are paths among which they stand
pub len_within : (ps : List Path) (b : Below) → ((p : Path) → finmap.contains_key b p ≡ true → list_any (is_path p) ps ≡ true) → finmap.len b ≤ length ps
len_within [] b h = let e : finmap.len b ≡ 0 = ap finmap.len (no_key b h) ∙ finmap.len-empty path_cmp _ in omega arith
len_within (p ∷ ps) b h =
    let rest = len_within ps (finmap.remove b p) (λ q k. let r = removed_has b p q k in or_false (is_path q p) _ (h q r.1) r.0) in
    let one = one_fewer (finmap.contains_key b p) _ _ (finmap.len-remove path_cmp_total b p) in
    omega arith

-- a row is seen at each key
pub seen_key : (b : Below) (p : Path) → finmap.contains_key b p ≡ true → seen (λ m. true) b p ≡ true
seen_key b p h = by_option (finmap.get b p) h
  where
    by_option : (o : Option Marks) → is_some o ≡ true → if_some (λ m. true) o ≡ true
    by_option None k = k
    by_option (Some m) k = refl
