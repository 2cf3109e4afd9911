-- The way down a tree to the i-th of all that is counted.
use Rattle.std.proofs.Common.{◌≡◌, ℕ, zero, suc, ◌+◌, ◌-◌, ◌*◌, ◌^◌, ◌<◌, ◌≤◌, List, Some, get_or, take, drop, ap, sym, ◌∙◌, subst, arith, inl, inr}
use Rattle.std.specs.List.{sum}
use Rattle.std.proofs.Math.Nat.{pow-succ', mul-le-mul_left}
use Rattle.std.proofs.lemmas.Bool.{cases_lt}
use Rattle.std.proofs.lemmas.Nat.{pow_pos}
use Rattle.std.proofs.lemmas.Grind.{get_or_default_zero}
use Rattle.std.proofs.lemmas.List.{get_or-drop, get_or-take, take-take}
use Rattle.count_tree.specs.Places.{place_of}
use Rattle.count_tree.specs.Sums.{IsTree}
use Rattle.count_tree.proofs.Places.{place_at}
use Rattle.count_tree.proofs.Trees.{span, span_doubles, sum_of_part, sums_up_in, some_leaves}

-- Thing i is below the node, which is at a place of a level, and what is left of i is its number there. The level begins
-- at the index `first`, and has some levels below it.
pub record IsBelow (s : List ℕ) (leaves i node left : ℕ) : Type 0 where
  pub first : ℕ
  pub at : ℕ
  pub levels : ℕ
  pub within : at < first
  pub index : node ≡ first + at
  pub doubled : leaves ≡ first * 2 ^ levels
  pub passed : span s first at + left ≡ i
  pub here : left < get_or s node 0

-- the root, as the code reads it
pub is_below_root : (s : List ℕ) (leaves places i v : ℕ) → IsTree s leaves places → v ≡ get_or s 1 v → i < v → IsBelow s leaves i 1 i
is_below_root s leaves places i v tree read enough = record {
  first = 1;
  at = 0;
  levels = tree.power.0;
  within = omega arith;
  index = omega arith;
  doubled = omega (arith, tree.power.1);
  passed = omega arith;
  here = omega (arith, enough, read, get_or_default_zero s 1 v (omega (arith, tree.size, some_leaves 0 s leaves places tree)));
}

-- an inner node is no leaf, so there is a level below it
level_below : (s : List ℕ) (leaves i node left : ℕ) → (b : IsBelow s leaves i node left) → node < leaves → (e : ℕ) × (leaves ≡ 2 * b.first * 2 ^ e)
level_below s leaves i node left b inner = of b.levels b.doubled where
  of : (levels : ℕ) → leaves ≡ b.first * 2 ^ levels → (e : ℕ) × (leaves ≡ 2 * b.first * 2 ^ e)
  of zero doubled = absurd (omega (arith, doubled, b.index, inner))
  of (suc e) doubled = (e, doubled ∙ ap (λ n. b.first * n) (pow-succ' 2 e) ∙ omega arith)

-- what is before a node is before its first child
passed_below : (s : List ℕ) (leaves places i node left : ℕ) → IsTree s leaves places → (b : IsBelow s leaves i node left) → node < leaves → span s b.first b.at ≡ span s (2 * b.first) (2 * b.at)
passed_below s leaves places i node left tree b inner =
    span_doubles s b.first b.at (λ k low high. sums_up_in s leaves places tree k (omega (arith, low, b.within)) (omega (arith, high, b.index, inner)))

-- the first child of an inner node as the code reads it, with itself as the default
child_read : (s : List ℕ) (leaves places node v : ℕ) → IsTree s leaves places → node < leaves → v ≡ get_or s (node * 2) v → get_or s (2 * node) 0 ≡ v
child_read s leaves places node v tree inner read =
    let same : 2 * node ≡ node * 2 = omega arith in
    ap (λ k. get_or s k 0) same ∙ sym (get_or_default_zero s (node * 2) v (omega (arith, inner, tree.size))) ∙ sym read

-- the first child, if it has enough
pub is_below_first : (s : List ℕ) (leaves places i node left v : ℕ) → IsTree s leaves places → IsBelow s leaves i node left → node < leaves → v ≡ get_or s (node * 2) v → left < v → IsBelow s leaves i (node * 2) left
is_below_first s leaves places i node left v tree b inner read enough =
    let below = level_below s leaves i node left b inner in
    let same : get_or s (2 * node) 0 ≡ get_or s (node * 2) 0 = ap (λ k. get_or s k 0) (omega arith) in
    record {
      first = 2 * b.first;
      at = 2 * b.at;
      levels = below.0;
      within = omega (arith, b.within);
      index = omega (arith, b.index);
      doubled = below.1;
      passed = omega (arith, passed_below s leaves places i node left tree b inner, b.passed);
      here = omega (arith, enough, same, child_read s leaves places node v tree inner read);
    }

-- the second otherwise
pub is_below_second : (s : List ℕ) (leaves places i node left v : ℕ) → IsTree s leaves places → IsBelow s leaves i node left → node < leaves → v ≡ get_or s (node * 2) v → v ≤ left → IsBelow s leaves i (node * 2 + 1) (left - v)
is_below_second s leaves places i node left v tree b inner read past =
    let below = level_below s leaves i node left b inner in
    let value : get_or s (2 * node) 0 ≡ v = child_read s leaves places node v tree inner read in
    let first : get_or s (2 * node) 0 ≡ get_or s (2 * b.first + 2 * b.at) 0 = ap (λ k. get_or s k 0) (omega (arith, b.index)) in
    let second : get_or s (2 * node + 1) 0 ≡ get_or s (node * 2 + 1) 0 = ap (λ k. get_or s k 0) (omega arith) in
    let more : suc (2 * b.at) ≡ 2 * b.at + 1 = omega arith in
    let passed : span s (2 * b.first) (suc (2 * b.at)) + (left - v) ≡ i = omega (arith, passed_below s leaves places i node left tree b inner, b.passed, first, value, past) in
    record {
      first = 2 * b.first;
      at = 2 * b.at + 1;
      levels = below.0;
      within = omega (arith, b.within);
      index = omega (arith, b.index);
      doubled = below.1;
      passed = subst (λ n. span s (2 * b.first) n + (left - v) ≡ i) more passed;
      here = omega (arith, b.here, past, second, value, sums_up_in s leaves places tree node (omega (arith, b.index, b.within)) inner);
    }

-- a leaf's level is that of all leaves
leaf_level : (s : List ℕ) (leaves i node left : ℕ) → (b : IsBelow s leaves i node left) → leaves ≤ node → b.first ≡ leaves
leaf_level s leaves i node left b leaf = of b.levels b.doubled where
  of : (levels : ℕ) → leaves ≡ b.first * 2 ^ levels → b.first ≡ leaves
  of zero doubled = omega (arith, doubled)
  of (suc e) doubled =
      let twice : leaves ≡ 2 * b.first * 2 ^ e = doubled ∙ ap (λ n. b.first * n) (pow-succ' 2 e) ∙ omega arith in
      let more : 2 * b.first * 1 ≤ 2 * b.first * 2 ^ e = mul-le-mul_left (2 * b.first) (pow_pos e) in
      absurd (omega (arith, twice, more, leaf, b.index, b.within))

-- a leaf is the place
pub place_of_leaf : (s : List ℕ) (leaves places i node left : ℕ) → IsTree s leaves places → IsBelow s leaves i node left → leaves ≤ node → (node - leaves < places) × (place_of (take places (drop leaves s)) i ≡ Some (node - leaves, left))
place_of_leaf s leaves places i node left tree b leaf =
    let level : b.first ≡ leaves = leaf_level s leaves i node left b leaf in
    let at : b.at ≡ node - leaves = omega (arith, b.index, level) in
    let n : ℕ = node - leaves in
    let index : leaves + n ≡ node = omega (arith, leaf) in
    let within : n < places = elim (cases_lt n places) [
      | inl lt ↦ lt
      | inr le ↦ absurd (omega (arith, b.here, tree.unused node (omega (arith, le, index))))
    ] in
    let counts : List ℕ = take places (drop leaves s) in
    let read : get_or counts n 0 ≡ get_or s node 0 = get_or-take places (drop leaves s) n 0 within ∙ get_or-drop leaves s n 0 ∙ ap (λ k. get_or s k 0) index in
    let before : sum (take n counts) ≡ span s leaves n = ap sum (take-take n places (drop leaves s) (omega (arith, within))) ∙ sum_of_part s leaves n (omega (arith, within, tree.enough, tree.size)) in
    let passed : span s leaves n + left ≡ i = subst (λ m. span s leaves m + left ≡ i) at (subst (λ f. span s f b.at + left ≡ i) level b.passed) in
    (within, place_at counts n left i (omega (arith, b.here, read)) (omega (arith, before, passed)))
