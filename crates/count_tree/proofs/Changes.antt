-- How a tree is made, and how one of its counts changes.
use Rattle.std.proofs.Common.{◌≡◌, ◌≢◌, ℕ, zero, suc, ◌+◌, ◌-◌, ◌*◌, ◌/◌, ◌^◌, ◌<◌, ◌≤◌, List, length, get_or, take, drop, set, replicate, ap, sym, ◌∙◌, subst, arith, inl, inr, max}
use Rattle.std.specs.Int.{IsPowerOfTwo}
use Rattle.std.proofs.Math.Nat.{pow-succ', mul-le-mul_right}
use Rattle.std.proofs.Math.Pow.{pow_mono}
use Rattle.std.proofs.Math.Seq.{take-set-lt}
use Rattle.std.proofs.lemmas.Bool.{cases_eq, cases_lt}
use Rattle.std.proofs.lemmas.Nat.{pow_pos}
use Rattle.std.proofs.lemmas.List.{length-replicate, length-set, get_or-replicate, get_or_past, get_or-set_same, get_or-set_other, take-replicate, drop-replicate, drop-set-add, drop-set-lt}
use Rattle.std.proofs.lemmas.Grind.{get_or_default_zero}
use Rattle.count_tree.specs.Sums.{IsTree, IsTreeBut}

-- ---- a new tree

abbrev pub zeros : ℕ → List ℕ
zeros n = replicate n 0

zero_at : (n k : ℕ) → get_or (zeros n) k 0 ≡ 0
zero_at n k = elim (cases_lt k n) [
  | inl lt ↦ get_or-replicate n k 0 0 lt
  | inr le ↦ get_or_past (zeros n) k 0 (omega (arith, le, length-replicate {A = ℕ} n 0))
]

few_leaves : (leaves places : ℕ) → IsPowerOfTwo leaves → places < 2 ^ 32 → leaves / 2 < max 1 places → leaves ≤ 2 ^ 32
few_leaves leaves places power short near =
    elim (cases_lt power.0 33) [
      | inl lt ↦ omega (arith, power.1, pow_mono {i = power.0} {j = 32} (omega (arith, lt)))
      | inr le ↦ absurd (omega (arith, power.1, short, near, pow_mono {i = 33} {j = power.0} le))
    ]

pub new_tree : (leaves places : ℕ) → IsPowerOfTwo leaves → places < 2 ^ 32 → places ≤ leaves → leaves / 2 < max 1 places → IsTree (zeros (2 * leaves)) leaves places
new_tree leaves places power short enough near = record {
  power = power;
  size = length-replicate (2 * leaves) 0;
  enough = enough;
  limit = few_leaves leaves places power short near;
  sums_up = λ k _ _ _. omega (arith, zero_at (2 * leaves) k, zero_at (2 * leaves) (2 * k), zero_at (2 * leaves) (2 * k + 1));
  unused = λ k _. zero_at (2 * leaves) k;
  bounded = λ k e _. omega (arith, zero_at (2 * leaves) k, pow_pos e);
}

pub new_counts : (leaves places : ℕ) → places ≤ leaves → take places (drop leaves (zeros (2 * leaves))) ≡ zeros places
new_counts leaves places enough = ap (take places) (drop-replicate leaves (2 * leaves) 0) ∙ take-replicate places (2 * leaves - leaves) 0 (omega (arith, enough))

-- ---- a count is written, and the sums above it

at_same : (s : List ℕ) (p v k : ℕ) → p < length s → k ≡ p → get_or (set s p v) k 0 ≡ v
at_same s p v k within e = ap (λ j. get_or (set s p v) j 0) e ∙ get_or-set_same s p v 0 within

-- the sum of two children is as small as one count for each leaf below
pub children_fit : (stale : ℕ) (s : List ℕ) (leaves places : ℕ) → IsTreeBut stale s leaves places → (p e : ℕ) → p < leaves → leaves ≤ p * 2 ^ e → get_or s (2 * p) 0 + get_or s (2 * p + 1) 0 < 2 ^ e * 2 ^ 32
children_fit stale s leaves places tree p zero below above = absurd (omega (arith, below, above))
children_fit stale s leaves places tree p (suc e) below above =
    let double : 2 ^ suc e ≡ 2 * 2 ^ e = pow-succ' 2 e in
    let twice : p * 2 ^ suc e ≡ 2 * p * 2 ^ e = ap (λ n. p * n) double ∙ omega arith in
    let more : 2 * p * 2 ^ e ≤ (2 * p + 1) * 2 ^ e = mul-le-mul_right (2 ^ e) (omega arith) in
    let left : get_or s (2 * p) 0 < 2 ^ e * 2 ^ 32 = tree.bounded (2 * p) e (omega (arith, above, twice)) in
    let right : get_or s (2 * p + 1) 0 < 2 ^ e * 2 ^ 32 = tree.bounded (2 * p + 1) e (omega (arith, above, twice, more)) in
    omega (arith, left, right, double)

-- it fits a word
pub sum_fits : (stale : ℕ) (s : List ℕ) (leaves places : ℕ) → IsTreeBut stale s leaves places → (p : ℕ) → 0 < p → p < leaves → get_or s (2 * p) 0 + get_or s (2 * p + 1) 0 < 2 ^ 64
sum_fits stale s leaves places tree p some below =
    let e : leaves ≡ 2 ^ tree.power.0 = tree.power.1 in
    let above : 1 * 2 ^ tree.power.0 ≤ p * 2 ^ tree.power.0 = mul-le-mul_right (2 ^ tree.power.0) some in
    omega (arith, children_fit stale s leaves places tree p tree.power.0 below (omega (arith, above, e)), e, tree.limit)

-- the leaf is written, and its parent is stale
pub leaf_written : (s : List ℕ) (leaves places place count : ℕ) → IsTree s leaves places → place < places → count < 2 ^ 32 → IsTreeBut ((leaves + place) / 2) (set s (leaves + place) count) leaves places
leaf_written s leaves places place count tree within fits =
    let leaf : ℕ = leaves + place in
    let inside : leaf < length s = omega (arith, within, tree.enough, tree.size) in
    let other : (k : ℕ) → k ≢ leaf → get_or (set s leaf count) k 0 ≡ get_or s k 0 = λ k ne. get_or-set_other s leaf k count 0 ne in
    record {
      power = tree.power;
      size = length-set s leaf count ∙ tree.size;
      enough = tree.enough;
      limit = tree.limit;
      sums_up = λ k some below ne.
          other k (λ e. absurd (omega (arith, e, below)))
          ∙ tree.sums_up k some below (λ e. absurd (omega (arith, e, some)))
          ∙ omega (arith, other (2 * k) (λ e. ne (omega (arith, e))), other (2 * k + 1) (λ e. ne (omega (arith, e))));
      unused = λ k past. other k (λ e. absurd (omega (arith, e, past, within))) ∙ tree.unused k past;
      bounded = λ k e below. elim (cases_eq k leaf) [
        | inl same ↦ omega (arith, at_same s leaf count k inside same, fits, pow_pos e)
        | inr ne ↦ omega (arith, other k ne, tree.bounded k e below)
      ];
    }

-- a stale node is summed up, and its parent is stale
pub node_summed : (s : List ℕ) (leaves places p : ℕ) → IsTreeBut p s leaves places → 0 < p → p < leaves → IsTreeBut (p / 2) (set s p (get_or s (2 * p) 0 + get_or s (2 * p + 1) 0)) leaves places
node_summed s leaves places p tree some below =
    let v : ℕ = get_or s (2 * p) 0 + get_or s (2 * p + 1) 0 in
    let inside : p < length s = omega (arith, below, tree.size) in
    let other : (k : ℕ) → k ≢ p → get_or (set s p v) k 0 ≡ get_or s k 0 = λ k ne. get_or-set_other s p k v 0 ne in
    record {
      power = tree.power;
      size = length-set s p v ∙ tree.size;
      enough = tree.enough;
      limit = tree.limit;
      sums_up = λ k low high ne. elim (cases_eq k p) [
        | inl same ↦
            at_same s p v k inside same
            ∙ sym (ap (λ j. get_or s (2 * j) 0 + get_or s (2 * j + 1) 0) same)
            ∙ omega (arith, other (2 * k) (λ e. absurd (omega (arith, e, same, some))), other (2 * k + 1) (λ e. absurd (omega (arith, e, same, some))))
        | inr differs ↦
            other k differs
            ∙ tree.sums_up k low high differs
            ∙ omega (arith, other (2 * k) (λ e. ne (omega (arith, e))), other (2 * k + 1) (λ e. ne (omega (arith, e))))
      ];
      unused = λ k past. other k (λ e. absurd (omega (arith, e, past, below))) ∙ tree.unused k past;
      bounded = λ k e bound. elim (cases_eq k p) [
        | inl same ↦ subst (λ n. n < 2 ^ e * 2 ^ 32) (sym (at_same s p v k inside same)) (children_fit p s leaves places tree p e below (subst (λ n. leaves ≤ n * 2 ^ e) same bound))
        | inr differs ↦ omega (arith, other k differs, tree.bounded k e bound)
      ];
    }

-- the counts after the leaf is written
pub counts_written : (s : List ℕ) (leaves places place count : ℕ) → place < places → take places (drop leaves (set s (leaves + place) count)) ≡ set (take places (drop leaves s)) place count
counts_written s leaves places place count within = ap (take places) (drop-set-add leaves s place count) ∙ take-set-lt places (drop leaves s) place count within

-- no sum is a count
pub counts_kept : (s : List ℕ) (leaves places p v : ℕ) → p < leaves → take places (drop leaves (set s p v)) ≡ take places (drop leaves s)
counts_kept s leaves places p v below = ap (take places) (drop-set-lt leaves s p v below)

-- the children of a node as the code reads them, each with itself as the default
pub children_read : (stale : ℕ) (s : List ℕ) (leaves places : ℕ) → IsTreeBut stale s leaves places → (p a b : ℕ) → p < leaves → a ≡ get_or s (2 * p) a → b ≡ get_or s (2 * p + 1) b → get_or s (2 * p) 0 + get_or s (2 * p + 1) 0 ≡ a + b
children_read stale s leaves places tree p a b below left right =
    omega (arith, left, right, get_or_default_zero s (2 * p) a (omega (arith, below, tree.size)), get_or_default_zero s (2 * p + 1) b (omega (arith, below, tree.size)))
