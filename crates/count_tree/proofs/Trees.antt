-- The sums in a tree, and the list of its counts.
use Rattle.std.proofs.Common.{◌≡◌, ℕ, zero, suc, ◌+◌, ◌-◌, ◌*◌, ◌^◌, ◌<◌, ◌≤◌, List, length, get_or, take, drop, refl, ap, sym, ◌∙◌, arith}
use Rattle.std.specs.List.{sum}
use Rattle.std.proofs.Math.Nat.{pow-succ'}
use Rattle.std.proofs.lemmas.Nat.{pow_pos}
use Rattle.std.proofs.lemmas.Grind.{get_or_default_zero}
use Rattle.std.proofs.lemmas.List.{length-drop, length-take-le, get_or-drop}
use Rattle.std.proofs.lemmas.List.Sums.{sum_by_more}
use Rattle.count_tree.specs.Sums.{IsTree, IsTreeBut}

-- the sum of the entries from an index on, as many as are given
abbrev pub span : List ℕ → ℕ → ℕ → ℕ
span s a zero = 0
span s a (suc n) = span s a n + get_or s (a + n) 0

-- the entry is the sum of its children
abbrev pub SumsUp : List ℕ → ℕ → Type 0
SumsUp s k = get_or s k 0 ≡ get_or s (2 * k) 0 + get_or s (2 * k + 1) 0

-- entries have the sum of their children
pub span_doubles : (s : List ℕ) (a n : ℕ) → ((k : ℕ) → a ≤ k → k < a + n → SumsUp s k) → span s a n ≡ span s (2 * a) (2 * n)
span_doubles s a zero up = refl
span_doubles s a (suc n) up =
    let before : span s a n ≡ span s (2 * a) (2 * n) = span_doubles s a n (λ k low high. up k low (omega (arith, high))) in
    let here = up (a + n) (omega arith) (omega arith) in
    let left : get_or s (2 * (a + n)) 0 ≡ get_or s (2 * a + 2 * n) 0 = ap (λ k. get_or s k 0) (omega arith) in
    let right : get_or s (2 * (a + n) + 1) 0 ≡ get_or s (2 * a + suc (2 * n)) 0 = ap (λ k. get_or s k 0) (omega arith) in
    let both : span s a (suc n) ≡ span s (2 * a) (suc (suc (2 * n))) = omega (arith, before, here, left, right) in
    let twice : suc (suc (2 * n)) ≡ 2 * suc n = omega arith in
    both ∙ ap (span s (2 * a)) twice

-- entries that are 0 add nothing
pub span_unused : (s : List ℕ) (a n m : ℕ) → ((k : ℕ) → a + n ≤ k → get_or s k 0 ≡ 0) → span s a (n + m) ≡ span s a n
span_unused s a n zero unused = ap (span s a) (omega arith)
span_unused s a n (suc m) unused =
    let before : span s a (n + m) ≡ span s a n = span_unused s a n m unused in
    let here : get_or s (a + (n + m)) 0 ≡ 0 = unused (a + (n + m)) (omega arith) in
    let next : n + suc m ≡ suc (n + m) = omega arith in
    ap (span s a) next ∙ omega (arith, before, here)

-- a part of the list has the sum of its entries
pub sum_of_part : (s : List ℕ) (a n : ℕ) → a + n ≤ length s → sum (take n (drop a s)) ≡ span s a n
sum_of_part s a zero fits = refl
sum_of_part s a (suc n) fits =
    let before : sum (take n (drop a s)) ≡ span s a n = sum_of_part s a n (omega (arith, fits)) in
    let more : sum (take (n + 1) (drop a s)) ≡ sum (take n (drop a s)) + get_or (drop a s) n 0 = sum_by_more (λ x. x) (drop a s) n 0 (omega (arith, fits, length-drop a s)) in
    let next : suc n ≡ n + 1 = omega arith in
    ap (λ k. sum (take k (drop a s))) next ∙ omega (arith, before, more, get_or-drop a s n 0)

-- the root has the sum of each level
root_of_level : (s : List ℕ) (e : ℕ) → ((k : ℕ) → 0 < k → k < 2 ^ e → SumsUp s k) → get_or s 1 0 ≡ span s (2 ^ e) (2 ^ e)
root_of_level s zero up = omega arith
root_of_level s (suc e) up =
    let double : 2 * 2 ^ e ≡ 2 ^ suc e = sym (pow-succ' 2 e) in
    let some : 0 < 2 ^ e = pow_pos e in
    let above : get_or s 1 0 ≡ span s (2 ^ e) (2 ^ e) = root_of_level s e (λ k low high. up k low (omega (arith, high, double))) in
    let level : span s (2 ^ e) (2 ^ e) ≡ span s (2 * 2 ^ e) (2 * 2 ^ e) = span_doubles s (2 ^ e) (2 ^ e) (λ k low high. up k (omega (arith, low, some)) (omega (arith, high, double))) in
    above ∙ level ∙ ap (λ n. span s n n) double

-- in a tree each inner entry sums up
pub sums_up_in : (s : List ℕ) (leaves places : ℕ) → IsTree s leaves places → (k : ℕ) → 0 < k → k < leaves → SumsUp s k
sums_up_in s leaves places tree k low high = tree.sums_up k low high (λ e. absurd (omega (arith, low, e)))

-- the root has the sum of all counts
pub root_is_sum : (s : List ℕ) (leaves places : ℕ) → IsTree s leaves places → get_or s 1 0 ≡ sum (take places (drop leaves s))
root_is_sum s leaves places tree =
    let e : leaves ≡ 2 ^ tree.power.0 = tree.power.1 in
    let all : get_or s 1 0 ≡ span s (2 ^ tree.power.0) (2 ^ tree.power.0) = root_of_level s tree.power.0 (λ k low high. sums_up_in s leaves places tree k low (omega (arith, high, e))) in
    let rest : places + (leaves - places) ≡ leaves = omega (arith, tree.enough) in
    all ∙ sym (ap (λ n. span s n n) e) ∙ sym (ap (span s leaves) rest) ∙ span_unused s leaves places (leaves - places) tree.unused ∙ sym (sum_of_part s leaves places (omega (arith, tree.enough, tree.size)))

pub some_leaves : (stale : ℕ) (s : List ℕ) (leaves places : ℕ) → IsTreeBut stale s leaves places → 0 < leaves
some_leaves stale s leaves places tree = omega (arith, pow_pos tree.power.0, tree.power.1)

-- the root, and a count as a leaf, with any default
pub root : (s : List ℕ) (leaves places : ℕ) → IsTree s leaves places → (d : ℕ) → get_or s 1 d ≡ sum (take places (drop leaves s))
root s leaves places tree d =
    let some : 0 < leaves = some_leaves 0 s leaves places tree in
    get_or_default_zero s 1 d (omega (arith, tree.size, some)) ∙ root_is_sum s leaves places tree

pub leaf_fits : (stale : ℕ) (s : List ℕ) (leaves places : ℕ) → IsTreeBut stale s leaves places → (k : ℕ) → leaves ≤ k → get_or s k 0 < 2 ^ 32
leaf_fits stale s leaves places tree k low = let bound : get_or s k 0 < 2 ^ 0 * 2 ^ 32 = tree.bounded k 0 (omega (arith, low)) in omega (arith, bound)

-- there is a count for each place, and it is a leaf
pub length_of_counts : (stale : ℕ) (s : List ℕ) (leaves places : ℕ) → IsTreeBut stale s leaves places → length (take places (drop leaves s)) ≡ places
length_of_counts stale s leaves places tree = length-take-le places (drop leaves s) (omega (arith, length-drop leaves s, tree.enough, tree.size))
