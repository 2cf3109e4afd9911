-- A binary tree of sums in a list: the root is at index 1, the children of k are at 2 * k and 2 * k + 1, and the leaves
-- are the second half.
use Rattle.std.specs.Prelude.{◌≡◌, ℕ, ◌+◌, ◌*◌, ◌^◌, ◌<◌, ◌≤◌, List, length, slice_index}
use Rattle.std.specs.Int.{IsPowerOfTwo}

-- each inner node, but for one at most, has the sum of its children
abbrev pub AreSumsBut : ℕ → List ℕ → ℕ → Type 0
AreSumsBut stale sums leaves = (k : ℕ) → 0 < k → k < leaves → (k ≡ stale → ⊥)
    → slice_index sums k ≡ slice_index sums (2 * k) + slice_index sums (2 * k + 1)

-- a tree with the counts of some places as its first leaves, where one inner node may be stale
pub record IsTreeBut (stale : ℕ) (sums : List ℕ) (leaves places : ℕ) : Type 0 where
  pub power : IsPowerOfTwo leaves
  pub size : length sums ≡ 2 * leaves
  pub enough : places ≤ leaves
  pub limit : leaves ≤ 2 ^ 32
  pub sums_up : AreSumsBut stale sums leaves
  pub unused : (k : ℕ) → leaves + places ≤ k → slice_index sums k ≡ 0
  -- with e levels below it, a node is at most the sum of 2 ^ e counts
  pub bounded : (k e : ℕ) → leaves ≤ k * 2 ^ e → slice_index sums k < 2 ^ e * 2 ^ 32

-- a tree with no stale node, since index 0 is no node
abbrev pub IsTree : List ℕ → ℕ → ℕ → Type 0
IsTree = IsTreeBut 0
