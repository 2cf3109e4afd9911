-- Trees given by each node's parent: the root, the ancestors of a node, the leaves, and when such a list is a job's tree.
use Rattle.std.specs.Prelude.{◌≡◌, ◌≤◌, ◌<◌, ℕ, zero, suc, Bool, true, false, not, nat_eq, List, [], ◌∷◌, length, Option, None, Some, slice_index_or}
use Rattle.std.specs.List.{list_all}
use Rattle.overlay_setup.specs.declared.topology.TheConstants.{DEPTH_LIMIT}

-- the parent of a node; none for a root, and past the last node
abbrev pub parent_of : List (Option ℕ) → ℕ → Option ℕ
parent_of parents n = slice_index_or parents n None

-- a node's ancestors, nearest first, as far as this many links
abbrev pub climb : List (Option ℕ) → ℕ → ℕ → List ℕ
climb parents zero n = []
climb parents (suc links) n = elim (parent_of parents n) [ None ↦ [] | (Some p) ↦ p ∷ climb parents links p ]

-- a node's ancestors, nearest first
unfoldable pub ancestors : List (Option ℕ) → ℕ → List ℕ
ancestors parents n = climb parents (length parents) n

-- the first node without a parent
abbrev pub root_of : List (Option ℕ) → ℕ
root_of [] = 0
root_of (None ∷ parents) = 0
root_of (Some p ∷ parents) = suc (root_of parents)

-- whether a parent is another node than n
abbrev pub is_other : ℕ → Option ℕ → Bool
is_other n None = true
is_other n (Some p) = not (nat_eq p n)

-- whether a node has no children
abbrev pub is_daemon : List (Option ℕ) → ℕ → Bool
is_daemon parents n = list_all (is_other n) parents

-- flags by node number, which say of each node whether it is a daemon
pub record AreDaemonFlags (parents : List (Option ℕ)) (flags : List Bool) : Type 0 where
  pub paired : length flags ≡ length parents
  pub each : (n : ℕ) → n < length parents → slice_index_or flags n false ≡ is_daemon parents n

-- one root, parents that are nodes, and chains of ancestors that end: they have fewer nodes than there are, and at most 8
pub record IsTree (parents : List (Option ℕ)) : Type 0 where
  pub some : root_of parents < length parents
  pub root : parent_of parents (root_of parents) ≡ None
  pub one_root : (n : ℕ) → n < length parents → parent_of parents n ≡ None → n ≡ root_of parents
  pub parents_are_nodes : (n m : ℕ) → parent_of parents n ≡ Some m → (n < length parents) × (m < length parents)
  pub grounded : (n : ℕ) → length (ancestors parents n) < length parents
  pub shallow : (n : ℕ) → length (ancestors parents n) ≤ DEPTH_LIMIT
