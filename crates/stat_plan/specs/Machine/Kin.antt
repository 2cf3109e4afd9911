-- A node's kin: its parent and its children, and which nodes it knows to be lost.
use Rattle.rank_set.specs.Ranks.{Ranks, is_subset}
use Rattle.std.specs.Prelude.{ℕ, Bool, false, ◌||◌, not, ◌==◌, if◌then◌else◌, cond, List, [], ◌∷◌, filter, Option, None, Some}
use Rattle.std.specs.List.{list_all}
use Rattle.overlay_setup.specs.NodeSets.{member, up_to, with_number, without_number}
use Rattle.stat_plan.specs.Plans.{Plan, nodes, ancestors, is_within, ranks, daemons}

-- the parent, none at the front end; the children and the nodes that are known to be lost, ascending
pub record Kin : Type 0 where
  pub parent : Option ℕ
  pub children : List ℕ
  pub lost : List ℕ

-- each daemon of the stream that is n or under n has its ranks in covered, or is known to be lost
unfoldable pub complete : Plan → ℕ → List ℕ → ℕ → Ranks → Bool
complete p n lost s covered = list_all (λ d. not (is_within p d n) || is_subset (ranks p d) covered || member d lost) (daemons p s)

-- the nearest of the ancestors that isn't known to be lost
abbrev pub nearest : List ℕ → List ℕ → Option ℕ
nearest [] lost = None
nearest (a ∷ above) lost = cond (member a lost) (nearest above lost) (Some a)

-- whether m is the parent
abbrev pub is_parent : Option ℕ → ℕ → Bool
is_parent None m = false
is_parent (Some a) m = a == m

-- m is lost, and is not a child any more
abbrev pub without_child : Kin → ℕ → Kin
without_child kin m = record { parent = kin.parent; children = without_number m kin.children; lost = with_number m kin.lost }

-- the parent m is lost: the nearest ancestor that isn't known to be lost takes its place
abbrev pub with_parent : Plan → ℕ → Kin → ℕ → Kin
with_parent p n kin m = record { parent = nearest (ancestors p n) (with_number m kin.lost); children = kin.children; lost = with_number m kin.lost }

-- what a node becomes that hears of the loss of m: the nearest ancestor that isn't known to be lost is its parent
abbrev pub after_loss : Plan → ℕ → Kin → ℕ → Kin
after_loss p n kin m = if is_parent kin.parent m then with_parent p n kin m else without_child kin m

-- a node's kin with m as a child
abbrev pub with_child : Kin → ℕ → Kin
with_child kin m = record { parent = kin.parent; children = with_number m kin.children; lost = kin.lost }

-- the original children of a node, ascending
abbrev pub children_of : Plan → ℕ → List ℕ
children_of p n = filter (λ c. elim (nearest (ancestors p c) []) [ None ↦ false | Some m ↦ m == n ]) (up_to (nodes p))

-- the kin of a node that knows of no loss
abbrev pub start_kin : Plan → ℕ → Kin
start_kin p n = record { parent = nearest (ancestors p n) []; children = children_of p n; lost = [] }
