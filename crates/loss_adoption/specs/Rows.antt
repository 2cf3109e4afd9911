-- What a node's kin is after losses and attaches, on the plans of small jobs.
use Rattle.std.specs.Prelude.{◌≡◌, refl, codes, ℕ, true, false, List, [], ◌∷◌, Option, Some, None}
use Rattle.rank_set.specs.Ranks.{Ranks, none, has, with_rank, union, those, set_of}
use Rattle.overlay_setup.specs.Scripts.{stream}
use Rattle.overlay_setup.specs.declared.script.Grain.TheVariants.{Line}
use Rattle.overlay_setup.specs.declared.script.Mode.TheVariants.{WaitForAll}
use Rattle.stat_plan.specs.Plans.{Plan, ancestors, daemons, is_under, is_within, ranks, stream_of}
use Rattle.stat_plan.specs.Machine.Kin.{Kin, after_loss, complete, start_kin, with_child}

-- a plan without samples or faults, with one stream of one wave of these daemons
abbrev job : List (List ℕ) → List (Option ℕ) → List Ranks → List ℕ → Plan
job names parents placed daemons = record {
  names = names;
  parents = parents;
  placed = placed;
  lines = [];
  streams = stream 0 WaitForAll 1 1 Line daemons ∷ [];
  faults = [];
}

-- a front end with two daemons of two ranks each
abbrev two : Plan
two = job (codes "fe:0" ∷ codes "a:0" ∷ codes "b:0" ∷ []) (None ∷ Some 0 ∷ Some 0 ∷ []) (none ∷ set_of (0 ∷ 1 ∷ []) ∷ set_of (2 ∷ 3 ∷ []) ∷ []) (1 ∷ 2 ∷ [])

-- a front end, two inner nodes one below the other, and a daemon
abbrev chain : Plan
chain = job (codes "fe:0" ∷ codes "c0:0" ∷ codes "c1:0" ∷ codes "a:0" ∷ []) (None ∷ Some 0 ∷ Some 1 ∷ Some 2 ∷ []) (none ∷ none ∷ none ∷ set_of (0 ∷ 1 ∷ []) ∷ []) (3 ∷ [])

abbrev kin_of : Option ℕ → List ℕ → List ℕ → Kin
kin_of parent children lost = record { parent = parent; children = children; lost = lost }

-- the kin of the topology, as long as nothing is lost
front_begins : start_kin two 0 ≡ kin_of None (1 ∷ 2 ∷ []) []
unfolding ancestors
front_begins = refl

daemon_begins : start_kin two 2 ≡ kin_of (Some 0) [] []
unfolding ancestors
daemon_begins = refl

-- the daemon of the chain is adopted by one ancestor after the other
adopted_once : after_loss chain 3 (start_kin chain 3) 2 ≡ kin_of (Some 1) [] (2 ∷ [])
unfolding ancestors
adopted_once = refl

adopted_twice : after_loss chain 3 (after_loss chain 3 (start_kin chain 3) 2) 1 ≡ kin_of (Some 0) [] (1 ∷ 2 ∷ [])
unfolding ancestors
adopted_twice = refl

-- it stays where it is at the loss of one that isn't its parent, and passes over that one later
stays_below : after_loss chain 3 (start_kin chain 3) 1 ≡ kin_of (Some 2) [] (1 ∷ [])
unfolding ancestors
stays_below = refl

passes_over : after_loss chain 3 (after_loss chain 3 (start_kin chain 3) 1) 2 ≡ kin_of (Some 0) [] (1 ∷ 2 ∷ [])
unfolding ancestors
passes_over = refl

-- a lost child is no child any more
child_is_lost : after_loss two 0 (start_kin two 0) 1 ≡ kin_of None (2 ∷ []) (1 ∷ [])
unfolding ancestors
child_is_lost = refl

-- children attach in any order, and count once
children_attach : with_child (with_child (with_child (start_kin chain 0) 3) 2) 3 ≡ kin_of None (1 ∷ 2 ∷ 3 ∷ []) []
unfolding ancestors
children_attach = refl

-- the front end waits for the ranks of b, until b is lost
waits_for_b : complete two 0 [] 0 (set_of (0 ∷ 1 ∷ [])) ≡ false
unfolding complete ancestors is_under is_within daemons stream_of ranks has with_rank union those
waits_for_b = refl

b_is_lost : complete two 0 (2 ∷ []) 0 (set_of (0 ∷ 1 ∷ [])) ≡ true
unfolding complete ancestors is_under is_within daemons stream_of ranks has with_rank union those
b_is_lost = refl

-- but not for a, of which nothing came
waits_for_a : complete two 0 (2 ∷ []) 0 none ≡ false
unfolding complete ancestors is_under is_within daemons stream_of ranks has with_rank union those
waits_for_a = refl
