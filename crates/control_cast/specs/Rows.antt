-- Casts on small jobs: the journals that a seed picks, and what commands reach whom, which the definitions must compute.
use Rattle.std.specs.Prelude.{◌≡◌, refl, codes, ℕ, false, List, [], ◌∷◌, Option, Some, None}
use Rattle.rank_set.specs.Ranks.{Ranks, none, set_of}
use Rattle.overlay_setup.specs.declared.script.Fault.{Fault}
use Rattle.stat_plan.specs.Plans.{Plan, ancestors, is_under, is_related, front, is_front, fault}
use Rattle.stat_plan.specs.Machine.Journals.{next_number}
use Rattle.control_cast.specs.declared.event.CastEvent.{CastEvent}
use Rattle.control_cast.specs.declared.event.CastEvent.TheVariants.{Issue, Recv, Lose}
use Rattle.control_cast.specs.Machine.{Cmd, enabled_events, after, IsLegal}
use Rattle.control_cast.specs.Picked.{picked}

-- a plan without samples or streams
abbrev job : List (List ℕ) → List (Option ℕ) → List Ranks → List Fault → Plan
job names parents placed faults = record { names = names; parents = parents; placed = placed; lines = []; streams = []; faults = faults }

abbrev losing : ℕ → ℕ → ℕ → Fault
losing node after keep = record { node = node; after = after; keep = keep }

-- ---- a front end with two daemons of two ranks each

abbrev two : List Fault → Plan
two faults = job (codes "fe:0" ∷ codes "a:0" ∷ codes "b:0" ∷ []) (None ∷ Some 0 ∷ Some 0 ∷ []) (none ∷ set_of (0 ∷ 1 ∷ []) ∷ set_of (2 ∷ 3 ∷ []) ∷ []) faults

-- one command, seed 0
one_command : picked (two []) 1 0 ≡ Issue ∷ Recv 1 0 ∷ Recv 2 0 ∷ []
unfolding ancestors is_under is_related front is_front fault next_number
one_command = refl

-- the daemon b is lost before it does anything; the other one still obeys
abbrev without_b : Plan
without_b = two (losing 2 0 0 ∷ [])

a_obeys : (after without_b (picked without_b 1 0)).obeyed 1 ≡ 1 ∷ []
unfolding ancestors is_under is_related front is_front fault next_number
a_obeys = refl

b_obeys_nothing : (after without_b (picked without_b 1 0)).obeyed 2 ≡ []
unfolding ancestors is_under is_related front is_front fault next_number
b_obeys_nothing = refl

b_is_lost : (after without_b (picked without_b 1 0)).net.alive 2 ≡ false
unfolding ancestors is_under is_related front is_front fault next_number
b_is_lost = refl

-- ---- a front end, an inner node that is lost after one event, and two daemons under it

abbrev deep : Plan
deep = job (codes "fe:0" ∷ codes "c0:0" ∷ codes "a:0" ∷ codes "b:0" ∷ []) (None ∷ Some 0 ∷ Some 1 ∷ Some 1 ∷ []) (none ∷ none ∷ set_of (0 ∷ 1 ∷ []) ∷ set_of (2 ∷ 3 ∷ []) ∷ []) (losing 1 1 0 ∷ [])

-- both daemons obey both commands
deep_reaches_a : (after deep (picked deep 2 0)).obeyed 2 ≡ 1 ∷ 2 ∷ []
unfolding ancestors is_under is_related front is_front fault next_number
deep_reaches_a = refl

deep_reaches_b : (after deep (picked deep 2 0)).obeyed 3 ≡ 1 ∷ 2 ∷ []
unfolding ancestors is_under is_related front is_front fault next_number
deep_reaches_b = refl

-- ---- a front end, an inner node that is lost after one event, and a daemon under it that attaches to the front end

abbrev chain : Plan
chain = job (codes "fe:0" ∷ codes "c:0" ∷ codes "a:0" ∷ []) (None ∷ Some 0 ∷ Some 1 ∷ []) (none ∷ none ∷ set_of (0 ∷ []) ∷ []) (losing 1 1 0 ∷ [])

-- the loss cuts the first command off its link to the daemon
abbrev cut_journal : List CastEvent
cut_journal = Issue ∷ Recv 1 0 ∷ Lose 1 ∷ Recv 2 1 ∷ Issue ∷ Recv 0 1 ∷ Recv 0 2 ∷ []

cut_is_legal : IsLegal chain 2 cut_journal
unfolding ancestors is_under is_related front is_front fault
cut_is_legal = (refl, (refl, (refl, (refl, (refl, (refl, (refl, tt)))))))

-- so the front end, to which the daemon attaches, sends both
both_are_sent : (after chain cut_journal).net.link 0 2 ≡ Cmd 1 ∷ Cmd 2 ∷ []
unfolding ancestors is_under is_related front is_front fault
both_are_sent = refl

only_the_daemon_is_left : enabled_events chain 2 (after chain cut_journal) ≡ Recv 2 0 ∷ []
unfolding ancestors is_under is_related front is_front fault
only_the_daemon_is_left = refl

-- the daemon has obeyed the first command when its parent is lost
abbrev orphan_journal : List CastEvent
orphan_journal = Issue ∷ Recv 1 0 ∷ Recv 2 1 ∷ Lose 1 ∷ Issue ∷ Recv 2 1 ∷ Recv 0 1 ∷ Recv 0 2 ∷ []

orphan_is_legal : IsLegal chain 2 orphan_journal
unfolding ancestors is_under is_related front is_front fault
orphan_is_legal = (refl, (refl, (refl, (refl, (refl, (refl, (refl, (refl, tt))))))))

-- so the front end sends the second alone
second_is_sent : (after chain orphan_journal).net.link 0 2 ≡ Cmd 2 ∷ []
unfolding ancestors is_under is_related front is_front fault
second_is_sent = refl
