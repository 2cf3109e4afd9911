-- Texts of casts on small jobs, computed.
use Rattle.std.specs.Prelude.{◌≡◌, refl, codes, ℕ, List, [], ◌∷◌, Option, Some, None}
use Rattle.std.specs.Fmt.{digits}
use Rattle.rank_set.specs.Ranks.{Ranks, none, set_of, union, with_rank}
use Rattle.overlay_setup.specs.declared.script.Fault.{Fault}
use Rattle.stat_plan.specs.Plans.{Plan, ancestors, is_under, is_related, front, is_front, fault, ranks}
use Rattle.stat_plan.specs.Machine.Journals.{next_number}
use Rattle.control_cast.specs.declared.event.CastEvent.{CastEvent}
use Rattle.control_cast.specs.declared.event.CastEvent.TheVariants.{Issue, Recv, Lose}
use Rattle.control_cast.specs.Machine.{after}
use Rattle.control_cast.specs.Picked.{picked}
use Rattle.cast_text.specs.CastText.{journal_text, report_text}

-- a plan without samples or streams
abbrev job : List (List ℕ) → List (Option ℕ) → List Ranks → List Fault → Plan
job names parents placed faults = record { names = names; parents = parents; placed = placed; lines = []; streams = []; faults = faults }

abbrev losing : ℕ → ℕ → ℕ → Fault
losing node after keep = record { node = node; after = after; keep = keep }

-- a front end with two daemons of two ranks each
abbrev two : List Fault → Plan
two faults = job (codes "fe:0" ∷ codes "a:0" ∷ codes "b:0" ∷ []) (None ∷ Some 0 ∷ Some 0 ∷ []) (none ∷ set_of (0 ∷ 1 ∷ []) ∷ set_of (2 ∷ 3 ∷ []) ∷ []) faults

-- one command, seed 0
one_command : report_text (two []) 1 (after (two []) (picked (two []) 1 0)) ≡ codes "command 1 ranks 4:[0-3]\ndaemon a:0 obeyed 1\ndaemon b:0 obeyed 1\nend\n"
unfolding report_text ancestors is_under is_related front is_front fault ranks union with_rank next_number digits
one_command = refl

one_command_journal : journal_text (two []) (picked (two []) 1 0) ≡ codes "issue fe:0\nrecv a:0 fe:0\nrecv b:0 fe:0\n"
unfolding ancestors is_under is_related front is_front fault next_number
one_command_journal = refl

-- the daemon b is lost before it does anything
abbrev without_b : Plan
without_b = two (losing 2 0 0 ∷ [])

b_is_lost : report_text without_b 1 (after without_b (picked without_b 1 0)) ≡ codes "command 1 ranks 2:[0-1]\ndaemon a:0 obeyed 1\ndaemon b:0 obeyed 0 lost\nend\n"
unfolding report_text ancestors is_under is_related front is_front fault ranks union with_rank next_number digits
b_is_lost = refl

-- the daemon b obeys the first of two commands, and then it is lost: its ranks are among those that obeyed
abbrev b_leaves : Plan
b_leaves = two (losing 2 1 0 ∷ [])

abbrev b_obeys_one : List CastEvent
b_obeys_one = Issue ∷ Recv 2 0 ∷ Lose 2 ∷ Issue ∷ Recv 1 0 ∷ Recv 1 0 ∷ Recv 0 2 ∷ []

lost_later : report_text b_leaves 2 (after b_leaves b_obeys_one) ≡ codes "command 1 ranks 4:[0-3]\ncommand 2 ranks 2:[0-1]\ndaemon a:0 obeyed 2\ndaemon b:0 obeyed 1 lost\nend\n"
unfolding report_text ancestors is_under is_related front is_front fault ranks union with_rank digits
lost_later = refl

lost_later_journal : journal_text b_leaves b_obeys_one ≡ codes "issue fe:0\nrecv b:0 fe:0\nlose b:0\nissue fe:0\nrecv a:0 fe:0\nrecv a:0 fe:0\nrecv fe:0 b:0\n"
unfolding front
lost_later_journal = refl

-- an inner node is lost after one event, and both daemons under it obey both commands
abbrev deep : Plan
deep = job (codes "fe:0" ∷ codes "c0:0" ∷ codes "a:0" ∷ codes "b:0" ∷ []) (None ∷ Some 0 ∷ Some 1 ∷ Some 1 ∷ []) (none ∷ none ∷ set_of (0 ∷ 1 ∷ []) ∷ set_of (2 ∷ 3 ∷ []) ∷ []) (losing 1 1 0 ∷ [])

inner_is_lost : report_text deep 2 (after deep (picked deep 2 0)) ≡ codes "command 1 ranks 4:[0-3]\ncommand 2 ranks 4:[0-3]\ndaemon a:0 obeyed 2\ndaemon b:0 obeyed 2\nend\n"
unfolding report_text ancestors is_under is_related front is_front fault ranks union with_rank next_number digits
inner_is_lost = refl
