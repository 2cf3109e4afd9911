-- Worked jobs: small plans with journals, which the definitions must compute.
use Rattle.std.specs.Prelude.{◌≡◌, refl, codes, ℕ, true, List, [], ◌∷◌, Option, Some, None}
use Rattle.rank_set.specs.Ranks.{Ranks, none, has, with_rank, union, those, set_of}
use Rattle.stat_plan.specs.Plans.{Plan, ancestors, is_under, is_within, is_related, front, is_front, ranks, stream_of, daemons, mode, serves, waves_at, fault}
use Rattle.overlay_setup.specs.Scripts.{stream}
use Rattle.stat_plan.specs.Machine.Kin.{complete}
use Rattle.stat_plan.specs.Machine.Waves.{Open}
use Rattle.stat_plan.specs.declared.machine.Timer.TheVariants.{Running}
use Rattle.overlay_setup.specs.declared.script.Grain.TheVariants.{Line}
use Rattle.overlay_setup.specs.declared.script.Mode.{Mode}
use Rattle.overlay_setup.specs.declared.script.Mode.TheVariants.{WaitForAll, TimeOut, DontWait}
use Rattle.overlay_setup.specs.declared.script.Fault.{Fault}
use Rattle.overlay_event.specs.declared.event.Event.{Event}
use Rattle.overlay_event.specs.declared.event.Event.TheVariants.{Sample, Recv, Tick, Lose}
use Rattle.overlay_core.specs.declared.release.Kind.TheVariants.{Partial as PartialRelease, Final as FinalRelease}
use Rattle.overlay_core.specs.Nodes.{Up, Attach, Down, Release, release, due_at, dones, acted, sampled, after_tick, received_up, received_done, received_attach, received_down}
use Rattle.overlay_core.specs.Machine.{start, commit, with_link, lose, is_doomed, is_active, enabled_events}
use Rattle.overlay_core.specs.Runs.{after, is_legal_from}
use Rattle.overlay_core.specs.Bound.{bound}
use Rattle.overlay_core.specs.Counts.{sends, growths, moves}
use Rattle.overlay_core.specs.Independent.{outcome}
use Rattle.overlay_core.specs.Pick.{picked_event, picked_from, picked}
use Rattle.stat_plan.specs.Machine.Journals.{next_number}

-- a plan with one stream of one wave of all its daemons, and without samples
abbrev pub job : List (List ℕ) → List (Option ℕ) → List Ranks → Mode → List ℕ → List Fault → Plan
job names parents placed mode daemons faults = record {
  names = names;
  parents = parents;
  placed = placed;
  lines = [];
  streams = stream 0 mode 1 1 Line daemons ∷ [];
  faults = faults;
}

-- a fault: the node, after how many of its events it is lost, and how many packets stay on each link out of it
abbrev pub losing : ℕ → ℕ → ℕ → Fault
losing node after keep = record { node = node; after = after; keep = keep }

-- a journal is legal, gives these releases, and then these events may come
pub record Gives (p : Plan) (journal : List Event) (given : List Release) (following : List Event) : Type 0 where
  pub legal : is_legal_from p (start p) journal ≡ true
  pub releases : (after p journal).releases ≡ given
  pub next : enabled_events p (after p journal) ≡ following

-- a release of the one wave
abbrev pub partial : Ranks → List ℕ → Release
partial covered lost = release 0 0 covered PartialRelease lost

abbrev pub final : Ranks → List ℕ → Release
final covered lost = release 0 0 covered FinalRelease lost

-- one daemon
abbrev pub one_daemon : Plan
one_daemon =
    job (codes "fe:0" ∷ codes "a:0" ∷ []) (None ∷ Some 0 ∷ []) (none ∷ set_of (0 ∷ []) ∷ []) WaitForAll (1 ∷ []) []

-- its samples go up, and the end of the wave comes down
abbrev pub one_daemon_journal : List Event
one_daemon_journal = Sample 1 0 0 ∷ Recv 0 1 ∷ Recv 1 0 ∷ []

one_daemon_begins : Gives one_daemon [] [] (Sample 1 0 0 ∷ [])
unfolding has with_rank union those ancestors is_under is_within is_related front is_front ranks stream_of daemons mode serves waves_at fault complete due_at dones acted sampled after_tick received_up received_done received_attach received_down start commit with_link lose is_doomed is_active enabled_events
one_daemon_begins = record { legal = refl; releases = refl; next = refl }

one_daemon_sends : Gives one_daemon (Sample 1 0 0 ∷ []) [] (Recv 0 1 ∷ [])
unfolding has with_rank union those ancestors is_under is_within is_related front is_front ranks stream_of daemons mode serves waves_at fault complete due_at dones acted sampled after_tick received_up received_done received_attach received_down start commit with_link lose is_doomed is_active enabled_events
one_daemon_sends = record { legal = refl; releases = refl; next = refl }

one_daemon_releases : Gives one_daemon (Sample 1 0 0 ∷ Recv 0 1 ∷ []) (final (set_of (0 ∷ [])) [] ∷ []) (Recv 1 0 ∷ [])
unfolding has with_rank union those ancestors is_under is_within is_related front is_front ranks stream_of daemons mode serves waves_at fault complete due_at dones acted sampled after_tick received_up received_done received_attach received_down start commit with_link lose is_doomed is_active enabled_events
one_daemon_releases = record { legal = refl; releases = refl; next = refl }

one_daemon_ends : Gives one_daemon one_daemon_journal (final (set_of (0 ∷ [])) [] ∷ []) []
unfolding has with_rank union those ancestors is_under is_within is_related front is_front ranks stream_of daemons mode serves waves_at fault complete due_at dones acted sampled after_tick received_up received_done received_attach received_down start commit with_link lose is_doomed is_active enabled_events
one_daemon_ends = record { legal = refl; releases = refl; next = refl }

-- an inner node that is lost before it does anything
abbrev pub lost_early : Plan
lost_early =
    job (codes "fe:0" ∷ codes "c0:0" ∷ codes "a:0" ∷ codes "b:0" ∷ []) (None ∷ Some 0 ∷ Some 1 ∷ Some 1 ∷ []) (none ∷ none ∷ set_of (0 ∷ 1 ∷ []) ∷ set_of (2 ∷ 3 ∷ []) ∷ []) WaitForAll (2 ∷ 3 ∷ []) (losing 1 0 0 ∷ [])

-- what a daemon sends to the lost node is gone, and it sends again to the front end
abbrev pub lost_early_journal : List Event
lost_early_journal = Lose 1 ∷ Sample 2 0 0 ∷ Recv 2 1 ∷ Recv 3 1 ∷ Sample 3 0 0 ∷ Recv 0 1 ∷ Recv 0 2 ∷ Recv 0 2 ∷ Recv 0 3 ∷ Recv 0 3 ∷ Recv 2 0 ∷ Recv 3 0 ∷ []

lost_early_ends : Gives lost_early lost_early_journal (final (set_of (0 ∷ 1 ∷ 2 ∷ 3 ∷ [])) (1 ∷ []) ∷ []) []
unfolding has with_rank union those ancestors is_under is_within is_related front is_front ranks stream_of daemons mode serves waves_at fault complete due_at dones acted sampled after_tick received_up received_done received_attach received_down start commit with_link lose is_doomed is_active enabled_events
lost_early_ends = record { legal = refl; releases = refl; next = refl }

-- an inner node that is lost after two events, and of whose packets the first stays
abbrev pub lost_late : Plan
lost_late =
    job (codes "fe:0" ∷ codes "c0:0" ∷ codes "a:0" ∷ codes "b:0" ∷ []) (None ∷ Some 0 ∷ Some 1 ∷ Some 1 ∷ []) (none ∷ none ∷ set_of (0 ∷ 1 ∷ []) ∷ set_of (2 ∷ 3 ∷ []) ∷ []) WaitForAll (2 ∷ 3 ∷ []) (losing 1 2 1 ∷ [])

-- ranks come twice and count once; those that come after the final release mean nothing
abbrev pub lost_late_journal : List Event
lost_late_journal = Sample 2 0 0 ∷ Sample 3 0 0 ∷ Recv 1 2 ∷ Recv 1 3 ∷ Lose 1 ∷ Recv 2 1 ∷ Recv 3 1 ∷ Recv 0 2 ∷ Recv 0 2 ∷ Recv 0 1 ∷ Recv 0 1 ∷ Recv 0 3 ∷ Recv 0 3 ∷ Recv 2 0 ∷ Recv 3 0 ∷ []

lost_late_ends : Gives lost_late lost_late_journal (final (set_of (0 ∷ 1 ∷ 2 ∷ 3 ∷ [])) [] ∷ []) []
unfolding has with_rank union those ancestors is_under is_within is_related front is_front ranks stream_of daemons mode serves waves_at fault complete due_at dones acted sampled after_tick received_up received_done received_attach received_down start commit with_link lose is_doomed is_active enabled_events
lost_late_ends = record { legal = refl; releases = refl; next = refl }

-- a chain whose two inner nodes are lost at once
abbrev pub lost_chain : Plan
lost_chain =
    job (codes "fe:0" ∷ codes "c0:0" ∷ codes "c1:0" ∷ codes "a:0" ∷ []) (None ∷ Some 0 ∷ Some 1 ∷ Some 2 ∷ []) (none ∷ none ∷ none ∷ set_of (0 ∷ 1 ∷ []) ∷ []) WaitForAll (3 ∷ []) (losing 1 0 0 ∷ losing 2 0 0 ∷ [])

-- the daemon finds its way over both
abbrev pub lost_chain_journal : List Event
lost_chain_journal = Lose 1 ∷ Lose 2 ∷ Sample 3 0 0 ∷ Recv 3 2 ∷ Recv 3 1 ∷ Recv 0 3 ∷ Recv 0 3 ∷ Recv 0 1 ∷ Recv 0 2 ∷ Recv 3 0 ∷ []

lost_chain_ends : Gives lost_chain lost_chain_journal (final (set_of (0 ∷ 1 ∷ [])) [] ∷ []) []
unfolding has with_rank union those ancestors is_under is_within is_related front is_front ranks stream_of daemons mode serves waves_at fault complete due_at dones acted sampled after_tick received_up received_done received_attach received_down start commit with_link lose is_doomed is_active enabled_events
lost_chain_ends = record { legal = refl; releases = refl; next = refl }

-- a chain whose lower inner node is lost
abbrev pub lost_inner : Plan
lost_inner =
    job (codes "fe:0" ∷ codes "c0:0" ∷ codes "c1:0" ∷ codes "a:0" ∷ []) (None ∷ Some 0 ∷ Some 1 ∷ Some 2 ∷ []) (none ∷ none ∷ none ∷ set_of (0 ∷ 1 ∷ []) ∷ []) WaitForAll (3 ∷ []) (losing 2 0 0 ∷ [])

-- the daemon goes to the node above the lost one
abbrev pub lost_inner_journal : List Event
lost_inner_journal = Lose 2 ∷ Sample 3 0 0 ∷ Recv 3 2 ∷ Recv 1 2 ∷ Recv 1 3 ∷ Recv 1 3 ∷ Recv 0 2 ∷ Recv 0 1 ∷ Recv 1 0 ∷ Recv 3 1 ∷ []

lost_inner_ends : Gives lost_inner lost_inner_journal (final (set_of (0 ∷ 1 ∷ [])) (2 ∷ []) ∷ []) []
unfolding has with_rank union those ancestors is_under is_within is_related front is_front ranks stream_of daemons mode serves waves_at fault complete due_at dones acted sampled after_tick received_up received_done received_attach received_down start commit with_link lose is_doomed is_active enabled_events
lost_inner_ends = record { legal = refl; releases = refl; next = refl }

-- a daemon that is lost before it does anything
abbrev pub lost_daemon : Plan
lost_daemon =
    job (codes "fe:0" ∷ codes "a:0" ∷ codes "b:0" ∷ []) (None ∷ Some 0 ∷ Some 0 ∷ []) (none ∷ set_of (0 ∷ 1 ∷ []) ∷ set_of (2 ∷ 3 ∷ []) ∷ []) WaitForAll (1 ∷ 2 ∷ []) (losing 2 0 0 ∷ [])

-- its loss completes the wave
abbrev pub lost_daemon_journal : List Event
lost_daemon_journal = Lose 2 ∷ Sample 1 0 0 ∷ Recv 0 1 ∷ Recv 0 2 ∷ Recv 1 0 ∷ []

lost_daemon_waits : Gives lost_daemon (Lose 2 ∷ Sample 1 0 0 ∷ Recv 0 1 ∷ []) [] (Recv 0 2 ∷ [])
unfolding has with_rank union those ancestors is_under is_within is_related front is_front ranks stream_of daemons mode serves waves_at fault complete due_at dones acted sampled after_tick received_up received_done received_attach received_down start commit with_link lose is_doomed is_active enabled_events
lost_daemon_waits = record { legal = refl; releases = refl; next = refl }

lost_daemon_ends : Gives lost_daemon lost_daemon_journal (final (set_of (0 ∷ 1 ∷ [])) (2 ∷ []) ∷ []) []
unfolding has with_rank union those ancestors is_under is_within is_related front is_front ranks stream_of daemons mode serves waves_at fault complete due_at dones acted sampled after_tick received_up received_done received_attach received_down start commit with_link lose is_doomed is_active enabled_events
lost_daemon_ends = record { legal = refl; releases = refl; next = refl }

-- two daemons that are lost before they do anything
abbrev pub lost_daemons : Plan
lost_daemons =
    job (codes "fe:0" ∷ codes "a:0" ∷ codes "b:0" ∷ []) (None ∷ Some 0 ∷ Some 0 ∷ []) (none ∷ set_of (0 ∷ 1 ∷ []) ∷ set_of (2 ∷ 3 ∷ []) ∷ []) WaitForAll (1 ∷ 2 ∷ []) (losing 1 0 0 ∷ losing 2 0 0 ∷ [])

-- nothing comes in, and the wave ends
abbrev pub lost_daemons_journal : List Event
lost_daemons_journal = Lose 1 ∷ Lose 2 ∷ Recv 0 1 ∷ Recv 0 2 ∷ []

lost_daemons_end : Gives lost_daemons lost_daemons_journal (final none (1 ∷ 2 ∷ []) ∷ []) []
unfolding has with_rank union those ancestors is_under is_within is_related front is_front ranks stream_of daemons mode serves waves_at fault complete due_at dones acted sampled after_tick received_up received_done received_attach received_down start commit with_link lose is_doomed is_active enabled_events
lost_daemons_end = record { legal = refl; releases = refl; next = refl }

-- two daemons of a stream that does not wait
abbrev pub eager : Plan
eager =
    job (codes "fe:0" ∷ codes "a:0" ∷ codes "b:0" ∷ []) (None ∷ Some 0 ∷ Some 0 ∷ []) (none ∷ set_of (0 ∷ []) ∷ set_of (1 ∷ []) ∷ []) DontWait (1 ∷ 2 ∷ []) []

-- what has come in goes out at once
abbrev pub eager_journal : List Event
eager_journal = Sample 2 0 0 ∷ Recv 0 2 ∷ Sample 1 0 0 ∷ Recv 0 1 ∷ Recv 2 0 ∷ Recv 1 0 ∷ []

eager_ends : Gives eager eager_journal (partial (set_of (1 ∷ [])) [] ∷ final (set_of (0 ∷ 1 ∷ [])) [] ∷ []) []
unfolding has with_rank union those ancestors is_under is_within is_related front is_front ranks stream_of daemons mode serves waves_at fault complete due_at dones acted sampled after_tick received_up received_done received_attach received_down start commit with_link lose is_doomed is_active enabled_events
eager_ends = record { legal = refl; releases = refl; next = refl }

-- two daemons of a stream with a timeout of one tick
abbrev pub timed : Plan
timed =
    job (codes "fe:0" ∷ codes "a:0" ∷ codes "b:0" ∷ []) (None ∷ Some 0 ∷ Some 0 ∷ []) (none ∷ set_of (0 ∷ 1 ∷ []) ∷ set_of (2 ∷ 3 ∷ []) ∷ []) (TimeOut 1) (1 ∷ 2 ∷ []) []

-- the timer runs out once
abbrev pub timed_journal : List Event
timed_journal = Sample 1 0 0 ∷ Recv 0 1 ∷ Tick 0 ∷ Sample 2 0 0 ∷ Recv 0 2 ∷ Recv 1 0 ∷ Recv 2 0 ∷ []

timed_waits : Gives timed (Sample 1 0 0 ∷ Recv 0 1 ∷ []) [] (Tick 0 ∷ Sample 2 0 0 ∷ [])
unfolding has with_rank union those ancestors is_under is_within is_related front is_front ranks stream_of daemons mode serves waves_at fault complete due_at dones acted sampled after_tick received_up received_done received_attach received_down start commit with_link lose is_doomed is_active enabled_events
timed_waits = record { legal = refl; releases = refl; next = refl }

timed_ends : Gives timed timed_journal (partial (set_of (0 ∷ 1 ∷ [])) [] ∷ final (set_of (0 ∷ 1 ∷ 2 ∷ 3 ∷ [])) [] ∷ []) []
unfolding has with_rank union those ancestors is_under is_within is_related front is_front ranks stream_of daemons mode serves waves_at fault complete due_at dones acted sampled after_tick received_up received_done received_attach received_down start commit with_link lose is_doomed is_active enabled_events
timed_ends = record { legal = refl; releases = refl; next = refl }

-- two daemons of a stream with a timeout of two ticks
abbrev pub slow : Plan
slow =
    job (codes "fe:0" ∷ codes "a:0" ∷ codes "b:0" ∷ []) (None ∷ Some 0 ∷ Some 0 ∷ []) (none ∷ set_of (0 ∷ 1 ∷ []) ∷ set_of (2 ∷ 3 ∷ []) ∷ []) (TimeOut 2) (1 ∷ 2 ∷ []) []

-- after one tick the timer still runs
slow_waits : Gives slow (Sample 1 0 0 ∷ Recv 0 1 ∷ Tick 0 ∷ []) [] (Tick 0 ∷ Sample 2 0 0 ∷ [])
unfolding has with_rank union those ancestors is_under is_within is_related front is_front ranks stream_of daemons mode serves waves_at fault complete due_at dones acted sampled after_tick received_up received_done received_attach received_down start commit with_link lose is_doomed is_active enabled_events
slow_waits = record { legal = refl; releases = refl; next = refl }

-- after two it has run out
slow_fires : Gives slow (Sample 1 0 0 ∷ Recv 0 1 ∷ Tick 0 ∷ Tick 0 ∷ []) (partial (set_of (0 ∷ 1 ∷ [])) [] ∷ []) (Sample 2 0 0 ∷ [])
unfolding has with_rank union those ancestors is_under is_within is_related front is_front ranks stream_of daemons mode serves waves_at fault complete due_at dones acted sampled after_tick received_up received_done received_attach received_down start commit with_link lose is_doomed is_active enabled_events
slow_fires = record { legal = refl; releases = refl; next = refl }

-- three daemons of a stream that does not wait, of which one is lost
abbrev pub eager_loss : Plan
eager_loss =
    job (codes "fe:0" ∷ codes "a:0" ∷ codes "b:0" ∷ codes "c:0" ∷ []) (None ∷ Some 0 ∷ Some 0 ∷ Some 0 ∷ []) (none ∷ set_of (0 ∷ []) ∷ set_of (1 ∷ []) ∷ set_of (2 ∷ []) ∷ []) DontWait (1 ∷ 2 ∷ 3 ∷ []) (losing 2 0 0 ∷ [])

-- a partial release names the lost daemon
eager_names : Gives eager_loss (Lose 2 ∷ Recv 0 2 ∷ Sample 1 0 0 ∷ Recv 0 1 ∷ []) (partial (set_of (0 ∷ [])) (2 ∷ []) ∷ []) (Sample 3 0 0 ∷ [])
unfolding has with_rank union those ancestors is_under is_within is_related front is_front ranks stream_of daemons mode serves waves_at fault complete due_at dones acted sampled after_tick received_up received_done received_attach received_down start commit with_link lose is_doomed is_active enabled_events
eager_names = record { legal = refl; releases = refl; next = refl }

-- and is not a child any more
eager_children : ((after eager_loss (Lose 2 ∷ Recv 0 2 ∷ [])).node 0).kin.children ≡ 1 ∷ 3 ∷ []
unfolding has with_rank union those ancestors is_under is_within is_related front is_front ranks stream_of daemons mode serves waves_at fault complete due_at dones acted sampled after_tick received_up received_done received_attach received_down start commit with_link lose is_doomed is_active enabled_events
eager_children = refl

-- an inner node that is lost after it has sent twice, of which one packet stays
abbrev pub cut : Plan
cut =
    job (codes "fe:0" ∷ codes "m:0" ∷ codes "a:0" ∷ codes "b:0" ∷ []) (None ∷ Some 0 ∷ Some 1 ∷ Some 1 ∷ []) (none ∷ none ∷ set_of (0 ∷ []) ∷ set_of (1 ∷ []) ∷ []) DontWait (2 ∷ 3 ∷ []) (losing 1 2 1 ∷ [])

abbrev pub cut_journal : List Event
cut_journal = Sample 2 0 0 ∷ Recv 1 2 ∷ Sample 3 0 0 ∷ Recv 1 3 ∷ Lose 1 ∷ []

-- the first of its packets stays, and then comes the word of its loss
cut_keeps_first : (after cut cut_journal).link 1 0 ≡ Up 0 0 (set_of (0 ∷ [])) ∷ Down ∷ []
unfolding has with_rank union those ancestors is_under is_within is_related front is_front ranks stream_of daemons mode serves waves_at fault complete due_at dones acted sampled after_tick received_up received_done received_attach received_down start commit with_link lose is_doomed is_active enabled_events
cut_keeps_first = refl

-- its child attaches to the front end before it sends again
cut_attaches_first : (after cut (Sample 2 0 0 ∷ Recv 1 2 ∷ Sample 3 0 0 ∷ Recv 1 3 ∷ Lose 1 ∷ Recv 2 1 ∷ [])).link 2 0 ≡ Attach ∷ Up 0 0 (set_of (0 ∷ [])) ∷ []
unfolding has with_rank union those ancestors is_under is_within is_related front is_front ranks stream_of daemons mode serves waves_at fault complete due_at dones acted sampled after_tick received_up received_done received_attach received_down start commit with_link lose is_doomed is_active enabled_events
cut_attaches_first = refl

-- the first two numbers from 0 on
first_number : next_number 0 ≡ 1442695040888963407
unfolding next_number
first_number = refl

second_number : next_number 1442695040888963407 ≡ 1876011003808476466
unfolding next_number
second_number = refl

-- what they pick
first_pick : picked_event eager (start eager) 1442695040888963407 ≡ Some (Sample 2 0 0)
unfolding picked_event has with_rank union those ancestors is_under is_within is_related front is_front ranks stream_of daemons mode serves waves_at fault complete due_at dones acted sampled after_tick received_up received_done received_attach received_down start commit with_link lose is_doomed is_active enabled_events
first_pick = refl

first_picks : picked_from eager 2 0 (start eager) ≡ Sample 2 0 0 ∷ Recv 0 2 ∷ []
unfolding next_number picked_event has with_rank union those ancestors is_under is_within is_related front is_front ranks stream_of daemons mode serves waves_at fault complete due_at dones acted sampled after_tick received_up received_done received_attach received_down start commit with_link lose is_doomed is_active enabled_events
first_picks = refl

-- and the whole journal of the seed 0
eager_picked : picked eager 0 ≡ eager_journal
unfolding next_number picked_event has with_rank union those ancestors is_under is_within is_related front is_front ranks stream_of daemons mode serves waves_at fault complete due_at dones acted sampled after_tick received_up received_done received_attach received_down start commit with_link lose is_doomed is_active enabled_events
eager_picked = refl

-- an inner node below one that is lost, while a timer of two ticks runs there
abbrev pub slow_below : Plan
slow_below =
    job (codes "fe:0" ∷ codes "m:0" ∷ codes "x:0" ∷ codes "a:0" ∷ codes "b:0" ∷ []) (None ∷ Some 0 ∷ Some 1 ∷ Some 2 ∷ Some 2 ∷ []) (none ∷ none ∷ none ∷ set_of (0 ∷ []) ∷ set_of (1 ∷ []) ∷ []) (TimeOut 2) (3 ∷ 4 ∷ []) (losing 1 0 0 ∷ [])

-- before the loss one tick is left
slow_ticks : ((after slow_below (Sample 3 0 0 ∷ Recv 2 3 ∷ Tick 2 ∷ [])).node 2).book 0 0 ≡ Open (set_of (0 ∷ [])) none (Running 1)
unfolding next_number picked_event has with_rank union those ancestors is_under is_within is_related front is_front ranks stream_of daemons mode serves waves_at fault complete due_at dones acted sampled after_tick received_up received_done received_attach received_down start commit with_link lose is_doomed is_active enabled_events
slow_ticks = refl

-- with a new parent the timer begins anew
slow_begins_anew : ((after slow_below (Sample 3 0 0 ∷ Recv 2 3 ∷ Tick 2 ∷ Lose 1 ∷ Recv 2 1 ∷ [])).node 2).book 0 0 ≡ Open (set_of (0 ∷ [])) none (Running 2)
unfolding next_number picked_event has with_rank union those ancestors is_under is_within is_related front is_front ranks stream_of daemons mode serves waves_at fault complete due_at dones acted sampled after_tick received_up received_done received_attach received_down start commit with_link lose is_doomed is_active enabled_events
slow_begins_anew = refl

-- how often a daemon sends a wave, what it covers grows, and its parent changes
sends_growths_moves : (sends lost_early (start lost_early) lost_early_journal 2 0 0 ≡ 2) × (growths lost_early (start lost_early) lost_early_journal 2 0 0 ≡ 1) × (moves lost_early (start lost_early) lost_early_journal 2 ≡ 1)
unfolding has with_rank union those ancestors is_under is_within is_related front is_front ranks stream_of daemons mode serves waves_at fault complete due_at dones acted sampled after_tick received_up received_done received_attach received_down start commit with_link lose is_doomed is_active enabled_events outcome
sends_growths_moves = (refl, refl, refl)

-- the bound of three nodes, one wave and a timeout of one tick
small_bound : bound timed ≡ 252
small_bound = refl
