-- Worked jobs of several streams and waves, which the definitions must compute: which event comes first, and in what order
-- waves are acted on.
use Rattle.std.specs.Prelude.{◌≡◌, refl, codes, ℕ, List, [], ◌∷◌, Option, Some, None}
use Rattle.rank_set.specs.Ranks.{Ranks, none, has, with_rank, union, those, set_of}
use Rattle.stat_plan.specs.Plans.{Plan, ancestors, is_under, is_within, is_related, front, is_front, ranks, stream_of, daemons, mode, serves, waves_at, fault}
use Rattle.stat_plan.specs.Machine.Kin.{complete}
use Rattle.overlay_setup.specs.Scripts.{Stream, stream}
use Rattle.overlay_setup.specs.declared.script.Grain.TheVariants.{Line}
use Rattle.overlay_setup.specs.declared.script.Mode.TheVariants.{WaitForAll, TimeOut, DontWait}
use Rattle.overlay_setup.specs.declared.script.Fault.{Fault}
use Rattle.overlay_event.specs.declared.event.Event.TheVariants.{Sample, Recv, Tick, Lose}
use Rattle.overlay_core.specs.declared.release.Kind.TheVariants.{Partial as PartialRelease, Final as FinalRelease}
use Rattle.overlay_core.specs.Nodes.{Up, Done, Attach, release, due_at, dones, acted, sampled, after_tick, received_up, received_done, received_attach, received_down}
use Rattle.overlay_core.specs.Machine.{start, commit, with_link, lose, is_doomed, is_active, enabled_events}
use Rattle.overlay_core.specs.Runs.{after}
use Rattle.overlay_core.specs.Rows.{Gives, final, losing, eager, timed}

-- a plan with these streams, and without samples
abbrev pub job_of : List (List ℕ) → List (Option ℕ) → List Ranks → List Stream → List Fault → Plan
job_of names parents placed streams faults = record {
  names = names;
  parents = parents;
  placed = placed;
  lines = [];
  streams = streams;
  faults = faults;
}

-- a front end and a daemon, and a stream of two waves that waits
abbrev pub two_waves : Plan
two_waves = job_of (codes "fe:0" ∷ codes "a:0" ∷ []) (None ∷ Some 0 ∷ []) (none ∷ set_of (0 ∷ []) ∷ []) (stream 0 WaitForAll 2 1 Line (1 ∷ []) ∷ []) []

-- two streams that don't wait, of two waves and of one, and an inner node that is lost after so many events, of whose packets so many stay
abbrev pub two_streams : ℕ → ℕ → Plan
two_streams after keep =
    job_of (codes "fe:0" ∷ codes "m:0" ∷ codes "a:0" ∷ []) (None ∷ Some 0 ∷ Some 1 ∷ []) (none ∷ none ∷ set_of (0 ∷ []) ∷ [])
    (stream 0 DontWait 2 1 Line (2 ∷ []) ∷ stream 1 DontWait 1 1 Line (2 ∷ []) ∷ []) (losing 1 after keep ∷ [])

-- an inner node with two daemons, and a stream of two waves with a timeout of one tick
abbrev pub two_timers : Plan
two_timers =
    job_of (codes "fe:0" ∷ codes "m:0" ∷ codes "a:0" ∷ codes "b:0" ∷ []) (None ∷ Some 0 ∷ Some 1 ∷ Some 1 ∷ []) (none ∷ none ∷ set_of (0 ∷ []) ∷ set_of (1 ∷ []) ∷ [])
    (stream 0 (TimeOut 1) 2 1 Line (2 ∷ 3 ∷ []) ∷ []) []

-- two daemons, of which the stream has the first
abbrev pub of_one : Plan
of_one = job_of (codes "fe:0" ∷ codes "a:0" ∷ codes "b:0" ∷ []) (None ∷ Some 0 ∷ Some 0 ∷ []) (none ∷ set_of (0 ∷ []) ∷ set_of (1 ∷ []) ∷ []) (stream 0 WaitForAll 1 1 Line (1 ∷ []) ∷ []) []

-- waves are sampled from the first on, and a node's samples come before what it receives
waves_in_order : Gives two_waves (Sample 1 0 0 ∷ Recv 0 1 ∷ []) (final (set_of (0 ∷ [])) [] ∷ []) (Sample 1 0 1 ∷ Recv 1 0 ∷ [])
unfolding has with_rank union those ancestors is_under is_within is_related front is_front ranks stream_of daemons mode serves waves_at fault complete due_at dones acted sampled after_tick received_up received_done received_attach received_down start commit with_link lose is_doomed is_active enabled_events
waves_in_order = record { legal = refl; releases = refl; next = refl }

-- streams are sampled in order
streams_in_order : enabled_events (two_streams 9 0) (after (two_streams 9 0) []) ≡ Sample 2 0 0 ∷ Sample 2 1 0 ∷ []
unfolding has with_rank union those ancestors is_under is_within is_related front is_front ranks stream_of daemons mode serves waves_at fault complete due_at dones acted sampled after_tick received_up received_done received_attach received_down start commit with_link lose is_doomed is_active enabled_events
streams_in_order = refl

-- what a node receives comes by sender
senders_in_order : Gives eager (Sample 1 0 0 ∷ Sample 2 0 0 ∷ []) [] (Recv 0 1 ∷ Recv 0 2 ∷ [])
unfolding has with_rank union those ancestors is_under is_within is_related front is_front ranks stream_of daemons mode serves waves_at fault complete due_at dones acted sampled after_tick received_up received_done received_attach received_down start commit with_link lose is_doomed is_active enabled_events
senders_in_order = record { legal = refl; releases = refl; next = refl }

-- and before its tick
tick_comes_last : Gives timed (Sample 1 0 0 ∷ Recv 0 1 ∷ Sample 2 0 0 ∷ []) [] (Recv 0 2 ∷ Tick 0 ∷ [])
unfolding has with_rank union those ancestors is_under is_within is_related front is_front ranks stream_of daemons mode serves waves_at fault complete due_at dones acted sampled after_tick received_up received_done received_attach received_down start commit with_link lose is_doomed is_active enabled_events
tick_comes_last = record { legal = refl; releases = refl; next = refl }

-- at the loss of its parent a node attaches, and then all its waves go up, by stream and wave
waves_sent_again : (after (two_streams 0 0) (Lose 1 ∷ Sample 2 0 0 ∷ Sample 2 0 1 ∷ Sample 2 1 0 ∷ Recv 2 1 ∷ [])).link 2 0 ≡ Attach ∷ Up 0 0 (set_of (0 ∷ [])) ∷ Up 0 1 (set_of (0 ∷ [])) ∷ Up 1 0 (set_of (0 ∷ [])) ∷ []
unfolding has with_rank union those ancestors is_under is_within is_related front is_front ranks stream_of daemons mode serves waves_at fault complete due_at dones acted sampled after_tick received_up received_done received_attach received_down start commit with_link lose is_doomed is_active enabled_events
waves_sent_again = refl

-- a new child is told of each wave that has ended, by stream and wave
told_in_order : (after (two_streams 3 3) (Sample 2 0 0 ∷ Sample 2 0 1 ∷ Sample 2 1 0 ∷ Recv 1 2 ∷ Recv 1 2 ∷ Recv 1 2 ∷ Lose 1 ∷ Recv 0 1 ∷ Recv 0 1 ∷ Recv 0 1 ∷ Recv 2 1 ∷ Recv 0 2 ∷ [])).link 0 2 ≡ Done 0 0 ∷ Done 0 1 ∷ Done 1 0 ∷ []
unfolding has with_rank union those ancestors is_under is_within is_related front is_front ranks stream_of daemons mode serves waves_at fault complete due_at dones acted sampled after_tick received_up received_done received_attach received_down start commit with_link lose is_doomed is_active enabled_events
told_in_order = refl

-- of the waves that stay, one ended wave is told alone
told_of_the_ended : (after (two_streams 1 1) (Sample 2 0 0 ∷ Sample 2 0 1 ∷ Recv 1 2 ∷ Lose 1 ∷ Recv 0 1 ∷ Recv 2 1 ∷ Recv 0 2 ∷ [])).link 0 2 ≡ Done 0 0 ∷ []
unfolding has with_rank union those ancestors is_under is_within is_related front is_front ranks stream_of daemons mode serves waves_at fault complete due_at dones acted sampled after_tick received_up received_done received_attach received_down start commit with_link lose is_doomed is_active enabled_events
told_of_the_ended = refl

-- two timers run out at once, and the waves go up by number
timers_in_order : (after two_timers (Sample 2 0 0 ∷ Sample 2 0 1 ∷ Recv 1 2 ∷ Recv 1 2 ∷ Tick 1 ∷ [])).link 1 0 ≡ Up 0 0 (set_of (0 ∷ [])) ∷ Up 0 1 (set_of (0 ∷ [])) ∷ []
unfolding has with_rank union those ancestors is_under is_within is_related front is_front ranks stream_of daemons mode serves waves_at fault complete due_at dones acted sampled after_tick received_up received_done received_attach received_down start commit with_link lose is_doomed is_active enabled_events
timers_in_order = refl

-- two daemons, of which one is lost, and a stream of two waves that waits
abbrev pub two_end : Plan
two_end = job_of (codes "fe:0" ∷ codes "a:0" ∷ codes "b:0" ∷ []) (None ∷ Some 0 ∷ Some 0 ∷ []) (none ∷ set_of (0 ∷ []) ∷ set_of (1 ∷ []) ∷ []) (stream 0 WaitForAll 2 1 Line (1 ∷ 2 ∷ []) ∷ []) (losing 2 0 0 ∷ [])

-- a loss ends each wave that it completes
loss_ends_each_wave : Gives two_end (Sample 1 0 0 ∷ Sample 1 0 1 ∷ Recv 0 1 ∷ Recv 0 1 ∷ Lose 2 ∷ Recv 0 2 ∷ []) (release 0 0 (set_of (0 ∷ [])) FinalRelease (2 ∷ []) ∷ release 0 1 (set_of (0 ∷ [])) FinalRelease (2 ∷ []) ∷ []) (Recv 1 0 ∷ [])
unfolding has with_rank union those ancestors is_under is_within is_related front is_front ranks stream_of daemons mode serves waves_at fault complete due_at dones acted sampled after_tick received_up received_done received_attach received_down start commit with_link lose is_doomed is_active enabled_events
loss_ends_each_wave = record { legal = refl; releases = refl; next = refl }

-- the end of a wave goes to the children that serve its stream
end_to_who_serves : Gives of_one (Sample 1 0 0 ∷ Recv 0 1 ∷ []) (final (set_of (0 ∷ [])) [] ∷ []) (Recv 1 0 ∷ [])
unfolding has with_rank union those ancestors is_under is_within is_related front is_front ranks stream_of daemons mode serves waves_at fault complete due_at dones acted sampled after_tick received_up received_done received_attach received_down start commit with_link lose is_doomed is_active enabled_events
end_to_who_serves = record { legal = refl; releases = refl; next = refl }

-- an inner node with two daemons, and two streams of two waves with a timeout of two ticks, of which the second has one daemon
abbrev pub two_by_timer : Plan
two_by_timer =
    job_of (codes "fe:0" ∷ codes "m:0" ∷ codes "a:0" ∷ codes "b:0" ∷ []) (None ∷ Some 0 ∷ Some 1 ∷ Some 1 ∷ [])
    (none ∷ none ∷ set_of (0 ∷ []) ∷ set_of (1 ∷ []) ∷ [])
    (stream 0 (TimeOut 2) 2 1 Line (2 ∷ 3 ∷ []) ∷ stream 1 (TimeOut 2) 2 1 Line (2 ∷ []) ∷ []) []

-- events come by node, and those of a node as its samples by stream, what it receives, and its tick
events_by_node : Gives two_by_timer (Sample 2 0 0 ∷ Sample 2 0 1 ∷ Recv 1 2 ∷ Sample 3 0 0 ∷ [])
    []
    (Recv 1 2 ∷ Recv 1 3 ∷ Tick 1 ∷ Sample 2 1 0 ∷ Sample 3 0 1 ∷ [])
unfolding has with_rank union those ancestors is_under is_within is_related front is_front ranks stream_of daemons mode serves waves_at fault complete due_at dones acted sampled after_tick received_up received_done received_attach received_down start commit with_link lose is_doomed is_active enabled_events
events_by_node = record { legal = refl; releases = refl; next = refl }

-- three daemons, and a stream of two waves with a timeout of one tick
abbrev pub three_timed : Plan
three_timed =
    job_of (codes "fe:0" ∷ codes "a:0" ∷ codes "b:0" ∷ codes "c:0" ∷ []) (None ∷ Some 0 ∷ Some 0 ∷ Some 0 ∷ [])
    (none ∷ set_of (0 ∷ []) ∷ set_of (1 ∷ 2 ∷ []) ∷ set_of (3 ∷ []) ∷ [])
    (stream 0 (TimeOut 1) 2 1 Line (1 ∷ 2 ∷ 3 ∷ []) ∷ []) []

-- at the front end a tick releases each wave whose timer runs out, and what comes later waits for the next
timers_release_in_order : Gives three_timed (Sample 1 0 0 ∷ Sample 1 0 1 ∷ Recv 0 1 ∷ Recv 0 1 ∷ Tick 0 ∷ Sample 2 0 0 ∷ Recv 0 2 ∷ [])
    (release 0 0 (set_of (0 ∷ [])) PartialRelease [] ∷ release 0 1 (set_of (0 ∷ [])) PartialRelease [] ∷ [])
    (Tick 0 ∷ Sample 2 0 1 ∷ Sample 3 0 0 ∷ [])
unfolding has with_rank union those ancestors is_under is_within is_related front is_front ranks stream_of daemons mode serves waves_at fault complete due_at dones acted sampled after_tick received_up received_done received_attach received_down start commit with_link lose is_doomed is_active enabled_events
timers_release_in_order = record { legal = refl; releases = refl; next = refl }

-- three daemons, of which the first is lost after one event, with one packet kept, and two streams that wait, of which the second has that daemon alone
abbrev pub lost_after_one : Plan
lost_after_one =
    job_of (codes "fe:0" ∷ codes "a:0" ∷ codes "b:0" ∷ codes "c:0" ∷ []) (None ∷ Some 0 ∷ Some 0 ∷ Some 0 ∷ [])
    (none ∷ set_of (0 ∷ []) ∷ set_of (1 ∷ 2 ∷ []) ∷ set_of (3 ∷ []) ∷ [])
    (stream 0 WaitForAll 1 1 Line (1 ∷ 2 ∷ 3 ∷ []) ∷ stream 1 WaitForAll 1 1 Line (1 ∷ []) ∷ []) (losing 1 1 1 ∷ [])

-- of a node that is to be lost now no other event may come
loss_comes_first : Gives lost_after_one (Sample 1 1 0 ∷ Recv 0 1 ∷ [])
    (release 1 0 (set_of (0 ∷ [])) FinalRelease [] ∷ [])
    (Lose 1 ∷ Sample 2 0 0 ∷ Sample 3 0 0 ∷ [])
unfolding has with_rank union those ancestors is_under is_within is_related front is_front ranks stream_of daemons mode serves waves_at fault complete due_at dones acted sampled after_tick received_up received_done received_attach received_down start commit with_link lose is_doomed is_active enabled_events
loss_comes_first = record { legal = refl; releases = refl; next = refl }

-- an inner node with two daemons, of which the first is lost at once, and two streams, of which the second has that daemon alone
abbrev pub lost_at_once : Plan
lost_at_once =
    job_of (codes "fe:0" ∷ codes "m:0" ∷ codes "a:0" ∷ codes "b:0" ∷ []) (None ∷ Some 0 ∷ Some 1 ∷ Some 1 ∷ [])
    (none ∷ none ∷ set_of (0 ∷ []) ∷ set_of (1 ∷ []) ∷ [])
    (stream 0 (TimeOut 1) 1 1 Line (2 ∷ 3 ∷ []) ∷ stream 1 WaitForAll 1 1 Line (2 ∷ []) ∷ []) (losing 2 0 0 ∷ [])

-- a stream that has lost its only daemon ends with no rank
loss_of_all_ends_a_wave : Gives lost_at_once (Lose 2 ∷ Recv 0 2 ∷ [])
    (release 1 0 none FinalRelease (2 ∷ []) ∷ [])
    (Recv 1 0 ∷ Recv 1 2 ∷ Sample 3 0 0 ∷ [])
unfolding has with_rank union those ancestors is_under is_within is_related front is_front ranks stream_of daemons mode serves waves_at fault complete due_at dones acted sampled after_tick received_up received_done received_attach received_down start commit with_link lose is_doomed is_active enabled_events
loss_of_all_ends_a_wave = record { legal = refl; releases = refl; next = refl }

-- an inner node with two daemons, and a stream with a timeout of two ticks
abbrev pub complete_in_time : Plan
complete_in_time =
    job_of (codes "fe:0" ∷ codes "m:0" ∷ codes "a:0" ∷ codes "b:0" ∷ []) (None ∷ Some 0 ∷ Some 1 ∷ Some 1 ∷ [])
    (none ∷ none ∷ set_of (0 ∷ []) ∷ set_of (1 ∷ []) ∷ [])
    (stream 0 (TimeOut 2) 1 1 Line (2 ∷ 3 ∷ []) ∷ []) []

-- what is complete goes up at once, and its timer ends
no_tick_when_complete : Gives complete_in_time (Sample 2 0 0 ∷ Sample 3 0 0 ∷ Recv 1 2 ∷ Recv 1 3 ∷ [])
    []
    (Recv 0 1 ∷ [])
unfolding has with_rank union those ancestors is_under is_within is_related front is_front ranks stream_of daemons mode serves waves_at fault complete due_at dones acted sampled after_tick received_up received_done received_attach received_down start commit with_link lose is_doomed is_active enabled_events
no_tick_when_complete = record { legal = refl; releases = refl; next = refl }

-- two inner nodes one below the other, of which the upper is lost after two events, and two streams of two daemons and of one
abbrev pub two_over_a_loss : Plan
two_over_a_loss =
    job_of (codes "fe:0" ∷ codes "m:0" ∷ codes "n:0" ∷ codes "a:0" ∷ codes "b:0" ∷ []) (None ∷ Some 0 ∷ Some 1 ∷ Some 2 ∷ Some 2 ∷ [])
    (none ∷ none ∷ none ∷ set_of (0 ∷ []) ∷ set_of (1 ∷ []) ∷ [])
    (stream 0 WaitForAll 1 1 Line (3 ∷ 4 ∷ []) ∷ stream 1 WaitForAll 1 1 Line (3 ∷ []) ∷ []) (losing 1 2 0 ∷ [])

-- both streams end, though the loss comes between what goes up and what comes down
streams_end_over_a_loss : Gives two_over_a_loss (Sample 4 0 0 ∷ Sample 3 1 0 ∷ Recv 2 4 ∷ Sample 3 0 0 ∷ Recv 2 3 ∷ Recv 2 3 ∷ Recv 1 2 ∷ Recv 0 1 ∷ Recv 1 2 ∷ Recv 0 1 ∷ Lose 1 ∷ Recv 0 1 ∷ Recv 2 1 ∷ Recv 3 1 ∷ Recv 4 1 ∷ Recv 0 2 ∷ Recv 2 0 ∷ Recv 3 2 ∷ [])
    (release 1 0 (set_of (0 ∷ [])) FinalRelease [] ∷ release 0 0 (set_of (0 ∷ 1 ∷ [])) FinalRelease [] ∷ [])
    (Recv 0 2 ∷ Recv 2 0 ∷ Recv 4 2 ∷ [])
unfolding has with_rank union those ancestors is_under is_within is_related front is_front ranks stream_of daemons mode serves waves_at fault complete due_at dones acted sampled after_tick received_up received_done received_attach received_down start commit with_link lose is_doomed is_active enabled_events
streams_end_over_a_loss = record { legal = refl; releases = refl; next = refl }
