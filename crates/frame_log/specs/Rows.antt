-- Logs of small runs. Each row is computed.
use Rattle.std.specs.Prelude.{◌≡◌, refl, [], ◌∷◌, ◌++◌, Some}
use Rattle.rank_set.specs.Ranks.{has, set_of, with_rank, union, those}
use Rattle.stat_plan.specs.Plans.{Plan, ancestors, is_under, is_within, is_related, front, is_front, ranks, stream_of, daemons, mode, serves, waves_at, fault}
use Rattle.stat_plan.specs.Machine.Kin.{complete}
use Rattle.overlay_event.specs.declared.event.Event.TheVariants.{Recv, Tick}
use Rattle.overlay_core.specs.Nodes.{Up, Done, Attach, due_at, dones, acted, sampled, after_tick, received_up, received_done, received_attach, received_down}
use Rattle.overlay_core.specs.Machine.{start, commit, with_link, lose}
use Rattle.overlay_core.specs.Rows.{one_daemon, one_daemon_journal}
use Rattle.overlay_net.specs.Frames.{frame_bytes}
use Rattle.frame_log.specs.FrameLog.{bytes_of_taken, frame_log, received_bytes}

nothing_of_no_events : (p : Plan) → frame_log p [] ≡ []
nothing_of_no_events p = refl

nothing_of_a_tick : (p : Plan) → received_bytes p (start p) (Tick 3) ≡ []
nothing_of_a_tick p = refl

-- Attach and then Done wait from node 2 for node 1
first_of_two : (p : Plan) → received_bytes p (with_link (start p) 2 1 (Attach ∷ Done 4 5 ∷ [])) (Recv 1 2) ≡ 2 ∷ 3 ∷ []
unfolding with_link
first_of_two p = refl

nothing_the_other_way : (p : Plan) → received_bytes p (with_link (start p) 2 1 (Attach ∷ Done 4 5 ∷ [])) (Recv 2 1) ≡ []
unfolding with_link start
nothing_the_other_way p = refl

the_end_of_a_wave : (p : Plan) → bytes_of_taken p (Some (0, Done 4 5)) ≡ 2 ∷ 2 ∷ 4 ∷ 5 ∷ []
the_end_of_a_wave p = refl

-- one daemon: the tree of its samples goes up, and then the end of the wave comes down
log_of_one_daemon : frame_log one_daemon one_daemon_journal ≡ frame_bytes one_daemon (Up 0 0 (set_of (0 ∷ []))) ++ 2 ∷ 2 ∷ 0 ∷ 0 ∷ []
unfolding has with_rank union those ancestors is_under is_within is_related front is_front ranks stream_of daemons mode serves waves_at fault complete due_at dones acted sampled after_tick received_up received_done received_attach received_down start commit with_link lose
log_of_one_daemon = refl
