-- Worked claims: which events of a small plan may be claimed while others are out.
use Rattle.std.specs.Prelude.{◌≡◌, refl, true, false, [], ◌∷◌}
use Rattle.rank_set.specs.Ranks.{has, with_rank, union}
use Rattle.stat_plan.specs.Plans.{ancestors, is_under, is_within, front, is_front, ranks, stream_of, daemons, mode, serves, waves_at, fault}
use Rattle.stat_plan.specs.Machine.Kin.{complete}
use Rattle.overlay_event.specs.declared.event.Event.TheVariants.{Sample, Recv, Tick, Lose}
use Rattle.overlay_core.specs.Nodes.{due_at, acted, sampled, received_up}
use Rattle.overlay_core.specs.Machine.{start, commit, with_link, is_doomed, is_active, enabled_events}
use Rattle.overlay_core.specs.Runs.{after}
use Rattle.overlay_core.specs.Rows.{eager, lost_late}
use Rattle.event_claims.specs.Claims.{all_home, claimed, come_home, is_claimable, claimable_events}

-- at first each of the two daemons may take its sample
both_sample : claimable_events eager (start eager) all_home ≡ Sample 1 0 0 ∷ Sample 2 0 0 ∷ []
unfolding claimable_events enabled_events start is_doomed fault is_active daemons stream_of waves_at serves is_within is_under ancestors
both_sample = refl

-- while one daemon is out with its sample, the other one may still take its own
other_samples : claimable_events eager (start eager) (claimed all_home (Sample 1 0 0)) ≡ Sample 2 0 0 ∷ []
unfolding claimable_events enabled_events start is_doomed fault is_active daemons stream_of waves_at serves is_within is_under ancestors
other_samples = refl

-- once the first is home, its packet may be received while the other is out
received_beside : claimable_events eager (after eager (Sample 1 0 0 ∷ [])) (come_home (claimed (claimed all_home (Sample 1 0 0)) (Sample 2 0 0)) (Sample 1 0 0)) ≡ Recv 0 1 ∷ []
unfolding has with_rank ancestors is_under is_within front is_front ranks stream_of daemons serves waves_at fault complete due_at acted sampled start commit is_doomed is_active enabled_events claimable_events
received_beside = refl

-- with no node out, a packet may be received or its sender lost
packet_or_loss : claimable_events lost_late (after lost_late (Sample 2 0 0 ∷ Sample 3 0 0 ∷ Recv 1 2 ∷ Recv 1 3 ∷ [])) all_home ≡ Recv 0 1 ∷ Lose 1 ∷ []
unfolding has with_rank union ancestors is_under is_within front is_front ranks stream_of daemons mode serves waves_at fault complete due_at acted sampled received_up start commit with_link is_doomed is_active enabled_events claimable_events
packet_or_loss = refl

-- but neither is claimed while a node is out with the other
no_loss_beside_packet : is_claimable lost_late (claimed all_home (Recv 0 1)) (Lose 1) ≡ false
no_loss_beside_packet = refl

no_packet_beside_loss : is_claimable lost_late (claimed all_home (Lose 1)) (Recv 0 1) ≡ false
no_packet_beside_loss = refl

-- a packet may be received while its sender is out with another event
packet_beside_tick : is_claimable lost_late (claimed all_home (Tick 1)) (Recv 0 1) ≡ true
packet_beside_tick = refl
