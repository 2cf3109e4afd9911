-- What was sampled changes nothing of what the machine does: a step reads all of a plan but its lines of samples.
use Rattle.std.proofs.Common.{◌≡◌, ℕ, suc, zero, Bool, true, false, List, [], ◌∷◌, ◌++◌, ◌+◌, ap, refl, sym, subst, ◌∙◌, Option, Some, None, filter, if◌then◌else◌}
use Rattle.rank_set.specs.Ranks.{Ranks}
use Rattle.stat_plan.specs.Samples.{SampleLine}
use Rattle.stat_plan.specs.Plans.{Plan, nodes, front, is_front, ancestors, is_under, is_within, is_related, ranks, stream_of, daemons, mode, serves, waves_at, fault, with_lines}
use Rattle.stat_plan.specs.Machine.Journals as journals
use Rattle.stat_plan.specs.Machine.Kin.{Kin, complete, is_parent, with_parent, without_child}
use Rattle.stat_plan.specs.Machine.Overlays.{to_parent}
use Rattle.stat_plan.specs.Machine.Waves.{Wave, Open, Closed, set_wave, covering, growing, is_fired, ticked, unsent}
use Rattle.stat_plan.specs.declared.machine.Act.{Act}
use Rattle.stat_plan.specs.declared.machine.Act.TheVariants.{Hold, Arm, Send, Partial, Final}
use Rattle.stat_plan.specs.declared.machine.Timer.{Timer}
use Rattle.overlay_event.specs.declared.event.Event.{Event}
use Rattle.overlay_event.specs.declared.event.Event.TheVariants.{Sample, Recv, Tick, Lose}
use Rattle.overlay_core.specs.Bound.{bound}
use Rattle.overlay_core.specs.Machine.{State, start, step, receive, lose, with_link, commit, is_enabled, is_active, is_doomed, enabled_events, events_below, events_of}
use Rattle.overlay_core.specs.Nodes.{Effects, Packet, Up, Done, Attach, Down, Node, Outcome, act_each, act_as, act, due_at, acted, dones, handled, received, sampled, after_tick, received_up, received_done, received_attach, received_down, done_work, begin}
use Rattle.overlay_core.specs.Pick.{picked}
use Rattle.overlay_core.specs.Runs.{after, IsLegal}

-- ---- an event of one node

-- one act on a wave, and what is due for it
acted_same : (p : Plan) (ls : List SampleLine) (kin : Kin) (s w : ℕ) (covered sent : Ranks) (timer : Timer) (k : Effects) (a : Act) → acted (with_lines p ls) kin s w covered sent timer k a ≡ acted p kin s w covered sent timer k a
unfolding acted dones serves mode daemons stream_of is_within is_under ancestors
acted_same p ls kin s w covered sent timer k Hold = refl
acted_same p ls kin s w covered sent timer k Arm = refl
acted_same p ls kin s w covered sent timer k Send = refl
acted_same p ls kin s w covered sent timer k Partial = refl
acted_same p ls kin s w covered sent timer k Final = refl

due_same : (p : Plan) (ls : List SampleLine) (n : ℕ) (lost : List ℕ) (s : ℕ) (covered sent : Ranks) (timer : Timer) → due_at (with_lines p ls) n lost s covered sent timer ≡ due_at p n lost s covered sent timer
unfolding due_at mode complete is_front front is_within is_under ancestors ranks daemons stream_of
due_same p ls n lost s covered sent timer = refl

act_as_same : (p : Plan) (ls : List SampleLine) (n : ℕ) (kin : Kin) (s w : ℕ) (k : Effects) (v : Wave) → act_as (with_lines p ls) n kin s w k v ≡ act_as p n kin s w k v
act_as_same p ls n kin s w k Closed = refl
act_as_same p ls n kin s w k (Open covered sent timer) =
    acted_same p ls kin s w covered sent timer k (due_at (with_lines p ls) n kin.lost s covered sent timer)
    ∙ ap (acted p kin s w covered sent timer k) (due_same p ls n kin.lost s covered sent timer)

act_same : (p : Plan) (ls : List SampleLine) (n : ℕ) (kin : Kin) (s w : ℕ) (k : Effects) → act (with_lines p ls) n kin s w k ≡ act p n kin s w k
act_same p ls n kin s w k = act_as_same p ls n kin s w k (k.book s w)

each_same : (p : Plan) (ls : List SampleLine) (n : ℕ) (kin : Kin) (vs : List (ℕ × ℕ)) (k : Effects) → act_each (with_lines p ls) n kin vs k ≡ act_each p n kin vs k
each_same p ls n kin [] k = refl
each_same p ls n kin (v ∷ vs) k = each_same p ls n kin vs (act (with_lines p ls) n kin v.0 v.1 k) ∙ ap (act_each p n kin vs) (act_same p ls n kin v.0 v.1 k)

with_work : Kin → Effects → Outcome
with_work kin k = record { kin = kin; work = k }

-- each kind of event
sampled_same : (p : Plan) (ls : List SampleLine) (n : ℕ) (x : Node) (s w : ℕ) → ◌≡◌ {A = Outcome} (sampled (with_lines p ls) n x s w) (sampled p n x s w)
unfolding sampled ranks with_work
sampled_same p ls n x s w = ap (with_work x.kin) (act_same p ls n x.kin s w (begin (set_wave x.book s w (covering (ranks p n) (x.book s w)))))

tick_same : (p : Plan) (ls : List SampleLine) (n : ℕ) (x : Node) → ◌≡◌ {A = Outcome} (after_tick (with_lines p ls) n x) (after_tick p n x)
unfolding after_tick waves_at serves daemons stream_of is_within is_under ancestors with_work
tick_same p ls n x = ap (with_work x.kin) (each_same p ls n x.kin (filter {X = ℕ × ℕ} (λ v. is_fired (ticked (x.book v.0 v.1))) (waves_at p n)) (begin (λ s w. ticked (x.book s w))))

up_same : (p : Plan) (ls : List SampleLine) (n : ℕ) (x : Node) (s w : ℕ) (set : Ranks) → ◌≡◌ {A = Outcome} (received_up (with_lines p ls) n x s w set) (received_up p n x s w set)
unfolding received_up with_work
up_same p ls n x s w set = ap (with_work x.kin) (act_same p ls n x.kin s w (begin (set_wave x.book s w (growing set (x.book s w)))))

done_work_same : (p : Plan) (ls : List SampleLine) (kin : Kin) (s w : ℕ) (x : Node) (v : Wave) → done_work (with_lines p ls) kin s w x.book v ≡ done_work p kin s w x.book v
unfolding dones serves daemons stream_of is_within is_under ancestors
done_work_same p ls kin s w x Closed = refl
done_work_same p ls kin s w x (Open covered sent timer) = refl

done_same : (p : Plan) (ls : List SampleLine) (n : ℕ) (x : Node) (s w : ℕ) → ◌≡◌ {A = Outcome} (received_done (with_lines p ls) n x s w) (received_done p n x s w)
unfolding received_done with_work
done_same p ls n x s w = ap (with_work x.kin) (done_work_same p ls x.kin s w x (x.book s w))

attach_same : (p : Plan) (ls : List SampleLine) (n : ℕ) (x : Node) (m : ℕ) → ◌≡◌ {A = Outcome} (received_attach (with_lines p ls) n x m) (received_attach p n x m)
unfolding received_attach waves_at serves daemons stream_of is_within is_under ancestors
attach_same p ls n x m = refl

lost_parent : Plan → ℕ → Node → ℕ → Outcome
lost_parent p n x m = record {
  kin = with_parent p n x.kin m;
  work = act_each p n (with_parent p n x.kin m) (waves_at p n) (record {
    book = λ s w. unsent (x.book s w);
    sends = to_parent (with_parent p n x.kin m).parent Attach;
    releases = [];
  });
}

lost_other : Plan → ℕ → Node → ℕ → Outcome
lost_other p n x m = record { kin = without_child x.kin m; work = act_each p n (without_child x.kin m) (waves_at p n) (begin x.book) }

parent_same : (p : Plan) (ls : List SampleLine) (n : ℕ) (x : Node) (m : ℕ) → ◌≡◌ {A = Outcome} (lost_parent (with_lines p ls) n x m) (lost_parent p n x m)
unfolding lost_parent waves_at serves daemons stream_of is_within is_under ancestors with_work
parent_same p ls n x m = ap (with_work (with_parent p n x.kin m)) (each_same p ls n (with_parent p n x.kin m) (waves_at p n) (record {
  book = λ s w. unsent (x.book s w);
  sends = to_parent (with_parent p n x.kin m).parent Attach;
  releases = [];
}))

other_same : (p : Plan) (ls : List SampleLine) (n : ℕ) (x : Node) (m : ℕ) → ◌≡◌ {A = Outcome} (lost_other (with_lines p ls) n x m) (lost_other p n x m)
unfolding lost_other waves_at serves daemons stream_of is_within is_under ancestors with_work
other_same p ls n x m = ap (with_work (without_child x.kin m)) (each_same p ls n (without_child x.kin m) (waves_at p n) (begin x.book))

either_same : (p : Plan) (ls : List SampleLine) (n : ℕ) (x : Node) (m : ℕ) (b : Bool) → ◌≡◌ {A = Outcome} (if b then lost_parent (with_lines p ls) n x m else lost_other (with_lines p ls) n x m) (if b then lost_parent p n x m else lost_other p n x m)
either_same p ls n x m true = parent_same p ls n x m
either_same p ls n x m false = other_same p ls n x m

down_same : (p : Plan) (ls : List SampleLine) (n : ℕ) (x : Node) (m : ℕ) → ◌≡◌ {A = Outcome} (received_down (with_lines p ls) n x m) (received_down p n x m)
unfolding received_down lost_parent lost_other
down_same p ls n x m = either_same p ls n x m (is_parent x.kin.parent m)

packet_same : (p : Plan) (ls : List SampleLine) (n : ℕ) (x : Node) (m : ℕ) (q : Packet) → ◌≡◌ {A = Outcome} (received (with_lines p ls) n x m q) (received p n x m q)
packet_same p ls n x m (Up s w set) = up_same p ls n x s w set
packet_same p ls n x m (Done s w) = done_same p ls n x s w
packet_same p ls n x m Attach = attach_same p ls n x m
packet_same p ls n x m Down = down_same p ls n x m

handled_same : (p : Plan) (ls : List SampleLine) (n : ℕ) (x : Node) (e : Event) (t : Option (ℕ × Packet)) → ◌≡◌ {A = Outcome} (handled (with_lines p ls) n x e t) (handled p n x e t)
handled_same p ls n x (Sample m s w) t = sampled_same p ls n x s w
handled_same p ls n x (Recv m k) None = refl
handled_same p ls n x (Recv m k) (Some t) = packet_same p ls n x t.0 t.1
handled_same p ls n x (Tick m) t = tick_same p ls n x
handled_same p ls n x (Lose m) t = refl

-- ---- an event of the state

receive_same : (p : Plan) (ls : List SampleLine) (st : State) (n m : ℕ) (qs : List Packet) → ◌≡◌ {A = State} (receive (with_lines p ls) st n m qs) (receive p st n m qs)
receive_same p ls st n m [] = refl
receive_same p ls st n m (q ∷ qs) = ap (commit (with_link st m n qs) n) (handled_same p ls n (st.node n) (Recv n m) (Some (m, q)))

lose_same : (p : Plan) (ls : List SampleLine) (st : State) (n : ℕ) → ◌≡◌ {A = State} (lose (with_lines p ls) st n) (lose p st n)
unfolding lose fault is_related is_under ancestors
lose_same p ls st n = refl

step_same : (p : Plan) (ls : List SampleLine) (st : State) (e : Event) → ◌≡◌ {A = State} (step (with_lines p ls) st e) (step p st e)
step_same p ls st (Sample n s w) = ap (commit st n) (handled_same p ls n (st.node n) (Sample n s w) None)
step_same p ls st (Recv n m) = receive_same p ls st n m (st.link m n)
step_same p ls st (Tick n) = ap (commit st n) (handled_same p ls n (st.node n) (Tick n) None)
step_same p ls st (Lose n) = lose_same p ls st n

start_same : (p : Plan) (ls : List SampleLine) → ◌≡◌ {A = State} (start (with_lines p ls)) (start p)
unfolding start ancestors
start_same p ls = refl

-- the steps are the same function, and so is all that stands on it
same_steps : (p : Plan) (ls : List SampleLine) → step (with_lines p ls) ≡ step p
same_steps p ls = λ i st e. step_same p ls st e i

-- ---- journals

pub after_same : (p : Plan) (ls : List SampleLine) (journal : List Event) → ◌≡◌ {A = State} (after (with_lines p ls) journal) (after p journal)
after_same p ls journal = λ i. journals.run (same_steps p ls i) (start_same p ls i) journal

pub enabled_same : (p : Plan) (ls : List SampleLine) (st : State) (e : Event) → is_enabled (with_lines p ls) st e ≡ is_enabled p st e
unfolding is_active is_doomed fault daemons stream_of waves_at serves is_within is_under ancestors
enabled_same p ls st (Sample n s w) = refl
enabled_same p ls st (Recv n m) = refl
enabled_same p ls st (Tick n) = refl
enabled_same p ls st (Lose n) = refl

same_enabled : (p : Plan) (ls : List SampleLine) → is_enabled (with_lines p ls) ≡ is_enabled p
same_enabled p ls = λ i st e. enabled_same p ls st e i

-- one journal is legal where the other is
same_legal : (p : Plan) (ls : List SampleLine) (journal : List Event) → IsLegal (with_lines p ls) journal ≡ IsLegal p journal
same_legal p ls journal = λ i. journals.IsLegalFrom (same_steps p ls i) (same_enabled p ls i) (start_same p ls i) journal

pub legal_same : (p : Plan) (ls : List SampleLine) (journal : List Event) → IsLegal (with_lines p ls) journal → IsLegal p journal
legal_same p ls journal l = subst (λ X. X) (same_legal p ls journal) l

pub legal_with : (p : Plan) (ls : List SampleLine) (journal : List Event) → IsLegal p journal → IsLegal (with_lines p ls) journal
legal_with p ls journal l = subst (λ X. X) (sym (same_legal p ls journal)) l

-- ---- the list of enabled events, and the picks

below_same : (p : Plan) (ls : List SampleLine) (n : ℕ) → events_below (with_lines p ls) n ≡ events_below p n
below_same p ls zero = refl
below_same p ls (suc n) = ap (λ es. es ++ events_of p n) (below_same p ls n)

pub listed_same : (p : Plan) (ls : List SampleLine) (st : State) → enabled_events (with_lines p ls) st ≡ enabled_events p st
unfolding enabled_events
listed_same p ls st = λ i. filter (same_enabled p ls i st) (below_same p ls (nodes p) i)

same_listed : (p : Plan) (ls : List SampleLine) → enabled_events (with_lines p ls) ≡ enabled_events p
same_listed p ls = λ i st. listed_same p ls st i

pub picked_same : (p : Plan) (ls : List SampleLine) (seed : ℕ) → picked (with_lines p ls) seed ≡ picked p seed
picked_same p ls seed = λ i. journals.picked_from (same_steps p ls i) (same_listed p ls i) (bound p + 1) seed (start_same p ls i)
