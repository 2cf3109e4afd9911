-- The machine: its state, the events that are enabled, and what each does.
use Rattle.std.specs.Prelude.{ℕ, zero, suc, Bool, false, ◌&&◌, not, ◌==◌, nat_lt, List, [], ◌∷◌, ◌++◌, map, filter, find, Option, Some, None}
use Rattle.std.specs.List.{list_any}
use Rattle.rank_set.specs.Ranks.{none}
use Rattle.overlay_setup.specs.NodeSets.{member, up_to}
use Rattle.stat_plan.specs.Plans.{Plan, nodes, waves_at, waves_of, daemons}
use Rattle.stat_plan.specs.Machine.Kin.{start_kin}
use Rattle.stat_plan.specs.Machine.Overlays.{Overlay, is_pending}
use Rattle.stat_plan.specs.Machine.Overlays as overlay
use Rattle.stat_plan.specs.Machine.Waves.{Open, put_at, is_empty_open, is_running}
use Rattle.stat_plan.specs.declared.machine.Timer.TheVariants.{Off}
use Rattle.overlay_event.specs.declared.event.Event.{Event}
use Rattle.overlay_event.specs.declared.event.Event.TheVariants.{Sample, Recv, Tick, Lose}
use Rattle.overlay_core.specs.Nodes.{Packet, Down, Node, Release, Outcome, handled}

-- which nodes live, what each is, what is on the way from each to each, and what was released so far
pub record State : Type 0 where
  pub alive : ℕ → Bool
  pub node : ℕ → Node
  pub link : ℕ → ℕ → List Packet  -- from the first to the second
  pub releases : List Release

-- the overlay that a state stands on: which nodes live, their kin and counts, and the links
abbrev pub net_of : State → Overlay Packet
net_of st = record {
  alive = st.alive;
  kin = λ n. (st.node n).kin;
  count = λ n. (st.node n).count;
  link = st.link;
}

-- a node that has done nothing yet
abbrev pub start_node : Plan → ℕ → Node
start_node p n = record {
  kin = start_kin p n;
  book = λ s w. Open none none Off;
  count = 0;
}

-- the state of a plan in which nothing has happened yet
unfoldable pub start : Plan → State
start p = record {
  alive = λ n. nat_lt n (nodes p);
  node = start_node p;
  link = λ n m. [];
  releases = [];
}

-- The outcome of an event of n takes its place: n is what the outcome says, with one event more; what was sent is on the links to
-- receivers that live; what was released is released.
unfoldable pub commit : State → ℕ → Outcome → State
commit st n o = record {
  alive = st.alive;
  node = put_at st.node n (record { kin = o.kin; book = o.work.book; count = suc (st.node n).count });
  link = (overlay.with_event (net_of st) n o.kin o.work.sends).link;
  releases = st.releases ++ o.work.releases;
}

-- the link from m to n has these packets
unfoldable pub with_link : State → ℕ → ℕ → List Packet → State
with_link st m n qs = record {
  alive = st.alive;
  node = st.node;
  link = (overlay.with_link (net_of st) m n qs).link;
  releases = st.releases;
}

-- n is lost, and each living original ancestor and descendant is notified
unfoldable pub lose : Plan → State → ℕ → State
lose p st n = record {
  alive = (overlay.with_loss Down p (net_of st) n).alive;
  node = st.node;
  link = (overlay.with_loss Down p (net_of st) n).link;
  releases = st.releases;
}

-- n takes the first of these packets, which are all from m; where there is none, nothing happens
abbrev pub receive : Plan → State → ℕ → ℕ → List Packet → State
receive p st n m [] = st
receive p st n m (q ∷ qs) = commit (with_link st m n qs) n (handled p n (st.node n) (Recv n m) (Some (m, q)))

-- the state after an event: what the event leaves of its node takes its place
abbrev pub step : Plan → State → Event → State
step p st (Sample n s w) = commit st n (handled p n (st.node n) (Sample n s w) None)
step p st (Recv n m) = receive p st n m (st.link m n)
step p st (Tick n) = commit st n (handled p n (st.node n) (Tick n) None)
step p st (Lose n) = lose p st n

-- the first wave of the stream that is open and covers nothing yet
abbrev pub next_sample : Plan → Node → ℕ → Option (ℕ × ℕ)
next_sample p x s = find (λ v. (v.0 == s) && is_empty_open (x.book v.0 v.1)) (waves_of p.streams)

-- whether this is a wave of that number
abbrev pub is_wave : Option (ℕ × ℕ) → ℕ → Bool
is_wave None w = false
is_wave (Some v) w = v.1 == w

-- whether its loss is all that may happen to n
unfoldable pub is_doomed : Plan → State → ℕ → Bool
is_doomed p st n = overlay.is_doomed p (net_of st) n

-- whether n can do something besides being lost
unfoldable pub is_active : Plan → State → ℕ → Bool
is_active p st n = st.alive n && not (is_doomed p st n)

-- whether an event is enabled
abbrev pub is_enabled : Plan → State → Event → Bool
is_enabled p st (Sample n s w) = is_active p st n && member n (daemons p s) && is_wave (next_sample p (st.node n) s) w
is_enabled p st (Recv n m) = is_active p st n && is_pending (st.link m n)
is_enabled p st (Tick n) = is_active p st n && list_any (λ v. is_running ((st.node n).book v.0 v.1)) (waves_at p n)
is_enabled p st (Lose n) = st.alive n && is_doomed p st n

-- a node's samples of these waves
abbrev pub samples_of : ℕ → List (ℕ × ℕ) → List Event
samples_of n [] = []
samples_of n (v ∷ vs) = Sample n v.0 v.1 ∷ samples_of n vs

-- the events of a node that can be named, in order: its loss, its samples by stream and wave, what it receives by sender,
-- and its tick
abbrev pub events_of : Plan → ℕ → List Event
events_of p n = Lose n ∷ (samples_of n (waves_of p.streams) ++ map (λ m. Recv n m) (up_to (nodes p)) ++ Tick n ∷ [])

-- those of the first nodes, by node
abbrev pub events_below : Plan → ℕ → List Event
events_below p zero = []
events_below p (suc n) = events_below p n ++ events_of p n

-- the events that are enabled, in order
unfoldable pub enabled_events : Plan → State → List Event
enabled_events p st = filter (is_enabled p st) (events_below p (nodes p))
