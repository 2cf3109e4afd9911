-- The cast machine: commands that go down to all nodes, each once and in order.
use Rattle.std.specs.Prelude.{ℕ, zero, suc, ◌-◌, Bool, ◌&&◌, ◌==◌, nat_lt, if◌then◌else◌, List, [], ◌∷◌, ◌++◌, map, filter, length}
use Rattle.overlay_setup.specs.NodeSets.{up_to}
use Rattle.stat_plan.specs.Plans.{Plan, nodes, front, is_front}
use Rattle.stat_plan.specs.Machine.Kin.{Kin, is_parent, with_child, after_loss}
use Rattle.stat_plan.specs.Machine.Waves.{put_at}
use Rattle.control_cast.specs.declared.event.CastEvent.{CastEvent}
use Rattle.control_cast.specs.declared.event.CastEvent.TheVariants.{Issue, Recv, Lose}
pub use Rattle.control_cast.specs.declared.packet.Packet.{Packet}
pub use Rattle.control_cast.specs.declared.packet.Packet.TheVariants.{Cmd, Attach, Down}
use Rattle.stat_plan.specs.Machine.Overlays.{Overlay, start_overlay, to_parent, with_link, with_event, with_loss, is_doomed, is_active, is_pending}
use Rattle.stat_plan.specs.Machine.Journals as journals

-- the overlay, and the commands that each node has obeyed, in order
pub record State : Type 0 where
  pub net : Overlay Packet
  pub obeyed : ℕ → List ℕ

-- how many commands a node has obeyed
abbrev pub seen : State → ℕ → ℕ
seen st n = length (st.obeyed n)

-- what an event leaves of its node: its kin, the commands that it has obeyed, and what it sends, each with its receiver
pub record Outcome : Type 0 where
  pub kin : Kin
  pub obeyed : List ℕ
  pub sends : List (ℕ × Packet)

-- the r numbers after k
abbrev pub numbers_after : ℕ → ℕ → List ℕ
numbers_after k zero = []
numbers_after k (suc r) = suc k ∷ numbers_after (suc k) r

-- a command is obeyed and passed on
abbrev pub obey : Kin → List ℕ → ℕ → Outcome
obey kin obeyed i = record { kin = kin; obeyed = obeyed ++ i ∷ []; sends = map (λ c. (c, Cmd i)) kin.children }

-- a command comes; one out of turn is dropped
abbrev pub received_cmd : Kin → List ℕ → ℕ → Outcome
received_cmd kin obeyed i = if i == suc (length obeyed) then obey kin obeyed i else record { kin = kin; obeyed = obeyed; sends = [] }

-- m is a child from now on, and gets the commands after those that it has obeyed
abbrev pub received_attach : Kin → List ℕ → ℕ → ℕ → Outcome
received_attach kin obeyed m k = record {
  kin = with_child kin m;
  obeyed = obeyed;
  sends = map (λ i. (m, Cmd i)) (numbers_after k (length obeyed - k));
}

-- m is lost; where it was the parent, the node attaches to its new parent
abbrev pub received_down : Plan → ℕ → Kin → List ℕ → ℕ → Outcome
received_down p n kin obeyed m = record {
  kin = after_loss p n kin m;
  obeyed = obeyed;
  sends = if is_parent kin.parent m then to_parent (after_loss p n kin m).parent (Attach (length obeyed)) else [];
}

-- a packet comes from m
abbrev pub received : Plan → ℕ → Kin → List ℕ → ℕ → Packet → Outcome
received p n kin obeyed m (Cmd i) = received_cmd kin obeyed i
received p n kin obeyed m (Attach k) = received_attach kin obeyed m k
received p n kin obeyed m Down = received_down p n kin obeyed m

-- the outcome of an event of n takes its place
abbrev pub commit : State → ℕ → Outcome → State
commit st n o = record { net = with_event st.net n o.kin o.sends; obeyed = put_at st.obeyed n o.obeyed }

-- n takes the first of these packets, which are all from m; where there is none, nothing happens
abbrev pub receive : Plan → State → ℕ → ℕ → List Packet → State
receive p st n m [] = st
receive p st n m (q ∷ qs) = commit (record { net = with_link st.net m n qs; obeyed = st.obeyed }) n (received p n (st.net.kin n) (st.obeyed n) m q)

-- no command is issued yet
abbrev pub start : Plan → State
start p = record { net = start_overlay p; obeyed = λ n. [] }

-- the state after an event
abbrev pub step : Plan → State → CastEvent → State
step p st Issue = commit st (front p) (obey (st.net.kin (front p)) (st.obeyed (front p)) (suc (seen st (front p))))
step p st (Recv n m) = receive p st n m (st.net.link m n)
step p st (Lose n) = record { net = with_loss Down p st.net n; obeyed = st.obeyed }

-- whether an event may come, where there are this many commands
abbrev pub is_enabled : Plan → ℕ → State → CastEvent → Bool
is_enabled p commands st Issue = is_active p st.net (front p) && nat_lt (seen st (front p)) commands
is_enabled p commands st (Recv n m) = is_active p st.net n && is_pending (st.net.link m n)
is_enabled p commands st (Lose n) = st.net.alive n && is_doomed p st.net n

-- the events of a node that can be named, in order
abbrev pub events_of : Plan → ℕ → List CastEvent
events_of p n = Lose n ∷ ((if is_front p n then Issue ∷ [] else []) ++ map (λ m. Recv n m) (up_to (nodes p)))

-- those of the first nodes, by node
abbrev pub events_below : Plan → ℕ → List CastEvent
events_below p zero = []
events_below p (suc n) = events_below p n ++ events_of p n

-- the events that may come, in order
abbrev pub enabled_events : Plan → ℕ → State → List CastEvent
enabled_events p commands st = filter (is_enabled p commands st) (events_below p (nodes p))

-- the state after a journal
abbrev pub after : Plan → List CastEvent → State
after p journal = journals.run (step p) (start p) journal

-- each event of the journal may come where it comes
abbrev pub IsLegal : Plan → ℕ → List CastEvent → Type 0
IsLegal p commands journal = journals.IsLegalFrom (step p) (is_enabled p commands) (start p) journal

-- no event may come
abbrev pub IsQuiet : Plan → ℕ → State → Type 0
IsQuiet p commands st = journals.IsQuietState (is_enabled p commands) st
