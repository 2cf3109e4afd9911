-- A net of a cast as a value.
use Rattle.std.specs.Prelude.{◌≡◌, refl, ℕ, Bool, List, ◌⊎◌}
use Rattle.std.specs.Coded.{Coded, code_by, coded×, coded⊎, coded_bool, coded_list, coded_ℕ}
use mathlib.Core.Logic.{inl, inr}
use Rattle.stat_plan.specs.Codes.{coded_plan}
use Rattle.stat_plan.specs.Plans.{Plan}
use Rattle.node_inbox.specs.Inboxes.{InboxView, inbox_code}
use Rattle.control_cast.specs.Machine.{Packet, Cmd, Attach, Down, State}
use Rattle.control_cast.specs.CastNodes.{NodeView, coded_node}
use Rattle.control_cast.specs.CastNets.{state_with}

-- its plan, how many commands there are, the parts of its state, and whether memory has run out
pub record NetView : Type 0 where
  pub plan : Plan
  pub commands : ℕ
  pub alive : List Bool
  pub members : List NodeView
  pub inboxes : List (InboxView Packet)
  pub failed : Bool

-- the machine's state
abbrev pub cast_state : NetView → State
cast_state v = state_with v.plan v.alive v.members v.inboxes

-- ---- codes, by which a value is stored

abbrev packet_to : Packet → ℕ ⊎ (ℕ ⊎ ℕ)
packet_to (Cmd i) = inl i
packet_to (Attach k) = inr (inl k)
packet_to Down = inr (inr 0)

abbrev packet_from : ℕ ⊎ (ℕ ⊎ ℕ) → Packet
packet_from (inl i) = Cmd i
packet_from (inr (inl k)) = Attach k
packet_from (inr (inr z)) = Down

pub packet_back : (q : Packet) → packet_from (packet_to q) ≡ q
packet_back (Cmd i) = refl
packet_back (Attach k) = refl
packet_back Down = refl

abbrev pub coded_packet : Coded Packet
coded_packet = code_by (ℕ ⊎ (ℕ ⊎ ℕ)) (coded⊎ coded_ℕ (coded⊎ coded_ℕ coded_ℕ)) packet_to packet_from packet_back

abbrev pub coded_net : Coded NetView
coded_net =
    code_by (Plan × (ℕ × (List Bool × (List NodeView × (List (InboxView Packet) × Bool)))))
    (coded× coded_plan (coded× coded_ℕ (coded× (coded_list coded_bool) (coded× (coded_list coded_node) (coded× (coded_list (inbox_code coded_packet)) coded_bool)))))
    (λ v. (v.plan, (v.commands, (v.alive, (v.members, (v.inboxes, v.failed))))))
    (λ c. record { plan = c.0; commands = c.1.0; alive = c.1.1.0; members = c.1.1.1.0; inboxes = c.1.1.1.1.0; failed = c.1.1.1.1.1 })
    (λ _. refl)
