-- A node of a cast as a value.
use Rattle.std.specs.Prelude.{◌≡◌, ◌≢◌, ◌<◌, refl, ℕ, ⊤, true, List, [], ◌∷◌}
use Rattle.std.specs.Coded.{Coded, code_by, coded×, coded_ℕ}
use Rattle.stat_plan.specs.Plans.{Plan, front, is_related, nodes}
use Rattle.stat_plan.specs.Machine.Kin.{Kin}
use Rattle.loss_adoption.specs.NodeKins.{NodeKin, coded_kin}
use Rattle.loss_adoption.specs.declared.reaction.Reaction.{Reaction}
use Rattle.loss_adoption.specs.declared.reaction.Reaction.TheVariants.{Stay, NewParent}
use Rattle.control_cast.specs.Machine.{Packet, Cmd, Attach, Down, Outcome, numbers_after}

-- its number, its kin, how many commands it has obeyed, and how many events it has done
pub record NodeView : Type 0 where
  pub number : ℕ
  pub kin : Kin
  pub seen : ℕ
  pub count : ℕ

-- its number with its kin
abbrev pub node_kin : NodeView → NodeKin
node_kin x = record { node = x.number; kin = x.kin }

-- the commands that it has obeyed: the first, in order
abbrev pub obeyed_of : NodeView → List ℕ
obeyed_of x = numbers_after 0 x.seen

-- what an event left of a node that is now x, and of what it sent
abbrev pub left_of : NodeView → List (ℕ × Packet) → Outcome
left_of x sends = record { kin = x.kin; obeyed = obeyed_of x; sends = sends }

-- which packets of m a node may receive
abbrev pub MayReceive : Plan → ℕ → ℕ → Packet → Type 0
MayReceive p n m (Cmd i) = ⊤
MayReceive p n m (Attach k) = m < nodes p
MayReceive p n m Down = (is_related p n m ≡ true) × (m ≢ front p)

abbrev pub coded_node : Coded NodeView
coded_node = code_by (ℕ × (Kin × (ℕ × ℕ))) (coded× coded_ℕ (coded× coded_kin (coded× coded_ℕ coded_ℕ))) (λ n. (n.number, (n.kin, (n.seen, n.count)))) (λ c. record { number = c.0; kin = c.1.0; seen = c.1.1.0; count = c.1.1.1 }) (λ _. refl)

-- what a node sends that heard of a loss
abbrev pub reaction_sends : Reaction → ℕ → List (ℕ × Packet)
reaction_sends Stay seen = []
reaction_sends (NewParent m) seen = (m, Attach seen) ∷ []
