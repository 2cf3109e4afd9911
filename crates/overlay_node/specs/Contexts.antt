-- The context of a node, and the machine's steps in it.
use Rattle.std.specs.Prelude.{ℕ, List}
use Rattle.stat_plan.specs.Machine.Kin.{Kin}
use Rattle.stat_plan.specs.Machine.Waves.{Wave}
use Rattle.stat_plan.specs.declared.machine.Act.{Act}
use Rattle.loss_adoption.specs.NodeKins.{IsKinOf, NodeKin}
use Rattle.wave_resend.specs.Books.{WaveAt, book_of}
use Rattle.overlay_core.specs.Nodes.{Effects, Packet, act, dones}
use Rattle.overlay_node.specs.Outputs.{Sends}
use Rattle.overlay_node.specs.NodeViews.{AreHeldFits, HeldFits, HeldView, NodeView}
use Rattle.overlay_node.specs.Acting.{Steps, StepsWave, act_changed, act_fired, each_by, end, due_as, tick}
use Rattle.overlay_node.specs.declared.context.NodeContext.{NodeContext}
use Rattle.overlay_node.specs.declared.work.NodeWork.{NodeWork}
use Rattle.overlay_node.specs.declared.work.WaveWork.{WaveWork}

-- the node's kin
abbrev pub kin_of : NodeContext → Kin
kin_of context = context.kin.now.kin

-- the node's number
abbrev pub number_at : NodeContext → ℕ
number_at context = context.kin.now.node

-- it is the context of a node of its plan
abbrev pub IsNodeContext : NodeContext → Type 0
IsNodeContext context = IsKinOf context.plan.now context.kin.now

-- what is held of a wave fits the book
abbrev pub FitsAt : NodeContext → List WaveAt → HeldView → Type 0
FitsAt context b h = HeldFits context.plan.now (number_at context) h (book_of b h.stream h.wave)

-- what is held of each wave fits the book
abbrev pub AllFitAt : {X : Type 0} → NodeContext → NodeWork X → Type 0
AllFitAt context work = AreHeldFits context.plan.now (number_at context) (book_of work.work.book) work.held.items

-- what a step does to what is held of one wave, to the book and to the effects
abbrev pub StepsWaveAt : {X : Type 0} → NodeContext → (Effects → Effects) → HeldView → HeldView → WaveWork X → WaveWork X → Type 0
StepsWaveAt context does h g old new = StepsWave context.plan.now (number_at context) does h g old.book new.book old.effects new.effects

-- what a step does to all that an event changes
abbrev pub StepsAt : {X : Type 0} → NodeContext → (Effects → Effects) → NodeWork X → NodeWork X → Type 0
StepsAt context does old new = Steps context.plan.now (number_at context) does old new

-- frames of these packets were added
abbrev pub SendsAt : NodeContext → List (ℕ × Packet) → List (ℕ × List ℕ) → List (ℕ × List ℕ) → Type 0
SendsAt context more old new = Sends context.plan.now more old new

-- ---- the machine's steps

-- what is due
abbrev pub act_at : NodeContext → ℕ → ℕ → Effects → Effects
act_at context s w = act context.plan.now (number_at context) (kin_of context) s w

-- what is due for a wave in this state
abbrev pub due_in : NodeContext → ℕ → Wave → Act
due_in context s v = due_as context.plan.now (number_at context) (kin_of context).lost s v

-- a wave is changed, and then acted on
abbrev pub changed_at : NodeContext → ℕ → ℕ → (Wave → Wave) → Effects → Effects
changed_at context s w f = act_changed context.plan.now (number_at context) (kin_of context) s w f

-- a step for each of these waves, one after another
abbrev pub each_at : (ℕ → ℕ → Effects → Effects) → List (ℕ × ℕ) → Effects → Effects
each_at does vs = each_by does vs

-- all timers go on by one, and these waves are acted on if their timers have run out
abbrev pub tick_at : NodeContext → List (ℕ × ℕ) → Effects → Effects
tick_at context vs = tick context.plan.now (number_at context) (kin_of context) vs

-- a wave ends
abbrev pub end_at : NodeContext → ℕ → ℕ → Effects → Effects
end_at context s w = end context.plan.now (kin_of context) s w

-- a wave is acted on if its timer has run out
abbrev pub fired_at : NodeContext → ℕ → ℕ → Effects → Effects
fired_at context s w = act_fired context.plan.now (number_at context) (kin_of context) s w

-- Done to each child that serves the stream
abbrev pub dones_at : NodeContext → ℕ → ℕ → List (ℕ × Packet)
dones_at context s w = dones context.plan.now (kin_of context) s w

-- the node of these parts; how many events it has done is left out
abbrev pub node_with : NodeKin → List WaveAt → List HeldView → NodeView
node_with kin book held = record { number = kin.node; kin = kin.kin; book = book; held = held; count = 0 }

-- the node in the middle of an event
abbrev pub node_during : {X : Type 0} → NodeKin → NodeWork X → NodeView
node_during kin work = node_with kin work.work.book work.held.items
