-- What a node has done with an event, as far as the net needs to know.
use Rattle.std.specs.Prelude.{◌≡◌, ℕ, List, [], ◌∷◌, ◌++◌, Option}
use Rattle.std.specs.List.{AllByRecursion}
use Rattle.stat_plan.specs.Plans.{Plan}
use Rattle.overlay_event.specs.declared.event.Event.{Event}
use Rattle.overlay_core.specs.TreeReleases.{TreeRelease, bare_releases}
use Rattle.overlay_node.specs.Frames.{IsFrame}
use Rattle.overlay_node.specs.Outputs.{ReleaseFits, packets_of}
use Rattle.overlay_node.specs.NodeViews.{ContinueNumbers, CountMore, IsNodeAfter, IsNodeOf, NodeView, outcome_at}
use Rattle.overlay_net.specs.Nets.{NetView, IsReachedBy}

-- the node x has become y, has sent this, and has released this
pub record HasHandled (p : Plan) (x y : NodeView) (e : Event) (packet : Option (List ℕ)) (sends : List (ℕ × (List ℕ))) (more : List TreeRelease) : Type 0 where
  pub number : y.number ≡ x.number
  pub node : IsNodeAfter p x y e packet
  pub sent : packets_of sends ≡ (outcome_at p x e packet).work.sends
  pub released : bare_releases more ≡ (outcome_at p x e packet).work.releases
  pub fits : IsNodeOf p y
  pub packets : AllByRecursion (λ v. IsFrame p v.1) sends
  pub trees : AllByRecursion (ReleaseFits p) more
  pub numbers : ContinueNumbers x.held more
  pub counts : CountMore x.held y.held more

-- if a journal leads to the old net, that journal with the event appended leads to the new one
abbrev pub ExtendsBy : Event → NetView → NetView → Type 0
ExtendsBy e old new = (journal : List Event) → IsReachedBy old journal → IsReachedBy new (journal ++ e ∷ [])
