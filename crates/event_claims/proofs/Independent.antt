-- What an enabled event finds is the same after independent events.
use Rattle.std.proofs.Common.{◌≡◌, true, List, [], ◌∷◌, refl, ◌∙◌}
use Rattle.std.specs.List.{AllByRecursion}
use Rattle.stat_plan.specs.Plans.{Plan}
use Rattle.overlay_event.specs.Events.{event_node}
use Rattle.overlay_event.specs.declared.event.Event.{Event}
use Rattle.overlay_core.specs.Machine.{State, step, is_enabled}
use Rattle.overlay_core.specs.Runs.{run}
use Rattle.overlay_core.specs.Independent.{AreIndependent}
use Rattle.overlay_core.proofs.Independent.{node_else, stays_enabled}
use Rattle.event_claims.specs.Claims.{FindsTheSame}
use Rattle.event_claims.proofs.Packets.{taken_else}

pub finds_same : (p : Plan) (st : State) (e f : Event) → AreIndependent e f → is_enabled p st e ≡ true → FindsTheSame p e st (step p st f)
finds_same p st e f independent en = record {
  node = node_else p st f (event_node e) independent.elsewhere;
  packet = taken_else p st e f independent en;
  enabled = (stays_enabled p st e f independent en).0;
}

pub finds_through : (p : Plan) (st : State) (e : Event) (fs : List Event) → AllByRecursion (AreIndependent e) fs → is_enabled p st e ≡ true → FindsTheSame p e st (run p st fs)
finds_through p st e [] independent en = record { node = refl; packet = refl; enabled = en }
finds_through p st e (f ∷ fs) independent en =
    let one = finds_same p st e f independent.0 en in
    let rest = finds_through p (step p st f) e fs independent.1 one.enabled in
    record { node = rest.node ∙ one.node; packet = rest.packet ∙ one.packet; enabled = rest.enabled }
