-- The packet that an event takes stays the first of its link while other events come.
use Rattle.std.proofs.Common.{◌≡◌, true, refl}
use Rattle.std.proofs.lemmas.Bool.{and_parts}
use Rattle.stat_plan.specs.Plans.{Plan}
use Rattle.overlay_event.specs.declared.event.Event.{Event}
use Rattle.overlay_event.specs.declared.event.Event.TheVariants.{Sample, Recv, Tick, Lose}
use Rattle.overlay_core.specs.Machine.{State, step, is_enabled}
use Rattle.overlay_core.specs.Independent.{taken, AreIndependent}
use Rattle.overlay_core.proofs.Independent.{first_else}

-- an event takes the same packet after an independent one
pub taken_else : (p : Plan) (st : State) (e f : Event) → AreIndependent e f → is_enabled p st e ≡ true → taken (step p st f) e ≡ taken st e
taken_else p st (Sample n s w) f independent en = refl
taken_else p st (Recv n m) f independent en = first_else p st f n m independent.elsewhere (independent.keeps_sender m refl) (and_parts _ _ en).1
taken_else p st (Tick n) f independent en = refl
taken_else p st (Lose n) f independent en = refl
