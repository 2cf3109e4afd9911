use Rattle.std.proofs.Common.{◌<◌, ◌==◌, sym, ap, subst, ◌∙◌, length, refl}
use Rattle.std.specs.Prelude.{find, slice_get}
use Rattle.std.proofs.lemmas.Option.{slice_get_read}
use Rattle.stat_plan.specs.Plans.{stream_of}
use Rattle.overlay_setup.specs.Scripts.{Stream}
use Rattle.stat_plan.proofs.plan.Plan.stream.Goals as goal

pub returns-in-Some : goal.returns-in-Some
unfolding stream_of
returns-in-Some c =
    ap (find (λ (x : Stream). x.number == c.args.s)) (sym c.streams.ensures) ∙ c.in-Some.ensures.1
    ∙ ap (λ xs. slice_get xs c.in-Some.i) (c.streams.ensures ∙ sym c.streams-in-Some.ensures)
    ∙ slice_get_read c.streams-in-Some.result.now (length c.streams-in-Some.result.now) c.in-Some.i c.index-streams-i.result refl
    (subst (λ xs. c.in-Some.i < length xs) (c.streams.ensures ∙ sym c.streams-in-Some.ensures) c.in-Some.ensures.0) c.index-streams-i.is

pub returns-in-None : goal.returns-in-None
unfolding stream_of
returns-in-None c = ap (find (λ (x : Stream). x.number == c.args.s)) (sym c.streams.ensures) ∙ c.in-None.ensures
