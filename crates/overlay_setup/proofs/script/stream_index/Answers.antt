use Rattle.std.proofs.Common.{◌==◌, sym, ap, ◌∙◌, eq-eqb, get_or}
use Rattle.std.proofs.lemmas.Option.{slice_get-get_or}
use Rattle.overlay_setup.specs.Scripts.{Stream}
use Rattle.overlay_setup.proofs.Finding.{find-here}
use Rattle.overlay_setup.proofs.script.stream_index.Goals as goal

pub returns-then-number-s : goal.returns-then-number-s
returns-then-number-s c =
    let number = ap (λ (x : Stream). x.number) (sym c.index-streams-i.is) ∙ sym c.number.ensures ∙ c.if-number-s.true in (
      c.loop-i-test.true,
      find-here (λ (x : Stream). x.number == c.args.s) c.args.streams.now c.loop-i.i c.index-streams-i.result c.loop-i-test.true c.loop-i.invariant (eq-eqb (get_or c.args.streams.now c.loop-i.i c.index-streams-i.result).number c.args.s number)
          ∙ sym (slice_get-get_or c.args.streams.now c.loop-i.i c.index-streams-i.result c.loop-i-test.true),
    )
