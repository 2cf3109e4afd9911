use Rattle.std.proofs.Common.{◌∙◌, ◌+◌, ap, arith, sym}
use Rattle.std.specs.List.{list_all}
use Rattle.stack_text.specs.Texts.{hex_len, is_hex}
use Rattle.stack_text.proofs.DigitRuns.{passed_over}
use Rattle.stack_text.proofs.texts.behind_eight.Goals as goal

pub returns-then-are_hex-clause-hex : goal.returns-then-are_hex-clause-hex
returns-then-are_hex-clause-hex c =
    passed_over is_hex 8 c.args.text.now (omega (arith, c.in_ok-bytes.ensures.cases.2))
    (ap (list_all is_hex) (sym c.in_ok-bytes.ensures.cases.0) ∙ sym c.are_hex.ensures ∙ c.if-are_hex.true)
    ∙ ap (λ t. 8 + hex_len t) (sym c.in_ok-bytes.ensures.cases.1)
