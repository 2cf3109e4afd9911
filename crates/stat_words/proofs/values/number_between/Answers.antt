use Rattle.std.proofs.Common.{◌∙◌, sym, arith}
use Rattle.stat_words.proofs.Digits.{number_is_above}
use Rattle.stat_words.proofs.values.number_between.Goals as goal

pub returns-in_default-clause-value : goal.returns-in_default-clause-value
returns-in_default-clause-value c =
    sym (number_is_above _ c.args.word.now c.in_default.field-0 c.args.low c.args.high (omega (arith, c.ranges.high.fits))
    (sym c.is_number.ensures ∙ c.if-not-is_number.false) c.in_default.ensures.value.0)
