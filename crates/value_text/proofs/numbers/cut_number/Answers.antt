use Rattle.std.proofs.Common.{◌∙◌, ◌∷◌, ap}
use Rattle.value_text.proofs.UsualLines.{ends_plain, ends_minus}
use Rattle.value_text.proofs.numbers.cut_number.Goals as goal

pub returns-then-sign-eq45 : goal.returns-then-sign-eq45
returns-then-sign-eq45 c =
    ends_minus c.in_ok-sign.digits.now c.in_ok-size.rest.now c.in_ok-size.size c.signed.result c.in_ok-size.ensures.number c.in_ok-size.ensures.few c.in_ok-size.ensures.within_limit
    c.args.text.now (c.in_ok-sign.ensures.cases.0 ∙ ap (λ b. b ∷ c.in_ok-sign.digits.now) c.if-sign-eq45.true) c.signed.ensures

pub returns : goal.returns
returns c =
    ends_plain c.args.text.now c.in_ok-size-2.rest.now c.in_ok-size-2.size c.signed-2.result c.in_ok-size-2.ensures.number c.in_ok-size-2.ensures.few c.in_ok-size-2.ensures.within_limit c.signed-2.ensures
