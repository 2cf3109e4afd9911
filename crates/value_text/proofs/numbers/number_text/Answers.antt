use Rattle.std.proofs.Common.{eq-eqb, ne_eqb}
use Rattle.value_text.proofs.NumberWords.{number_none, minus_read, plain_read, minus_none, plain_none}
use Rattle.value_text.proofs.numbers.number_text.Goals as goal

pub returns-in_default : goal.returns-in_default
returns-in_default c = number_none c.args.word.now c.in_default.ensures.cases

pub returns-in-Some-size_in : goal.returns-in-Some-size_in
returns-in-Some-size_in c =
    minus_read c.args.word.now c.in-Some.sign.now c.in-Some.digits.now c.in-Some.ensures.cases.0 c.in-Some-size_in.size c.in-Some-size_in.ensures.within_limit c.signed.result
    (eq-eqb c.in-Some.sign.now 45 c.if-sign-eq45.true) c.in-Some-size_in.ensures.value c.signed.ensures

pub returns-in-None : goal.returns-in-None
returns-in-None c = minus_none c.args.word.now c.in-Some.sign.now c.in-Some.digits.now c.in-Some.ensures.cases.0 (eq-eqb c.in-Some.sign.now 45 c.if-sign-eq45.true) c.in-None.ensures.value

pub returns-in-Some-size_in-2 : goal.returns-in-Some-size_in-2
returns-in-Some-size_in-2 c =
    plain_read c.args.word.now c.in-Some.sign.now c.in-Some.digits.now c.in-Some.ensures.cases.0 c.in-Some-size_in-2.size c.in-Some-size_in-2.ensures.within_limit c.signed-in-Some-size_in-2.result
    (ne_eqb c.in-Some.sign.now 45 c.if-sign-eq45.false) c.in-Some-size_in-2.ensures.value c.signed-in-Some-size_in-2.ensures

pub returns-in-None-size_in : goal.returns-in-None-size_in
returns-in-None-size_in c = plain_none c.args.word.now c.in-Some.sign.now c.in-Some.digits.now c.in-Some.ensures.cases.0 (ne_eqb c.in-Some.sign.now 45 c.if-sign-eq45.false) c.in-None-size_in.ensures.value
