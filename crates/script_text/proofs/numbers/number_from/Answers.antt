use Rattle.std.proofs.Common.{◌∙◌, sym, ap, Err}
use Rattle.script_text.proofs.Ranges.{number_none, number_less, number_more, number_good}
use Rattle.script_text.proofs.numbers.number_from.Goals as goal

pub returns-in_default-clause-err : goal.returns-in_default-clause-err
returns-in_default-clause-err c = number_none c.args.line_number c.args.least c.args.most c.args.more c.args.word.now c.in_default.ensures ∙ ap Err (sym c.bad.ensures)

pub returns-then-n-least-clause-err : goal.returns-then-n-least-clause-err
returns-then-n-least-clause-err c =
    number_less c.args.line_number c.args.least c.args.most c.args.more c.args.word.now c.in-Some.n c.in-Some.ensures c.if-n-least.true c.requires.order ∙ ap Err (sym c.bad-then-n-least.ensures)

pub returns-then-n-most-clause-err : goal.returns-then-n-most-clause-err
returns-then-n-most-clause-err c = number_more c.args.line_number c.args.least c.args.most c.args.more c.args.word.now c.in-Some.n c.in-Some.ensures c.if-n-most.true c.if-n-least.false c.requires.order

pub returns-clause-ok : goal.returns-clause-ok
returns-clause-ok c = number_good c.args.line_number c.args.least c.args.most c.args.more c.args.word.now c.in-Some.n c.in-Some.ensures c.if-n-least.false c.if-n-most.false
