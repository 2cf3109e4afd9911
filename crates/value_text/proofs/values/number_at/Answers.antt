use Rattle.std.proofs.Common.{◌≡◌, ◌∙◌, suc, sym, ap, arith}
use Rattle.value_text.specs.Views.{number_at}
use Rattle.value_text.proofs.Entries.{copied_item}
use Rattle.value_text.proofs.values.number_at.Goals as goal

pub returns-in_err-index : goal.returns-in_err-index
returns-in_err-index c =
    let none : c.args.entry ≡ 0 = omega (arith, c.in_err-index.ensures) in
    c.from_residual.ensures ∙ sym (ap (number_at c.args.numbers.now) none)

pub returns : goal.returns
returns c =
    let entry : suc c.in_ok-index.index ≡ c.args.entry = (let i = c.in_ok-index.ensures in omega (arith, i)) in
    c.copied.ensures
    ∙ copied_item c.args.numbers.now c.in_ok-index.index c.get.result c.get.ensures.lookup
    ∙ ap (number_at c.args.numbers.now) entry
