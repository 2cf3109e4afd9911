use Rattle.std.proofs.Common.{◌∙◌, sym, ap, arith}
use Rattle.std.proofs.lemmas.List.{get_or_past}
use Rattle.value_text.specs.Numbers.{number_of}
use Rattle.value_text.specs.Views.{number_at}
use Rattle.value_text.proofs.Trimming.{number-view}
use Rattle.value_text.proofs.values.Values.number.Goals as goal

pub returns-then-rank-len : goal.returns-then-rank-len
returns-then-rank-len c =
    let v = c.self.inside in
    let past = get_or_past v.entries c.args.rank 0 (omega (arith, c.if-rank-len.true, c.len.ensures)) in
    sym (ap (number_at v.numbers.items) past) ∙ sym (number-view v.entries v.numbers.items c.args.rank) ∙ ap (λ n. number_of n c.args.rank) c.self.view_is

pub returns : goal.returns
returns c =
    let v = c.self.inside in
    c.number_at.ensures
    ∙ ap (λ ns. number_at ns c.number.result) c.as_slice.ensures.value
    ∙ ap (number_at v.numbers.items) c.number.ensures
    ∙ sym (number-view v.entries v.numbers.items c.args.rank)
    ∙ ap (λ n. number_of n c.args.rank) c.self.view_is
