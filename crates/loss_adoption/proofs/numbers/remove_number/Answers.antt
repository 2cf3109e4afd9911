use Rattle.std.proofs.Common.{rules, ◌∙◌, not, ◌==◌}
use Rattle.std.proofs.lemmas.Fn.{filter_same}
use Rattle.loss_adoption.proofs.NumberLists.{filtered_out}
use Rattle.loss_adoption.proofs.numbers.remove_number.Goals as goal

pub returns : goal.returns
returns c = filter_same _ (λ y. not (y == c.args.number)) _ (λ x b f' k. search rules) _ _ c.retain.ensures.filtered ∙ filtered_out c.args.number c.args.numbers.now.items
