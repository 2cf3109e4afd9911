use Rattle.rank_table.proofs.Numbers.{same_at}
use Rattle.rank_table.specs.Numbers.{numbers_of}
use Rattle.std.proofs.Common.{◌∙◌, sym, ap, get_or}
use Rattle.rank_table.proofs.number_in.Goals as goal

pub returns-in-Same : goal.returns-in-Same
returns-in-Same c = sym (ap (λ w. get_or (numbers_of w) c.args.place 0) c.in-Same.is ∙ same_at c.in-Same.number c.args.place c.requires)
