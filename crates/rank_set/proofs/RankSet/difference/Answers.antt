use Rattle.std.proofs.Common.{sym, ◌∙◌}
use Rattle.rank_set.proofs.RunWalks.{no_rest_of_subset}
use Rattle.rank_set.proofs.RankSet.difference.Goals as goal

pub returns-then-is_subset : goal.returns-then-is_subset
returns-then-is_subset c = c.new.ensures ∙ sym (no_rest_of_subset c.args.self.now c.args.other.now (sym c.is_subset.ensures ∙ c.if-is_subset.true))
