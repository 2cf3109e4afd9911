use Rattle.std.proofs.Common.{not, ap, ◌∙◌}
use Rattle.rank_set.specs.Ranks.{Ranks, has, those}
use Rattle.rank_set.proofs.RunWalks.{rest_of_rest}
use Rattle.rank_set.proofs.RankSet.intersection.Goals as goal

pub returns : goal.returns
returns c =
    c.in_ok-both.ensures ∙ ap (λ (u : Ranks). those (λ r. not (has u r)) c.args.self.now) c.in_ok-others.ensures
    ∙ rest_of_rest c.args.self.now c.args.other.now
