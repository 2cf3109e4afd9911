use Rattle.std.proofs.Common.{ap, Err}
use Rattle.merge_filter.proofs.Standing.{has_room, united, united_covers}
use Rattle.merge_filter.proofs.Contribution.absorb_or_clear.Goals as goal

pub unreachable-requires : goal.unreachable-requires
unreachable-requires g c =
    has_room c.args.plan.now c.args.self.now c.args.other.now _ _ c.self.view_is c.other.view_is c.requires.partial_merge c.requires.other c.requires.stream c.requires.wave c.invariant.ensures
    (c.in-Err-TooManyPrefixes.ensures.full (ap Err c.in-Err-TooManyPrefixes.field-0-is))

pub returns-clause-partial_merge : goal.returns-clause-partial_merge
returns-clause-partial_merge g c =
    united c.args.plan.now c.args.self.now c.args.other.now _ _ c.self.view_is c.other.view_is c.requires.partial_merge c.requires.other c.requires.stream c.requires.wave (g.T.PrefixTree.tree c.merge_or_clear.new.self) c.in-Ok.ensures.ok

pub returns-clause-coverage : goal.returns-clause-coverage
returns-clause-coverage g c =
    united_covers c.args.plan.now c.args.self.now c.args.other.now _ _ c.self.view_is c.other.view_is c.requires.partial_merge c.requires.other c.requires.stream c.requires.wave (g.T.PrefixTree.tree c.merge_or_clear.new.self) c.in-Ok.ensures.ok
