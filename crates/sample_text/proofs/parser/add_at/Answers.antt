use Rattle.std.proofs.Common.{◌∙◌, ap, set}
use Rattle.rank_set.specs.Ranks.{union}
use Rattle.sample_text.proofs.Sets.{add_at_set}
use Rattle.sample_text.proofs.parser.add_at.Goals as goal

pub returns : goal.returns
returns c =
    ap (set c.args.sets.now.items c.args.n) (c.in_ok-union_into.ensures.ok ∙ ap (λ x. union x c.args.ranks.now) c.index_mut.ensures.value)
    ∙ add_at_set c.args.sets.now.items c.args.n c.index_mut.result.now c.args.ranks.now c.requires
