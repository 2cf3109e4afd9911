use Rattle.std.proofs.Common.{arith}
use Rattle.rank_set.proofs.Trimming.{covers_itself}
use Rattle.rank_set.proofs.words.extend_to.Goals as goal

pub returns-then-high-offset-clause-ok : goal.returns-then-high-offset-clause-ok
returns-then-high-offset-clause-ok c =
    covers_itself c.args.offset.now c.args.words.now.items c.args.low c.args.high c.requires.trimmed c.requires.not_empty (omega (arith, c.if-offset-low.true)) (omega (arith, c.if-high-offset.true, c.len.ensures.value))
