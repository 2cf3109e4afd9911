use Rattle.cast_text.proofs.Lines.{kept_text}
use Rattle.cast_text.proofs.report.next_ranks.Goals as goal

pub returns-then-not-any_stopped : goal.returns-then-not-any_stopped
returns-then-not-any_stopped c =
    kept_text c.args.net.now c.args.i c.args.daemons.now c.any_stopped.result c.args.ranks.items c.if-i-gt0.true c.requires.daemons c.any_stopped.ensures c.if-not-any_stopped.true (c.requires.before c.if-i-gt0.true)
