use Rattle.stack_text.proofs.ThreadLines.{line_taken, lines_taken}
use Rattle.stack_text.proofs.threads.read_thread.Goals as goal

pub loop-line-preserved : goal.loop-line-preserved
loop-line-preserved c =
    line_taken _ _ _ _ _ _ _ c.loop-line.invariant c.in-Some.ensures.pieces c.read_line.ensures c.in_ok-take.ensures

pub returns : goal.returns
returns c = lines_taken _ _ _ c.loop-line.invariant c.in_default.ensures.pieces
