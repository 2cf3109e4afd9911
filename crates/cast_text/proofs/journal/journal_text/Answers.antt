use Rattle.std.proofs.Common.{◌<◌, subst}
use Rattle.cast_text.proofs.Lines.{event_more}
use Rattle.cast_text.proofs.journal.journal_text.Goals as goal

pub loop-i-preserved : goal.loop-i-preserved
loop-i-preserved c =
    event_more c.args.plan.now c.args.journal.now c.loop-i.i c.at.result c.loop-i.out.items c.write_event.new.out.items (subst (λ n. c.loop-i.i < n) c.len-i-end.ensures c.loop-i-test.true) c.at.ensures c.loop-i.invariant c.in_ok-write_event.ensures
