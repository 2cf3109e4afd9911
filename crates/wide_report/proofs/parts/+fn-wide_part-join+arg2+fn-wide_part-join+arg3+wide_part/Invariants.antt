use Rattle.wide_report.proofs.parts.+fn-wide_part-join+arg2+fn-wide_part-join+arg3+wide_part.Given as goal

abbrev pub decreases-join+arg2 : goal.decreases-join+arg2
decreases-join+arg2 g l = l.fewer

abbrev pub decreases-join+arg3 : goal.decreases-join+arg3
decreases-join+arg3 g l = l.more

abbrev pub decreases-wide_part : goal.decreases-wide_part
decreases-wide_part g l = l.workers
