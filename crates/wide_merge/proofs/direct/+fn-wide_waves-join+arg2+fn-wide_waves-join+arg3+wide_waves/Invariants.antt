use Rattle.wide_merge.proofs.direct.+fn-wide_waves-join+arg2+fn-wide_waves-join+arg3+wide_waves.Given as goal

abbrev pub decreases-join+arg2 : goal.decreases-join+arg2
decreases-join+arg2 g l = l.fewer

abbrev pub decreases-join+arg3 : goal.decreases-join+arg3
decreases-join+arg3 g l = l.more

abbrev pub decreases-wide_waves : goal.decreases-wide_waves
decreases-wide_waves g l = l.workers
