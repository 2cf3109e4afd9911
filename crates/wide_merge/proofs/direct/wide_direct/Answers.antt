use Rattle.std.proofs.Common.{◌∙◌}
use Rattle.wide_merge.proofs.Waves.{all_are_waves}
use Rattle.wide_merge.proofs.direct.wide_direct.Goals as goal

pub wide_waves-requires-after_bounds : goal.wide_waves-requires-after_bounds
wide_waves-requires-after_bounds g c κs within = record {
  has = all_are_waves c.args.job.now.plan.now c.as_slice.result.now (c.as_slice.ensures.value ∙ c.in_ok-waves.ensures);
  some = c.requires.workers.0;
  few = c.requires.workers.1;
}
