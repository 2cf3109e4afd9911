use Rattle.stat_plan.specs.Machine.Waves.{growing}
use Rattle.wave_resend.proofs.Setting.{growing_open, stays_open}
use Rattle.node_tests.proofs.wave_resend_tests.grow.Goals as goal

pub returns : goal.returns
returns c = stays_open (growing _) c.args.s c.args.w c.args.book.now c.grew.new.self (growing_open _) c.in_ok-grew.ensures.ok c.requires
