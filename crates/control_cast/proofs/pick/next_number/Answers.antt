use Rattle.std.proofs.Math.Nat.{mod-add-mod}
use Rattle.std.proofs.Common.{◌*◌, ◌^◌}
use Rattle.stat_plan.specs.Machine.Journals.{next_number}
use Rattle.control_cast.proofs.pick.next_number.Goals as goal

pub returns : goal.returns
unfolding next_number
returns c = mod-add-mod (c.args.x * 6364136223846793005) (2 ^ 64) 1442695040888963407
