use Rattle.std.proofs.Common.{rules, arith, ◌<◌, ◌+◌, ◌^◌}
use Rattle.packet_frame.proofs.scan.Scan.obeys.Goals as goal

pub overflow_cast-index : goal.overflow_cast-index
overflow_cast-index g c = let le = c.requires.fits in let lt : c.len.result < 2 ^ 32 = omega (arith, le) in search rules

pub overflow_add-index : goal.overflow_add-index
overflow_add-index g c = let le = c.requires.fits in let lt : c.from.result + c.len.result < 2 ^ 32 = omega (arith, le) in search rules
