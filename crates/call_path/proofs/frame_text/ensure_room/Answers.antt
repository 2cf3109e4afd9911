use Rattle.std.proofs.Common.{ap, length, arith}
use Rattle.call_path.proofs.frame_text.ensure_room.Goals as goal

pub returns-clause-ends_room : goal.returns-clause-ends_room
returns-clause-ends_room c = omega (arith, c.if-as_slice-capacity.false, c.capacity.ensures.value, ap length c.as_slice.ensures)
