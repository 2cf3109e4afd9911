use Rattle.std.proofs.Common.{refl}
use Rattle.packet_frame.proofs.Steps.{on_first}
use Rattle.packet_frame.proofs.reader.Reader.restart.Goals as goal

pub returns-clause-on : goal.returns-clause-on
returns-clause-on g c = on_first _ refl refl
