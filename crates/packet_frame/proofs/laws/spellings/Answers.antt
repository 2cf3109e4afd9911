use Rattle.std.specs.Prelude.{refl}
use Rattle.packet_frame.proofs.ReadRows.{one_spelling}
use Rattle.packet_frame.proofs.SpelledRows.{is_spelled_out}
use Rattle.packet_frame.proofs.laws.spellings.Goals as goal

pub returns : goal.returns
returns c = record { first = is_spelled_out 1 refl; second = is_spelled_out 2 refl; messages = one_spelling }
