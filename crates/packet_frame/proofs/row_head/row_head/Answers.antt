use Rattle.std.proofs.Common.{sym, ◌∙◌}
use Rattle.packet_frame.proofs.Names.{text, right_of}
use Rattle.packet_frame.proofs.row_head.row_head.Goals as goal

pub from_utf8_unchecked-requires : goal.from_utf8_unchecked-requires
from_utf8_unchecked-requires c = text c.split_at-3.result.0.now (right_of _ _ (sym c.is_plain_name.ensures ∙ c.if-not-is_plain_name.false))
