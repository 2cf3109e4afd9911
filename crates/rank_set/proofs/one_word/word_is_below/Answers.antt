use Rattle.std.proofs.Common.{◌∙◌, sym, arith}
use Rattle.std.proofs.lemmas.Bool.{le-leb}
use Rattle.rank_set.proofs.OneWord.{below_whole, below_is}
use Rattle.rank_set.proofs.one_word.word_is_below.Goals as goal

pub returns-then-room-ge64 : goal.returns-then-room-ge64
returns-then-room-ge64 c = le-leb 64 c.saturating_sub-room.result c.if-room-ge64.true ∙ sym (below_whole c.args.index c.args.word c.args.count c.saturating_sub-room.result (omega arith) c.if-room-ge64.true)

pub returns-else-room-ge64 : goal.returns-else-room-ge64
returns-else-room-ge64 c = below_is c.args.index c.args.word c.args.count c.saturating_sub-room.result (omega arith) (omega arith)
