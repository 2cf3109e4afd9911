-- The board that a held board lends.
use Rattle.std.specs.Borrow.{Lends, MutBor, Fml}
use denote.RattleType.{RattleType}
use Rattle.board_turn.specs.declared.turn.Held.{Held}
use Rattle.board_turn.specs.contracts.turn.Held.{the_row}

-- the held board with another board in it
abbrev pub with_board : {B : Type 0} → Held B → B → Held B
with_board h b = record h { board = b }

-- what is written through the reference is the held board's board afterwards
abbrev pub LendsBoard : (R : RattleType) → MutBor (Held R.Denot) → MutBor R.Denot → Fml
LendsBoard R h r = Lends (the_row R) R h r (with_board h.now)
