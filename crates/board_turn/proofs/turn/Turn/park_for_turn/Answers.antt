use Rattle.std.proofs.Common.{refl, ◌∙◌}
use Rattle.board_turn.proofs.Ends.{same_start}
use Rattle.board_turn.proofs.turn.Turn.park_for_turn.Goals as goal

pub returns-then-owner-eq0 : goal.returns-then-owner-eq0
returns-then-owner-eq0 g c = let e = c.try_turn-owner.ensures in let l = c.loop.invariant in
    (e.0 ∙ l.0, e.1 ∙ l.1, (λ _. same_start g.B.Board.journal g.B.Board.holders g.B.Board.base _ _ _ _ l.2 (e.2 c.if-owner-eq0.true)), λ ne. absurd (ne refl))
