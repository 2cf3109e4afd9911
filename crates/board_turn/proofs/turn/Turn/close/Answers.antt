use Rattle.std.proofs.Common.{List, length, refl, sym, ap, ◌∙◌}
use Rattle.overlay_event.specs.declared.event.Event.{Event}
use Rattle.board_turn.specs.declared.view.View.{View}
use Rattle.board_turn.specs.Turns.{known_state}
use Rattle.board_turn.proofs.Ends.{badge_view}
use Rattle.board_turn.proofs.Steps.{closes}
use Rattle.board_turn.proofs.turn.Turn.close.Goals as goal

pub prove-unreachable-requires : goal.prove-unreachable-requires
prove-unreachable-requires g c = let s = c.args.seat in let t = c.requires.taken in let e = badge_view s.badge.views s.badge.views c.into_seat.result.me.0 refl c.into_seat.ensures.2 in
    let word = closes g.B.Board.journal g.B.Board.holders g.B.Board.base c.args.self.table.shared.key.value _ _ c.into_seat.result.id c.into_seat.result.me.0 c.word-counted.result c.close_with-closed.ensures.values.2 (ap (λ (v : View). v.spent) e ∙ s.living) (ap (λ (v : View). v.turn) e ∙ t.turn) c.word-counted.ensures in
    c.if-prove.true (word ∙ (ap (λ (v : View). length (known_state v).journal) e ∙ (ap (λ (l : List Event). length l) (sym (c.requires.snapshot.journal ∙ t.journal)) ∙ sym c.count.ensures)))
