use Rattle.std.proofs.Common.{rules, refl, ap, ◌∙◌, sym}
use Rattle.atomic_table.specs.declared.badge.Badge.{Badge}
use Rattle.board_turn.specs.declared.view.View.{View}
use Rattle.board_turn.proofs.Steps.{joins}
use Rattle.board_turn.proofs.Ends.{badge_view}
use Rattle.board_turn.proofs.turn.Turn.join.Goals as goal

pub join_seat-requires : goal.join_seat-requires
join_seat-requires g c = let o = c.args.other in let e = badge_view o.badge.views o.badge.views c.into_seat.result.me.0 refl c.into_seat.ensures.2 in (
  c.into_seat-table_seat.ensures.0 ∙ (ap (λ (b : Badge View). b.table_id) c.replace.ensures.value ∙ c.requires.seat_of_turn),
  c.into_seat.ensures.0 ∙ c.requires.other_of_turn,
  search rules,
  search rules,
  joins g.B.Board.journal g.B.Board.holders g.B.Board.base _ _ _ _ _ (ap (λ (v : View). v.spent) e ∙ o.living) (ap (λ (v : View). v.turn) e ∙ c.requires.has_no_turn) (λ is. c.requires.not_first (sym (ap (λ (v : View). v.number) e) ∙ is)),
)
