use Rattle.std.proofs.Common.{rules, ◌≡◌, Option, Some, None, slice_get, ap, ◌∙◌, subst}
use Rattle.atomic_table.specs.Table.{Me}
use Rattle.overlay_event.specs.Events.{event_node}
use Rattle.board_turn.specs.Turns.{known_state}
use Rattle.overlay_event.specs.declared.event.Event.{Event}
use Rattle.board_turn.specs.declared.view.View.{View}
use Rattle.board_turn.proofs.Ends.{claim_ends, claim_saw}
use Rattle.board_turn.proofs.Steps.{marks, counts}
use Rattle.board_turn.proofs.turn.Turn.mark.Goals as goal

pub store-requires : goal.store-requires
store-requires g c = let l = c.requires.owner in (
  search rules,
  search rules,
  marks g.B.Board.journal g.B.Board.holders g.B.Board.base _ _ _ _ _ _ l.0 c.requires.number l.1 l.2 c.requires.nothing_out c.requires.within_limit
      (subst (λ (e : Event). slice_get (known_state c.args.table_seat.now.me.0).holders (event_node e) ≡ Some None) c.requires.event c.requires.node_home),
)

pub fetch_add-requires : goal.fetch_add-requires
fetch_add-requires g c = let l = c.requires.owner in let e = c.store.ensures.2 in let M : Type 0 = Me (Option g.row.B.Denot) View in
    (search rules, search rules, counts g.B.Board.journal g.B.Board.holders g.B.Board.base _ _ _ _ (ap (λ (m : M). m.0.spent) e ∙ l.0) (ap (λ (m : M). m.0.turn) e ∙ l.1) (ap (λ (m : M). m.0.due) e))

pub returns : goal.returns
returns g c = let ends = claim_ends c.args.table_seat.now.me c.store.new.seat.me c.fetch_add.new.seat.me c.args.event g.E.PicksEvent.event c.requires.event c.store.ensures.2 c.fetch_add.ensures.2 in let s = claim_saw c.args.table_seat.now.me c.fetch_add.new.seat.me c.args.event c.args.number c.requires.number ends in record {
  table_seat = (search rules, search rules, ends);
  seen = s.2;
  journal = s.0;
  claimed = s.1;
}
