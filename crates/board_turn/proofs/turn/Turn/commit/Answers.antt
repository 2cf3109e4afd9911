use Rattle.std.proofs.Common.{List, [], ◌∷◌, ◌++◌, Option, None, slice_set, sym, ap, ◌∙◌}
use Rattle.atomic_table.specs.Table.{Me}
use Rattle.atomic_table.specs.declared.badge.Badge.{Badge}
use Rattle.board_turn.specs.declared.view.View.{View}
use Rattle.board_turn.specs.Known.{known_of}
use Rattle.overlay_event.specs.Events.{event_node}
use Rattle.overlay_event.specs.declared.event.Event.{Event}
use Rattle.board_turn.specs.declared.holding.Holding.{Holding}
use Rattle.board_turn.proofs.Ends.{badge_view, commit_badge, commit_view_saw}
use Rattle.board_turn.proofs.turn.Turn.commit.Goals as goal

pub into_badge-requires : goal.into_badge-requires
into_badge-requires g c = let v = badge_view c.args.seat.now.badge.views c.replace.result.views c.into_seat-table_seat.result.me.0 (ap (λ (b : Badge View). b.views) c.replace.ensures.value) c.into_seat-table_seat.ensures.2 in
    ap (λ (m : Me (Option g.row.B.Denot) View). m.1) (c.bring.ensures.table_seat.2 c.requires.committed.0 (ap (λ (z : View). z.out) v ∙ c.requires.committed.1)) ∙ c.into_seat-table_seat.ensures.3

pub invariant_of-seat : goal.invariant_of-seat
invariant_of-seat g c = let s = c.args.seat.now in let e = commit_badge c.args.seat.now.badge.views c.into_badge.result.views c.replace.result.views c.into_seat-table_seat.result.me c.bring.new.table_seat.me c.requires.committed.0 (ap (λ (b : Badge View). b.views) c.replace.ensures.value) c.into_seat-table_seat.ensures.2 c.requires.committed.1 c.bring.ensures.table_seat.2 c.into_badge.ensures.2 in record {
  one_view = c.into_badge.ensures.2 ∙ ap (λ (v : View). v ∷ []) (sym (ap known_of c.into_badge.ensures.2));
  number_is = s.number_is ∙ sym (ap (λ (v : View). v.number) e);
  made_is = s.made_is ∙ sym (ap (λ (v : View). v.made) e);
  living = ap (λ (v : View). v.spent) e ∙ s.living;
  settled = ap (λ (v : View). v.due) e;
  down = ap (λ (v : View). v.lifts) e ∙ s.down;
}

pub returns-clause-seat_of_turn : goal.returns-clause-seat_of_turn
returns-clause-seat_of_turn g c = c.into_badge.ensures.0 ∙ (c.bring.ensures.table_seat.0 ∙ (c.into_seat-table_seat.ensures.0 ∙ (ap (λ (b : Badge View). b.table_id) c.replace.ensures.value ∙ c.requires.seat_of_turn)))

pub returns-clause-taken : goal.returns-clause-taken
returns-clause-taken g c =
    let e = commit_badge c.args.seat.now.badge.views c.into_badge.result.views c.replace.result.views c.into_seat-table_seat.result.me c.bring.new.table_seat.me c.requires.committed.0 (ap (λ (b : Badge View). b.views) c.replace.ensures.value) c.into_seat-table_seat.ensures.2 c.requires.committed.1 c.bring.ensures.table_seat.2 c.into_badge.ensures.2 in
    let d = c.requires.committed in
    let s = commit_view_saw (known_of c.args.seat.now.badge.views) (known_of c.into_badge.result.views) d.0 e in
    let t = c.requires.taken in
    let same = c.of.ensures in record {
      turn = ap (λ (v : View). v.turn) e ∙ t.turn;
      journal = ap g.B.Board.journal same ∙ (d.2 ∙ (ap (λ (l : List Event). l ++ d.0.event ∷ []) t.journal ∙ sym s.0));
      holders = ap g.B.Board.holders same ∙ (d.3 ∙ (ap (λ (l : List (Option Holding)). slice_set l (event_node d.0.event) None) t.holders ∙ sym s.1));
      base = t.base;
    }

pub returns-clause-seat : goal.returns-clause-seat
returns-clause-seat g c =
    let e = commit_badge c.args.seat.now.badge.views c.into_badge.result.views c.replace.result.views c.into_seat-table_seat.result.me c.bring.new.table_seat.me c.requires.committed.0 (ap (λ (b : Badge View). b.views) c.replace.ensures.value) c.into_seat-table_seat.ensures.2 c.requires.committed.1 c.bring.ensures.table_seat.2 c.into_badge.ensures.2 in
    let d = c.requires.committed in
    let s = commit_view_saw (known_of c.args.seat.now.badge.views) (known_of c.into_badge.result.views) d.0 e in record {
      number = ap (λ (v : View). v.number) e;
      turn = ap (λ (v : View). v.turn) e;
      split = ap (λ (v : View). v.made) e;
      journal = s.2 ∙ sym (d.2 ∙ ap (λ (l : List Event). l ++ d.0.event ∷ []) c.requires.taken.journal);
      out = ap (λ (v : View). v.out) e;
    }
