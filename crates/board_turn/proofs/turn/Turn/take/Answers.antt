use Rattle.std.proofs.Common.{◌≡◌, false, List, ◌++◌, sym, ap, ◌∙◌, subst}
use Rattle.atomic_table.specs.declared.badge.Badge.{Badge}
use Rattle.board_turn.specs.declared.view.View.{View}
use Rattle.board_turn.specs.Known.{known_of}
use Rattle.board_turn.specs.Turns.{with_lift, seen_state, known_state}
use Rattle.board_turn.proofs.Ends.{badge_view, taken_facts, Taken}
use Rattle.board_turn.proofs.turn.Turn.take.Goals as goal

facts : (g : _) (c : goal.After-of-snapshot g) → Taken g.B.Board.journal g.B.Board.holders g.B.Board.base c.args.self.now.table.shared.key.value c.into_seat-table_seat.result.me.0 c.fetch-board.ensures.fetched.0 c.fetch-board.result
facts g c = taken_facts g.B.Board.journal g.B.Board.holders g.B.Board.base _ _ _ _ c.fetch-board.ensures.fetched.2

pub returns-clause-prefix : goal.returns-clause-prefix
returns-clause-prefix g c = let e = badge_view c.args.seat.now.badge.views c.replace.result.views c.into_seat-table_seat.result.me.0 (ap (λ (b : Badge View). b.views) c.replace.ensures.value) c.into_seat-table_seat.ensures.2 in
    subst (λ (v : View). (x : List _) × ((seen_state v).journal ++ x ≡ g.B.Board.journal c.fetch-board.result)) e (facts g c).later

pub returns-clause-seat_of_turn : goal.returns-clause-seat_of_turn
returns-clause-seat_of_turn g c = c.into_badge.ensures.0 ∙ (c.fetch-board.ensures.table_seat.0 ∙ (c.into_seat-table_seat.ensures.0 ∙ (ap (λ (b : Badge View). b.table_id) c.replace.ensures.value ∙ c.requires.seat_of_turn)))

pub returns-clause-taken : goal.returns-clause-taken
returns-clause-taken g c = let f = facts g c in let k = f.keeps in let same = c.of-snapshot.ensures in let w : View = c.fetch-board.ensures.fetched.0 in
    let e : known_of c.into_badge.result.views ≡ with_lift w false = ap known_of c.into_badge.ensures.2 ∙ c.fetch-board.ensures.fetched.1 in record {
      turn = ap (λ (v : View). v.turn) e ∙ f.turn;
      journal = ap g.B.Board.journal same ∙ (k.0 ∙ ap (λ (v : View). (known_state v).journal) (sym e));
      holders = ap g.B.Board.holders same ∙ (k.1 ∙ ap (λ (v : View). (known_state v).holders) (sym e));
      base = k.2;
    }

pub returns-clause-snapshot : goal.returns-clause-snapshot
returns-clause-snapshot g c = let same = c.of-snapshot.ensures in record {
  journal = sym (ap g.B.Board.journal same);
  holders = sym (ap g.B.Board.holders same);
}
