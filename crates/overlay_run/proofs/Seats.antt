-- What a seat knows of its claim.
use Rattle.std.proofs.Common.{◌≡◌, ◌∙◌, ℕ, false, List, length, slice_get, Some, None, sym, ap, subst}
use mathlib.Core.List.{IsPrefix}
use Rattle.overlay_event.specs.declared.event.Event.{Event}
use Rattle.overlay_event.specs.Events.{event_node}
use Rattle.stat_plan.specs.Plans.{Plan}
use Rattle.board_turn.specs.declared.holding.Holding.{Holding}
use Rattle.board_turn.specs.declared.turn.Turn.{Turn}
use Rattle.board_turn.specs.declared.turn.TurnSeat.{TurnSeat}
use Rattle.board_turn.specs.Entries.{holding, IsUnmoved}
use Rattle.board_turn.specs.Seats.{HasView, IsSeatOf, SeatView, has_turn, seat_journal, seat_number, seat_out}
use Rattle.overlay_core.specs.Machine.{State}
use Rattle.overlay_core.specs.Runs.{after}
use Rattle.overlay_net.specs.Claims.{ClaimView, FitsNet, IsMovedOut, IsSameClaim, MayBeWorked}
use Rattle.overlay_net.proofs.Fitting.{moved_same, worked_same}
use Rattle.overlay_run.specs.Boards.{BoardView, IsBoard, IsHeldBy}
use Rattle.overlay_run.specs.Seats.{IsAway, IsClaimAfter, IsIdle, plan_of}
use Rattle.overlay_run.proofs.Boards.{claim_fits}

-- a seat that has claimed an event has the claim
pub is_away : (t : Turn BoardView Plan) (s : TurnSeat) (b : BoardView) (c : ClaimView) (k : ℕ) (e : Event) (j : List Event) → IsSeatOf t s → has_turn s ≡ false → seat_number s ≡ k → seat_out s ≡ Some (holding k e (length j)) → seat_journal s ≡ j → j ≡ b.journal → e ≡ c.event → FitsNet b.net c → IsBoard b
    → b.plan ≡ plan_of t → IsAway t s c
is_away t s b c k e j mine rests number out saw journal event fits board base =
    let plan : b.net.plan ≡ plan_of t = board.same_plan ∙ base in
    let seen : seat_journal s ≡ b.journal = saw ∙ journal in
    let moved : IsMovedOut b.net.plan (after b.net.plan b.journal) c = subst (λ (st : State). IsMovedOut b.net.plan st c) board.reached.state fits.moved in
    record {
      at_rest = record { seat_of_turn = mine; has_no_turn = rests };
      has_claim = record {
        holding = holding k e (length j);
        is_out = out;
        own = sym number;
        claim = record {
          event = event;
          since = ap length (sym saw);
          moved = subst (λ l. IsMovedOut (plan_of t) (after (plan_of t) l) c) (sym seen) (subst (λ p. IsMovedOut p (after p b.journal) c) plan moved);
          worked = subst (λ p. MayBeWorked p c) plan fits.worked;
        };
      };
    }

-- its claim fits the net of the board that it takes
pub away_fits : (t : Turn BoardView Plan) (s : TurnSeat) (b now : BoardView) (c : ClaimView) → IsAway t s c → IsBoard b → b.plan ≡ plan_of t → now ≡ b → IsPrefix (seat_journal s) b.journal
    → ((h : Holding) → seat_out s ≡ Some h → slice_get b.holders (event_node h.event) ≡ Some (Some h))
    → ((h : Holding) → seat_out s ≡ Some h → IsUnmoved b.journal h)
    → FitsNet now.net c
away_fits t s b now c away board base same pre there unmoved =
    let h = away.has_claim.holding in
    let claim : IsClaimAfter b.plan (seat_journal s) h c = subst (λ p. IsClaimAfter p (seat_journal s) h c) (sym base) away.has_claim.claim in
    subst (λ (v : BoardView). FitsNet v.net c) (sym same) (claim_fits b (seat_journal s) h c board claim pre (there h away.has_claim.is_out) (unmoved h away.has_claim.is_out))

-- and it is the holder there
pub away_holds : (t : Turn BoardView Plan) (s : TurnSeat) (b now : BoardView) (c : ClaimView) (k : ℕ) → IsAway t s c → now ≡ b → k ≡ seat_number s
    → ((h : Holding) → seat_out s ≡ Some h → slice_get b.holders (event_node h.event) ≡ Some (Some h))
    → IsHeldBy now.holders (event_node c.event) k c.event
away_holds t s b now c k away same number there =
    let h = away.has_claim.holding in
    let place : event_node h.event ≡ event_node c.event = ap event_node away.has_claim.claim.event in
    record {
      holding = h;
      at = subst (λ (v : BoardView). slice_get v.holders (event_node c.event) ≡ Some (Some h)) (sym same) (subst (λ n. slice_get b.holders n ≡ Some (Some h)) place (there h away.has_claim.is_out));
      seat_is = away.has_claim.own ∙ sym number;
      event_is = away.has_claim.claim.event;
    }

-- a seat has its claim also once it was worked on
pub still_away : (t : Turn BoardView Plan) (s : TurnSeat) (c d : ClaimView) → IsAway t s c → IsSameClaim c d → IsAway t s d
still_away t s c d away same =
    let p = plan_of t in
    record {
      at_rest = away.at_rest;
      has_claim = record {
        holding = away.has_claim.holding;
        is_out = away.has_claim.is_out;
        own = away.has_claim.own;
        claim = record {
          event = away.has_claim.claim.event ∙ sym same.event;
          since = away.has_claim.claim.since;
          moved = moved_same p (after p (seat_journal s)) c d same away.has_claim.claim.moved;
          worked = worked_same p c d same away.has_claim.claim.worked;
        };
      };
    }

-- a seat that was split off is idle
pub new_is_idle : (t : Turn BoardView Plan) (s : TurnSeat) (v : SeatView) → IsSeatOf t s → HasView s v → v.turn ≡ false → v.out ≡ None → IsIdle t s
new_is_idle t s v mine seen turn out = record { at_rest = record { seat_of_turn = mine; has_no_turn = seen.turn ∙ turn }; nothing_out = seen.out ∙ out }
