use Rattle.std.proofs.Common.{sym, subst, List, false}
use Rattle.overlay_event.specs.declared.event.Event.{Event}
use Rattle.overlay_run.specs.Boards.{IsBoard, board_view}
use Rattle.overlay_run.proofs.Boards.{new_board, new_count, new_holders}
use Rattle.overlay_run.proofs.board.NetBoard.new.Goals as goal

pub invariant_of-result : goal.invariant_of-result
invariant_of-result g c =
    let p = c.args.plan.now in
    let holders = new_holders p c.nodes.result c.in_ok-holders.holders.items c.nodes.ensures c.in_ok-holders.ensures in
    let net = c.in_ok-net.ensures in (
      subst (λ (j : List Event). IsBoard (board_view p c.in_ok-net.net j c.in_ok-holders.holders.items false)) (sym c.new-2.ensures)
          (new_board p c.in_ok-net.net c.in_ok-holders.holders.items net.plan net.usable net.start net.home holders),
      new_count p c.in_ok-holders.holders.items holders,
    )
