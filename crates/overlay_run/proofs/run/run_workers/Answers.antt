use mir.Syntax.{named}
use denote.Exit.{no}
use denote.Param.{layout}
use denote.Param.Send.{arg_send, arg_sync, param_send, param_sync, sendable, shr_sync}
use Rattle.stat_plan.proofs.PlanSharing.{plan_sync}
use Rattle.std.proofs.Common.{◌∙◌, sym, subst}
use Rattle.std.proofs.lemmas.List.Elements.{All-get_or}
use Rattle.overlay_run.specs.Seats.{IsIdle}
use Rattle.overlay_run.proofs.Boards.{none_is_out}
use Rattle.overlay_run.proofs.Sending.{global_sync, job_sync, plan_turn_sync, turn_may_send}
use Rattle.overlay_run.proofs.run.run_workers.Goals as goal

pub new-requires-2-send-B : goal.new-requires-2-send-B
new-requires-2-send-B g c κs within = turn_may_send _ (record { mir = named 0; lft = _ }) _ g.T.PrefixTree c.type_bounds.send-T

pub new-requires-2-clause-all_home : goal.new-requires-2-clause-all_home
new-requires-2-clause-all_home g c κs within = none_is_out c.in_ok-board.board.holders _ c.in_ok-board.ensures.holders

pub map_vec-requires-sync-F : goal.map_vec-requires-sync-F
map_vec-requires-sync-F g c κs within =
    param_sync 4 _
    (arg_sync _ no _
    (job_sync _ _ _ _ _ _
    (shr_sync _ _ _ global_sync)
    (shr_sync _ _ _ plan_sync)
    (shr_sync _ _ _ c.type_bounds.sync-G)
    (shr_sync _ _ _ c.type_bounds.sync-R)
    (shr_sync _ _ _ (plan_turn_sync _ _ g.T.PrefixTree c.type_bounds.send-T))))

pub map_vec-requires-after_bounds : goal.map_vec-requires-after_bounds
map_vec-requires-after_bounds g c κs within i x low at = (
  (
    search (sendable, c.type_bounds.sync-R) depth 20,
    search (sendable, c.type_bounds.sync-G) depth 20,
    c.in_ok-turn.ensures.base ∙ c.in_ok-board.ensures.plan,
    subst (IsIdle c.in_ok-turn.turn) (sym at) (All-get_or (IsIdle c.in_ok-turn.turn) c.in_ok-seats.seats.items i x low c.in_ok-seats.ensures.seats),
  ),
  (
    param_send 1 _ (arg_send (layout g.row.T) no _ c.type_bounds.send-T),
    search (sendable, c.type_bounds.sync-R) depth 20,
    search (sendable, c.type_bounds.sync-G) depth 20,
  ),
)
