-- A board may go to another thread, where its trees may.
use denote.RattleType.{RattleType}
use denote.Ref.{NamedLft}
use denote.Exit.{no}
use denote.Param.{arg, param}
use mir.Syntax.{Ty}
use denote.Param.Send.{IsSend, IsSync, arg_send, param_send, recorded_send, sendable, struct_send, view_send}
use denote.Param.SendFields.{as_row_sync, declared_sync}
use denote.Struct.Declared.{shape}
use denote.Struct.Field.{row_field}
use denote.Struct.Tuple.{TupleAt, type_at}
use Rattle.std.proofs.Common.{ℕ, List, [], ◌∷◌}
use Rattle.std.proofs.Crossing.{crosses}
use Rattle.std.specs.contracts.alloc.Global as Global
use Rattle.board_turn.specs.contracts.turn.Turn as Turn
use Rattle.board_turn.proofs.turn.Turn.TheSendSync as turn
use Rattle.board_turn.proofs.holding.Holding.TheSendSync as holding
use Rattle.overlay_net.proofs.Sending.{net_send}
use Rattle.prefix_tree.specs.declared.PrefixTree.{Ghosts}
use Rattle.overlay_event.proofs.journal.Journal.TheSendSync as journal
use Rattle.stat_plan.proofs.PlanSharing.{plan_sync}
use Rattle.overlay_run.specs.contracts.board.NetBoard as NetBoard
use Rattle.overlay_run.specs.contracts.board.NetBoardBoard.TheImpl as board
use Rattle.stat_plan.specs.contracts.plan.Plan as Plan
use Rattle.overlay_run.specs.contracts.board.NetBoard.TheInside as inside

pub board_send : (κ : NamedLft) (T : RattleType) (g : Ghosts T.Denot) → IsSend T → IsSend (NetBoard.the_row κ T g)
board_send κ T g s =
    view_send (inside.the_row κ T g) _ _ _ _
    (recorded_send (inside.the_field κ T g).row _ _ (inside.the_type κ T g).to_one
    (struct_send (shape (inside.the_type κ T g)) (
      search (sendable, plan_sync) depth 20,
      (net_send κ T g s, (journal.the_send, (search (sendable, crosses, holding.the_send) depth 20, (search sendable depth 20, (search sendable depth 20, (search sendable depth 20, (search sendable depth 20, tt))))))),
    )))

-- as the turn's calls ask it, whichever lifetime the plan has
pub turn_may_send : (δ : Ty) (κ : NamedLft) (T : RattleType) (g : Ghosts T.Denot) → IsSend T → IsSend (param 0 (arg δ no (NetBoard.the_row κ T g)))
turn_may_send δ κ T g s = param_send 0 _ (arg_send δ no _ (board_send κ T g s))

-- and the turn may be shared
pub plan_turn_sync : (κ : NamedLft) (T : RattleType) (g : Ghosts T.Denot) → IsSend T → IsSync (Turn.the_row (NetBoard.the_row κ T g) Plan.the_row (board.ghosts T g board.no_dict board.no_dict))
plan_turn_sync κ T g s = turn.the_sync (NetBoard.the_row κ T g) Plan.the_row (board.ghosts T g board.no_dict board.no_dict) (board_send κ T g s)

-- what a closure over five references shares
pub job_sync : (ν : List ℕ) (A B C D E : RattleType) → IsSync A → IsSync B → IsSync C → IsSync D → IsSync E → IsSync (TupleAt ν (A ∷ B ∷ C ∷ D ∷ E ∷ []))
job_sync ν A B C D E a b c d e = declared_sync (type_at ν (A ∷ B ∷ C ∷ D ∷ E ∷ [])) (as_row_sync (row_field A) a, (as_row_sync (row_field B) b, (as_row_sync (row_field C) c, (as_row_sync (row_field D) d, (as_row_sync (row_field E) e, tt)))))

pub global_sync : IsSync Global.the_row
global_sync = search (sendable, crosses) depth 20
