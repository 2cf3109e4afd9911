-- Waves that are to be merged may be shared with another thread, where their gate may.
use denote.RattleType.{RattleType}
use denote.Ref.{NamedLft}
use denote.Param.Send.{IsSend, IsSync, sendable}
use denote.Param.SendFields.{as_row_send, declared_send}
use denote.Param.{param}
use denote.Struct.Field.{row_field, u8-field, u32-field}
use denote.Struct.Tuple.{Tuple, TupleAt, type_at}
use Rattle.std.proofs.Common.{ℕ, List, [], ◌∷◌}
use Rattle.core.specs.contracts.marker.ClosureMark as ClosureMark
use Rattle.std.proofs.Crossing.{crosses}
use Rattle.wide_merge.specs.contracts.direct.WideDirect as WideDirect
use Rattle.wide_merge.specs.contracts.parts.WideMerge as WideMerge
use Rattle.stat_plan.proofs.PlanSharing.{plan_sync}

pub merge_sync : (κ : NamedLft) (G : RattleType) → IsSync G → IsSync (WideMerge.the_row κ G)
merge_sync κ G gate = search (sendable, crosses, plan_sync) depth 20

pub direct_sync : (κ : NamedLft) (G : RattleType) → IsSync G → IsSync (WideDirect.the_row κ G)
direct_sync κ G gate = search (sendable, crosses, plan_sync) depth 20

pub wave_sync : IsSync (Tuple (u8-field.row ∷ u8-field.row ∷ []))
wave_sync = search (sendable, crosses) depth 20

pub number_sync : IsSync u32-field.row
number_sync = search sendable depth 20

-- what marks a closure that a type parameter is of
pub mark_send : (T : RattleType) → IsSend (ClosureMark.the_row (Tuple (param 1 T ∷ [])))
mark_send T = search (sendable, crosses) depth 20

-- what a closure over five values sends
pub job_send : (ν : List ℕ) (A B C D E : RattleType) → IsSend A → IsSend B → IsSend C → IsSend D → IsSend E → IsSend (TupleAt ν (A ∷ B ∷ C ∷ D ∷ E ∷ []))
job_send ν A B C D E a b c d e = declared_send (type_at ν (A ∷ B ∷ C ∷ D ∷ E ∷ [])) (as_row_send (row_field A) a, (as_row_send (row_field B) b, (as_row_send (row_field C) c, (as_row_send (row_field D) d, (as_row_send (row_field E) e, tt)))))
