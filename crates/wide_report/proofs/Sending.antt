-- What writes a part of a report may cross to another thread.
use denote.RattleType.{RattleType}
use denote.Ref.{NamedLft}
use denote.Param.Send.{IsSend, IsSync, sendable}
use denote.Struct.Field.{u32-field}
use Rattle.std.proofs.Crossing.{crosses}
use Rattle.overlay_core.specs.contracts.release.Release as Release
use Rattle.stat_plan.proofs.PlanSharing.{plan_sync}
use Rattle.wide_report.specs.contracts.parts.Form as Form
use Rattle.wide_report.specs.contracts.report.WideReport as WideReport

pub report_sync : (κ : NamedLft) → IsSync (WideReport.the_row κ)
report_sync κ = search (sendable, crosses, plan_sync) depth 20

pub form_send : IsSend Form.the_row
form_send = search (sendable, crosses) depth 20

pub number_send : IsSend u32-field.row
number_send = search sendable depth 20

pub release_send : (T : RattleType) → IsSend T → IsSend (Release.the_row T)
release_send T tree = search (sendable, crosses) depth 20
