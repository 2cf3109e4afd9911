-- A plan may be shared with other threads. The snapshot of its lines is nothing at all.
use denote.Param.Send.{IsSync, recorded_sync, sendable, struct_sync, view_sync}
use denote.Struct.Declared.{shape}
use Rattle.std.proofs.Crossing.{crosses}
use Rattle.call_path.proofs.CallPath.TheSendSync as path
use Rattle.rank_set.proofs.RankSet.TheSendSync as ranks
use Rattle.overlay_setup.proofs.script.Script.TheSendSync as script
use Rattle.overlay_setup.proofs.topology.Topology.TheSendSync as topology
use Rattle.stat_plan.proofs.parted_lines.PartedLines.TheSendSync as parted
use Rattle.stat_plan.specs.contracts.plan.Plan as Plan
use Rattle.stat_plan.specs.contracts.plan.Plan.TheInside as plan
use Rattle.stat_plan.specs.contracts.samples.Samples as Samples
use Rattle.stat_plan.specs.contracts.samples.Samples.TheInside as samples

samples_sync : IsSync Samples.the_row
samples_sync =
    view_sync samples.the_row _ _ _ _
    (recorded_sync samples.the_field.row _ _ samples.the_type.to_one
    (struct_sync (shape samples.the_type) (
      search (sendable, crosses, ranks.the_sync) depth 20,
      (
        search (sendable, crosses, path.the_sync) depth 20,
        (
          search (sendable, crosses, path.the_sync) depth 20,
          (
            search (sendable, crosses) depth 20,
            (
              search (sendable, crosses) depth 20,
              (
                search (sendable, crosses) depth 20,
                (parted.the_field_sync, tt),
              ),
            ),
          ),
        ),
      ),
    )))

pub plan_sync : IsSync Plan.the_row
plan_sync =
    view_sync plan.the_row _ _ _ _
    (recorded_sync plan.the_field.row _ _ plan.the_type.to_one
    (struct_sync (shape plan.the_type) (
      topology.the_sync,
      (
        samples_sync,
        (
          script.the_sync,
          (
            search (sendable, crosses) depth 20,
            (
              search (sendable, crosses, ranks.the_sync) depth 20,
              (search (sendable, crosses) depth 20, tt),
            ),
          ),
        ),
      ),
    )))
