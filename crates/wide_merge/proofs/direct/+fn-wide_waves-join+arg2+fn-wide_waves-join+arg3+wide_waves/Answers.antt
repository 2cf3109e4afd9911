use Rattle.std.proofs.Common.{◌/◌, ◌-◌, rules, arith}
use denote.Exit.{no}
use denote.Param.{param}
use denote.Param.Send.{IsSync, arg_send, param_send, sendable, shr_send, shr_slice_send}
use Rattle.wide_merge.proofs.Sending.{direct_sync, job_send, mark_send, number_sync, wave_sync}
use Rattle.wide_merge.proofs.Waves.{back_may, front_may}
use Rattle.wide_merge.proofs.direct.+fn-wide_waves-join+arg2+fn-wide_waves-join+arg3+wide_waves.Goals as goal

pub join-all-requires-send-F : goal.join-all-requires-send-F
join-all-requires-send-F g t c κs within =
    let rt : IsSync (param 0 g.row.R) = search sendable depth 20 in
    let gate : IsSync (param 2 g.row.G) = search sendable depth 20 in
    param_send 1 _
    (arg_send _ no _
    (job_send _ _ _ _ _ _
    (shr_send _ _ _ rt)
    (shr_send _ _ _ (direct_sync _ _ gate))
    (shr_slice_send _ _ _ wave_sync)
    (shr_send _ _ _ number_sync)
    (mark_send g.row.T)))

pub join-all-requires-after_bounds : goal.join-all-requires-after_bounds
join-all-requires-after_bounds g t c κs within =
    let p = c.args.job.now.plan.now in
    let workers = c.args.workers in
    let front = front_may p c.args.waves.now c.split_at.result.0.now c.split_at.result.1.now workers (workers / 2) c.requires c.split_at.ensures.by_index.0 (omega (arith, c.if-workers-lt2.false)) (omega (arith, c.if-workers-lt2.false)) in
    let back = back_may p c.args.waves.now c.split_at.result.0.now c.split_at.result.1.now workers (workers - workers / 2) c.requires c.split_at.ensures.by_index.0 (omega (arith, c.if-workers-lt2.false)) (omega (arith, c.if-workers-lt2.false)) in (
      (search rules, (search rules, (search rules, (search rules, ((search sendable depth 20, search sendable depth 20, search sendable depth 20, front), (search sendable depth 20, search sendable depth 20, search sendable depth 20)))))),
      (search rules, (search rules, (search rules, (search rules, ((search sendable depth 20, search sendable depth 20, search sendable depth 20, back), (search sendable depth 20, search sendable depth 20, search sendable depth 20)))))),
    )
