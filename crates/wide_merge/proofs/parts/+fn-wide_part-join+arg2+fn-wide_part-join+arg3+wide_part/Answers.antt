use Rattle.std.proofs.Common.{rules}
use denote.Exit.{no}
use denote.Param.{param}
use denote.Param.Send.{IsSync, arg_send, param_send, sendable, shr_send, shr_slice_send}
use Rattle.std.proofs.lemmas.Result.{IfOk-at_ok}
use Rattle.wide_merge.specs.Parts.{IsPartOf}
use Rattle.wide_merge.proofs.Sending.{job_send, mark_send, merge_sync, number_sync}
use Rattle.wide_merge.proofs.Halves.{back_may, front_may, whole_is}
use Rattle.wide_merge.proofs.parts.+fn-wide_part-join+arg2+fn-wide_part-join+arg3+wide_part.Goals as goal

pub join-all-requires-after_bounds : goal.join-all-requires-after_bounds
join-all-requires-after_bounds g t c κs within =
    let front = front_may c.args.merge.now.plan.now c.args.some.now c.split_at.result.0.now c.split_at.result.1.now c.args.merge.now.stream c.args.merge.now.wave c.requires c.split_at.ensures.by_index.0 in
    let back = back_may c.args.merge.now.plan.now c.args.some.now c.split_at.result.0.now c.split_at.result.1.now c.args.merge.now.stream c.args.merge.now.wave c.requires c.split_at.ensures.by_index.0 in (
      (search rules, (search rules, (search rules, (search rules, ((search sendable depth 20, search sendable depth 20, search sendable depth 20, front), (search sendable depth 20, search sendable depth 20, search sendable depth 20)))))),
      (search rules, (search rules, (search rules, (search rules, ((search sendable depth 20, search sendable depth 20, search sendable depth 20, back), (search sendable depth 20, search sendable depth 20, search sendable depth 20)))))),
    )

pub returns : goal.returns
returns g t c =
    whole_is c.args.merge.now.plan.now c.args.some.now c.split_at.result.0.now c.split_at.result.1.now c.args.merge.now.stream c.args.merge.now.wave c.in_ok-all.all c.in_ok-rest.rest c.absorb.new.self c.split_at.ensures.by_index.0
    (IfOk-at_ok (IsPartOf c.args.merge.now.plan.now c.split_at.result.0.now c.args.merge.now.stream c.args.merge.now.wave) c.in_ok-all.was c.join-all.ensures.first)
    (IfOk-at_ok (IsPartOf c.args.merge.now.plan.now c.split_at.result.1.now c.args.merge.now.stream c.args.merge.now.wave) c.in_ok-rest.was c.join-all.ensures.second)
    c.in_ok-absorb.ensures.stream c.in_ok-absorb.ensures.wave c.in_ok-absorb.ensures.partial_merge c.in_ok-absorb.ensures.coverage

pub join-all-requires-send-F : goal.join-all-requires-send-F
join-all-requires-send-F g t c κs within =
    let rt : IsSync (param 0 g.row.R) = search sendable depth 20 in
    let gate : IsSync (param 2 g.row.G) = search sendable depth 20 in
    param_send 1 _
    (arg_send _ no _
    (job_send _ _ _ _ _ _
    (shr_send _ _ _ rt)
    (shr_send _ _ _ (merge_sync _ _ gate))
    (shr_slice_send _ _ _ number_sync)
    (shr_send _ _ _ number_sync)
    (mark_send g.row.T)))
