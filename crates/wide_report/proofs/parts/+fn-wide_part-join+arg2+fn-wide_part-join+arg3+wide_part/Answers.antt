use denote.Exit.{no}
use denote.Param.{param}
use denote.Param.Send.{IsSend, IsSync, arg_send, param_send, sendable, shr_send}
use Rattle.std.proofs.Crossing.{Vec-send}
use Rattle.std.specs.List.{flat_map}
use Rattle.std.proofs.Common.{◌≡◌, ◌∙◌, ◌++◌, ap}
use Rattle.std.proofs.lemmas.Result.{IfOk-at_ok}
use Rattle.overlay_core.specs.TreeReleases.{releases_view}
use Rattle.wide_merge.proofs.Sending.{job_send}
use Rattle.wide_report.specs.Pieces.{piece}
use Rattle.wide_report.proofs.Sending.{form_send, number_send, release_send, report_sync}
use Rattle.wide_report.proofs.Texts.{both_pieces}
use Rattle.wide_report.proofs.parts.+fn-wide_part-join+arg2+fn-wide_part-join+arg3+wide_part.Goals as goal

pub join-text-requires-send-F : goal.join-text-requires-send-F
join-text-requires-send-F g t c κs within =
    let rt : IsSync (param 0 g.row.R) = search sendable depth 20 in
    let tree : IsSend (param 1 g.row.T) = search sendable depth 20 in
    param_send 1 _
    (arg_send _ no _
    (job_send _ _ _ _ _ _
    (shr_send _ _ _ rt)
    (shr_send _ _ _ (report_sync _))
    form_send
    (Vec-send _ (release_send _ tree))
    number_send))

pub returns : goal.returns
returns g t c =
    let f = piece c.args.form c.args.report.now.plan.now in
    let tree = g.T.PrefixTree.tree in
    both_pieces tree f c.args.releases.items c.split_off.new.self.items c.in_ok-back.back.items _ c.in_ok-text-2.text.items c.in_ok-rest.rest.items c.extend_from_slice.new.self.items
    c.in_ok-back.ensures.items c.in_ok-back.ensures.tail
    (IfOk-at_ok (λ text. text.items ≡ flat_map f (releases_view tree c.split_off.new.self.items)) c.in_ok-text-2.was c.join-text.ensures.first)
    (IfOk-at_ok (λ text. text.items ≡ flat_map f (releases_view tree c.in_ok-back.back.items)) c.in_ok-rest.was c.join-text.ensures.second)
    (c.in_ok-extend_from_slice.ensures.items ∙ ap (λ ys. c.in_ok-text-2.text.items ++ ys) c.as_slice.ensures.value)
