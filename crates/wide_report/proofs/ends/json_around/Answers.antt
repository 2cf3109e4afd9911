use Rattle.std.proofs.Common.{◌∙◌, ◌++◌, ◌-◌, ap, drop}
use Rattle.wide_report.specs.Pieces.{faults_in, losses_in}
use Rattle.wide_report.proofs.Texts.{json_built}
use Rattle.wide_report.proofs.ends.json_around.Goals as goal

pub returns : goal.returns
returns g c =
    let report = c.args.report.now in
    let cut = c.truncate.new.self.items in
    json_built report.plan.now (faults_in report) (losses_in report) c.in_ok-text.text.items (drop 1 c.args.pieces.now) cut c.extend_from_slice.new.self.items c.extend_from_slice-2.new.self.items c.saturating_sub.result
    c.in_ok-text.ensures (c.saturating_sub.ensures ∙ ap (λ k. k - 3) (c.len.ensures ∙ c.in_ok-text.text.ok.0)) c.truncate.ensures.items
    (c.in_ok-extend_from_slice.ensures.items ∙ ap (λ ys. cut ++ ys) c.after_first.ensures) c.in_ok-extend_from_slice-2.ensures.items
