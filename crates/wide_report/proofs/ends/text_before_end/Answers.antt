use Rattle.std.proofs.Common.{◌∙◌, ◌++◌, ap}
use Rattle.wide_report.specs.Pieces.{faults_in, losses_in}
use Rattle.wide_report.proofs.Texts.{text_of_none}
use Rattle.wide_report.proofs.ends.text_before_end.Goals as goal

pub returns : goal.returns
returns g c =
    let report = c.args.report.now in
    c.in_ok-extend_from_slice.ensures.items ∙ ap (λ ys. c.args.text.items ++ ys) (c.as_slice.ensures.value ∙ text_of_none report.plan.now (faults_in report) (losses_in report) c.in_ok-end.end.items c.in_ok-end.ensures)
