use Rattle.std.proofs.Common.{◌++◌, ◌∙◌, sym, ap, append_assoc}
use Rattle.std.specs.Prelude.{codes}
use Rattle.std.specs.Fmt.{decimal}
use Rattle.front_end.specs.Report.{fate_text}
use Rattle.front_end.proofs.report.write_fate.Goals as goal

pub returns-in_ok-write_numbered : goal.returns-in_ok-write_numbered
returns-in_ok-write_numbered c =
    c.in_ok-write_numbered.ensures.ok ∙ append_assoc c.args.out.now.items (codes " lost after ") (decimal c.args.fault.after) ∙ ap (λ b. c.args.out.now.items ++ fate_text b c.args.fault) (sym c.if-is_lost.true)
