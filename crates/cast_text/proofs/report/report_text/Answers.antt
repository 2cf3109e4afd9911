use Rattle.std.proofs.Common.{◌∙◌}
use Rattle.cast_text.proofs.Lines.{whole_report}
use Rattle.cast_text.proofs.report.report_text.Goals as goal

pub returns : goal.returns
returns c =
    whole_report c.args.net.now c.plan.result.now c.as_slice-2.result.now c.new-out.result.items c.write_commands.new.out.items c.write_daemons.new.out.items c.extend_from_slice.new.self.items
    c.plan.ensures (c.as_slice-2.ensures.value ∙ c.in_ok-daemons.ensures.value) c.new-out.ensures.items c.in_ok-write_commands.ensures c.in_ok-write_daemons.ensures c.in_ok-extend_from_slice.ensures.items
