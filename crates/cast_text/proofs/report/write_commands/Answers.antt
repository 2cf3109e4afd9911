use Rattle.std.proofs.Common.{◌+◌, ◌++◌, ◌∙◌, ap}
use Rattle.control_cast.specs.CastViews.{cast_state}
use Rattle.cast_text.specs.CastText.{command_line}
use Rattle.cast_text.proofs.Lines.{line_more}
use Rattle.cast_text.proofs.report.write_commands.Goals as goal

pub loop-i-preserved : goal.loop-i-preserved
loop-i-preserved c = record {
  before = λ _. c.in_ok-ranks.ensures;
  written = line_more c.args.net.now.plan (cast_state c.args.net.now) c.loop-i.i c.args.out.now.items c.loop-i.out.items c.write_command.new.out.items c.loop-i.invariant.written
      (c.in_ok-write_command.ensures ∙ ap (λ l. c.loop-i.out.items ++ command_line (c.loop-i.i + 1) l) (c.as_slice.ensures.value ∙ c.in_ok-ranks.ensures));
}
