use Rattle.std.proofs.Common.{◌≡◌, ◌<◌, ◌++◌}
use Rattle.control_cast.specs.CastViews.{cast_state}
use Rattle.cast_text.specs.CastText.{command_lines, ranks_text}
use Rattle.cast_text.proofs.report.write_commands.Given as goal

abbrev pub invariant-loop-i : goal.invariant-loop-i
invariant-loop-i l = record {
  before : 0 < l.i → l.ranks.items ≡ ranks_text l.net.plan (cast_state l.net) l.i;
  written : l.out.items ≡ l.fn.out.items ++ command_lines l.net.plan (cast_state l.net) l.i;
}
