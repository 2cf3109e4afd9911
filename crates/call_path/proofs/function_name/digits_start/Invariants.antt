use Rattle.std.proofs.Common.{◌≡◌, ◌≤◌, true, length, drop}
use Rattle.std.specs.List.{list_all}
use Rattle.std.specs.Char.{is_ascii_digit}
use Rattle.call_path.proofs.function_name.digits_start.Given as goal

abbrev pub invariant-loop-start : goal.invariant-loop-start
invariant-loop-start l = record {
  within : l.start ≤ length l.frame;
  digits : list_all is_ascii_digit (drop l.start l.frame) ≡ true;
}

abbrev pub decreases-loop-start : goal.decreases-loop-start
decreases-loop-start l = l.start
