use Rattle.std.proofs.Common.{◌≡◌, true, take}
use Rattle.std.specs.Char.{is_ascii_digit}
use Rattle.std.specs.List.{list_all}
use Rattle.rank_set.specs.Digits.{value_after}
use Rattle.value_text.proofs.numbers.cut_in.Given as goal

abbrev pub invariant-loop-i : goal.invariant-loop-i
invariant-loop-i l = record {
  digits : list_all is_ascii_digit (take l.i l.window) ≡ true;
  value : l.size ≡ value_after 0 (take l.i l.window);
}
