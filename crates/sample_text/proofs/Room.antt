-- Whether there may be a line more, by the lines that a parser has.
use Rattle.std.proofs.Common.{◌≡◌, ◌<◌, ◌≤◌, true, false, not, nat_lt, List, length, arith}
use Rattle.std.proofs.lemmas.Bool.Decides.{nat_tests}
use Rattle.call_path.specs.Path.{Path}
use Rattle.stat_plan.specs.StackLines.{lines_of}
use Rattle.stat_plan.specs.declared.samples.StackLine.{StackLine}
use Rattle.sample_text.proofs.Texts.{length-lines_of}

module _ (paths : List Path) (lines : List StackLine) where
  pub is_many : not (nat_lt (length lines) 262144) ≡ true → 262144 ≤ length (lines_of paths lines)
  is_many e = let all = length-lines_of paths lines in grind (arith, nat_tests)

  pub are_few : not (nat_lt (length lines) 262144) ≡ false → length (lines_of paths lines) < 262144
  are_few e = let all = length-lines_of paths lines in grind (arith, nat_tests)
