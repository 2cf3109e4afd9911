use Rattle.std.proofs.Common.{◌≡◌, ◌+◌, length}
use Rattle.stack_text.specs.Texts.{hex_len}
use Rattle.stack_text.proofs.texts.hex_len.Given as goal

-- what was passed over are digits
abbrev pub invariant-loop-after : goal.invariant-loop-after
invariant-loop-after l = record {
  digits : hex_len l.text ≡ l.len + hex_len l.rest;
  bytes : length l.text ≡ l.len + length l.rest;
}

abbrev pub decreases-loop-after : goal.decreases-loop-after
decreases-loop-after l = length l.rest
