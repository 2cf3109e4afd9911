use Rattle.std.proofs.Common.{◌≡◌, ◌≤◌, ◌+◌, length}
use Rattle.topology_text.specs.Tokens.{pieces}
use Rattle.topology_text.proofs.tokens.skipped.Given as goal

abbrev pub invariant-loop-b : goal.invariant-loop-b
invariant-loop-b l = record {
  room : l.line_number + length l.rest ≤ l.fn.line_number + length l.fn.text;
  shorter : length l.rest ≤ length l.fn.text;
  pieces : pieces l.line_number 0 l.rest ≡ pieces l.fn.line_number 0 l.fn.text;
}

abbrev pub decreases-loop-b : goal.decreases-loop-b
decreases-loop-b l = length l.rest
