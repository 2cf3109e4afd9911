use Rattle.std.proofs.Common.{◌≡◌, ◌≤◌, ◌+◌, min, drop, take}
use Rattle.rank_set.specs.Digits.{digits_len, value_after}
use Rattle.rank_set.proofs.digits.capped_number.Given as goal

abbrev pub invariant-loop-i : goal.invariant-loop-i
invariant-loop-i l = record {
  capped : l.number ≤ l.limit;
  len : l.i + digits_len (drop l.i l.text) ≡ digits_len l.text;
  value : min l.limit (value_after l.number (take (digits_len (drop l.i l.text)) (drop l.i l.text))) ≡ min l.limit (value_after 0 (take (digits_len l.text) l.text));
}
