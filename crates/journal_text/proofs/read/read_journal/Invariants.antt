use Rattle.std.proofs.Common.{◌≡◌, ◌++◌, length}
use Rattle.text_lines.specs.Lines.{lines}
use Rattle.journal_text.specs.Reading.{events_before, bad_from}
use Rattle.journal_text.proofs.read.read_journal.Given as goal

abbrev pub invariant-loop-line : goal.invariant-loop-line
invariant-loop-line l = record {
  read : l.events ++ events_before l.plan (lines l.rest) ≡ events_before l.plan (lines l.bytes);
  number : bad_from l.plan (length l.events) (lines l.rest) ≡ bad_from l.plan 0 (lines l.bytes);
}

abbrev pub decreases-loop-line : goal.decreases-loop-line
decreases-loop-line l = length l.rest
