use Rattle.std.proofs.Common.{◌≡◌, take}
use Rattle.journal_text.specs.Text.{journal_text}
use Rattle.journal_text.proofs.write.write_journal.Given as goal

abbrev pub invariant-loop-i : goal.invariant-loop-i
invariant-loop-i l = l.text.items ≡ journal_text l.plan (take l.i l.journal)
