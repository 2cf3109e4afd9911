use Rattle.std.proofs.Common.{◌≡◌, take}
use Rattle.cast_text.specs.CastText.{journal_text}
use Rattle.cast_text.proofs.journal.journal_text.Given as goal

abbrev pub invariant-loop-i : goal.invariant-loop-i
invariant-loop-i l = l.out.items ≡ journal_text l.plan (take l.i l.journal)
