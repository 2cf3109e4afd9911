use Rattle.std.proofs.Common.{inl, sym, ap, ◌∙◌}
use Rattle.journal_text.specs.Reading.{journal_of}
use Rattle.stat_tool.proofs.modes.read_events.Goals as goal

pub returns-in-Err-clause-err : goal.returns-in-Err-clause-err
returns-in-Err-clause-err g c = inl c.in-Err.ensures.err

pub returns-in-Ok-read_journal-clause-ok : goal.returns-in-Ok-read_journal-clause-ok
returns-in-Ok-read_journal-clause-ok g c =
    (c.in-Ok.bytes.items, (c.in-Ok.ensures.ok, ap (journal_of c.args.plan.now) (sym c.as_slice.ensures.value) ∙ sym c.in-Ok-read_journal.ensures))
