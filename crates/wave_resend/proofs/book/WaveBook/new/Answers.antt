use Rattle.std.proofs.Common.{◌≡◌, List, sym, subst}
use Rattle.stat_plan.specs.Machine.Waves.{Book}
use Rattle.wave_resend.specs.Books.{AreAscending, WaveAt, book_of, untouched}
use Rattle.wave_resend.proofs.Starting.{untouched_book, waves_ascend}
use Rattle.wave_resend.proofs.book.WaveBook.new.Goals as goal

pub of_entries-requires : goal.of_entries-requires
of_entries-requires c = subst AreAscending (sym c.in_ok-entries_of.ensures.keys) (waves_ascend c.args.plan.now c.args.n c.invariant.ensures)

pub returns-clause-untouched : goal.returns-clause-untouched
returns-clause-untouched c =
    subst (λ (es : List WaveAt). ◌≡◌ {A = Book} (book_of es) (λ s w. untouched)) (sym c.of_entries.ensures)
    (untouched_book c.in_ok-entries_of.field-0.items c.in_ok-entries_of.ensures.untouched)
