use Rattle.std.proofs.Common.{◌≡◌, ap, sym, ◌∙◌}
use Rattle.wave_resend.specs.Books.{count_to, keys_of, next_open, book_of}
use Rattle.wave_resend.proofs.Looking.{is_next, next_in, start_of}
use Rattle.wave_resend.proofs.book.WaveBook.next_open.Goals as goal
use Rattle.wave_resend.proofs.book.WaveBook.next_open.Goals.{in-Some, in-None}

begins : (c : goal.After-first_open) → c.match-after.start ≡ start_of c.args.after c.self.inside.entries.items
begins c = elim c.match-after.branch [
  | in-Some w ↦
      w.start-is ∙ w.count_to-start.ensures.count
      ∙ ap (λ es. count_to (w.in-Some.s, w.in-Some.w) (keys_of es)) w.deref.ensures.value
      ∙ ap (λ o. start_of o c.self.inside.entries.items) (sym w.in-Some.is)
  | in-None w ↦ w.start-is ∙ ap (λ o. start_of o c.self.inside.entries.items) (sym w.in-None.is)
]

next : (c : goal.After-first_open) → c.first_open.result ≡ next_open c.args.after (keys_of c.args.self.now) (book_of c.args.self.now)
next c =
    next_in c.args.after c.args.self.now c.deref-2.result.now c.self.inside.entries.items c.match-after.start c.first_open.result
    c.deref-2.ensures.value c.self.view_is c.self.invariant (begins c) c.first_open.ensures

pub returns-clause-next : goal.returns-clause-next
returns-clause-next c = next c

pub returns-clause-open : goal.returns-clause-open
returns-clause-open c = (is_next c.args.after c.args.self.now c.first_open.result (next c)).open_wave

pub returns-clause-behind : goal.returns-clause-behind
returns-clause-behind c = (is_next c.args.after c.args.self.now c.first_open.result (next c)).behind

pub returns-clause-none : goal.returns-clause-none
returns-clause-none c = (is_next c.args.after c.args.self.now c.first_open.result (next c)).none
