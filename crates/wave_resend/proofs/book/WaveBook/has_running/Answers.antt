use Rattle.std.proofs.Common.{ℕ, List, ap, ◌∙◌}
use Rattle.std.specs.List.{list_any}
use Rattle.stat_plan.specs.Machine.Waves.{is_running}
use Rattle.wave_resend.specs.Books.{WaveAt, book_of, keys_of}
use Rattle.wave_resend.proofs.Looking.{running_book}
use Rattle.wave_resend.proofs.book.WaveBook.has_running.Goals as goal

pub returns : goal.returns
returns c =
    c.any_running.ensures
    ∙ ap (list_any (λ (e : WaveAt). is_running e.state)) c.deref.ensures.value
    ∙ running_book c.self.inside.entries.items c.self.invariant
    ∙ ap (λ (es : List WaveAt). list_any (λ (k : ℕ × ℕ). is_running (book_of es k.0 k.1)) (keys_of es)) c.self.view_is
