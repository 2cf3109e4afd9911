use Rattle.std.proofs.Common.{List, ap, ◌∙◌, ◌==◌, ◌&&◌, find, option_map}
use Rattle.wave_resend.specs.Books.{WaveAt, book_of, keys_of, next_empty}
use Rattle.stat_plan.specs.Machine.Waves.{is_empty_open}
use Rattle.wave_resend.proofs.Looking.{empty_book}
use Rattle.wave_resend.proofs.book.WaveBook.next_empty.Goals as goal

pub returns : goal.returns
returns c =
    c.first_empty.ensures
    ∙ ap (λ (es : List WaveAt). option_map (λ (e : WaveAt). e.wave) (find (λ (e : WaveAt). (e.stream == c.args.s) && is_empty_open e.state) es)) c.deref.ensures.value
    ∙ empty_book c.self.inside.entries.items c.args.s c.self.invariant
    ∙ ap (λ (es : List WaveAt). next_empty c.args.s (keys_of es) (book_of es)) c.self.view_is
