use Rattle.std.proofs.Common.{◌≡◌, ℕ, ◌+◌, true, false, List, take, get_or, Some, sym, ap, ◌∙◌}
use Rattle.std.specs.Prelude.{◌||◌, slice_get}
use Rattle.std.proofs.lemmas.List.Folds.{list_any_at, list_any_more}
use Rattle.std.proofs.lemmas.Option.{slice_get_within, get_or_from_slice_get}
use Rattle.frame_name.specs.Words.{word_fits, any_fits}
use Rattle.frame_name.proofs.words.any_fits.Goals as goal

fits_at : (words : List (List ℕ)) (text word : List ℕ) (i : ℕ) → slice_get words i ≡ Some word → word_fits word text ≡ true → any_fits words text ≡ true
fits_at words text word i e h =
    list_any_at (λ w. word_fits w text) words i word (slice_get_within words i word e)
    (ap (λ w. word_fits w text) (get_or_from_slice_get words i word word e) ∙ h)

none_more : (words : List (List ℕ)) (text word : List ℕ) (i : ℕ) → slice_get words i ≡ Some word → any_fits (take i words) text ≡ false → word_fits word text ≡ false → any_fits (take (i + 1) words) text ≡ false
none_more words text word i e h f =
    list_any_more (λ w. word_fits w text) words i word (slice_get_within words i word e)
    ∙ ap (λ v. v || word_fits (get_or words i word) text) h
    ∙ ap (λ w. word_fits w text) (get_or_from_slice_get words i word word e) ∙ f

pub returns-then-word_fits : goal.returns-then-word_fits
returns-then-word_fits c =
    sym (fits_at c.args.words.now c.args.text.now c.frame.result.now c.loop-i.i c.frame.ensures.frame
    (ap (λ w. word_fits w c.args.text.now) (sym c.as_bytes.ensures.value) ∙ sym c.word_fits.ensures ∙ c.if-word_fits.true))

pub loop-i-preserved : goal.loop-i-preserved
loop-i-preserved c =
    none_more c.args.words.now c.args.text.now c.frame.result.now c.loop-i.i c.frame.ensures.frame c.loop-i.invariant
    (ap (λ w. word_fits w c.args.text.now) (sym c.as_bytes.ensures.value) ∙ sym c.word_fits.ensures ∙ c.if-word_fits.false)
