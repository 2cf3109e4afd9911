-- Lines and whole texts, one way out at a time.
use Rattle.std.proofs.Common.{◌≡◌, ◌≢◌, ◌<◌, length, ℕ, true, false, List, [], ◌∷◌, Option, Some, Ok, Err, refl, sym, ap, ◌∙◌, arith, codes}
use Rattle.std.specs.Str.{bytes_eq}
use Rattle.text_lines.specs.Lines.{lines, words, says_nothing}
use Rattle.overlay_setup.specs.Scripts.{Stream, Scripted, scripted}
use Rattle.overlay_setup.specs.Topologies.{Nodes}
use Rattle.overlay_setup.specs.declared.script.Fault.{Fault}
use Rattle.text_lines.specs.declared.text_error.TextError.{TextError}
use Rattle.text_lines.specs.declared.text_error.TextError.TheVariants.{Bad}
use Rattle.text_lines.specs.declared.text_error.Reason.TheVariants.{BadDirective, NoStream}
use Rattle.script_text.specs.Words.{StreamWords, LoseWords, stream_words, lose_words}
use Rattle.text_lines.specs.Parsing.{and_then, parsed_lines}
use Rattle.script_text.specs.Streams.{stream_of, with_stream}
use Rattle.script_text.specs.Losses.{fault_of, with_fault}
use Rattle.script_text.specs.Whole.{with_stream_line, with_lose_line, with_words, with_line, whole, script_of}

module _ (t : Nodes) (c : Scripted) (line : ℕ) where
  -- a lose line
  pub lose_one : (o : Option LoseWords) (w : LoseWords) (f : Fault) (faults : List Fault) → Some w ≡ o → fault_of t c.faults line w ≡ Ok f → faults ≡ with_fault f c.faults → with_lose_line t c line o ≡ Ok (scripted c.streams faults)
  lose_one o w f faults is h more = ap (with_lose_line t c line) (sym is) ∙ ap (λ r. and_then r (λ (f : Fault). Ok (scripted c.streams (with_fault f c.faults)))) h ∙ ap (λ fs. Ok (scripted c.streams fs)) (sym more)

  -- a stream line
  pub stream_one : (o : Option StreamWords) (w : StreamWords) (x : Stream) (streams : List Stream) → Some w ≡ o → stream_of t c.streams line w ≡ Ok x → streams ≡ with_stream x c.streams → with_stream_line t c line o ≡ Ok (scripted streams c.faults)
  stream_one o w x streams is h more = ap (with_stream_line t c line) (sym is) ∙ ap (λ r. and_then r (λ (x : Stream). Ok (scripted (with_stream x c.streams) c.faults))) h ∙ ap (λ xs. Ok (scripted xs c.faults)) (sym more)

  -- a line by its first word
  pub words_none : (ws : List (List ℕ)) → ws ≡ [] → with_words t c line ws ≡ Err (Bad line BadDirective)
  unfolding with_words
  words_none ws is = rw is refl

  module _ (ws : List (List ℕ)) (word : List ℕ) (rest : List (List ℕ)) (is : ws ≡ word ∷ rest) where
    pub words_stream : bytes_eq word (codes "stream") ≡ true → with_words t c line ws ≡ with_stream_line t c line (stream_words rest)
    unfolding with_words
    words_stream e = rw is (rw (e, with_words) refl)

    pub words_lose : bytes_eq word (codes "stream") ≡ false → bytes_eq word (codes "lose") ≡ true → with_words t c line ws ≡ with_lose_line t c line (lose_words rest)
    unfolding with_words
    words_lose e f = rw is (rw (e, f, with_words) refl)

    pub words_other : bytes_eq word (codes "stream") ≡ false → bytes_eq word (codes "lose") ≡ false → with_words t c line ws ≡ Err (Bad line BadDirective)
    unfolding with_words
    words_other e f = rw is (rw (e, f, with_words) refl)

  -- a line
  pub line_skipped : (text : List ℕ) → says_nothing text ≡ true → with_line t c line text ≡ Ok c
  unfolding with_line
  line_skipped text e = rw (e, with_line) refl

  pub line_by_words : (text : List ℕ) → says_nothing text ≡ false → with_line t c line text ≡ with_words t c line (words text)
  unfolding with_line
  line_by_words text e = rw (e, with_line) refl

-- a script is whole where there is a stream
pub whole_none : (c : Scripted) → length c.streams ≡ 0 → whole c ≡ Err (Bad 0 NoStream)
whole_none c none = by c.streams none
  where
    by : (xs : List Stream) → length xs ≡ 0 → whole (scripted xs c.faults) ≡ Err (Bad 0 NoStream)
    by [] e = refl
    by (x ∷ xs) e = absurd (omega arith)

pub whole_some : (c : Scripted) → 0 < length c.streams → whole c ≡ Ok c
whole_some c some = by c.streams some
  where
    by : (xs : List Stream) → 0 < length xs → whole (scripted xs c.faults) ≡ Ok (scripted xs c.faults)
    by [] lt = absurd (omega arith)
    by (x ∷ xs) lt = refl

pub not_empty : (xs : List Stream) → 0 < length xs → xs ≢ []
not_empty [] lt e = absurd (omega arith)
not_empty (x ∷ xs) lt e = cc

-- a whole text, where its lines are parsed
module _ (t : Nodes) (text : List ℕ) where
  pub script_bad : (e : TextError) → parsed_lines (with_line t) (scripted [] []) 1 (lines text) ≡ Err e → script_of t text ≡ Err e
  unfolding script_of
  script_bad e bad = ap (λ r. and_then r whole) bad

  pub script_good : (c : Scripted) → parsed_lines (with_line t) (scripted [] []) 1 (lines text) ≡ Ok c → script_of t text ≡ whole c
  unfolding script_of
  script_good c good = ap (λ r. and_then r whole) good
