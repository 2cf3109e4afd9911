-- The frames of what is left of a text behind one of its `;`, by the places of the `;` that are left.
use Rattle.std.proofs.Common.{◌≡◌, ℕ, suc, ◌+◌, ◌-◌, ◌<◌, ◌≤◌, List, [], ◌∷◌, ◌++◌, length, drop, take, get_or, refl, sym, ap, ◌∙◌, arith}
use Rattle.std.specs.Prelude.{slice_range}
use Rattle.std.proofs.lemmas.List.{drop-drop, length-append, length-drop}
use Rattle.std.proofs.lemmas.List.Folds.{length-prefix_len}
use Rattle.call_path.specs.Path.{Path}
use Rattle.call_path.specs.Reading.{frames, frame_len}
use Rattle.call_path.specs.Cuts.{ends_from}
use Rattle.call_path.proofs.Texts.{length-ends}
use Rattle.call_path.proofs.Errors.{frames_after, frames_first}

-- frames that follow stand behind a byte
follow : (text : List ℕ) → 0 < length (frames_after text) → (0 < length text) × (frames_after text ≡ frames (drop 1 text))
follow [] some = absurd (omega arith)
follow (b ∷ text) some = (omega arith, refl)

no_more : (p : Path) → length p ≡ 0 → p ≡ []
no_more [] none = refl
no_more (f ∷ p) none = absurd (omega arith)

-- what is left of a text, where its frames end at the `;` that are left and at the end of the text
module _ (text : List ℕ) (start : ℕ) (inside : start ≤ length text) (marks : List ℕ) (is : ends_from start (frames (drop start text)) ≡ marks ++ length text ∷ []) where
  abbrev len : ℕ
  len = frame_len (drop start text)

  abbrev first : List ℕ
  first = take len (drop start text)

  abbrev after : Path
  after = frames_after (drop len (drop start text))

  parts : frames (drop start text) ≡ first ∷ after
  parts = frames_first (drop start text)

  first_len : length first ≡ len
  first_len = length-prefix_len _ (drop start text)

  ends_are : (start + length first) ∷ ends_from (suc (start + length first)) after ≡ marks ++ length text ∷ []
  ends_are = sym (ap (ends_from start) parts) ∙ is

  first_is : (end : ℕ) → end ≡ start + length first → first ≡ slice_range text start end
  first_is end at = let e : len ≡ end - start = omega (arith, first_len) in ap (λ n. take n (drop start text)) e

  -- behind a frame that ends before the end of the text there are further frames
  pub at_mark : (end : ℕ) (later : List ℕ) → marks ≡ end ∷ later
      → (start ≤ end) × (end < length text) × (frames (drop start text) ≡ slice_range text start end ∷ frames (drop (end + 1) text)) × (ends_from (end + 1) (frames (drop (end + 1) text)) ≡ later ++ length text ∷ [])
  at_mark end later first_end =
      let both = ends_are ∙ ap (λ es. es ++ length text ∷ []) first_end in
      let more = length-append later (length text ∷ []) in
      let at : start + length first ≡ end = ap (λ es. get_or es 0 0) both in
      let rest : ends_from (suc (start + length first)) after ≡ later ++ length text ∷ [] = ap (drop 1) both in
      let some : 0 < length after = omega (arith, more, ap length rest, length-ends (suc (start + length first)) after) in
      let left = follow (drop len (drop start text)) some in
      let far : end < length text = omega (arith, at, first_len, left.0, length-drop len (drop start text), length-drop start text) in
      let behind : after ≡ frames (drop (end + 1) text) =
      left.1 ∙ ap frames (drop-drop 1 len (drop start text) ∙ drop-drop (len + 1) start text) ∙ (let e : start + (len + 1) ≡ end + 1 = omega (arith, at, first_len) in ap (λ n. frames (drop n text)) e) in (
        omega (arith, at),
        far,
        parts ∙ (λ k. first_is end (sym at) k ∷ behind k),
        (let e : end + 1 ≡ suc (start + length first) = omega (arith, at) in (λ k. ends_from (e k) (sym behind k)) ∙ rest),
      )

  -- and the last one ends there
  pub at_end : marks ≡ [] → frames (drop start text) ≡ slice_range text start (length text) ∷ []
  at_end none =
      let both = ends_are ∙ ap (λ es. es ++ length text ∷ []) none in
      let at : start + length first ≡ length text = ap (λ es. get_or es 0 0) both in
      let rest : ends_from (suc (start + length first)) after ≡ [] = ap (drop 1) both in
      parts ∙ (λ k. first_is (length text) (sym at) k ∷ no_more after (sym (length-ends (suc (start + length first)) after) ∙ ap length rest) k)
