-- The first place from which on a test holds of a text, step by step.
use Rattle.std.proofs.Common.{◌≡◌, ◌∙◌, ℕ, suc, ◌+◌, ◌<◌, Bool, List, [], ◌∷◌, length, drop, get_or, true, false, refl, ap, sym, arith}
use Rattle.std.proofs.lemmas.List.{drop_more, drop_all}
use Rattle.stack_text.specs.Texts.{first_where}

module _ (test : List ℕ → Bool) where
  -- where the test holds of a text, nothing stands before the place
  here : (text : List ℕ) → test text ≡ true → first_where test text ≡ 0
  unfolding first_where
  here [] h = refl
  here (b ∷ rest) h = rw h refl

  -- where it doesn't, the place is one byte later
  later : (b : ℕ) (rest : List ℕ) → test (b ∷ rest) ≡ false → first_where test (b ∷ rest) ≡ suc (first_where test rest)
  unfolding first_where
  later b rest h = rw h refl

  nowhere : first_where test [] ≡ 0
  unfolding first_where
  nowhere = refl

  module _ (text : List ℕ) (i : ℕ) (so_far : first_where test text ≡ i + first_where test (drop i text)) where
    pub first_here : test (drop i text) ≡ true → i ≡ first_where test text
    first_here h = let e = here (drop i text) h in omega (arith, so_far, e)

    pub first_later : i < length text → test (drop i text) ≡ false →
        first_where test text ≡ (i + 1) + first_where test (drop (i + 1) text)
    first_later lt h =
        let cut = drop_more text i 0 lt in
        let e = later (get_or text i 0) (drop (i + 1) text) (sym (ap test cut) ∙ h) in
        let f = ap (first_where test) cut in
        omega (arith, so_far, e, f)

    -- where a text ends the place isn't found
    pub first_nowhere : length text ≡ i → length text ≡ first_where test text
    first_nowhere end =
        let e = ap (first_where test) (drop_all i text (omega (arith, end))) ∙ nowhere in
        omega (arith, so_far, e, end)
