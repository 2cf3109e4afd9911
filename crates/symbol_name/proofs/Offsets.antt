-- The offset at which a part first stands in a text, step by step.
use Rattle.std.proofs.Common.{◌≡◌, ◌∙◌, ℕ, ◌+◌, ◌<◌, suc, List, [], ◌∷◌, length, drop, get_or, true, false, refl, ap, sym, arith}
use Rattle.std.proofs.lemmas.List.{drop_more}
use Rattle.std.proofs.Math.Seq.{drop-length}
use Rattle.symbol_name.specs.Texts.{begins_with, offset_of}

-- where a text begins with the part, nothing stands before it
here : (part text : List ℕ) → begins_with part text ≡ true → offset_of part text ≡ 0
unfolding offset_of
here part [] h = refl
here part (b ∷ rest) h = rw h refl

-- where it doesn't, the offset is one more
later : (part : List ℕ) (b : ℕ) (rest : List ℕ) → begins_with part (b ∷ rest) ≡ false →
    offset_of part (b ∷ rest) ≡ suc (offset_of part rest)
unfolding offset_of
later part b rest h = rw h refl

pub offset_here : (part text : List ℕ) (i : ℕ) → offset_of part text ≡ i + offset_of part (drop i text) →
    begins_with part (drop i text) ≡ true → offset_of part text ≡ i
offset_here part text i so_far h = let e = here part (drop i text) h in omega (arith, so_far, e)

pub offset_later : (part text : List ℕ) (i : ℕ) → i < length text →
    offset_of part text ≡ i + offset_of part (drop i text) →
    begins_with part (drop i text) ≡ false → offset_of part text ≡ (i + 1) + offset_of part (drop (i + 1) text)
offset_later part text i lt so_far h =
    let cut = drop_more text i 0 lt in
    let e = later part (get_or text i 0) (drop (i + 1) text) (sym (ap (λ t. begins_with part t) cut) ∙ h) in
    let f = ap (offset_of part) cut in
    omega (arith, so_far, e, f)

-- where a text ends the part stands nowhere
pub offset_end : (part text : List ℕ) (i : ℕ) → i ≡ length text →
    offset_of part text ≡ i + offset_of part (drop i text) → length text ≡ offset_of part text
unfolding offset_of
offset_end part text i at_end so_far =
    let e = ap (λ n. offset_of part (drop n text)) at_end ∙ ap (offset_of part) (drop-length text) in
    omega (arith, so_far, e, at_end)
