-- Two texts parted by a space.
use Rattle.std.proofs.Common.{◌≡◌, ℕ, true, not, nat_eq, List, [], ◌∷◌, ◌++◌, refl, sym, ap, ◌∙◌}
use Rattle.std.proofs.lemmas.Bool.{true≢false, and_parts}
use Rattle.journal_text.specs.Words.{has_no_space}

-- a text with a space
pub has_space : (word rest : List ℕ) → has_no_space (word ++ 32 ∷ rest) ≡ true → ⊥
has_space [] rest e = true≢false (sym e)
has_space (b ∷ word) rest e = has_space word rest (and_parts (not (nat_eq b 32)) (has_no_space (word ++ 32 ∷ rest)) e).1

not_first : (b : ℕ) (word : List ℕ) → has_no_space (b ∷ word) ≡ true → b ≡ 32 → ⊥
not_first b word e is = true≢false (sym (and_parts (not (nat_eq b 32)) (has_no_space word) e).0 ∙ ap (λ k. not (nat_eq k 32)) is)

-- the text before the first space, and the one behind it
pub parted : (one other one_rest other_rest : List ℕ) → has_no_space one ≡ true → has_no_space other ≡ true → one ++ 32 ∷ one_rest ≡ other ++ 32 ∷ other_rest → (one ≡ other) × (one_rest ≡ other_rest)
parted [] [] s t p q e = (refl, cc)
parted [] (b ∷ other) s t p q e = absurd (not_first b other q (cc))
parted (a ∷ one) [] s t p q e = absurd (not_first a one p (cc))
parted (a ∷ one) (b ∷ other) s t p q e =
    let later = parted one other s t (and_parts (not (nat_eq a 32)) (has_no_space one) p).1 (and_parts (not (nat_eq b 32)) (has_no_space other) q).1 (cc) in
    let first : a ≡ b = cc in
    (λ i. first i ∷ later.0 i, later.1)
