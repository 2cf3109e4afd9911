-- A text at its first space.
use Rattle.std.proofs.Common.{◌≡◌, ℕ, suc, ◌+◌, Bool, true, false, not, cond, nat_eq, List, [], ◌∷◌, ◌++◌, length, drop, take, refl, sym, ap, ◌∙◌, arith}
use Rattle.std.proofs.lemmas.Bool.{eqb-true}
use Rattle.journal_text.specs.Words.{has_no_space, word_len}

-- no space stands before the first one
pub before_space : (text : List ℕ) → has_no_space (take (word_len text) text) ≡ true
before_space [] = refl
before_space (b ∷ rest) = by (not (nat_eq b 32)) refl (before_space rest)
  where
    by : (t : Bool) → not (nat_eq b 32) ≡ t → has_no_space (take (word_len rest) rest) ≡ true → has_no_space (take (cond t (1 + word_len rest) 0) (b ∷ rest)) ≡ true
    by true e later = let n : 1 + word_len rest ≡ suc (word_len rest) = omega arith in rw n (rw e later)
    by false e later = refl

-- a text where a space is found
pub at_space : (text : List ℕ) (b : ℕ) (rest : List ℕ) → drop (word_len text) text ≡ b ∷ rest → text ≡ take (word_len text) text ++ 32 ∷ rest
at_space [] b rest e = absurd (cc)
at_space (c ∷ text) b rest e = by (nat_eq c 32) refl e (at_space text b rest)
  where
    by : (t : Bool) → nat_eq c 32 ≡ t → drop (cond (not t) (1 + word_len text) 0) (c ∷ text) ≡ b ∷ rest → (drop (word_len text) text ≡ b ∷ rest → text ≡ take (word_len text) text ++ 32 ∷ rest) → c ∷ text ≡ take (cond (not t) (1 + word_len text) 0) (c ∷ text) ++ 32 ∷ rest
    by true is e later = let space = eqb-true c 32 is in cc
    by false is e later =
        let n : 1 + word_len text ≡ suc (word_len text) = omega arith in
        rw n (ap (λ t. c ∷ t) (later (ap (λ k. drop k (c ∷ text)) (sym n) ∙ e)))

-- a text where none is found
pub no_space : (text : List ℕ) → length (drop (word_len text) text) ≡ 0 → has_no_space text ≡ true
no_space [] e = refl
no_space (c ∷ text) e = by (nat_eq c 32) refl e (no_space text)
  where
    by : (t : Bool) → nat_eq c 32 ≡ t → length (drop (cond (not t) (1 + word_len text) 0) (c ∷ text)) ≡ 0 → (length (drop (word_len text) text) ≡ 0 → has_no_space text ≡ true) → has_no_space (c ∷ text) ≡ true
    by true is e later = absurd (omega arith)
    by false is e later =
        let n : 1 + word_len text ≡ suc (word_len text) = omega arith in
        rw is (later (ap (λ k. length (drop k (c ∷ text))) (sym n) ∙ e))
