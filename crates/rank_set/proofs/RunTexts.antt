-- A run's text, written from its end.
use Rattle.std.proofs.Common.{◌≡◌, ◌∙◌, ℕ, ◌+◌, ◌-◌, ◌<◌, ◌≤◌, List, ◌∷◌, ◌++◌, length, drop, set, cond, sym, ap, arith, eq-eqb, ne_eqb}
use Rattle.std.specs.Fmt.{decimal}
use Rattle.std.proofs.lemmas.Fmt.{length-decimal-le, decimal_nonempty}
use Rattle.std.proofs.lemmas.List.{append-nil, drop-set, drop_all, length-drop}
use Rattle.rank_set.specs.Text.{run_text}

-- a rank has seven digits at most, and one at least
pub few_digits : (n : ℕ) → n < 1048576 → length (decimal n) ≤ 7
few_digits n few = length-decimal-le 7 n (omega arith) (omega (arith, few)) (omega (arith, few))

pub some_digit : (n : ℕ) → n < 1048576 → 1 ≤ length (decimal n)
some_digit n few = decimal_nonempty n (omega (arith, few))

-- the last rank's digits stand at the end of a buffer
module _ (first last : ℕ) (old one : List ℕ) (at : ℕ) (len : length old ≡ 16) (written : drop at one ≡ decimal last ++ drop 16 old) where
  digits : drop at one ≡ decimal last
  digits = written ∙ ap (λ t. decimal last ++ t) (drop_all 16 old (omega (arith, len))) ∙ append-nil (decimal last)

  -- it ends behind where they start
  pub inside : 1 ≤ length (decimal last) → at ≤ length one
  inside some = let all = ap length digits in let left = length-drop at one in omega (arith, all, left, some)

  -- they are all of the text
  pub one_text : first ≡ last → drop at one ≡ run_text (first, last)
  one_text same = digits ∙ ap decimal (sym same) ∙ sym (ap (λ t. cond t (decimal first) (decimal first ++ 45 ∷ decimal last)) (eq-eqb first last same))

  -- or the first rank's are put before them
  pub two_text : (two : List ℕ) (to : ℕ) → (first ≡ last → ⊥) → 1 ≤ at → 1 ≤ length (decimal last) → drop to two ≡ decimal first ++ drop (at - 1) (set one (at - 1) 45) → drop to two ≡ run_text (first, last)
  two_text two to other some digit before =
      let next : at - 1 + 1 ≡ at = omega arith in
      before
      ∙ ap (λ t. decimal first ++ t) (drop-set one (at - 1) 45 (omega (arith, some, inside digit)) ∙ ap (λ n. 45 ∷ drop n one) next ∙ ap (λ t. 45 ∷ t) digits)
      ∙ sym (ap (λ t. cond t (decimal first) (decimal first ++ 45 ∷ decimal last)) (ne_eqb first last other))
