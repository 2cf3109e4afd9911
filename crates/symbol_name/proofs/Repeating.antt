-- A step that shortens a text, taken until it gives nothing.
use Rattle.std.proofs.Common.{◌≡◌, ◌∙◌, ◌<◌, ◌≤◌, ℕ, zero, suc, List, length, refl, sym, ap, arith}
use Rattle.std.specs.Prelude.{Option, None, Some, option_map, unwrap_or}
use Rattle.symbol_name.specs.Repeats.{repeat, settled}

-- whether each step shortens the text
pub record Shortens (step : List ℕ → Option (List ℕ)) : Type 0 where
  pub less : (text left : List ℕ) → step text ≡ Some left → length left < length text

module _ (step : List ℕ → Option (List ℕ)) (shortens : Shortens step) where
  -- a text of no bytes has no step
  stays : (f : List ℕ → List ℕ) (text : List ℕ) (o : Option (List ℕ)) → step text ≡ o → length text ≤ 0 →
      unwrap_or (option_map f o) text ≡ text
  stays f text None e l = refl
  stays f text (Some left) e l = absurd (omega (arith, shortens.less text left e))

  -- a step, and then the same of what is left
  goes_on : (n m : ℕ) (text : List ℕ) (o : Option (List ℕ)) → step text ≡ o → length text ≤ suc n → length text ≤ suc m →
      ((left : List ℕ) → length left ≤ n → length left ≤ m → repeat step n left ≡ repeat step m left) →
      unwrap_or (option_map (repeat step n) o) text ≡ unwrap_or (option_map (repeat step m) o) text
  goes_on n m text None e ln lm same = refl
  goes_on n m text (Some left) e ln lm same =
      let less = shortens.less text left e in same left (omega arith) (omega arith)

  -- as many steps as a text has bytes are enough
  enough : (n m : ℕ) (text : List ℕ) → length text ≤ n → length text ≤ m → repeat step n text ≡ repeat step m text
  unfolding repeat
  enough zero zero text ln lm = refl
  enough zero (suc m) text ln lm = sym (stays (repeat step m) text (step text) refl ln)
  enough (suc n) zero text ln lm = stays (repeat step n) text (step text) refl lm
  enough (suc n) (suc m) text ln lm = goes_on n m text (step text) refl ln lm (λ left a b. enough n m left a b)

  -- as many steps as are left, or as many as what is left has bytes
  as_many : (text : List ℕ) (o : Option (List ℕ)) → step text ≡ o →
      unwrap_or (option_map (repeat step (length text)) o) text ≡ unwrap_or (option_map (settled step) o) text
  unfolding settled
  as_many text None e = refl
  as_many text (Some left) e =
      let less = shortens.less text left e in enough (length text) (length left) left (omega arith) (omega arith)

  -- one step of it, and then the same of what is left
  pub settled_step : (text : List ℕ) → settled step text ≡ unwrap_or (option_map (settled step) (step text)) text
  unfolding repeat settled
  settled_step text = enough (length text) (suc (length text)) text (omega arith) (omega arith) ∙ as_many text (step text) refl

  pub settled_none : (text : List ℕ) → step text ≡ None → settled step text ≡ text
  settled_none text e = settled_step text ∙ ap (λ o. unwrap_or (option_map (settled step) o) text) e

  pub settled_some : (text left : List ℕ) → step text ≡ Some left → settled step text ≡ settled step left
  settled_some text left e = settled_step text ∙ ap (λ o. unwrap_or (option_map (settled step) o) text) e

  -- a step gives nothing of what is left
  left_none : (n : ℕ) (text : List ℕ) (o : Option (List ℕ)) → step text ≡ o → length text ≤ suc n →
      ((left : List ℕ) → length left ≤ n → step (repeat step n left) ≡ None) → step (unwrap_or (option_map (repeat step n) o) text) ≡ None
  left_none n text None e l rest = e
  left_none n text (Some left) e l rest = let less = shortens.less text left e in rest left (omega arith)

  empty_none : (text : List ℕ) (o : Option (List ℕ)) → step text ≡ o → length text ≤ 0 → step text ≡ None
  empty_none text None e l = e
  empty_none text (Some left) e l = absurd (omega (arith, shortens.less text left e))

  repeat_none : (n : ℕ) (text : List ℕ) → length text ≤ n → step (repeat step n text) ≡ None
  unfolding repeat
  repeat_none zero text l = empty_none text (step text) refl l
  repeat_none (suc n) text l = left_none n text (step text) refl l (λ left a. repeat_none n left a)

  pub settled_stays : (text : List ℕ) → step (settled step text) ≡ None
  unfolding settled
  settled_stays text = repeat_none (length text) text (omega arith)

  -- a second pass does nothing
  pub settled_twice : (text : List ℕ) → settled step (settled step text) ≡ settled step text
  settled_twice text = settled_none (settled step text) (settled_stays text)

  -- what is left is not longer
  not_longer : (n : ℕ) (text : List ℕ) (o : Option (List ℕ)) → step text ≡ o →
      ((left : List ℕ) → length (repeat step n left) ≤ length left) → length (unwrap_or (option_map (repeat step n) o) text) ≤ length text
  not_longer n text None e rest = omega arith
  not_longer n text (Some left) e rest = let less = shortens.less text left e in omega (arith, rest left)

  repeat_not_longer : (n : ℕ) (text : List ℕ) → length (repeat step n text) ≤ length text
  unfolding repeat
  repeat_not_longer zero text = omega arith
  repeat_not_longer (suc n) text = not_longer n text (step text) refl (λ left. repeat_not_longer n left)

  pub settled_not_longer : (text : List ℕ) → length (settled step text) ≤ length text
  unfolding settled
  settled_not_longer text = repeat_not_longer (length text) text
