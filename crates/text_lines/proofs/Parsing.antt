-- Lines one after another, one line at a time.
use Rattle.std.proofs.Common.{◌≡◌, ◌≢◌, inl, inr, ℕ, suc, ◌+◌, List, [], ◌∷◌, ◌++◌, append_assoc, Result, Ok, Err, refl, ap, ◌∙◌, subst, sym, arith}
use Rattle.text_lines.specs.declared.text_error.TextError.{TextError}
use Rattle.text_lines.specs.declared.text_error.TextError.TheVariants.{OutOfMemory}
use Rattle.text_lines.proofs.Errors.{ok_inj, then_inv}
use Rattle.text_lines.specs.Parsing.{and_then, parsed_lines, TakesLines, RefusesLines, TakesBy, RefusesBy}

module _ {P : Type 0} (takes : P → ℕ → List ℕ → P → Type 0) (refuses : P → ℕ → List ℕ → TextError → Type 0) (old : P) (line_number : ℕ) where
  -- no line is left
  pub none_left : (lines : List (List ℕ)) → lines ≡ [] → TakesLines takes old line_number lines old
  none_left lines none = subst (λ ls. TakesLines takes old line_number ls old) (sym none) refl

  module _ (lines rest : List (List ℕ)) (line : List ℕ) (is : lines ≡ line ∷ rest) where
    -- the next line is taken, and then the others
    pub next_taken : (next new : P) → takes old line_number line next → TakesLines takes next (line_number + 1) rest new → TakesLines takes old line_number lines new
    next_taken next new here later =
        let e : line_number + 1 ≡ suc line_number = omega arith in
        subst (λ ls. TakesLines takes old line_number ls new) (sym is) (next, here, subst (λ n. TakesLines takes next n rest new) e later)

    -- the next line is refused
    pub next_refused : (e : TextError) → refuses old line_number line e → RefusesLines takes refuses old line_number lines e
    next_refused e here = subst (λ ls. RefusesLines takes refuses old line_number ls e) (sym is) (inl here)

    -- the next line is taken, and a later one is refused
    pub later_refused : (next : P) (e : TextError) → takes old line_number line next → RefusesLines takes refuses next (line_number + 1) rest e → RefusesLines takes refuses old line_number lines e
    later_refused next e here later =
        let s : line_number + 1 ≡ suc line_number = omega arith in
        subst (λ ls. RefusesLines takes refuses old line_number ls e) (sym is) (inr (next, here, subst (λ n. RefusesLines takes refuses next n rest e) s later))

-- lines by a step, one at a time
module _ {S : Type 0} (step : S → ℕ → List ℕ → Result S TextError) (s : S) (line_number : ℕ) where
  pub parsed_none : parsed_lines step s line_number [] ≡ Ok s
  unfolding parsed_lines
  parsed_none = refl

  pub parsed_good : (line : List ℕ) (rest : List (List ℕ)) (next : S) → step s line_number line ≡ Ok next → parsed_lines step s line_number (line ∷ rest) ≡ parsed_lines step next (suc line_number) rest
  unfolding parsed_lines
  parsed_good line rest next is = ap (λ r. and_then r (λ more. parsed_lines step more (suc line_number) rest)) is

  pub parsed_bad : (line : List ℕ) (rest : List (List ℕ)) (e : TextError) → step s line_number line ≡ Err e → parsed_lines step s line_number (line ∷ rest) ≡ Err e
  unfolding parsed_lines
  parsed_bad line rest e is = ap (λ r. and_then r (λ more. parsed_lines step more (suc line_number) rest)) is

-- lines that are parsed, and one behind them
module _ {S : Type 0} (step : S → ℕ → List ℕ → Result S TextError) where
  pub parsed_then : (ls : List (List ℕ)) (s : S) (number : ℕ) (u m : S) (line : List ℕ) → parsed_lines step s number ls ≡ Ok u → ((k : ℕ) → step u k line ≡ Ok m) → parsed_lines step s number (ls ++ line ∷ []) ≡ Ok m
  unfolding parsed_lines
  parsed_then [] s number u m line e next = let same : s ≡ u = ok_inj s u e in ap (λ r. and_then r (λ x. parsed_lines step x (suc number) [])) (subst (λ x. step x number line ≡ Ok m) (sym same) (next number))
  parsed_then (l ∷ ls) s number u m line e next =
      let a = then_inv (step s number l) _ u e in
      ap (λ r. and_then r (λ x. parsed_lines step x (suc number) (ls ++ line ∷ []))) a.1 ∙ parsed_then ls a.0 (suc number) u m line a.2 next

  -- lines that are parsed, cut before one of them
  pub parsed_split : (ls : List (List ℕ)) (s : S) (number : ℕ) (u : S) (line : List ℕ) (after : List (List ℕ)) → parsed_lines step s number (ls ++ line ∷ after) ≡ Ok u → (m : S) × (parsed_lines step s number ls ≡ Ok m) × ((k : ℕ) × (n : S) × (step m k line ≡ Ok n))
  unfolding parsed_lines
  parsed_split [] s number u line after e = let a = then_inv (step s number line) _ u e in (s, refl, (number, a.0, a.1))
  parsed_split (l ∷ ls) s number u line after e =
      let a = then_inv (step s number l) _ u e in
      let b = parsed_split ls a.0 (suc number) u line after a.2 in
      (b.0, ap (λ r. and_then r (λ x. parsed_lines step x (suc number) ls)) a.1 ∙ b.1, b.2)

-- one line more before the others
pub append_one : {X : Type 0} (xs : List X) (x : X) (ys : List X) → xs ++ (x ∷ ys) ≡ (xs ++ x ∷ []) ++ ys
append_one xs x ys = sym (append_assoc xs (x ∷ []) ys)

-- a parser that goes by a step
module _ {P S C : Type 0} (context : P → C) (view : P → S) (step : C → S → ℕ → List ℕ → Result S TextError) where
  -- the lines that it takes are parsed as what it is then seen as
  pub taken_parsed : (lines : List (List ℕ)) (old : P) (line_number : ℕ) (new : P) → TakesLines (TakesBy context view step) old line_number lines new → (parsed_lines (step (context old)) (view old) line_number lines ≡ Ok (view new)) × (context new ≡ context old)
  taken_parsed [] old line_number new same = (parsed_none (step (context old)) (view old) line_number ∙ ap (λ p. Ok (view p)) same, ap context (sym same))
  taken_parsed (line ∷ rest) old line_number new h =
      let here = h.1 in
      let later = taken_parsed rest h.0 (suc line_number) new h.2 in (
        parsed_good (step (context old)) (view old) line_number line rest (view h.0) here.0
            ∙ ap (λ c. parsed_lines (step c) (view h.0) (suc line_number) rest) (sym here.1)
            ∙ later.0,
        later.1 ∙ here.1,
      )

  -- the error of a line that it refuses is the first error of the lines
  pub refused_parsed : (lines : List (List ℕ)) (old : P) (line_number : ℕ) (e : TextError) → RefusesLines (TakesBy context view step) (RefusesBy context view step) old line_number lines e → e ≢ OutOfMemory → parsed_lines (step (context old)) (view old) line_number lines ≡ Err e
  refused_parsed [] old line_number e h memory = absurd h
  refused_parsed (line ∷ rest) old line_number e (inl here) memory = parsed_bad (step (context old)) (view old) line_number line rest e (here memory)
  refused_parsed (line ∷ rest) old line_number e (inr h) memory =
      parsed_good (step (context old)) (view old) line_number line rest (view h.0) h.1.0
      ∙ ap (λ c. parsed_lines (step c) (view h.0) (suc line_number) rest) (sym h.1.1)
      ∙ refused_parsed rest h.0 (suc line_number) e h.2 memory

-- a parser that goes by a step, from what it is seen as before the first line
module _ {P S C : Type 0} (context : P → C) (view : P → S) (step : C → S → ℕ → List ℕ → Result S TextError) (c : C) (start : S) (lines : List (List ℕ)) (old : P) (same : context old ≡ c) (begins : view old ≡ start) where
  -- all lines are taken
  pub all_parsed : (new : P) → TakesLines (TakesBy context view step) old 1 lines new → parsed_lines (step c) start 1 lines ≡ Ok (view new)
  all_parsed new taken = (λ i. parsed_lines (step (sym same i)) (sym begins i) 1 lines) ∙ (taken_parsed context view step lines old 1 new taken).0

  pub same_context : (new : P) → TakesLines (TakesBy context view step) old 1 lines new → context new ≡ c
  same_context new taken = (taken_parsed context view step lines old 1 new taken).1 ∙ same

  -- a line is refused
  pub first_error : (e : TextError) → RefusesLines (TakesBy context view step) (RefusesBy context view step) old 1 lines e → e ≢ OutOfMemory → parsed_lines (step c) start 1 lines ≡ Err e
  first_error e refused memory = (λ i. parsed_lines (step (sym same i)) (sym begins i) 1 lines) ∙ refused_parsed context view step lines old 1 e refused memory
