-- What a text is parsed as, and what a parser makes of its lines one after another.
use Rattle.std.specs.Prelude.{◌≡◌, ◌≢◌, ◌⊎◌, ℕ, suc, Bool, cond, List, [], ◌∷◌, Option, None, Some, Result, Ok, Err, IfOk, IfErr}
use Rattle.text_lines.specs.declared.text_error.TextError.{TextError}
use Rattle.text_lines.specs.declared.text_error.TextError.TheVariants.{OutOfMemory}

-- where a result is a value, it is the value that was to be parsed
abbrev pub IsValueOf : {A : Type 0} → Result A TextError → Result A TextError → Type 0
IsValueOf result parsed = IfOk result (λ value. parsed ≡ Ok value)

-- where a result is an error, it is the error that was to be found, unless memory ran out
abbrev pub IsErrorOf : {A B : Type 0} → Result A TextError → Result B TextError → Type 0
IsErrorOf result parsed = IfErr result (λ error. error ≢ OutOfMemory → parsed ≡ Err error)

-- a second step where the first finds no error
abbrev pub and_then : {A B : Type 0} → Result A TextError → (A → Result B TextError) → Result B TextError
and_then (Err e) next = Err e
and_then (Ok x) next = next x

-- a value, or this error where there is none
abbrev pub some_or : {A : Type 0} → TextError → Option A → Result A TextError
some_or error None = Err error
some_or error (Some x) = Ok x

-- a second step where a test holds, else an error
abbrev pub if_holds : {A : Type 0} → Bool → TextError → Result A TextError → Result A TextError
if_holds test error next = cond test next (Err error)

-- What lines are parsed as, one after another, where the first of them has a number: a step parses one line more. The
-- first error decides.
unfoldable pub parsed_lines : {S : Type 0} → (S → ℕ → List ℕ → Result S TextError) →
    S → ℕ → List (List ℕ) → Result S TextError
parsed_lines step s line_number [] = Ok s
parsed_lines step s line_number (line ∷ rest) =
    and_then (step s line_number line) (λ next. parsed_lines step next (suc line_number) rest)

-- a parser takes lines one after another, where the first of them has a number
abbrev pub TakesLines : {P : Type 0} → (P → ℕ → List ℕ → P → Type 0) → P → ℕ → List (List ℕ) → P → Type 0
TakesLines takes old line_number [] new = old ≡ new
TakesLines {P} takes old line_number (line ∷ rest) new =
    (next : P) × takes old line_number line next × TakesLines takes next (suc line_number) rest new

-- a parser refuses one of the lines, and takes those before it
abbrev pub RefusesLines : {P : Type 0} → (P → ℕ → List ℕ → P → Type 0) → (P → ℕ → List ℕ → TextError → Type 0) →
    P → ℕ → List (List ℕ) → TextError → Type 0
RefusesLines takes refuses old line_number [] e = ⊥
RefusesLines {P} takes refuses old line_number (line ∷ rest) e =
    refuses old line_number line e
    ⊎ ((next : P) × takes old line_number line next × RefusesLines takes refuses next (suc line_number) rest e)

-- a parser takes a line as the step says of its view, and keeps its context
abbrev pub TakesBy : {P S C : Type 0} → (P → C) → (P → S) → (C → S → ℕ → List ℕ → Result S TextError) →
    P → ℕ → List ℕ → P → Type 0
TakesBy context view step old line_number line new =
    (step (context old) (view old) line_number line ≡ Ok (view new)) × (context new ≡ context old)

-- a parser refuses a line as the step says of its view, unless memory runs out
abbrev pub RefusesBy : {P S C : Type 0} → (P → C) → (P → S) → (C → S → ℕ → List ℕ → Result S TextError) →
    P → ℕ → List ℕ → TextError → Type 0
RefusesBy context view step old line_number line e =
    e ≢ OutOfMemory → step (context old) (view old) line_number line ≡ Err e
