-- What a reader answers for a text that is good.
use Rattle.std.proofs.Common.{◌≡◌, ◌≢◌, Ok, Err, Result, refl}
use Rattle.text_lines.specs.declared.text_error.TextError.{TextError}
use Rattle.text_lines.specs.declared.text_error.TextError.TheVariants.{Bad, Over, OutOfMemory}

ok_not_err : {A : Type 0} (r : Result A TextError) (x : A) (e : TextError) → r ≡ Ok x → r ≡ Err e → ⊥
ok_not_err r x e good bad = cc

-- a error of it is out of memory
pub only_memory : {A : Type 0} (r : Result A TextError) (x : A) (e : TextError) → r ≡ Ok x → (e ≢ OutOfMemory → r ≡ Err e) → e ≡ OutOfMemory
only_memory r x (Bad line reason) good bad = absurd (ok_not_err r x (Bad line reason) good (bad (λ e. cc)))
only_memory r x (Over line what limit) good bad = absurd (ok_not_err r x (Over line what limit) good (bad (λ e. cc)))
only_memory r x OutOfMemory good bad = refl

-- what is read is what the text means
pub same_ok : {A : Type 0} (r : Result A TextError) (x y : A) → r ≡ Ok x → r ≡ Ok y → y ≡ x
same_ok r x y first second = cc
