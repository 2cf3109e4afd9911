-- Errors that a call hands on.
use Rattle.std.proofs.Common.{◌≡◌, Bool, true, false, Option, None, Some, Ok, Err, Result, refl, ap, sym, subst}
use Rattle.std.specs.Result.{IfOk, IfErr, IsErr, IsErrAnd}
use Rattle.text_lines.specs.Parsing.{and_then, some_or, if_holds, IsValueOf}
use Rattle.text_lines.specs.declared.text_error.TextError.{TextError}

-- what is true of an error is true of the result that hands it on
pub handed_on : {A : Type 0} (result : Result A TextError) (error : TextError) (P : TextError → Type 0) →
    IsErr result × IsErrAnd result (λ e. e ≡ error) → P error → IfErr result P
handed_on (Ok value) error P is here = tt
handed_on (Err e) error P is here = subst P (sym is.1) here

-- what is true of the value that is parsed is true of the result that is that value
pub value_has : {A : Type 0} (result parsed : Result A TextError) (P : A → Type 0) → IsValueOf result parsed →
    ((value : A) → parsed ≡ Ok value → P value) → IfOk result P
value_has (Ok value) parsed P is has = has value is
value_has (Err e) parsed P is has = tt

-- steps that end well
pub then_inv : {A B : Type 0} (r : Result A TextError) (next : A → Result B TextError) (y : B) → and_then r next ≡ Ok y →
    (x : A) × (r ≡ Ok x) × (next x ≡ Ok y)
then_inv (Err e) next y h = cc
then_inv (Ok x) next y h = (x, refl, h)

-- a test that ends well
pub test_inv : {A : Type 0} (b : Bool) (e : TextError) (next : Result A TextError) (y : A) → if_holds b e next ≡ Ok y → (b ≡ true) × (next ≡ Ok y)
test_inv true e next y h = (refl, h)
test_inv false e next y h = cc

abbrev good : {A : Type 0} → A → Result A TextError
good x = Ok x

pub ok_inj : {A : Type 0} (x y : A) → good x ≡ good y → x ≡ y
ok_inj x y h = cc

pub some_inv : {A : Type 0} (e : TextError) (o : Option A) (x : A) → some_or e o ≡ Ok x → o ≡ Some x
some_inv e None x h = cc
some_inv e (Some y) x h = ap Some (ok_inj y x h)
