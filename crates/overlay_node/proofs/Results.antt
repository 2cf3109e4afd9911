-- What holds of results and options.
use Rattle.std.proofs.Common.{◌≡◌, Bool, true, not, Option, Some, None}
use Rattle.std.specs.Prelude.{IfNone, IfOk, is_some, Result, Ok, Err}

-- there is no first one
pub no_first : {X P : Type 0} (o : Option X) (b : Bool) → IfNone o P → is_some o ≡ not b → b ≡ true → P
no_first None b h e t = h
no_first (Some x) b h e t = absurd (cc)

-- what follows from two clauses on a call's value
pub both_if_ok : {T E : Type 0} {P Q R : T → Type 0} (r : Result T E) → IfOk r P → IfOk r Q → ((x : T) → P x → Q x → R x) → IfOk r R
both_if_ok (Ok x) a b f = f x a b
both_if_ok (Err e) a b f = tt
