-- What is found in a list.
use Rattle.std.proofs.Common.{◌≡◌, ℕ, zero, suc, ◌+◌, ◌<◌, Bool, true, cond, List, [], ◌∷◌, length, get_or, drop, Some, refl, sym, ap, ◌∙◌, arith}
use Rattle.std.specs.Prelude.{find}

-- what is found from a place on
pub find-from : {X : Type 0} (test : X → Bool) (xs : List X) (i : ℕ) (d : X) → i < length xs → find test (drop i xs) ≡ cond (test (get_or xs i d)) (Some (get_or xs i d)) (find test (drop (i + 1) xs))
find-from test [] i d lt = absurd (omega arith)
find-from test (x ∷ xs) zero d lt = refl
find-from test (x ∷ xs) (suc i) d lt = let e : suc i + 1 ≡ suc (i + 1) = omega arith in find-from test xs i d (omega arith) ∙ ap (λ k. cond (test (get_or xs i d)) (Some (get_or xs i d)) (find test (drop k (x ∷ xs)))) (sym e)

-- what is found at a place where the test passes
pub find-here : {X : Type 0} (test : X → Bool) (xs : List X) (i : ℕ) (d : X) → i < length xs → find test (drop i xs) ≡ find test xs → test (get_or xs i d) ≡ true → find test xs ≡ Some (get_or xs i d)
find-here test xs i d lt so_far passes = sym so_far ∙ find-from test xs i d lt ∙ ap (λ b. cond b (Some (get_or xs i d)) (find test (drop (i + 1) xs))) passes
