-- Where the i-th of all that is counted is, by sums.
use Rattle.std.proofs.Common.{◌≡◌, ℕ, zero, suc, ◌+◌, ◌-◌, ◌<◌, ◌≤◌, List, [], ◌∷◌, Some, None, length, get_or, take, refl, ap, arith}
use Rattle.std.specs.List.{sum}
use Rattle.std.proofs.lemmas.Bool.{lt-ltb, le-ltb}
use Rattle.std.proofs.lemmas.List.Sums.{sum_by-cons, sum_by_more_le}
use Rattle.count_tree.specs.Places.{place_of}

-- there is nothing from the sum on
pub no_place : (counts : List ℕ) (i : ℕ) → sum counts ≤ i → place_of counts i ≡ None
no_place [] i past = refl
no_place (c ∷ cs) i past =
    let s : sum (c ∷ cs) ≡ c + sum cs = sum_by-cons (λ x. x) c cs in
    rw (le-ltb i c (omega (arith, s, past)), no_place cs (i - c) (omega (arith, s, past))) refl

-- with n's counts before it, thing j of the place n
pub place_at : (counts : List ℕ) (n j i : ℕ) → j < get_or counts n 0 → sum (take n counts) + j ≡ i → place_of counts i ≡ Some (n, j)
place_at [] n j i h e = absurd (omega (arith, h))
place_at (c ∷ cs) zero j i h e =
    let same : i ≡ j = omega (arith, e) in
    rw (lt-ltb i c (omega (arith, h, same))) (ap (λ k. Some (0, k)) same)
place_at (c ∷ cs) (suc n) j i h e =
    let s : sum (take (suc n) (c ∷ cs)) ≡ c + sum (take n cs) = sum_by-cons (λ x. x) c (take n cs) in
    rw (le-ltb i c (omega (arith, s, e)), place_at cs n j (i - c) h (omega (arith, s, e))) refl

-- a sum of 0 has no other count
pub zero_counts : (counts : List ℕ) → sum counts ≡ 0 → (n : ℕ) → n < length counts → get_or counts n 0 ≡ 0
zero_counts counts none n h = omega (arith, sum_by_more_le (λ x. x) counts n 0 h)

-- and counts of 0 have no other sum
pub zero_sum : (counts : List ℕ) → ((n : ℕ) → n < length counts → get_or counts n 0 ≡ 0) → sum counts ≡ 0
zero_sum [] none = refl
zero_sum (c ∷ cs) none =
    let s : sum (c ∷ cs) ≡ c + sum cs = sum_by-cons (λ x. x) c cs in
    let first : c ≡ 0 = none 0 (omega arith) in
    let rest : sum cs ≡ 0 = zero_sum cs (λ n h. none (suc n) (omega (arith, h))) in
    omega (arith, s, first, rest)
