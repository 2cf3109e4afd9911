-- The search for the shortest cycle, step by step.
use Rattle.std.proofs.Common.{◌≡◌, ◌∙◌, ℕ, suc, ◌+◌, ◌-◌, ◌<◌, true, false, cond, refl, ap, sym, arith}
use Rattle.stack_path.specs.Beginnings.{Stack}
use Rattle.stack_path.specs.Recursion.{ends_twice, cycle_from, cycle_len}

pub search_begins : (s : Stack) → cycle_len s ≡ cycle_from 32 1 s
unfolding cycle_len
search_begins s = refl

here : (fuel n : ℕ) (s : Stack) → ends_twice n s ≡ true → cycle_from (suc fuel) n s ≡ n
unfolding cycle_from
here fuel n s h = ap (λ b. cond b n (cycle_from fuel (suc n) s)) h

later : (fuel n : ℕ) (s : Stack) → ends_twice n s ≡ false → cycle_from (suc fuel) n s ≡ cycle_from fuel (suc n) s
unfolding cycle_from
later fuel n s h = ap (λ b. cond b n (cycle_from fuel (suc n) s)) h

nothing_left : (n : ℕ) (s : Stack) → cycle_from 0 n s ≡ 0
unfolding cycle_from
nothing_left n s = refl

pub found_here : (n : ℕ) (s : Stack) → n < 33 → cycle_len s ≡ cycle_from (33 - n) n s → ends_twice n s ≡ true → n ≡ cycle_len s
found_here n s lt so_far h =
    let e : 33 - n ≡ suc (32 - n) = omega arith in
    sym (so_far ∙ ap (λ k. cycle_from k n s) e ∙ here (32 - n) n s h)

pub not_here : (n : ℕ) (s : Stack) → n < 33 → cycle_len s ≡ cycle_from (33 - n) n s → ends_twice n s ≡ false →
    cycle_len s ≡ cycle_from (33 - (n + 1)) (n + 1) s
not_here n s lt so_far h =
    let e : 33 - n ≡ suc (32 - n) = omega arith in
    let a : 32 - n ≡ 33 - (n + 1) = omega arith in
    let b : suc n ≡ n + 1 = omega arith in
    so_far ∙ ap (λ k. cycle_from k n s) e ∙ later (32 - n) n s h
    ∙ ap (λ k. cycle_from k (suc n) s) a ∙ ap (λ m. cycle_from (33 - (n + 1)) m s) b

pub found_none : (n : ℕ) (s : Stack) → n ≡ 33 → cycle_len s ≡ cycle_from (33 - n) n s → 0 ≡ cycle_len s
found_none n s at_end so_far = sym (so_far ∙ ap (λ m. cycle_from (33 - m) m s) at_end ∙ nothing_left 33 s)
