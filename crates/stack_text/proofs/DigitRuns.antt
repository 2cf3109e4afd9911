-- Digits that a text begins with, some at a time.
use Rattle.std.proofs.Common.{◌≡◌, ℕ, suc, zero, ◌+◌, ◌≤◌, Bool, List, [], ◌∷◌, length, take, drop, true, false, cond, arith}
use Rattle.std.specs.List.{list_all, prefix_len}
use Rattle.std.specs.Prelude.{◌&&◌}

-- what passes a test is passed over
pub passed_over : (p : ℕ → Bool) (n : ℕ) (text : List ℕ) → n ≤ length text → list_all p (take n text) ≡ true →
    prefix_len p text ≡ n + prefix_len p (drop n text)
passed_over p zero text fits all = omega arith
passed_over p (suc n) [] fits all = absurd (omega (arith, fits))
passed_over p (suc n) (b ∷ text) fits all = by (p b) all (passed_over p n text (omega (arith, fits)))
  where
    by : (t : Bool) → (t && list_all p (take n text)) ≡ true →
        (list_all p (take n text) ≡ true → prefix_len p text ≡ n + prefix_len p (drop n text)) →
        cond t (1 + prefix_len p text) 0 ≡ suc n + prefix_len p (drop n text)
    by true h later = let e = later h in omega (arith, e)
    by false h later = cc
