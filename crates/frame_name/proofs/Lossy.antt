-- What replaces bytes that are no UTF-8 gives UTF-8.
use Rattle.std.proofs.Common.{ℕ, zero, suc, ◌≤◌, List, [], ◌∷◌, ◌++◌, length, take, refl, sym, subst, ⊎_elim, arith}
use Rattle.std.specs.Str.{IsUtf8, is_utf8}
use Rattle.std.specs.Str.Lossy.{valid_len_up_to, utf8_valid_len, utf8_lossy, after_first_chunk, replacement_bytes}
use Rattle.std.proofs.lemmas.Bool.{cases_Bool, cases_eq, cond-true, cond-false}
use Rattle.std.proofs.lemmas.List.{take_all}
use Rattle.std.proofs.lemmas.Str.{IsUtf8-append, IsUtf8-from_is_utf8, IsUtf8-nil, utf8_lossy-IsUtf8, utf8_lossy_step, utf8_valid_len_le}
use Rattle.core.proofs.str.Lossy.{length-after_first_chunk}
use Rattle.std.proofs.Math.Utf8.{encode}

front_up_to : (bs : List ℕ) (n : ℕ) → IsUtf8 (take (valid_len_up_to bs n) bs)
front_up_to bs zero = IsUtf8-nil
front_up_to bs (suc n) =
    ⊎_elim
    (λ yes. subst (λ k. IsUtf8 (take k bs)) (sym (cond-true _ _ _ yes)) (IsUtf8-from_is_utf8 (take (suc n) bs) yes))
    (λ no. subst (λ k. IsUtf8 (take k bs)) (sym (cond-false _ _ _ no)) (front_up_to bs n))
    (cases_Bool (is_utf8 (take (suc n) bs)))

front_utf8 : (bs : List ℕ) → IsUtf8 (take (utf8_valid_len bs) bs)
unfolding utf8_valid_len
front_utf8 bs = front_up_to bs (length bs)

replaced : IsUtf8 replacement_bytes
unfolding encode
replaced = (0xFFFD ∷ [], (refl, refl))

by_chunks : (fuel : ℕ) (bs : List ℕ) → length bs ≤ fuel → IsUtf8 (utf8_lossy bs)
by_chunks zero bs h =
    ⊎_elim
    (λ e. let u : IsUtf8 bs = subst IsUtf8 (take_all (utf8_valid_len bs) bs (omega (arith, e))) (front_utf8 bs) in
    subst IsUtf8 (sym (utf8_lossy-IsUtf8 bs u)) u)
    (λ n. absurd (n (omega (arith, h, utf8_valid_len_le bs))))
    (cases_eq (utf8_valid_len bs) (length bs))
by_chunks (suc fuel) bs h =
    ⊎_elim
    (λ e. let u : IsUtf8 bs = subst IsUtf8 (take_all (utf8_valid_len bs) bs (omega (arith, e))) (front_utf8 bs) in
    subst IsUtf8 (sym (utf8_lossy-IsUtf8 bs u)) u)
    (λ n. subst IsUtf8 (sym (utf8_lossy_step bs n))
    (IsUtf8-append (take (utf8_valid_len bs) bs) (replacement_bytes ++ utf8_lossy (after_first_chunk bs)) (front_utf8 bs)
    (IsUtf8-append replacement_bytes (utf8_lossy (after_first_chunk bs)) replaced
    (by_chunks fuel (after_first_chunk bs) (omega (arith, h, length-after_first_chunk bs n))))))
    (cases_eq (utf8_valid_len bs) (length bs))

pub lossy_utf8 : (bs : List ℕ) → IsUtf8 (utf8_lossy bs)
lossy_utf8 bs = by_chunks (length bs) bs (omega arith)
