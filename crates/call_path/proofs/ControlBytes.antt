-- Where a text has no control byte, none of its frames has one.
use Rattle.std.proofs.Common.{◌≡◌, ℕ, zero, suc, ◌+◌, ◌<◌, ◌≤◌, Bool, false, not, cond, ◌||◌, nat_lt, List, [], ◌∷◌, length, drop, take, None, Some, refl, ap, ◌∙◌, arith}
use Rattle.std.specs.Prelude.{position}
use Rattle.std.specs.List.{list_any, position_or_len}
use Rattle.std.proofs.lemmas.Bool.{or_parts, le-ltb, lt-leb, ne_eqb}
use Rattle.call_path.specs.Reading.{frame_error, is_control}

-- of a text without a byte that passes a test, no part has one
none_in_front : (test : ℕ → Bool) (n : ℕ) (text : List ℕ) → list_any test text ≡ false → list_any test (take n text) ≡ false
none_in_front test zero text none = refl
none_in_front test (suc n) [] none = refl
none_in_front test (suc n) (b ∷ text) none =
    let parts = or_parts (test b) (list_any test text) none in
    (λ i. parts.0 i || none_in_front test n text parts.1 i)

none_behind : (test : ℕ → Bool) (n : ℕ) (text : List ℕ) → list_any test text ≡ false → list_any test (drop n text) ≡ false
none_behind test zero text none = none
none_behind test (suc n) [] none = refl
none_behind test (suc n) (b ∷ text) none = none_behind test n text (or_parts (test b) (list_any test text) none).1

pub none_between : (test : ℕ → Bool) (start len : ℕ) (text : List ℕ) → list_any test text ≡ false → list_any test (take len (drop start text)) ≡ false
none_between test start len text none = none_in_front test len (drop start text) (none_behind test start text none)

-- and such a byte has no place
none_first : (test : ℕ → Bool) (text : List ℕ) → list_any test text ≡ false → position_or_len test text ≡ length text
none_first test [] none = refl
none_first test (b ∷ text) none =
    let parts = or_parts (test b) (list_any test text) none in
    let e : 1 + length text ≡ suc (length text) = omega arith in
    (λ i. cond (not (parts.0 i)) (1 + none_first test text parts.1 i) 0) ∙ e

no_position : (test : ℕ → Bool) (text : List ℕ) → list_any test text ≡ false → position test text ≡ None
no_position test text none =
    ap (λ n. cond (nat_lt n (length text)) (Some n) None) (none_first test text none)
    ∙ ap (λ t. cond t (Some (length text)) None) (le-ltb (length text) (length text) (omega arith))

-- a frame of a good length without a control byte has no error, if it is not too deep
pub clean_frame : (i offset : ℕ) (frame : List ℕ) → i < 128 → 0 < length frame → length frame ≤ 1023 → list_any is_control frame ≡ false → frame_error i offset frame ≡ None
unfolding frame_error
clean_frame i offset frame deep some long clean =
    rw (lt-leb 128 i deep, ne_eqb (length frame) 0 (λ e. omega arith), le-ltb 1023 (length frame) long, no_position is_control frame clean) refl
