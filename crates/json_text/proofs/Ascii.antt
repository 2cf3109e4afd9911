-- The text of a set of ranks is ASCII, and so UTF-8.
use Rattle.std.proofs.Common.{ℕ, zero, suc, ◌+◌, ◌<◌, ◌/◌, ◌%◌, ◌==◌, Bool, true, false, cond, List, [], ◌∷◌, ◌++◌, arith}
use Rattle.std.specs.Prelude.{nat_eq, nat_lt}
use Rattle.std.specs.Fmt.{decimal, digit_glyph, digits, digits_onto}
use Rattle.std.specs.Str.{IsAscii, IsUtf8}
use Rattle.std.proofs.lemmas.Str.{IsAscii-append, IsUtf8-from_ascii}
use Rattle.std.proofs.lemmas.Str.Ascii.{IsAscii-nil}
use Rattle.rank_set.specs.Ranks.{Ranks, in_order, size}
use Rattle.rank_set.specs.Runs.{runs_of}
use Rattle.rank_set.specs.Text.{run_text, runs_text, text_of}

byte_before : (b : ℕ) (bs : List ℕ) → b < 128 → IsAscii bs → IsAscii (b ∷ bs)
byte_before b bs small rest zero = small
byte_before b bs small rest (suc i) = rest i

either_ascii : (b : Bool) (xs ys : List ℕ) → IsAscii xs → IsAscii ys → IsAscii (cond b xs ys)
either_ascii true xs ys one other = one
either_ascii false xs ys one other = other

glyph_small : (b : Bool) (d : ℕ) → d < 10 → cond b (48 + d) (87 + d) < 128
glyph_small true d small = omega arith
glyph_small false d small = omega arith

digits_ascii : (k n : ℕ) (acc : List ℕ) → IsAscii acc → IsAscii (digits_onto k 10 false n acc)
digits_ascii zero n acc rest = rest
digits_ascii (suc k) n acc rest =
    let with_digit : IsAscii (digit_glyph false (n % 10) ∷ acc) = byte_before (digit_glyph false (n % 10)) acc (glyph_small (nat_lt (n % 10) 10) (n % 10) (omega arith)) rest in
    either_ascii (n / 10 == 0) (digit_glyph false (n % 10) ∷ acc) (digits_onto k 10 false (n / 10) (digit_glyph false (n % 10) ∷ acc)) with_digit (digits_ascii k (n / 10) (digit_glyph false (n % 10) ∷ acc) with_digit)

decimal_ascii : (n : ℕ) → IsAscii (decimal n)
unfolding digits
decimal_ascii n = digits_ascii 64 n [] IsAscii-nil

run_ascii : (r : ℕ × ℕ) → IsAscii (run_text r)
run_ascii r =
    either_ascii (nat_eq r.0 r.1) (decimal r.0) (decimal r.0 ++ 45 ∷ decimal r.1) (decimal_ascii r.0)
    (IsAscii-append (decimal r.0) (45 ∷ decimal r.1) (decimal_ascii r.0) (byte_before 45 (decimal r.1) (omega arith) (decimal_ascii r.1)))

runs_ascii : (rs : List (ℕ × ℕ)) → IsAscii (runs_text rs)
runs_ascii [] = IsAscii-nil
runs_ascii (r ∷ []) = run_ascii r
runs_ascii (r ∷ s ∷ rs) = IsAscii-append (run_text r) (44 ∷ runs_text (s ∷ rs)) (run_ascii r) (byte_before 44 (runs_text (s ∷ rs)) (omega arith) (runs_ascii (s ∷ rs)))

ranks_ascii : (s : Ranks) → IsAscii (text_of s)
ranks_ascii s =
    IsAscii-append (decimal (size s)) (58 ∷ 91 ∷ (runs_text (runs_of (in_order s)) ++ 93 ∷ [])) (decimal_ascii (size s))
    (byte_before 58 (91 ∷ (runs_text (runs_of (in_order s)) ++ 93 ∷ [])) (omega arith) (byte_before 91 (runs_text (runs_of (in_order s)) ++ 93 ∷ []) (omega arith)
    (IsAscii-append (runs_text (runs_of (in_order s))) (93 ∷ []) (runs_ascii (runs_of (in_order s))) (byte_before 93 [] (omega arith) IsAscii-nil))))

pub ranks_utf8 : (s : Ranks) → IsUtf8 (text_of s)
ranks_utf8 s = IsUtf8-from_ascii (text_of s) (ranks_ascii s)
