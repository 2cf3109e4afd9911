-- The digits of a SHA-256: 64 of them, and that they tell it.
use Rattle.std.proofs.Common.{◌≡◌, ℕ, zero, suc, ◌*◌, ◌/◌, ◌%◌, ◌^◌, ◌<◌, Bool, true, List, [], ◌∷◌, length, refl, ap, ◌∙◌, arith}
use Rattle.std.specs.Prelude.{◌&&◌, not, nat_eq, nat_lt, slice_index}
use Rattle.std.specs.List.{list_all}
use Rattle.std.specs.Int.{w32, to_be_bytes, byte_at}
use Rattle.std.proofs.lemmas.Bool.{and_parts, and_from, lt-ltb, ltb-true, agree_below_at}
use Rattle.std.proofs.lemmas.List.Folds.{list_all-append}
use Rattle.sha2.specs.Sha256.{sha256, digest_bytes}
use Rattle.sha2.proofs.Facts256.{length-sha256}
use Rattle.hex.specs.Hex.{lower_digits, encode_with, encode_lower, decode_of, IsBytes}
use Rattle.hex.proofs.HexLemmas.{length-encode_with, decode_of-encode_lower}
use Rattle.call_path.specs.Good.{is_plain}
use Rattle.frame_name.specs.Fitted.{digits_of}
use Rattle.frame_name.proofs.FrameTexts.{IsFrameText, ascii_text, is_low}

-- bytes
is_byte : ℕ → Bool
is_byte b = nat_lt b 256

byte_is : (n : ℕ) → is_byte (n % 256) ≡ true
unfolding is_byte
byte_is n = lt-ltb (n % 256) 256 (omega arith)

word_bytes : (n : ℕ) → list_all is_byte (to_be_bytes w32 n) ≡ true
word_bytes n =
    and_from (is_byte (byte_at 3 n)) _ (byte_is (n / 256 ^ 3))
    (and_from (is_byte (byte_at 2 n)) _ (byte_is (n / 256 ^ 2))
    (and_from (is_byte (byte_at 1 n)) _ (byte_is (n / 256 ^ 1))
    (and_from (is_byte (byte_at 0 n)) true (byte_is n) refl)))

all_bytes : (words : List ℕ) (n : ℕ) → list_all is_byte (digest_bytes words n) ≡ true
unfolding digest_bytes
all_bytes words zero = refl
all_bytes words (suc n) =
    list_all-append is_byte (digest_bytes words n) (to_be_bytes w32 (slice_index words n))
    ∙ and_from (list_all is_byte (digest_bytes words n)) (list_all is_byte (to_be_bytes w32 (slice_index words n)))
    (all_bytes words n) (word_bytes (slice_index words n))

sha_bytes : (text : List ℕ) → list_all is_byte (sha256 text) ≡ true
unfolding sha256
sha_bytes text = all_bytes _ 8

bytes_from : (bytes : List ℕ) → list_all is_byte bytes ≡ true → IsBytes bytes
unfolding is_byte
bytes_from [] h i = omega arith
bytes_from (b ∷ bytes) h zero = ltb-true b 256 (and_parts (is_byte b) (list_all is_byte bytes) h).0
bytes_from (b ∷ bytes) h (suc i) = bytes_from bytes (and_parts (is_byte b) (list_all is_byte bytes) h).1 i

-- a digit is a plain byte of ASCII, and no dot
abbrev pub is_digit : ℕ → Bool
is_digit d = is_plain d && (is_low d && not (nat_eq d 46))

digit_at : (k : ℕ) → k < 16 → is_digit (slice_index lower_digits k) ≡ true
digit_at k h = agree_below_at (λ i. is_digit (slice_index lower_digits i)) (λ i. true) 16 k refl h

each_digit : (test : ℕ → Bool) → ((k : ℕ) → k < 16 → test (slice_index lower_digits k) ≡ true) → (bytes : List ℕ) → list_all is_byte bytes ≡ true → list_all test (encode_with lower_digits bytes) ≡ true
unfolding is_byte encode_with
each_digit test digit [] h = refl
each_digit test digit (b ∷ bytes) h =
    let parts = and_parts (is_byte b) (list_all is_byte bytes) h in
    let small = ltb-true b 256 parts.0 in
    and_from (test (slice_index lower_digits (b / 16))) _ (digit (b / 16) (omega (arith, small)))
    (and_from (test (slice_index lower_digits (b % 16))) _ (digit (b % 16) (omega arith)) (each_digit test digit bytes parts.1))

plain_digits : (text : List ℕ) → list_all is_digit text ≡ true → list_all is_plain text ≡ true
plain_digits [] h = refl
plain_digits (d ∷ text) h =
    let parts = and_parts (is_digit d) (list_all is_digit text) h in
    and_from (is_plain d) (list_all is_plain text) (and_parts (is_plain d) (is_low d && not (nat_eq d 46)) parts.0).0 (plain_digits text parts.1)

low_digits : (text : List ℕ) → list_all is_digit text ≡ true → list_all is_low text ≡ true
low_digits [] h = refl
low_digits (d ∷ text) h =
    let parts = and_parts (is_digit d) (list_all is_digit text) h in
    let rest = and_parts (is_plain d) (is_low d && not (nat_eq d 46)) parts.0 in
    and_from (is_low d) (list_all is_low text) (and_parts (is_low d) (not (nat_eq d 46)) rest.1).0 (low_digits text parts.1)

-- what holds of the sixteen digits
pub digits_all : (test : ℕ → Bool) → ((k : ℕ) → k < 16 → test (slice_index lower_digits k) ≡ true) → (text : List ℕ) → list_all test (digits_of text) ≡ true
digits_all test digit text = each_digit test digit (sha256 text) (sha_bytes text)

pub digits_digits : (text : List ℕ) → list_all is_digit (digits_of text) ≡ true
digits_digits text = digits_all is_digit digit_at text

pub digits_text : (text : List ℕ) → IsFrameText (digits_of text)
digits_text text = ascii_text (digits_of text) (plain_digits (digits_of text) (digits_digits text)) (low_digits (digits_of text) (digits_digits text))

pub digits_len : (text : List ℕ) → length (digits_of text) ≡ 64
digits_len text = length-encode_with lower_digits (sha256 text) ∙ ap (λ n. 2 * n) (length-sha256 text)

-- the digits tell the SHA-256
pub digits_tell : (a b : List ℕ) → digits_of a ≡ digits_of b → sha256 a ≡ sha256 b
digits_tell a b e =
    let first = decode_of-encode_lower (sha256 a) (bytes_from (sha256 a) (sha_bytes a)) in
    let second = decode_of-encode_lower (sha256 b) (bytes_from (sha256 b) (sha_bytes b)) in
    let both : decode_of (encode_lower (sha256 a)) ≡ decode_of (encode_lower (sha256 b)) = ap decode_of e in
    cc
