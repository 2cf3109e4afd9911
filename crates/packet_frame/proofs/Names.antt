-- A name whose bytes are plain ASCII is a name.
use Rattle.std.proofs.Common.{◌≡◌, ◌<◌, ℕ, Bool, List, length, true, false, ◌&&◌, ◌≤◌, nat_lt, nat_le, refl}
use Rattle.std.specs.List.{list_all}
use Rattle.std.specs.Str.{IsUtf8, is_utf8}
use Rattle.std.proofs.lemmas.Str.{IsUtf8-from_ascii, is_utf8-from_IsUtf8}
use Rattle.std.proofs.lemmas.Str.Ascii.{IsAscii-from_all}
use Rattle.std.proofs.lemmas.List.Sums.{AllPass-from_list_all, list_all-from_AllPass}
use Rattle.std.proofs.lemmas.List.Elements.{All-weaker}
use Rattle.std.proofs.lemmas.Bool.{ltb-true, lt-ltb, le-leb}
use Rattle.call_path.specs.Good.{is_plain, is_good_frame}
use Rattle.packet_frame.specs.Frame.{is_name}
use Rattle.packet_frame.specs.Scanning.{is_plain_ascii}

left_of : (a b : Bool) → (a && b) ≡ true → a ≡ true
left_of true b e = refl
left_of false b e = e

pub right_of : (a b : Bool) → (a && b) ≡ true → b ≡ true
right_of true b e = e
right_of false b e = absurd cc

both : (a b : Bool) → a ≡ true → b ≡ true → (a && b) ≡ true
both true true p q = refl
both true false p q = q
both false b p q = p

below : (b : ℕ) → is_plain_ascii b ≡ true → b < 128
below b e = ltb-true b 128 (left_of (nat_lt b 128) (is_plain b) e)

itself : (b : ℕ) → is_plain_ascii b ≡ true → is_plain b ≡ true
itself b e = right_of (nat_lt b 128) (is_plain b) e

pub text : (bytes : List ℕ) → list_all is_plain_ascii bytes ≡ true → IsUtf8 bytes
text bytes e = IsUtf8-from_ascii bytes (IsAscii-from_all bytes (All-weaker (λ b. is_plain_ascii b ≡ true) (λ b. b < 128) below bytes (AllPass-from_list_all is_plain_ascii bytes e)))

plain : (bytes : List ℕ) → list_all is_plain_ascii bytes ≡ true → list_all is_plain bytes ≡ true
plain bytes e = list_all-from_AllPass is_plain bytes (All-weaker (λ b. is_plain_ascii b ≡ true) (λ b. is_plain b ≡ true) itself bytes (AllPass-from_list_all is_plain_ascii bytes e))

pub good : (bytes : List ℕ) → list_all is_plain_ascii bytes ≡ true → is_name bytes ≡ true
good bytes e = both (is_utf8 bytes) (list_all is_plain bytes) (is_utf8-from_IsUtf8 bytes (text bytes e)) (plain bytes e)

-- a name of 1 to 1,023 bytes is a good frame
pub good_frame : (bytes : List ℕ) → list_all is_plain_ascii bytes ≡ true → 0 < length bytes → length bytes ≤ 1023 → is_good_frame bytes ≡ true
good_frame bytes e some most =
    let a : nat_lt 0 (length bytes) ≡ true = lt-ltb 0 (length bytes) some in
    let b : nat_le (length bytes) 1023 ≡ true = le-leb (length bytes) 1023 most in
    both (nat_lt 0 (length bytes)) (nat_le (length bytes) 1023 && list_all is_plain bytes) a (both (nat_le (length bytes) 1023) (list_all is_plain bytes) b (plain bytes e))
