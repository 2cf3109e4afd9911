-- A plain text is one that a frame may have: of at least one byte, and no remark.
use Rattle.std.proofs.Common.{◌≡◌, ℕ, ◌-◌, ◌<◌, ◌≤◌, Bool, true, false, cond, List, [], ◌∷◌, ◌++◌, length, map, refl, ap, ◌∙◌, arith}
use Rattle.std.specs.Prelude.{◌&&◌, ◌||◌, not, nat_eq, nat_lt}
use Rattle.std.specs.List.{list_all, prefix_len, suffix_len}
use Rattle.std.specs.Str.Lossy.{utf8_lossy}
use Rattle.std.proofs.lemmas.Bool.{and_from, le-leb, ltb-false, eqb-true, true≢false, le-ltb, ne_eqb}
use Rattle.call_path.specs.Good.{is_plain}
use Rattle.frame_name.specs.Plain.{is_control, plain_byte, is_blank, trimmed, without_blanks, unknown, is_remark, or_unknown, plain}
use Rattle.frame_name.proofs.FrameTexts.{IsFrameText, ascii_text, append_text, take_text, drop_text, boundary_behind, boundary_before, map_utf8}
use Rattle.frame_name.proofs.Lossy.{lossy_utf8}

-- a byte that is no control byte and no `;`
pub plain_from : (b : ℕ) → is_control b ≡ false → nat_eq b 59 ≡ false → is_plain b ≡ true
plain_from b = by (nat_lt b 32) (nat_eq b 127) refl refl
  where
    by : (low del : Bool) → nat_lt b 32 ≡ low → nat_eq b 127 ≡ del → (low || del) ≡ false → nat_eq b 59 ≡ false → is_plain b ≡ true
    by true del l d e f = absurd (true≢false e)
    by false true l d e f = absurd (true≢false e)
    by false false l d e f =
        ap (λ t. t && (not (nat_eq b 127) && not (nat_eq b 59))) (le-leb 32 b (ltb-false b 32 l))
        ∙ ap (λ t. not t && not (nat_eq b 59)) d ∙ ap not f

byte_plain : (b : ℕ) → is_plain (plain_byte b) ≡ true
byte_plain b = by (is_control b) (nat_eq b 59) refl refl
  where
    by : (control semicolon : Bool) → is_control b ≡ control → nat_eq b 59 ≡ semicolon → is_plain (cond control 32 (cond semicolon 58 b)) ≡ true
    by true semicolon e f = refl
    by false true e f = refl
    by false false e f = plain_from b e f

-- high bytes are no control bytes, and no `;`
pub high_control : (b : ℕ) → 128 ≤ b → is_control b ≡ false
high_control b h = ap (λ t. t || nat_eq b 127) (le-ltb b 32 (omega (arith, h))) ∙ ne_eqb b 127 (λ e. omega (arith, h, e))

byte_low : (b : ℕ) → b < 128 → plain_byte b < 128
byte_low b h = by (is_control b) (nat_eq b 59)
  where
    by : (control semicolon : Bool) → cond control 32 (cond semicolon 58 b) < 128
    by true semicolon = omega arith
    by false true = omega arith
    by false false = h

byte_stays : (b : ℕ) → 128 ≤ b → plain_byte b ≡ b
byte_stays b h =
    ap (λ t. cond t 32 (cond (nat_eq b 59) 58 b)) (high_control b h)
    ∙ ap (λ t. cond t 58 b) (ne_eqb b 59 (λ e. omega (arith, h, e)))

-- a text each of whose bytes becomes a plain one
pub bytes_text : (f : ℕ → ℕ) → ((b : ℕ) → is_plain (f b) ≡ true) → ((b : ℕ) → b < 128 → f b < 128) → ((b : ℕ) → 128 ≤ b → f b ≡ b) → (text : List ℕ) → IsFrameText (map f (utf8_lossy text))
bytes_text f plainly low stays text = record {
  plain = each (utf8_lossy text);
  utf8 = map_utf8 f low stays (utf8_lossy text) (lossy_utf8 text);
}
  where
    each : (bytes : List ℕ) → list_all is_plain (map f bytes) ≡ true
    each [] = refl
    each (b ∷ bytes) = and_from (is_plain (f b)) (list_all is_plain (map f bytes)) (plainly b) (each bytes)

blank_low : (b : ℕ) → is_blank b ≡ true → b < 128
blank_low b h = omega (arith, eqb-true b 32 h)

trimmed_text : (text : List ℕ) → IsFrameText text → IsFrameText (trimmed text)
trimmed_text text h =
    let rest = without_blanks text in
    let k : IsFrameText rest = drop_text (prefix_len is_blank text) text h (boundary_behind is_blank blank_low text h.utf8) in
    take_text (length rest - suffix_len is_blank rest) rest k (boundary_before is_blank blank_low rest)

pub record IsPlainText (text : List ℕ) : Type 0 where
  pub text_is : IsFrameText text
  pub not_empty : 0 < length text
  pub no_remark : is_remark text ≡ false

known_text : (text : List ℕ) → IsFrameText text → IsPlainText (or_unknown text)
known_text [] h = record { text_is = ascii_text unknown refl refl; not_empty = omega arith; no_remark = refl }
known_text (b ∷ text) h = by (is_remark (b ∷ text)) refl
  where
    by : (remark : Bool) → is_remark (b ∷ text) ≡ remark → IsPlainText (cond remark (unknown ++ b ∷ text) (b ∷ text))
    by true e = record { text_is = append_text unknown (b ∷ text) (ascii_text unknown refl refl) h; not_empty = omega arith; no_remark = refl }
    by false e = record { text_is = h; not_empty = omega arith; no_remark = e }

pub plain_text : (text : List ℕ) → IsPlainText (plain text)
unfolding plain
plain_text text = known_text (trimmed (map plain_byte (utf8_lossy text))) (trimmed_text (map plain_byte (utf8_lossy text)) (bytes_text plain_byte byte_plain byte_low byte_stays text))
