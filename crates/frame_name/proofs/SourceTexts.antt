-- What is shown of a source file and a line is a text of frames, of at most 268 bytes.
use Rattle.std.proofs.Common.{◌≡◌, ℕ, ◌+◌, ◌/◌, ◌%◌, ◌^◌, ◌<◌, ◌≤◌, Bool, true, false, cond, List, [], ◌∷◌, ◌++◌, length, map, refl, ap, ◌∙◌, arith}
use Rattle.std.specs.Prelude.{◌&&◌, ◌||◌, nat_eq, nat_lt, nat_le, codes, decimal}
use Rattle.std.specs.List.{list_all}
use Rattle.std.specs.Str.Lossy.{utf8_lossy}
use Rattle.std.proofs.lemmas.Bool.{and_parts, and_from, agree_below_at, leb-true, ne_eqb}
use Rattle.std.proofs.lemmas.Fmt.{decimal_by_steps, length-decimal-le}
use Rattle.std.proofs.lemmas.List.{length-append}
use Rattle.std.proofs.lemmas.List.Folds.{list_all-append}
use Rattle.call_path.specs.Good.{is_plain}
use Rattle.frame_name.specs.Calls.{CallView}
use Rattle.frame_name.specs.Texts.{base_name}
use Rattle.frame_name.specs.Plain.{is_control, is_blank}
use Rattle.frame_name.specs.SourceLines.{file_byte, file_text, has_line, line_of}
use Rattle.frame_name.proofs.FrameTexts.{IsFrameText, ascii_text, append_text, is_low}
use Rattle.frame_name.proofs.PlainTexts.{plain_from, high_control, bytes_text}
use Rattle.frame_name.proofs.ShortTexts.{within_text, within_len}

or_false : (x y : Bool) → (x || y) ≡ false → x ≡ false
or_false true y e = e
or_false false y e = refl

byte_plain : (b : ℕ) → is_plain (file_byte b) ≡ true
byte_plain b = by (is_control b || is_blank b) (nat_eq b 59) refl refl
  where
    by : (gap semicolon : Bool) → (is_control b || is_blank b) ≡ gap → nat_eq b 59 ≡ semicolon → is_plain (cond gap 95 (cond semicolon 58 b)) ≡ true
    by true semicolon e f = refl
    by false true e f = refl
    by false false e f = plain_from b (or_false (is_control b) (is_blank b) e) f

byte_low : (b : ℕ) → b < 128 → file_byte b < 128
byte_low b h = by (is_control b || is_blank b) (nat_eq b 59)
  where
    by : (gap semicolon : Bool) → cond gap 95 (cond semicolon 58 b) < 128
    by true semicolon = omega arith
    by false true = omega arith
    by false false = h

byte_stays : (b : ℕ) → 128 ≤ b → file_byte b ≡ b
byte_stays b h =
    ap (λ t. cond (t || is_blank b) 95 (cond (nat_eq b 59) 58 b)) (high_control b h)
    ∙ ap (λ t. cond t 95 (cond (nat_eq b 59) 58 b)) (ne_eqb b 32 (λ e. omega (arith, h, e)))
    ∙ ap (λ t. cond t 58 b) (ne_eqb b 59 (λ e. omega (arith, h, e)))

pub file_is_text : (file : List ℕ) → IsFrameText (file_text file)
unfolding file_text
file_is_text file = within_text 255 90 (map file_byte (utf8_lossy (base_name file))) (omega arith) (bytes_text file_byte byte_plain byte_low byte_stays (base_name file))

pub file_len : (file : List ℕ) → length (file_text file) ≤ 255
unfolding file_text
file_len file = within_len 255 90 (map file_byte (utf8_lossy (base_name file))) (omega arith) (bytes_text file_byte byte_plain byte_low byte_stays (base_name file)).utf8

abbrev ArePlain : ℕ → List ℕ → Type 0
ArePlain k ds = (list_all is_plain ds ≡ true) × (list_all is_low ds ≡ true)

-- the digits of a number
decimal_plain : (n : ℕ) → n < 2 ^ 64 → (list_all is_plain (decimal n) ≡ true) × (list_all is_low (decimal n) ≡ true)
decimal_plain n h = decimal_by_steps ArePlain one more n h
  where
    digit_plain : (k : ℕ) → k < 10 → is_plain (48 + k) ≡ true
    digit_plain k e = agree_below_at (λ i. is_plain (48 + i)) (λ i. true) 10 k refl e

    digit_low : (k : ℕ) → k < 10 → is_low (48 + k) ≡ true
    digit_low k e = agree_below_at (λ i. is_low (48 + i)) (λ i. true) 10 k refl e

    one : (k : ℕ) → k < 10 → ArePlain k ((48 + k) ∷ [])
    one k e = (and_from (is_plain (48 + k)) true (digit_plain k e) refl, and_from (is_low (48 + k)) true (digit_low k e) refl)

    more : (k : ℕ) (ds : List ℕ) → 10 ≤ k → ArePlain (k / 10) ds → ArePlain k (ds ++ ((48 + k % 10) ∷ []))
    more k ds e p =
        let last = one (k % 10) (omega arith) in (
          list_all-append is_plain ds ((48 + k % 10) ∷ []) ∙ and_from (list_all is_plain ds) (list_all is_plain ((48 + k % 10) ∷ [])) p.0 last.0,
          list_all-append is_low ds ((48 + k % 10) ∷ []) ∙ and_from (list_all is_low ds) (list_all is_low ((48 + k % 10) ∷ [])) p.1 last.1,
        )

pub known_line : (call : CallView) → has_line call ≡ true → call.line < 1000000000
known_line call h =
    let rest = and_parts (nat_lt 0 (length (base_name call.file))) (nat_lt 0 call.line && nat_le call.line 999999999) h in
    omega (arith, leb-true call.line 999999999 (and_parts (nat_lt 0 call.line) (nat_le call.line 999999999) rest.1).1)

pub record IsLineText (text : List ℕ) : Type 0 where
  pub text_is : IsFrameText text
  pub within_limit : length text ≤ 268

pub line_text : (call : CallView) → IsLineText (line_of call)
unfolding line_of
line_text call = by (has_line call) refl
  where
    by : (known : Bool) → has_line call ≡ known → IsLineText (cond known (codes " (" ++ file_text call.file ++ codes ")@" ++ decimal call.line) [])
    by false e = record { text_is = ascii_text [] refl refl; within_limit = omega arith }
    by true e =
        let low = known_line call e in
        let digits = decimal_plain call.line (omega (arith, low)) in
        record {
          text_is = append_text (codes " (" ++ file_text call.file ++ codes ")@") (decimal call.line)
              (append_text (codes " (" ++ file_text call.file) (codes ")@")
              (append_text (codes " (") (file_text call.file) (ascii_text (codes " (") refl refl) (file_is_text call.file))
              (ascii_text (codes ")@") refl refl))
              (ascii_text (decimal call.line) digits.0 digits.1);
          within_limit =
              let whole = length-append (codes " (" ++ file_text call.file ++ codes ")@") (decimal call.line) in
              let two = length-append (codes " (" ++ file_text call.file) (codes ")@") in
              let one = length-append (codes " (") (file_text call.file) in
              let file = file_len call.file in
              let number = length-decimal-le 9 call.line (omega arith) (omega (arith, low)) (omega (arith, low)) in
              omega arith;
        }
