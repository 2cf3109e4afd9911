-- What is shown of a line is told from the name before it: it has no blank but its first byte.
use Rattle.std.proofs.Common.{◌≡◌, ℕ, ◌+◌, ◌-◌, ◌/◌, ◌%◌, ◌^◌, ◌<◌, ◌≤◌, Bool, true, false, cond, List, [], ◌∷◌, ◌++◌, length, take, drop, map, refl, ap, ◌∙◌, arith, append_assoc}
use Rattle.std.specs.Prelude.{◌&&◌, ◌||◌, not, nat_eq, nat_lt, nat_le, slice_index, codes, decimal}
use Rattle.std.specs.Char.{is_ascii_digit}
use Rattle.std.specs.List.{list_all, prefix_len, suffix_len}
use Rattle.std.specs.Str.Lossy.{utf8_lossy}
use Rattle.std.proofs.lemmas.Bool.{and_from, agree_below_at, lt-ltb}
use Rattle.std.proofs.lemmas.Fmt.{decimal_by_steps, decimal_nonempty}
use Rattle.std.proofs.lemmas.List.{append-nil, length-append, take_at}
use Rattle.hex.specs.Hex.{lower_digits}
use Rattle.frame_name.specs.Calls.{CallView}
use Rattle.frame_name.specs.Texts.{begins_with, closes_with, before_last_bytes, base_name}
use Rattle.frame_name.specs.Plain.{is_control, is_blank}
use Rattle.frame_name.specs.Fitted.{is_inside, whole_front, whole_back, digits_of, shortened, within}
use Rattle.frame_name.specs.SourceLines.{file_byte, file_text, has_line, line_of, last_word, is_line_word, ends_in_line, unlined}
use Rattle.frame_name.proofs.FrameTexts.{all_taken, all_left, all_joined}
use Rattle.frame_name.proofs.Digits.{digits_all}
use Rattle.frame_name.proofs.ShortTexts.{inside_len}
use Rattle.frame_name.proofs.SourceTexts.{known_line}
use Rattle.frame_name.proofs.Contains.{begins_from}
use Rattle.frame_name.proofs.Versions.{closes_from}
use Rattle.frame_name.proofs.LastBytes.{last_len, last_are, before_last_are}

no_blank : ℕ → Bool
no_blank b = not (is_blank b)

-- a file's name has no blank
byte_no_blank : (b : ℕ) → no_blank (file_byte b) ≡ true
unfolding no_blank
byte_no_blank b = by (is_control b) (is_blank b) (nat_eq b 59) refl
  where
    by : (control blank semicolon : Bool) → is_blank b ≡ blank → not (is_blank (cond (control || blank) 95 (cond semicolon 58 b))) ≡ true
    by true blank semicolon e = refl
    by false true semicolon e = refl
    by false false true e = refl
    by false false false e = ap not e

bytes_no_blank : (text : List ℕ) → list_all no_blank (map file_byte text) ≡ true
bytes_no_blank [] = refl
bytes_no_blank (b ∷ text) = and_from (no_blank (file_byte b)) (list_all no_blank (map file_byte text)) (byte_no_blank b) (bytes_no_blank text)

digit_no_blank : (k : ℕ) → k < 16 → no_blank (slice_index lower_digits k) ≡ true
unfolding no_blank
digit_no_blank k h = agree_below_at (λ i. not (is_blank (slice_index lower_digits i))) (λ i. true) 16 k refl h

mark_no_blank : (list_all no_blank (codes "..(") ≡ true) × (list_all no_blank (codes ")..") ≡ true)
unfolding no_blank
mark_no_blank = (refl, refl)

short_no_blank : (n : ℕ) (text : List ℕ) → list_all no_blank text ≡ true → list_all no_blank (shortened n text) ≡ true
unfolding shortened
short_no_blank n text h =
    all_joined no_blank (whole_front n text ++ codes "..(" ++ digits_of text ++ codes ")..") (whole_back n text)
    (all_joined no_blank (whole_front n text ++ codes "..(" ++ digits_of text) (codes ")..")
    (all_joined no_blank (whole_front n text ++ codes "..(") (digits_of text)
    (all_joined no_blank (whole_front n text) (codes "..(") (all_taken no_blank (n - inside_len n text) text h) mark_no_blank.0)
    (digits_all no_blank digit_no_blank text))
    mark_no_blank.1)
    (all_left no_blank (prefix_len is_inside (drop (length text - n) text)) (drop (length text - n) text) (all_left no_blank (length text - n) text h))

file_no_blank : (file : List ℕ) → list_all no_blank (file_text file) ≡ true
unfolding file_text within
file_no_blank file = by (nat_le (length name) 255)
  where
    name : List ℕ
    name = map file_byte (utf8_lossy (base_name file))

    by : (fits : Bool) → list_all no_blank (cond fits name (shortened 90 name)) ≡ true
    by true = bytes_no_blank (utf8_lossy (base_name file))
    by false = short_no_blank 90 name (bytes_no_blank (utf8_lossy (base_name file)))

abbrev AreDigits : ℕ → List ℕ → Type 0
AreDigits n ds = (list_all is_ascii_digit ds ≡ true) × (list_all no_blank ds ≡ true)

number_digits : (n : ℕ) → n < 2 ^ 64 → AreDigits n (decimal n)
unfolding no_blank
number_digits n h = decimal_by_steps AreDigits one more n h
  where
    digit : (k : ℕ) → k < 10 → is_ascii_digit (48 + k) ≡ true
    digit k e = agree_below_at (λ i. is_ascii_digit (48 + i)) (λ i. true) 10 k refl e

    solid : (k : ℕ) → k < 10 → not (is_blank (48 + k)) ≡ true
    solid k e = agree_below_at (λ i. not (is_blank (48 + i))) (λ i. true) 10 k refl e

    one : (k : ℕ) → k < 10 → AreDigits k ((48 + k) ∷ [])
    one k e = (and_from (is_ascii_digit (48 + k)) true (digit k e) refl, and_from (not (is_blank (48 + k))) true (solid k e) refl)

    more : (k : ℕ) (ds : List ℕ) → 10 ≤ k → AreDigits (k / 10) ds → AreDigits k (ds ++ ((48 + k % 10) ∷ []))
    more k ds e p =
        let last = one (k % 10) (omega arith) in
        (all_joined is_ascii_digit ds ((48 + k % 10) ∷ []) p.0 last.0, all_joined (λ b. not (is_blank b)) ds ((48 + k % 10) ∷ []) p.1 last.1)

-- a word `(FILE)@LINE`
word_of : List ℕ → List ℕ → List ℕ
word_of file digits = codes "(" ++ file ++ codes ")@" ++ digits

word_is_line : (file digits : List ℕ) → list_all is_ascii_digit digits ≡ true → 0 < length digits → is_line_word (word_of file digits) ≡ true
unfolding word_of
word_is_line file digits h some =
    let word = codes "(" ++ file ++ codes ")@" ++ digits in
    let is : word ≡ ((codes "(" ++ file ++ codes ")") ++ 64 ∷ []) ++ digits = simp append_assoc in
    let len : suffix_len is_ascii_digit word ≡ length digits = ap (suffix_len is_ascii_digit) is ∙ last_len is_ascii_digit (codes "(" ++ file ++ codes ")") 64 digits refl h in
    let regroup : (codes "(" ++ file ++ codes ")") ++ 64 ∷ [] ≡ (codes "(" ++ file) ++ codes ")@" = simp append_assoc in
    let before : before_last_bytes is_ascii_digit word ≡ (codes "(" ++ file) ++ codes ")@" =
    ap (before_last_bytes is_ascii_digit) is ∙ before_last_are is_ascii_digit (codes "(" ++ file ++ codes ")") 64 digits refl h ∙ regroup in
    let front : word ≡ codes "(" ++ (file ++ (codes ")@" ++ digits)) = simp append_assoc in
    and_from (begins_with (codes "(") word) (nat_lt 0 (suffix_len is_ascii_digit word) && closes_with (codes ")@") (before_last_bytes is_ascii_digit word))
    (begins_from (codes "(") word (file ++ (codes ")@" ++ digits)) front)
    (and_from (nat_lt 0 (suffix_len is_ascii_digit word)) (closes_with (codes ")@") (before_last_bytes is_ascii_digit word))
    (lt-ltb 0 (suffix_len is_ascii_digit word) (omega (arith, len, some)))
    (ap (closes_with (codes ")@")) before ∙ closes_from (codes ")@") (codes "(" ++ file)))

word_no_blank : (file digits : List ℕ) → list_all no_blank file ≡ true → list_all no_blank digits ≡ true → list_all no_blank (word_of file digits) ≡ true
unfolding word_of no_blank
word_no_blank file digits f d =
    all_joined no_blank (codes "(" ++ file ++ codes ")@") digits
    (all_joined no_blank (codes "(" ++ file) (codes ")@") (all_joined no_blank (codes "(") file refl f) refl) d

-- behind any name
cut_off : (name file digits : List ℕ) → list_all no_blank file ≡ true → list_all is_ascii_digit digits ≡ true → list_all no_blank digits ≡ true → 0 < length digits → unlined (name ++ (codes " (" ++ file ++ codes ")@" ++ digits)) ≡ name
unfolding unlined no_blank word_of
cut_off name file digits f d e some =
    let text = name ++ (codes " (" ++ file ++ codes ")@" ++ digits) in
    let word = codes "(" ++ file ++ codes ")@" ++ digits in
    let is : text ≡ (name ++ 32 ∷ []) ++ word = simp append_assoc in
    let last : last_word text ≡ word = ap last_word is ∙ last_are (λ b. not (is_blank b)) name 32 word refl (word_no_blank file digits f e) in
    let test : ends_in_line text ≡ true = ap is_line_word last ∙ word_is_line file digits d some in
    let behind : text ≡ name ++ (32 ∷ word) = simp append_assoc in
    ap (λ t. cond t (take (length text - (length (last_word text) + 1)) text) text) test
    ∙ ap (λ w. take (length text - (length w + 1)) text) last
    ∙ ap (take (length text - (length word + 1))) behind
    ∙ take_at name (32 ∷ word) (length text - (length word + 1)) (omega (arith, ap length behind, length-append name (32 ∷ word)))

no_line : (name : List ℕ) → ends_in_line name ≡ false → unlined name ≡ name
unfolding unlined
no_line name e = ap (λ t. cond t (take (length name - (length (last_word name) + 1)) name) name) e

pub line_cut : (name : List ℕ) (call : CallView) → ends_in_line name ≡ false → unlined (name ++ line_of call) ≡ name
unfolding line_of
line_cut name call e = by (has_line call) refl
  where
    by : (known : Bool) → has_line call ≡ known → unlined (name ++ cond known (codes " (" ++ file_text call.file ++ codes ")@" ++ decimal call.line) []) ≡ name
    by false f = ap unlined (append-nil name) ∙ no_line name e
    by true f =
        let low = known_line call f in
        let digits = number_digits call.line (omega (arith, low)) in
        cut_off name (file_text call.file) (decimal call.line) (file_no_blank call.file) digits.0 digits.1 (decimal_nonempty call.line (omega (arith, low)))

pub kept_cut : (keeps_lines : Bool) (name : List ℕ) (call : CallView) → ends_in_line name ≡ false → unlined (name ++ cond keeps_lines (line_of call) []) ≡ name
kept_cut true name call e = line_cut name call e
kept_cut false name call e = ap unlined (append-nil name) ∙ no_line name e
