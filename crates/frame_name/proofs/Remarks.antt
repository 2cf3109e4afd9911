-- No frame of a call is a remark.
use Rattle.std.proofs.Common.{◌≡◌, ℕ, ◌+◌, ◌-◌, ◌%◌, ◌^◌, ◌<◌, ◌≤◌, Bool, true, false, cond, List, [], ◌∷◌, ◌++◌, length, take, drop, refl, sym, ap, ◌∙◌, ⊎_elim, arith, append_assoc}
use Rattle.std.specs.Prelude.{◌&&◌, not, nat_eq, nat_le, codes, decimal}
use Rattle.std.specs.Str.{IsUtf8}
use Rattle.std.proofs.lemmas.Bool.{cases_Bool, leb-false, and_left, and_right}
use Rattle.std.proofs.lemmas.Bool.Decides.{Decides-eqb}
use Rattle.std.proofs.lemmas.Fmt.{decimal_by_steps}
use Rattle.std.proofs.lemmas.List.{take-append-le, take-take, drop-drop, drop_at, length-take, length-drop, length-append, same_from_push, append-nil}
use Rattle.std.proofs.lemmas.List.Sums.{prefix_len-le-length}
use Rattle.std.proofs.lemmas.Slice.Eq.{ends_is}
use Rattle.std.specs.Cmp.Lexicographic.{pointwise}
use Rattle.frame_name.specs.Calls.{CallView}
use Rattle.frame_name.specs.Texts.{begins_with, closes_with}
use Rattle.frame_name.specs.Plain.{is_remark, plain}
use Rattle.frame_name.specs.Fitted.{is_inside, whole_front, whole_back, digits_of, shortened, within}
use Rattle.frame_name.specs.Names.{name_text, function_of, name_of}
use Rattle.frame_name.specs.SourceLines.{has_line, file_text, line_of}
use Rattle.frame_name.proofs.PlainTexts.{plain_text}
use Rattle.frame_name.proofs.ShortTexts.{front_len, back_len, inside_len, back_start, back_is}
use Rattle.frame_name.proofs.SourceTexts.{known_line}

-- a shortened text begins and ends as the text does
begins_so : (part text : List ℕ) (n : ℕ) → n < length text → IsUtf8 text → length part + 3 ≤ n → begins_with part (shortened n text) ≡ begins_with part text
unfolding shortened
begins_so part text n h u le =
    let front = whole_front n text in
    let rest = codes "..(" ++ (digits_of text ++ (codes ")..") ++ whole_back n text) in
    let len = front_len n text h u in
    let cut = length-take (n - inside_len n text) text in
    let first : take (length part) (shortened n text) ≡ take (length part) front =
    ap (take (length part)) (simp append_assoc) ∙ take-append-le (length part) front (codes "..(" ++ (digits_of text ++ (codes ")..") ++ whole_back n text)) (omega (arith, len.1, le)) in
    let second : take (length part) front ≡ take (length part) text = take-take (length part) (n - inside_len n text) text (omega (arith, len.1, le, cut)) in
    ap (pointwise nat_eq part) (first ∙ second)

closes_so : (part text : List ℕ) (n : ℕ) → n < length text → IsUtf8 text → length part + 3 ≤ n → closes_with part (shortened n text) ≡ closes_with part text
unfolding shortened
closes_so part text n h u le =
    let before = whole_front n text ++ codes "..(" ++ digits_of text ++ codes ").." in
    let back = whole_back n text in
    let len = back_len n text h u in
    let whole = length-append before back in
    let is = back_is n text in
    let cut : length back ≡ length text - back_start n text = ap length is ∙ length-drop (back_start n text) text in
    let some = prefix_len-le-length is_inside (drop (length text - n) text) in
    let rest = length-drop (length text - n) text in
    let first : drop (length (before ++ back) - length part) (before ++ back) ≡ drop (length back - length part) back =
    ap (λ k. drop k (before ++ back)) (omega (arith, whole, len.1, le))
    ∙ sym (drop-drop (length back - length part) (length before) (before ++ back))
    ∙ ap (drop (length back - length part)) (drop_at before back (length before) refl) in
    let second : drop (length back - length part) back ≡ drop (length text - length part) text =
    ap (drop (length back - length part)) is
    ∙ drop-drop (length back - length part) (back_start n text) text
    ∙ ap (λ k. drop k text) (omega (arith, cut, len.1, le, some, rest)) in
    ap (pointwise nat_eq part) (first ∙ second)

remark_so : (text : List ℕ) (n : ℕ) → n < length text → IsUtf8 text → 13 ≤ n → is_remark (shortened n text) ≡ is_remark text
remark_so text n h u le =
    ap (λ b. b && (closes_with (codes ")") (shortened n text) && not (begins_with (codes "(anonymous") (shortened n text)))) (begins_so (codes "(") text n h u (omega (arith, le)))
    ∙ ap (λ b. begins_with (codes "(") text && (b && not (begins_with (codes "(anonymous") (shortened n text)))) (closes_so (codes ")") text n h u (omega (arith, le)))
    ∙ ap (λ b. begins_with (codes "(") text && (closes_with (codes ")") text && not b)) (begins_so (codes "(anonymous") text n h u (omega (arith, le)))

within_remark : (most n : ℕ) (text : List ℕ) → n ≤ most → 13 ≤ n → IsUtf8 text → is_remark text ≡ false → is_remark (within most n text) ≡ false
unfolding within
within_remark most n text h le u e = by (nat_le (length text) most) refl
  where
    by : (fits : Bool) → nat_le (length text) most ≡ fits → is_remark (cond fits text (shortened n text)) ≡ false
    by true f = e
    by false f = remark_so text n (omega (arith, h, leb-false (length text) most f)) u le ∙ e

pub name_remark : (is_innermost : Bool) (call : CallView) → is_remark (name_of is_innermost call) ≡ false
unfolding name_of
name_remark is_innermost call =
    let known = plain_text (name_text (function_of call) is_innermost call) in
    within_remark 740 320 (plain (name_text (function_of call) is_innermost call)) (omega arith) (omega arith) known.text_is.utf8 known.no_remark

-- a number ends with a digit
abbrev EndsInDigit : ℕ → List ℕ → Type 0
EndsInDigit n ds = (front : List ℕ) × (k : ℕ) × (k < 10) × (ds ≡ front ++ (48 + k) ∷ [])

digit_ends : (n : ℕ) → n < 2 ^ 64 → EndsInDigit n (decimal n)
digit_ends n h = decimal_by_steps EndsInDigit (λ k e. ([], k, e, refl)) (λ k ds e p. (ds, k % 10, omega arith, refl)) n h

no_close : (front : List ℕ) (k : ℕ) → closes_with (codes ")") (front ++ (48 + k) ∷ []) ≡ false
no_close front k = ⊎_elim
    (λ e. let text = front ++ (48 + k) ∷ [] in
    let parts = (ends_is Decides-eqb text (codes ")") (closes_with (codes ")") text) refl).0 e in
    absurd (omega (arith, (same_from_push front (take (length text - 1) text) (48 + k) 41 parts).1)))
    (λ e. e)
    (cases_Bool (closes_with (codes ")") (front ++ (48 + k) ∷ [])))

not_closed : (text : List ℕ) → closes_with (codes ")") text ≡ false → is_remark text ≡ false
not_closed text e = and_right (begins_with (codes "(") text) (closes_with (codes ")") text && not (begins_with (codes "(anonymous") text)) (and_left (closes_with (codes ")") text) (not (begins_with (codes "(anonymous") text)) e)

line_remark : (name : List ℕ) (call : CallView) → is_remark name ≡ false → is_remark (name ++ line_of call) ≡ false
unfolding line_of
line_remark name call e = by (has_line call) refl
  where
    by : (known : Bool) → has_line call ≡ known → is_remark (name ++ cond known (codes " (" ++ file_text call.file ++ codes ")@" ++ decimal call.line) []) ≡ false
    by false f = ap is_remark (append-nil name) ∙ e
    by true f =
        let number = digit_ends call.line (omega (arith, known_line call f)) in
        let before = codes " (" ++ file_text call.file ++ codes ")@" in
        let is : name ++ (before ++ decimal call.line) ≡ (name ++ before ++ number.0) ++ (48 + number.1) ∷ [] =
        ap (λ t. name ++ (before ++ t)) number.3 ∙ simp append_assoc in
        not_closed (name ++ (before ++ decimal call.line)) (ap (closes_with (codes ")")) is ∙ no_close (name ++ before ++ number.0) number.1)

pub frame_remark : (keeps_lines is_innermost : Bool) (call : CallView) → is_remark (name_of is_innermost call ++ cond keeps_lines (line_of call) []) ≡ false
frame_remark true is_innermost call = line_remark (name_of is_innermost call) call (name_remark is_innermost call)
frame_remark false is_innermost call = ap is_remark (append-nil (name_of is_innermost call)) ∙ name_remark is_innermost call
