-- The function of a frame, and the paths of functions.
use Rattle.std.proofs.Common.{◌≡◌, ℕ, suc, ◌+◌, ◌-◌, ◌<◌, ◌≤◌, ◌≢◌, Bool, true, false, cond, List, [], ◌∷◌, ◌++◌, length, take, drop, map, get_or, refl, sym, ap, ◌∙◌, arith, inl, inr, ◌⊎◌}
use Rattle.std.specs.Prelude.{All, ◌&&◌, nat_eq, nat_lt, nat_le, slice_get, Some}
use Rattle.std.specs.Ordering.{nat_cmp, eq_by_cmp, is_eq}
use Rattle.std.specs.Cmp.Lexicographic.{slice_cmp, nat_list_cmp_total, texts_ties, same_text}
use Rattle.std.proofs.lemmas.Cmp.{tied_itself}
use Rattle.std.proofs.lemmas.Option.{get_or_from_slice_get, slice_get_within}
use Rattle.std.proofs.lemmas.List.Elements.{All-nil, All-cons, All-head, All-tail}
use Rattle.std.specs.Bool.{IsTrue}
use Rattle.std.specs.List.{list_all}
use Rattle.std.specs.Char.{is_ascii_digit}
use Rattle.std.proofs.lemmas.Bool.{and_parts, and_from, eqb-true, ne_eqb, lt-ltb, le-leb, leb-true, le-ltb, lt-leb, cases_order, true≢false}
use Rattle.std.proofs.lemmas.List.{take-append-drop, take_more, drop_more, length-append, length-map, map-append, length-drop, length-take-le, get_or_append_left, get_or-append-add}
use Rattle.std.proofs.lemmas.List.Folds.{list_all-append}
use Rattle.call_path.specs.Path.{Path, is_prefix, path_text}
use Rattle.call_path.specs.Good.{is_plain, is_good_frame, AreGoodFrames, IsGoodPath}
use Rattle.call_path.specs.Functions.{is_line, HasLine, without_line, func}

both_false : (b : Bool) → (b && false) ≡ false
both_false true = refl
both_false false = refl

-- a text with a byte that is no digit is no line
no_line : (g : List ℕ) (x : ℕ) (rest : List ℕ) → is_ascii_digit x ≡ false → is_line (g ++ x ∷ rest) ≡ false
no_line g x rest other =
    let text = g ++ x ∷ rest in
    let none : list_all is_ascii_digit text ≡ false =
    list_all-append is_ascii_digit g (x ∷ rest) ∙ ap (λ b. list_all is_ascii_digit g && (b && list_all is_ascii_digit rest)) other ∙ both_false (list_all is_ascii_digit g) in
    ap (λ b. nat_lt 0 (length text) && (nat_le (length text) 9 && b)) none ∙ ap (λ b. nat_lt 0 (length text) && b) (both_false (nat_le (length text) 9)) ∙ both_false (nat_lt 0 (length text))

-- an `@` is no digit
mark_other : is_ascii_digit 64 ≡ false
mark_other = refl

-- a line is cut off where it begins
pub cut_line : (g line : List ℕ) → is_line line ≡ true → without_line (g ++ 64 ∷ line) ≡ g
cut_line [] line h = ap (λ b. cond b [] (64 ∷ without_line line)) h
cut_line (b ∷ g) line h =
    ap (λ t. cond (nat_eq b 64 && t) [] (b ∷ without_line (g ++ 64 ∷ line))) (no_line g 64 line mark_other)
    ∙ ap (λ t. cond t [] (b ∷ without_line (g ++ 64 ∷ line))) (both_false (nat_eq b 64))
    ∙ ap (λ t. b ∷ t) (cut_line g line h)

-- a frame with a line has the function that it names
pub function_of : (frame function line : List ℕ) → HasLine frame function line → func frame ≡ function
function_of frame [] line h = absurd (omega (arith, h.named))
function_of frame (b ∷ g) line h = ap func h.parts ∙ ap (λ t. b ∷ t) (cut_line g line h.numbered)

-- where a frame changes, what is cut off is a line
cut_cases : (b : ℕ) (text : List ℕ) → ((line : List ℕ) × HasLine (b ∷ text) (b ∷ without_line text) line) ⊎ (without_line text ≡ text)
cut_cases b [] = inr refl
cut_cases b (x ∷ text) = by_test (nat_eq x 64 && is_line text) refl (cut_cases x text)
  where
    by_test : (t : Bool) → (nat_eq x 64 && is_line text) ≡ t → ((line : List ℕ) × HasLine (x ∷ text) (x ∷ without_line text) line) ⊎ (without_line text ≡ text)
        → ((line : List ℕ) × HasLine (b ∷ x ∷ text) (b ∷ cond t [] (x ∷ without_line text)) line) ⊎ (cond t [] (x ∷ without_line text) ≡ x ∷ text)
    by_test true e rest =
        let parts = and_parts (nat_eq x 64) (is_line text) e in
        inl (text, record { parts = ap (λ n. b ∷ n ∷ text) (eqb-true x 64 parts.0); named = omega arith; numbered = parts.1 })
    by_test false e (inl (line, h)) = inl (line, record { parts = ap (λ t. b ∷ t) h.parts; named = omega arith; numbered = h.numbered })
    by_test false e (inr same) = inr (ap (λ t. x ∷ t) same)

-- a frame without a line stays as it is
pub function_stays : (frame : List ℕ) → ((function line : List ℕ) → HasLine frame function line → ⊥) → func frame ≡ frame
function_stays [] none = refl
function_stays (b ∷ text) none = by_cases (cut_cases b text)
  where
    by_cases : ((line : List ℕ) × HasLine (b ∷ text) (b ∷ without_line text) line) ⊎ (without_line text ≡ text) → b ∷ without_line text ≡ b ∷ text
    by_cases (inl (line, h)) = absurd (none (b ∷ without_line text) line h)
    by_cases (inr same) = ap (λ t. b ∷ t) same

-- a frame that changes has a line
pub function_changes : (frame : List ℕ) → (func frame ≡ frame → ⊥) → (line : List ℕ) × HasLine frame (func frame) line
function_changes [] other = absurd (other refl)
function_changes (b ∷ text) other = by_cases (cut_cases b text)
  where
    by_cases : ((line : List ℕ) × HasLine (b ∷ text) (b ∷ without_line text) line) ⊎ (without_line text ≡ text) → (line : List ℕ) × HasLine (b ∷ text) (b ∷ without_line text) line
    by_cases (inl found) = found
    by_cases (inr same) = absurd (other (ap (λ t. b ∷ t) same))

-- digits alone stay, and so does a text whose digits at the end follow no `@` or are no line
digits_stay : (text : List ℕ) → list_all is_ascii_digit text ≡ true → without_line text ≡ text
digits_stay [] h = refl
digits_stay (b ∷ text) h =
    let parts = and_parts (is_ascii_digit b) (list_all is_ascii_digit text) h in
    let other : nat_eq b 64 ≡ false = ne_eqb b 64 (λ e. true≢false (sym parts.0 ∙ ap is_ascii_digit e)) in
    ap (λ t. cond (t && is_line text) [] (b ∷ without_line text)) other ∙ ap (λ t. b ∷ t) (digits_stay text parts.1)

text_stays : (g : List ℕ) (x : ℕ) (digits : List ℕ) → is_ascii_digit x ≡ false → list_all is_ascii_digit digits ≡ true → (nat_eq x 64 && is_line digits) ≡ false → without_line (g ++ x ∷ digits) ≡ g ++ x ∷ digits
text_stays [] x digits other h none = ap (λ t. cond t [] (x ∷ without_line digits)) none ∙ ap (λ t. x ∷ t) (digits_stay digits h)
text_stays (b ∷ g) x digits other h none =
    ap (λ t. cond (nat_eq b 64 && t) [] (b ∷ without_line (g ++ x ∷ digits))) (no_line g x digits other)
    ∙ ap (λ t. cond t [] (b ∷ without_line (g ++ x ∷ digits))) (both_false (nat_eq b 64))
    ∙ ap (λ t. b ∷ t) (text_stays g x digits other h none)

frame_stays : (g : List ℕ) (x : ℕ) (digits : List ℕ) → is_ascii_digit x ≡ false → list_all is_ascii_digit digits ≡ true → (0 < length g → (nat_eq x 64 && is_line digits) ≡ false) → func (g ++ x ∷ digits) ≡ g ++ x ∷ digits
frame_stays [] x digits other h none = ap (λ t. x ∷ t) (digits_stay digits h)
frame_stays (b ∷ g) x digits other h none = ap (λ t. b ∷ t) (text_stays g x digits other h (none (omega arith)))

digits_frame : (frame : List ℕ) → list_all is_ascii_digit frame ≡ true → func frame ≡ frame
digits_frame [] h = refl
digits_frame (b ∷ text) h = ap (λ t. b ∷ t) (digits_stay text (and_parts (is_ascii_digit b) (list_all is_ascii_digit text) h).1)

-- a frame as a reader finds it: from `start` on it has digits alone, and no digit stands before them
module _ (frame : List ℕ) (start : ℕ) (within : start ≤ length frame) (digits : list_all is_ascii_digit (drop start frame) ≡ true)
    (before : 0 < start → is_ascii_digit (get_or frame (start - 1) 0) ≡ false) where
  found_parts : 0 < start → frame ≡ take (start - 1) frame ++ get_or frame (start - 1) 0 ∷ drop start frame
  found_parts lt =
      let e : start - 1 + 1 ≡ start = omega arith in
      sym (take-append-drop (start - 1) frame) ∙ ap (λ t. take (start - 1) frame ++ t) (drop_more frame (start - 1) 0 (omega arith) ∙ ap (λ n. get_or frame (start - 1) 0 ∷ drop n frame) e)

  -- with a function, an `@` and 1 to 9 digits it is cut
  pub found_line : 2 ≤ start → get_or frame (start - 1) 0 ≡ 64 → 1 ≤ length frame - start → length frame - start ≤ 9 → func frame ≡ take (start - 1) frame
  found_line some mark least most =
      let long = length-drop start frame in
      let short = length-take-le (start - 1) frame (omega arith) in
      function_of frame (take (start - 1) frame) (drop start frame) (record {
        parts = found_parts (omega arith) ∙ ap (λ x. take (start - 1) frame ++ x ∷ drop start frame) mark;
        named = omega (arith, short);
        numbered = and_from (nat_lt 0 (length (drop start frame))) (nat_le (length (drop start frame)) 9 && list_all is_ascii_digit (drop start frame)) (lt-ltb 0 (length (drop start frame)) (omega (arith, long)))
            (and_from (nat_le (length (drop start frame)) 9) (list_all is_ascii_digit (drop start frame)) (le-leb (length (drop start frame)) 9 (omega (arith, long))) digits);
      })

  -- and without one of these it stays
  no_mark : get_or frame (start - 1) 0 ≢ 64 → (nat_eq (get_or frame (start - 1) 0) 64 && is_line (drop start frame)) ≡ false
  no_mark other = ap (λ b. b && is_line (drop start frame)) (ne_eqb (get_or frame (start - 1) 0) 64 other)

  no_number : (length frame - start ≡ 0) ⊎ (9 < length frame - start) → (nat_eq (get_or frame (start - 1) 0) 64 && is_line (drop start frame)) ≡ false
  no_number (inl none) =
      ap (λ b. nat_eq (get_or frame (start - 1) 0) 64 && (b && (nat_le (length (drop start frame)) 9 && list_all is_ascii_digit (drop start frame)))) (le-ltb 0 (length (drop start frame)) (omega (arith, length-drop start frame)))
      ∙ both_false (nat_eq (get_or frame (start - 1) 0) 64)
  no_number (inr many) =
      ap (λ b. nat_eq (get_or frame (start - 1) 0) 64 && (nat_lt 0 (length (drop start frame)) && (b && list_all is_ascii_digit (drop start frame)))) (lt-leb (length (drop start frame)) 9 (omega (arith, length-drop start frame)))
      ∙ ap (λ b. nat_eq (get_or frame (start - 1) 0) 64 && b) (both_false (nat_lt 0 (length (drop start frame))))
      ∙ both_false (nat_eq (get_or frame (start - 1) 0) 64)

  stays_from : (2 ≤ start → (nat_eq (get_or frame (start - 1) 0) 64 && is_line (drop start frame)) ≡ false) → frame ≡ func frame
  stays_from none = elim (cases_order start 0) [
    | inl e ↦ sym (digits_frame frame (sym (ap (λ n. list_all is_ascii_digit (drop n frame)) e) ∙ digits))
    | inr (inl lt) ↦ absurd (omega arith)
    | inr (inr gt) ↦
        let parts = found_parts gt in
        let short = length-take-le (start - 1) frame (omega arith) in
        sym (ap func parts ∙ frame_stays (take (start - 1) frame) (get_or frame (start - 1) 0) (drop start frame) (before gt) digits (λ some. none (omega (arith, some, short))) ∙ sym parts)
  ]

  pub no_line_found : (start < 2) ⊎ ((length frame - start ≡ 0) ⊎ (9 < length frame - start)) ⊎ (get_or frame (start - 1) 0 ≢ 64) → frame ≡ func frame
  no_line_found (inl lt) = stays_from (λ le. absurd (omega arith))
  no_line_found (inr (inl number)) = stays_from (λ le. no_number number)
  no_line_found (inr (inr other)) = stays_from (λ le. no_mark other)

-- no byte of a text is an `@`
abbrev pub HasNoMark : List ℕ → Type 0
HasNoMark text = (k : ℕ) → k < length text → get_or text k 0 ≢ 64

-- such a text stays
unmarked_text : (text : List ℕ) → HasNoMark text → without_line text ≡ text
unmarked_text [] none = refl
unmarked_text (b ∷ text) none =
    ap (λ t. cond (t && is_line text) [] (b ∷ without_line text)) (ne_eqb b 64 (none 0 (omega arith)))
    ∙ ap (λ t. b ∷ t) (unmarked_text text (λ k lt. none (suc k) (omega (arith, lt))))

unmarked_frame : (frame : List ℕ) → HasNoMark frame → func frame ≡ frame
unmarked_frame [] none = refl
unmarked_frame (b ∷ text) none = ap (λ t. b ∷ t) (unmarked_text text (λ k lt. none (suc k) (omega (arith, lt))))

-- and so do the frames of a path with such a text
pub unmarked_path : (p : Path) → HasNoMark (path_text p) → map func p ≡ p
unmarked_path [] none = refl
unmarked_path (f ∷ []) none = ap (λ g. g ∷ []) (unmarked_frame f none)
unmarked_path (f ∷ g ∷ p) none =
    let rest : List ℕ = path_text (g ∷ p) in
    let long = length-append f (59 ∷ rest) in
    let first : func f ≡ f = unmarked_frame f (λ k lt e. none k (omega (arith, lt, long)) (get_or_append_left f (59 ∷ rest) 0 k lt ∙ e)) in
    let later : map func (g ∷ p) ≡ g ∷ p = unmarked_path (g ∷ p) (λ k lt e. none (length f + suc k) (omega (arith, lt, long)) (get_or-append-add f (59 ∷ rest) (suc k) 0 ∙ e)) in
    (λ i. first i ∷ later i)

-- what passes of a text passes of the text without its line
all_without : (test : ℕ → Bool) (text : List ℕ) → list_all test text ≡ true → list_all test (without_line text) ≡ true
all_without test [] h = refl
all_without test (b ∷ text) h = by_test (nat_eq b 64 && is_line text) (all_without test text (and_parts (test b) (list_all test text) h).1)
  where
    by_test : (t : Bool) → list_all test (without_line text) ≡ true → list_all test (cond t [] (b ∷ without_line text)) ≡ true
    by_test true rest = refl
    by_test false rest = and_from (test b) (list_all test (without_line text)) (and_parts (test b) (list_all test text) h).0 rest

without_short : (text : List ℕ) → length (without_line text) ≤ length text
without_short [] = omega arith
without_short (b ∷ text) = by_test (nat_eq b 64 && is_line text) (without_short text)
  where
    by_test : (t : Bool) → length (without_line text) ≤ length text → length (cond t [] (b ∷ without_line text)) ≤ suc (length text)
    by_test true rest = omega arith
    by_test false rest = omega arith

-- the function of a good frame is a good frame
pub function_good : (frame : List ℕ) → IsTrue (is_good_frame frame) → IsTrue (is_good_frame (func frame))
function_good [] good = good
function_good (b ∷ text) good =
    let frame : List ℕ = b ∷ text in
    let more = and_parts (nat_lt 0 (length frame)) (nat_le (length frame) 1023 && list_all is_plain frame) good in
    let parts = and_parts (nat_le (length frame) 1023) (list_all is_plain frame) more.1 in
    let bytes = and_parts (is_plain b) (list_all is_plain text) parts.1 in
    let short : length (func frame) ≤ 1023 = omega (arith, without_short text, leb-true (length frame) 1023 parts.0) in
    and_from (nat_lt 0 (length (func frame))) (nat_le (length (func frame)) 1023 && list_all is_plain (func frame)) (lt-ltb 0 (length (func frame)) (omega arith))
    (and_from (nat_le (length (func frame)) 1023) (list_all is_plain (func frame)) (le-leb (length (func frame)) 1023 short)
    (and_from (is_plain b) (list_all is_plain (without_line text)) bytes.0 (all_without is_plain text bytes.1)))

all_functions : (p : Path) → All (λ f. IsTrue (is_good_frame f)) p → All (λ f. IsTrue (is_good_frame f)) (map func p)
all_functions [] good = All-nil (λ f. IsTrue (is_good_frame f))
all_functions (f ∷ p) good =
    All-cons (λ f. IsTrue (is_good_frame f)) (func f) (map func p) (function_good f (All-head (λ f. IsTrue (is_good_frame f)) f p good)) (all_functions p (All-tail (λ f. IsTrue (is_good_frame f)) f p good))

-- the functions of a path are as many
pub functions_len : (p : Path) → length (map func p) ≡ length p
functions_len p = length-map p func

-- and good where the path is
pub functions_good : (p : Path) → AreGoodFrames p → AreGoodFrames (map func p)
functions_good p good = record { within_limit = omega (arith, functions_len p, good.within_limit); good = all_functions p good.good }

pub functions_good_path : (p : Path) → IsGoodPath p → IsGoodPath (map func p)
functions_good_path p good = record { some = omega (arith, functions_len p, good.some); good = functions_good p good.good }

-- a prefix of a path has a prefix of its functions
pub functions_prefix : (p q : Path) → is_prefix p q ≡ true → is_prefix (map func p) (map func q) ≡ true
functions_prefix [] q is = refl
functions_prefix (f ∷ p) [] is = absurd (true≢false (sym is))
functions_prefix (f ∷ p) (g ∷ q) is =
    let parts = and_parts (eq_by_cmp (slice_cmp nat_cmp) f g) (is_prefix p q) is in
    let same : f ≡ g = same_text f g (sym (texts_ties f g ∙ parts.0)) in
    let tied : eq_by_cmp (slice_cmp nat_cmp) (func f) (func g) ≡ true = ap (λ h. eq_by_cmp (slice_cmp nat_cmp) (func f) (func h)) (sym same) ∙ ap is_eq (tied_itself nat_list_cmp_total (func f)) in
    and_from (eq_by_cmp (slice_cmp nat_cmp) (func f) (func g)) (is_prefix (map func p) (map func q)) tied (functions_prefix p q parts.1)

-- the functions of one more frame
pub functions_more : (p : Path) (i : ℕ) (f : List ℕ) → slice_get p i ≡ Some f → map func (take (i + 1) p) ≡ map func (take i p) ++ func f ∷ []
functions_more p i f at =
    ap (map func) (take_more p i [] (slice_get_within p i f at) ∙ ap (λ g. take i p ++ g ∷ []) (get_or_from_slice_get p i f [] at))
    ∙ map-append func (take i p) (f ∷ [])
