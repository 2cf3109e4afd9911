-- The first line of a text, by its start and by what stands behind the start.
use Rattle.std.proofs.Common.{rules, ◌≡◌, ◌≢◌, ◌∙◌, ℕ, zero, suc, ◌+◌, ◌-◌, ◌*◌, ◌<◌, ◌≤◌, ◌⊎◌, inl, inr, Bool, true, false, eqb-true, not, ◌&&◌, cond, nat_eq, nat_lt, nat_le, List, [], ◌∷◌, ◌++◌, length, length-append, map, take, drop, drop-cons, get_or, None, Some, Ok, refl, sym, ap, subst, arith, codes}
use Rattle.std.specs.Prelude.{◌||◌, All, IsTrue}
use Rattle.std.specs.Char.{is_ascii_digit}
use Rattle.std.specs.List.{list_all}
use Rattle.std.specs.Str.{bytes_eq, IsUtf8, IsAscii, IsCharBoundary}
use Rattle.std.proofs.Math.Seq.{take-append_seam, drop-append_seam, drop-append-add}
use Rattle.std.proofs.lemmas.Bool.{true≢false, false_from_ne_true, and_parts, not-true, ne_eqb, ltb-true, leb-true}
use Rattle.std.proofs.lemmas.List.{append_assoc, drop-append-le, length-take-le, take-append-drop}
use Rattle.std.proofs.lemmas.List.Elements.{All-head, All-tail}
use Rattle.std.proofs.lemmas.List.Folds.{list_all-append}
use Rattle.std.proofs.lemmas.List.Sums.{prefix_len_stops, prefix_len-le-length}
use Rattle.std.proofs.lemmas.Slice.Eq.{bytes_eq-Decides}
use Rattle.std.proofs.lemmas.Str.{IsUtf8-append, IsUtf8-from_ascii, IsUtf8-take, IsCharBoundary-before_ascii, IsCharBoundary-after_ascii}
use Rattle.rank_set.specs.Digits.{digits_len, value_after}
use Rattle.rank_set.specs.Ranks.{Ranks, none, has, union, is_subset, subset_from, subset_has}
use Rattle.rank_set.specs.Runs.{ranks_between}
use Rattle.rank_set.specs.declared.TheConstants.{RANK_LIMIT}
use Rattle.call_path.specs.Path.{Path, path_text}
use Rattle.call_path.specs.Good.{is_plain, is_good_frame}
use Rattle.call_path.specs.Reading.{path_of, frames, first_error, frame_error}
use Rattle.call_path.proofs.ReadBack.{good_parts, read_good}
use Rattle.text_lines.specs.Lines.{pieces, before_first, without_return, lines, is_blank, begins_with_blank, words, line_len, after_blanks, after_word}
use Rattle.text_lines.proofs.Cuts.{first_piece, after_feed}
use Rattle.text_lines.proofs.Numbers.{word_is, number_words, number_rest}
use Rattle.text_lines.specs.declared.text_error.TextError.TheVariants.{OutOfMemory}
use Rattle.stat_plan.specs.Plans.{Sampled}
use Rattle.stat_plan.specs.Samples.{all_ranks}
use Rattle.stat_plan.proofs.OneRanks.{has_one_rank, one_rank_within}
use Rattle.stat_plan.specs.declared.samples.TheConstants.{TIME_LIMIT}
use Rattle.sample_text.specs.declared.parser.Parser.{Parser}
use Rattle.sample_text.specs.LineViews.{SamplesOneRank, BeginsWithNumber, BeginsOneRank, is_no_feed}
use Rattle.sample_text.specs.Steps.{sample, with_sample_line, with_sample, if_room}
use Rattle.sample_text.specs.Taking.{RefusesFirstLine}
use Rattle.sample_text.proofs.Steps.{room, sample_good}
use Rattle.sample_text.proofs.Texts.{path_good}
use Rattle.sample_text.proofs.UsualLines.{path_is, one_rank_read}

pub not_false : (t : Bool) → not t ≡ false → t ≡ true
not_false true e = refl
not_false false e = cc

-- what stands behind the first bytes
at_seam : (xs : List ℕ) (b : ℕ) (ys : List ℕ) (d : ℕ) → get_or (xs ++ b ∷ ys) (length xs) d ≡ b
at_seam [] b ys d = refl
at_seam (x ∷ xs) b ys d = at_seam xs b ys d

-- lines, of which the first is longer by the byte in front
module _ (b : ℕ) (line : List ℕ) (later : List (List ℕ)) (some : 0 < length line) where
  byte_more : (piece : List ℕ) → without_return piece ≡ line → without_return (b ∷ piece) ≡ b ∷ line
  byte_more [] is = absurd (let len = ap length is in omega (arith, len, some))
  byte_more (c ∷ piece) is = ap (λ t. b ∷ t) is

  byte_before : (ps : List (List ℕ)) → map without_return ps ≡ line ∷ later → map without_return (before_first b ps) ≡ (b ∷ line) ∷ later
  byte_before [] is = absurd (let h = is in cc)
  byte_before (p ∷ ps) is =
      let head : without_return p ≡ line = cc in
      let tail : map without_return ps ≡ later = cc in
      (λ i. byte_more p head i ∷ tail i)

-- the lines of a text behind bytes that are no line feeds
pub lines_behind : (start rest path : List ℕ) (later : List (List ℕ)) → list_all is_no_feed start ≡ true → 0 < length path → lines rest ≡ path ∷ later → lines (start ++ rest) ≡ (start ++ path) ∷ later
unfolding pieces
lines_behind [] rest path later plain some is = is
lines_behind (b ∷ start) rest path later plain some is =
    let parts = and_parts (is_no_feed b) (list_all is_no_feed start) plain in
    let len = length-append start path in
    ap (λ t. map without_return (cond t ([] ∷ pieces (start ++ rest)) (before_first b (pieces (start ++ rest))))) (not-true (nat_eq b 10) parts.0)
    ∙ byte_before b (start ++ path) later (omega (arith, len, some)) (pieces (start ++ rest)) (lines_behind start rest path later parts.1 some is)

-- a text that begins with no blank: nor does its first line
pub first_no_blank : (rest path : List ℕ) (later : List (List ℕ)) → lines rest ≡ path ∷ later → begins_with_blank rest ≡ false → begins_with_blank path ≡ false
unfolding pieces
first_no_blank [] path later is none = absurd (let h = is in cc)
first_no_blank (b ∷ rest) path later is none = by (nat_eq b 10) (pieces rest) is
  where
    alone : (t : Bool) → cond t [] (b ∷ []) ≡ path → begins_with_blank path ≡ false
    alone true e = ap begins_with_blank (sym e)
    alone false e = ap begins_with_blank (sym e) ∙ none

    by : (t : Bool) (ps : List (List ℕ)) → map without_return (cond t ([] ∷ ps) (before_first b ps)) ≡ path ∷ later → begins_with_blank path ≡ false
    by true ps e = let h : [] ≡ path = cc in ap begins_with_blank (sym h)
    by false [] e = alone (nat_eq b 13) (let h : without_return (b ∷ []) ≡ path = cc in h)
    by false ([] ∷ ps) e = alone (nat_eq b 13) (let h : without_return (b ∷ []) ≡ path = cc in h)
    by false ((c ∷ p) ∷ ps) e = (let h : b ∷ without_return (c ∷ p) ≡ path = cc in ap begins_with_blank (sym h)) ∙ none

-- a text with a byte has a line
pub some_line : (text : List ℕ) → 0 < length text → lines text ≡ [] → ⊥
some_line text some none = let h = sym (ap (map without_return) (first_piece text some)) ∙ none in cc

-- whether a byte ends no line
abbrev pub is_in_line : ℕ → Bool
is_in_line b = not (nat_eq b 10) && not (nat_eq b 13)

-- a line of such bytes, with a line feed behind it
pub line_and_feed : (line after : List ℕ) → list_all is_in_line line ≡ true → lines (line ++ 10 ∷ after) ≡ line ∷ lines after
unfolding pieces
line_and_feed [] after all = refl
line_and_feed (b ∷ []) after all =
    let parts = and_parts (is_in_line b) true all in
    let bytes = and_parts (not (nat_eq b 10)) (not (nat_eq b 13)) parts.0 in
    ap (λ t. map without_return (cond t ([] ∷ [] ∷ pieces after) ((b ∷ []) ∷ pieces after))) (not-true (nat_eq b 10) bytes.0)
    ∙ ap (λ t. cond t [] (b ∷ []) ∷ lines after) (not-true (nat_eq b 13) bytes.1)
line_and_feed (b ∷ c ∷ line) after all =
    let parts = and_parts (is_in_line b) (list_all is_in_line (c ∷ line)) all in
    let bytes = and_parts (not (nat_eq b 10)) (not (nat_eq b 13)) parts.0 in
    ap (λ t. map without_return (cond t ([] ∷ pieces ((c ∷ line) ++ 10 ∷ after)) (before_first b (pieces ((c ∷ line) ++ 10 ∷ after))))) (not-true (nat_eq b 10) bytes.0)
    ∙ byte_before b (c ∷ line) (lines after) (omega arith) (pieces ((c ∷ line) ++ 10 ∷ after)) (line_and_feed (c ∷ line) after parts.1)

-- a plain byte ends no line
plain_in_line : (b : ℕ) → is_plain b ≡ true → is_in_line b ≡ true
plain_in_line b plain =
    let least = leb-true 32 b (and_parts (nat_le 32 b) (not (nat_eq b 127) && not (nat_eq b 59)) plain).0 in
    (λ i. not (ne_eqb b 10 (λ e. omega (arith, e, least)) i) && not (ne_eqb b 13 (λ e. omega (arith, e, least)) i))

frame_in_line : (frame : List ℕ) → list_all is_plain frame ≡ true → list_all is_in_line frame ≡ true
frame_in_line [] all = refl
frame_in_line (b ∷ frame) all =
    let parts = and_parts (is_plain b) (list_all is_plain frame) all in
    (λ i. plain_in_line b parts.0 i && frame_in_line frame parts.1 i)

text_in_line : (p : Path) → All (λ f. IsTrue (is_good_frame f)) p → list_all is_in_line (path_text p) ≡ true
text_in_line [] good = refl
text_in_line (f ∷ []) good = frame_in_line f (good_parts f (All-head (λ f. IsTrue (is_good_frame f)) f [] good)).plain
text_in_line (f ∷ g ∷ p) good =
    list_all-append is_in_line f (59 ∷ path_text (g ∷ p))
    ∙ (λ i. frame_in_line f (good_parts f (All-head (λ f. IsTrue (is_good_frame f)) f (g ∷ p) good)).plain i && text_in_line (g ∷ p) (All-tail (λ f. IsTrue (is_good_frame f)) f (g ∷ p) good) i)

-- the text of a path ends no line
pub path_in_line : (text : List ℕ) (path : Path) → path_of text ≡ Ok path → list_all is_in_line text ≡ true
path_in_line text path is =
    let h = read_good text path is in
    ap (list_all is_in_line) (sym h.1) ∙ text_in_line path h.0.good.good

-- and has a byte
pub path_some : (text : List ℕ) (path : Path) → path_of text ≡ Ok path → 0 < length text
unfolding frames first_error frame_error
path_some [] path is = cc
path_some (b ∷ text) path is = omega arith

-- the first line of a text of UTF-8
return_or_not : (line : List ℕ) → (without_return line ≡ line) ⊎ (line ≡ without_return line ++ 13 ∷ [])
return_or_not [] = inl refl
return_or_not (b ∷ []) = by (nat_eq b 13) refl
  where
    by : (t : Bool) → nat_eq b 13 ≡ t → (cond t [] (b ∷ []) ≡ b ∷ []) ⊎ (b ∷ [] ≡ cond t [] (b ∷ []) ++ 13 ∷ [])
    by true is = inr (ap (λ n. n ∷ []) (eqb-true b 13 is))
    by false is = inl refl
return_or_not (b ∷ c ∷ line) = elim (return_or_not (c ∷ line)) [
  | inl same ↦ inl (ap (λ t. b ∷ t) same)
  | inr off ↦ inr (ap (λ t. b ∷ t) off)
]

without_return_utf8 : (line : List ℕ) → IsUtf8 line → IsUtf8 (without_return line)
without_return_utf8 line utf8 = elim (return_or_not line) [
  | inl same ↦ subst IsUtf8 (sym same) utf8
  | inr off ↦
      let front = without_return line in
      let len = ap length off ∙ length-append front (13 ∷ []) in
      let here : get_or line (length front) 0 ≡ 13 = ap (λ t. get_or t (length front) 0) off ∙ at_seam front 13 [] 0 in
      subst IsUtf8 (ap (take (length front)) off ∙ take-append_seam front (13 ∷ []))
      (IsUtf8-take line (length front) utf8 (IsCharBoundary-before_ascii line (length front) (omega (arith, len)) (omega (arith, here))))
]

first_line_utf8 : (text line : List ℕ) (later : List (List ℕ)) → IsUtf8 text → 0 < length text → lines text ≡ line ∷ later → IsUtf8 line
first_line_utf8 text line later utf8 some is =
    let n = line_len text in
    let first = sym is ∙ ap (map without_return) (first_piece text some) in
    let same : without_return (take n text) ≡ line = cc in
    let at_feed : (lt : n < length text) → get_or text n 0 ≡ 10 = λ lt. eqb-true (get_or text n 0) 10 (not_false _ (prefix_len_stops (λ b. not (nat_eq b 10)) text 0 lt)) in
    subst IsUtf8 same
    (without_return_utf8 (take n text) (IsUtf8-take text n utf8 (prefix_len-le-length (λ b. not (nat_eq b 10)) text, λ lt big. absurd (let feed = at_feed lt in omega (arith, feed, big)))))

-- a digit more, and the number that the digits then write
value_take : (text : List ℕ) (i value : ℕ) → i < length text → 10 * value_after value (take i text) + (get_or text i 0 - 48) ≡ value_after value (take (suc i) text)
value_take [] i value lt = absurd (omega arith)
value_take (b ∷ text) zero value lt = refl
value_take (b ∷ text) (suc i) value lt = value_take text i (10 * value + (b - 48)) (omega arith)

digits_take : (text : List ℕ) (i : ℕ) → i < length text → list_all is_ascii_digit (take i text) ≡ true → is_ascii_digit (get_or text i 0) ≡ true → list_all is_ascii_digit (take (suc i) text) ≡ true
digits_take [] i lt digits more = absurd (omega arith)
digits_take (b ∷ text) zero lt digits more = rw more refl
digits_take (b ∷ text) (suc i) lt digits more =
    let parts = and_parts (is_ascii_digit b) (list_all is_ascii_digit (take i text)) digits in
    (λ j. parts.0 j && digits_take text i (omega arith) parts.1 more j)

module _ (text : List ℕ) (i : ℕ) (lt : i < length text) where
  next : suc i ≡ i + 1
  next = omega arith

  pub value_more : (n : ℕ) → n ≡ value_after 0 (take i text) → 10 * n + (get_or text i 0 - 48) ≡ value_after 0 (take (i + 1) text)
  value_more n value = ap (λ n. 10 * n + (get_or text i 0 - 48)) value ∙ value_take text i 0 lt ∙ ap (λ k. value_after 0 (take k text)) next

  pub digits_more : list_all is_ascii_digit (take i text) ≡ true → is_ascii_digit (get_or text i 0) ≡ true → list_all is_ascii_digit (take (i + 1) text) ≡ true
  digits_more digits more = ap (λ k. list_all is_ascii_digit (take k text)) (sym next) ∙ digits_take text i lt digits more

-- the first eight bytes of a text
pub window_len : (text window more : List ℕ) → window ≡ take 8 text → length more + 8 ≡ length text → length window ≡ 8
window_len text window more front all = ap length front ∙ length-take-le 8 text (omega (arith, all))

-- a text whose first bytes are digits with a space behind them
pub number_front : (text window more rest : List ℕ) (i n : ℕ) → window ≡ take 8 text → more ≡ drop 8 text → i < length window → 0 < i → get_or window i 0 ≡ 32 → list_all is_ascii_digit (take i window) ≡ true → n ≡ value_after 0 (take i window) → rest ≡ drop (i + 1) text → BeginsWithNumber text n rest
number_front text window more rest i n front back lt some space digits value behind =
    let word = take i window in
    let long : length word ≡ i = length-take-le i window (omega arith) in
    let next : suc i ≡ i + 1 = omega arith in
    let all : text ≡ window ++ more = sym (take-append-drop 8 text) ∙ (λ j. sym front j ++ sym back j) in
    let cut : window ≡ word ++ 32 ∷ drop (i + 1) window = sym (take-append-drop i window) ∙ ap (λ t. word ++ t) (drop-cons window i 0 lt ∙ (λ j. space j ∷ drop (next j) window)) in
    let later : drop (i + 1) window ++ more ≡ rest = sym (drop-append-le (i + 1) window more (omega (arith, lt))) ∙ ap (drop (i + 1)) (sym all) ∙ sym behind in
    record {
      word = word;
      blank = 32;
      whole = all ∙ ap (λ t. t ++ more) cut ∙ append_assoc word (32 ∷ drop (i + 1) window) more ∙ ap (λ t. word ++ 32 ∷ t) later;
      some = omega (arith, long, some);
      digits = digits;
      number = ap (λ t. cond (t || not (list_all is_ascii_digit word)) None (Some (value_after 0 word))) (ne_eqb (length word) 0 (λ e. omega (arith, e, long, some)))
          ∙ ap (λ t. cond (not t) None (Some (value_after 0 word))) digits
          ∙ ap Some (sym value);
      ends = refl;
    }

-- digits before a byte that is none
digits_before : (word : List ℕ) (b : ℕ) (rest : List ℕ) → list_all is_ascii_digit word ≡ true → is_ascii_digit b ≡ false → digits_len (word ++ b ∷ rest) ≡ length word
digits_before [] b rest all end = rw end refl
digits_before (c ∷ word) b rest all end =
    let parts = and_parts (is_ascii_digit c) (list_all is_ascii_digit word) all in
    rw parts.0 (rw (digits_before word b rest parts.1 end) (omega arith))

blank_no_digit : (b : ℕ) → is_blank b ≡ true → is_ascii_digit b ≡ false
blank_no_digit b blank = search rules

-- digits and a blank, before whatever rest
module _ (word : List ℕ) (b : ℕ) (rest : List ℕ) (digits : list_all is_ascii_digit word ≡ true) (some : 0 < length word) (blank : is_blank b ≡ true) where
  long : length word ≡ digits_len (word ++ b ∷ rest)
  long = sym (digits_before word b rest digits (blank_no_digit b blank))

  pub words_front : words (word ++ b ∷ rest) ≡ word ∷ words rest
  words_front =
      number_words (word ++ b ∷ rest) (length word) b rest long some (drop-append_seam word (b ∷ rest)) blank
      ∙ (λ i. (ap (λ n. take n (word ++ b ∷ rest)) (word_is (word ++ b ∷ rest) (length word) b rest long some (drop-append_seam word (b ∷ rest)) blank) ∙ take-append_seam word (b ∷ rest)) i ∷ words rest)

  pub behind_front : after_blanks (after_word (word ++ b ∷ rest)) ≡ after_blanks rest
  behind_front = number_rest (word ++ b ∷ rest) (length word) b rest long some (drop-append_seam word (b ∷ rest)) blank

-- digits, a blank and more bytes, which all pass a test
front_passes : (test : ℕ → Bool) → ((b : ℕ) → is_ascii_digit b ≡ true → test b ≡ true) → ((b : ℕ) → is_blank b ≡ true → test b ≡ true) → (word : List ℕ) (b : ℕ) (rest : List ℕ) → list_all is_ascii_digit word ≡ true → is_blank b ≡ true → list_all test rest ≡ true → list_all test (word ++ b ∷ rest) ≡ true
front_passes test digit blank [] b rest digits is pass = (λ i. blank b is i && pass i)
front_passes test digit blank (c ∷ word) b rest digits is pass =
    let parts = and_parts (is_ascii_digit c) (list_all is_ascii_digit word) digits in
    (λ i. digit c parts.0 i && front_passes test digit blank word b rest parts.1 is pass i)

digit_no_feed : (b : ℕ) → is_ascii_digit b ≡ true → is_no_feed b ≡ true
digit_no_feed b digit = search rules

blank_no_feed : (b : ℕ) → is_blank b ≡ true → is_no_feed b ≡ true
blank_no_feed b blank = search rules

digit_ascii : (b : ℕ) → is_ascii_digit b ≡ true → nat_lt b 128 ≡ true
digit_ascii b digit = search rules

blank_ascii : (b : ℕ) → is_blank b ≡ true → nat_lt b 128 ≡ true
blank_ascii b blank = search rules

all_ascii : (bytes : List ℕ) → list_all (λ b. nat_lt b 128) bytes ≡ true → IsAscii bytes
all_ascii [] all i = omega arith
all_ascii (b ∷ bytes) all zero = ltb-true b 128 (and_parts (nat_lt b 128) (list_all (λ b. nat_lt b 128) bytes) all).0
all_ascii (b ∷ bytes) all (suc i) = all_ascii bytes (and_parts (nat_lt b 128) (list_all (λ b. nat_lt b 128) bytes) all).1 i

no_blanks : (path : List ℕ) → begins_with_blank path ≡ false → path ≡ after_blanks path
no_blanks [] none = refl
no_blanks (b ∷ path) none = rw none refl

-- a text that begins with another byte than a blank
pub no_blank_front : (text : List ℕ) (b : ℕ) (rest : List ℕ) → text ≡ b ∷ rest → b ≢ 32 → b ≢ 9 → begins_with_blank text ≡ false
no_blank_front text b rest is space tab = ap begins_with_blank is ∙ (λ i. ne_eqb b 32 space i || ne_eqb b 9 tab i)

-- a text that begins with `stack` and a blank
pub word_front : (text bytes word first : List ℕ) → bytes ≡ text → word ≡ take 6 bytes → first ≡ drop 6 bytes → word ≡ codes "stack " → text ≡ codes "stack " ++ first
word_front text bytes word first value front behind is =
    sym value ∙ sym (take-append-drop 6 bytes) ∙ (λ i. (sym front ∙ is) i ++ sym behind i)

-- a text that begins with `stack` and two numbers
module _ (text first second rest : List ℕ) (time rank : ℕ) (begins : text ≡ codes "stack " ++ first) (one : BeginsWithNumber first time second) (two : BeginsWithNumber second rank rest) where
  start : List ℕ
  start = codes "stack " ++ (one.word ++ one.blank ∷ (two.word ++ two.blank ∷ []))

  start_before : (path : List ℕ) → start ++ path ≡ codes "stack " ++ (one.word ++ one.blank ∷ (two.word ++ two.blank ∷ path))
  unfolding start
  start_before path =
      ap (λ t. codes "stack " ++ t)
      (append_assoc one.word (one.blank ∷ (two.word ++ two.blank ∷ [])) path
      ∙ ap (λ t. one.word ++ one.blank ∷ t) (append_assoc two.word (two.blank ∷ []) path))

  start_passes : (test : ℕ → Bool) → list_all test (codes "stack ") ≡ true → ((b : ℕ) → is_ascii_digit b ≡ true → test b ≡ true) → ((b : ℕ) → is_blank b ≡ true → test b ≡ true) → list_all test start ≡ true
  unfolding start
  start_passes test word digit blank =
      list_all-append test (codes "stack ") (one.word ++ one.blank ∷ (two.word ++ two.blank ∷ []))
      ∙ (λ i. word i && front_passes test digit blank one.word one.blank (two.word ++ two.blank ∷ []) one.digits one.ends (front_passes test digit blank two.word two.blank [] two.digits two.ends refl) i)

  sample_in : time ≤ TIME_LIMIT → rank < RANK_LIMIT → (path : List ℕ) → IsUtf8 path → 0 < length path → begins_with_blank path ≡ false → SamplesOneRank (start ++ path) time rank path
  sample_in low below path utf8 some none =
      let third = two.word ++ two.blank ∷ path in
      let bytes = one.word ++ one.blank ∷ third in
      one_rank_read (start ++ path) (codes "stack " ++ bytes) bytes third path (sym (start_before path)) refl refl
      one.word two.word path (words_front one.word one.blank third one.digits one.some one.ends) (words_front two.word two.blank path two.digits two.some two.ends)
      (behind_front one.word one.blank third one.digits one.some one.ends) (behind_front two.word two.blank path two.digits two.some two.ends) (no_blanks path none)
      time rank low below one.number two.number
      (IsUtf8-append start path (IsUtf8-from_ascii start (all_ascii start (start_passes (λ b. nat_lt b 128) refl digit_ascii blank_ascii))) utf8) some

  -- the rest is what is left behind three words
  pub rest_is : begins_with_blank rest ≡ false → rest ≡ after_blanks (after_word (after_word (after_word text)))
  rest_is none =
      path_is text (codes "stack " ++ first) first second rest (sym begins) refl refl one.word two.word rest
      (ap words one.whole ∙ words_front one.word one.blank second one.digits one.some one.ends) (ap words two.whole ∙ words_front two.word two.blank rest two.digits two.some two.ends)
      (ap (λ t. after_blanks (after_word t)) one.whole ∙ behind_front one.word one.blank second one.digits one.some one.ends) (ap (λ t. after_blanks (after_word t)) two.whole ∙ behind_front two.word two.blank rest two.digits two.some two.ends)
      (no_blanks rest none)

  pub begins_one_rank : IsUtf8 rest → time ≤ TIME_LIMIT → rank < RANK_LIMIT → 0 < length rest → begins_with_blank rest ≡ false → BeginsOneRank text time rank rest
  begins_one_rank utf8 low below some none = record {
    start = start;
    whole = begins ∙ ap (λ t. codes "stack " ++ t) (one.whole ∙ ap (λ t. one.word ++ one.blank ∷ t) two.whole) ∙ sym (start_before rest);
    no_feed = start_passes is_no_feed refl digit_no_feed blank_no_feed;
    utf8 = utf8;
    some = some;
    no_blank = none;
    sample = sample_in low below;
  }

-- a text that begins so
module _ (text rest : List ℕ) (time rank : ℕ) (begins : BeginsOneRank text time rank rest) where
  -- where it has nothing more, it is the line
  pub whole_line : SamplesOneRank text time rank rest
  whole_line = subst (λ line. SamplesOneRank line time rank rest) (sym begins.whole) (begins.sample rest begins.utf8 begins.some begins.no_blank)

  -- its first line ends where the first line of the rest ends
  module _ (path : List ℕ) (later : List (List ℕ)) (some : 0 < length path) (first : lines rest ≡ path ∷ later) where
    pub first_line : lines text ≡ (begins.start ++ path) ∷ later
    first_line = ap lines begins.whole ∙ lines_behind begins.start rest path later begins.no_feed some first

    pub first_sample : SamplesOneRank (begins.start ++ path) time rank path
    first_sample = begins.sample path (first_line_utf8 rest path later begins.utf8 begins.some first) some (first_no_blank rest path later first begins.no_blank)

-- a text that begins with a path's text and a line feed
pub feed_front : (text bytes line rest after : List ℕ) (b : ℕ) → bytes ≡ text → bytes_eq (take (length line) bytes) line ≡ true → rest ≡ drop (length line) bytes → rest ≡ b ∷ after → b ≡ 10 → text ≡ line ++ 10 ∷ after
feed_front text bytes line rest after b value front behind is feed =
    sym value ∙ sym (take-append-drop (length line) bytes) ∙ (λ i. (bytes_eq-Decides (take (length line) bytes) line).0 front i ++ (sym behind ∙ is ∙ ap (λ n. n ∷ after) feed) i)

module _ (text line after : List ℕ) (is : text ≡ line ++ 10 ∷ after) where
  len : length text ≡ length line + suc (length after)
  len = ap length is ∙ length-append line (10 ∷ after)

  end : length line + 1 ≡ length text - length after
  end = omega (arith, len)

  pub feed_boundary : IsUtf8 text → IsCharBoundary text (length text - length after)
  feed_boundary utf8 =
      let here : get_or text (length line) 0 ≡ 10 = ap (λ t. get_or t (length line) 0) is ∙ at_seam line 10 after 0 in
      subst (IsCharBoundary text) end (IsCharBoundary-after_ascii text (length line) utf8 (omega (arith, len)) (omega (arith, here)))

  pub feed_behind : drop (length text - length after) text ≡ after
  feed_behind = ap (λ n. drop n text) (sym end) ∙ ap (drop (length line + 1)) is ∙ drop-append-add line (10 ∷ after) 1

  pub feed_line : (path : Path) → path_of line ≡ Ok path → lines text ≡ line ∷ lines after
  feed_line path read = ap lines is ∙ line_and_feed line after (path_in_line line path read)

-- one rank that others have
pub one_is_subset : (all : Ranks) (rank : ℕ) → has all rank ≡ true → is_subset (union none (ranks_between rank rank)) all ≡ true
one_is_subset all rank there = subset_from (union none (ranks_between rank rank)) all (one_rank_within rank all there)

-- a set of one rank is no part of a set without the rank
pub one_is_not_subset : (all : Ranks) (rank : ℕ) → has all rank ≡ false → is_subset (union none (ranks_between rank rank)) all ≡ false
one_is_not_subset all rank lacks =
    false_from_ne_true (is_subset (union none (ranks_between rank rank)) all)
    (λ lies. true≢false (sym (subset_has (union none (ranks_between rank rank)) all lies rank (has_one_rank rank)) ∙ lacks))

-- a sample of a placed rank in a path, where there is room
pub placed_sample : (s : Sampled) (number time rank : ℕ) (text : List ℕ) (path : Path) → length s.lines < 262144 → has (all_ranks s.placed) rank ≡ true → path_of text ≡ Ok path → if_room s number (with_sample s number time (union none (ranks_between rank rank)) text) ≡ Ok (with_sample_line s (sample time (union none (ranks_between rank rank)) path))
placed_sample s number time rank text path few there is =
    room s number (with_sample s number time (union none (ranks_between rank rank)) text) few
    ∙ sample_good s number time (union none (ranks_between rank rank)) text (one_is_subset (all_ranks s.placed) rank there) path (path_good number text path is)

-- out of memory, whatever the first line says
pub no_memory : (old : Parser) (number : ℕ) (text : List ℕ) → 0 < length text → RefusesFirstLine old number text OutOfMemory
no_memory old number text some = record {
  line = without_return (take (line_len text) text);
  later = lines (after_feed (drop (line_len text) text));
  first = ap (map without_return) (first_piece text some);
  refused = λ memory. absurd (memory refl);
}
