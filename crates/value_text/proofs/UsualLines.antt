-- A line in its usual form gives a run of ranks a number.
use Rattle.std.proofs.Common.{rules, ◌≡◌, ◌∙◌, ℕ, zero, suc, ◌+◌, ◌-◌, ◌*◌, ◌<◌, ◌≤◌, Bool, true, false, not, ◌&&◌, ◌||◌, cond, nat_eq, nat_le, nat_lt, List, [], ◌∷◌, ◌++◌, length, map, take, drop, drop-cons, get_or, None, Some, Ok, Err, refl, sym, ap, subst, arith, codes, eqb-true, length-append, ne_eqb, of_z, to_z, w64, inl, inr}
use Rattle.std.proofs.Math.IntN.{ℤ, pos, neg_ℤ}
use Rattle.std.specs.Char.{is_ascii_digit}
use Rattle.std.specs.List.{list_all}
use Rattle.std.specs.Option.{option_map}
use Rattle.std.specs.Str.{IsUtf8, IsAscii}
use Rattle.std.proofs.Math.Seq.{drop-append_seam, take-append_seam}
use Rattle.std.proofs.lemmas.Bool.{and_parts, le-leb, ltb-true, or_cases}
use Rattle.std.proofs.lemmas.Bool.Decides.{nat_tests}
use Rattle.std.proofs.lemmas.List.{append_assoc, drop-append-le, drop_all, length-take-le, take-append-drop, take_all}
use Rattle.std.proofs.lemmas.List.Folds.{list_all-append}
use Rattle.std.proofs.lemmas.Str.{IsUtf8-from_ascii}
use Rattle.rank_set.specs.Digits.{digits_len, value_after}
use Rattle.rank_set.specs.RanksText.{number_at, ranks_text, second_at}
use Rattle.rank_set.specs.declared.TheConstants.{RANK_LIMIT}
use Rattle.rank_set.specs.declared.read.RanksError.TheVariants.{BadNumber, OverLimit}
use Rattle.rank_set.proofs.Reading.{item_alone, item_run, second_ends}
use Rattle.rank_set.proofs.OneItem.{item_is_text}
use Rattle.text_lines.specs.Lines.{before_first, is_blank, is_comment, lines, pieces, without_return, words}
use Rattle.text_lines.proofs.Cuts.{first_piece}
use Rattle.value_text.specs.Words.{is_size, size_in, number_text}
use Rattle.value_text.specs.UsualLines.{BeginsWithNumber, BeginsWithRun, BeginsWithValue, EndsLine, GivesRun, IsWindow, is_run_byte, run_ranks}
use Rattle.value_text.proofs.NumberWords.{minus_read, plain_read}

-- a byte of a word
abbrev is_in_word : ℕ → Bool
is_in_word b = not (is_blank b)

no_blank_in : (b : ℕ) → is_in_word b ≡ true → is_blank b ≡ false
no_blank_in b e = by (is_blank b) e
  where
    by : (t : Bool) → not t ≡ true → t ≡ false
    by true e = cc
    by false e = refl

-- ---- the digits of a rank

-- a digit more, and the number that the digits then write
value_take : (text : List ℕ) (i value : ℕ) → i < length text → 10 * value_after value (take i text) + (get_or text i 0 - 48) ≡ value_after value (take (suc i) text)
value_take [] i value lt = absurd (omega arith)
value_take (b ∷ text) zero value lt = refl
value_take (b ∷ text) (suc i) value lt = value_take text i (10 * value + (b - 48)) (omega arith)

digits_take : (text : List ℕ) (i : ℕ) → i < length text → list_all is_ascii_digit (take i text) ≡ true → is_ascii_digit (get_or text i 0) ≡ true → list_all is_ascii_digit (take (suc i) text) ≡ true
digits_take [] i lt digits more = absurd (omega arith)
digits_take (b ∷ text) zero lt digits more = rw more refl
digits_take (b ∷ text) (suc i) lt digits more =
    let parts = and_parts (is_ascii_digit b) (list_all is_ascii_digit (take i text)) digits in
    (λ j. parts.0 j && digits_take text i (omega arith) parts.1 more j)

module _ (text : List ℕ) (i : ℕ) (lt : i < length text) where
  next : suc i ≡ i + 1
  next = omega arith

  pub value_more : (n : ℕ) → n ≡ value_after 0 (take i text) → 10 * n + (get_or text i 0 - 48) ≡ value_after 0 (take (i + 1) text)
  value_more n value = ap (λ n. 10 * n + (get_or text i 0 - 48)) value ∙ value_take text i 0 lt ∙ ap (λ k. value_after 0 (take k text)) next

  pub digits_more : list_all is_ascii_digit (take i text) ≡ true → is_ascii_digit (get_or text i 0) ≡ true → list_all is_ascii_digit (take (i + 1) text) ≡ true
  digits_more digits more = ap (λ k. list_all is_ascii_digit (take k text)) (sym next) ∙ digits_take text i lt digits more

  -- a text whose first bytes are digits with a byte behind them
  pub number_front : (rest : List ℕ) (n byte : ℕ) → 0 < i → get_or text i 0 ≡ byte → list_all is_ascii_digit (take i text) ≡ true → n ≡ value_after 0 (take i text) → rest ≡ drop (i + 1) text → BeginsWithNumber text n byte rest
  number_front rest n byte some space digits value behind =
      let long : length (take i text) ≡ i = length-take-le i text (omega arith) in
      record {
        word = take i text;
        whole = sym (take-append-drop i text) ∙ ap (λ t. take i text ++ t) (drop-cons text i 0 lt ∙ (λ j. space j ∷ drop (next j) text) ∙ ap (λ t. byte ∷ t) (sym behind));
        some = omega (arith, long, some);
        digits = digits;
        value = value;
      }

-- a text whose first bytes are a window, of which the first are digits with a byte behind them
pub window_front : (size : ℕ) (text window rest : List ℕ) (i n byte : ℕ) → IsWindow size window text → i < length window → 0 < i → get_or window i 0 ≡ byte → list_all is_ascii_digit (take i window) ≡ true → n ≡ value_after 0 (take i window) → rest ≡ drop (i + 1) text → BeginsWithNumber text n byte rest
window_front size text window rest i n byte is lt some here digits value behind =
    let word = take i window in
    let more = drop size text in
    let long : length word ≡ i = length-take-le i window (omega (arith, lt)) in
    let next : suc i ≡ i + 1 = omega arith in
    let all : text ≡ window ++ more = sym (take-append-drop size text) ∙ ap (λ t. t ++ more) (sym is.front) in
    let cut : window ≡ word ++ byte ∷ drop (i + 1) window = sym (take-append-drop i window) ∙ ap (λ t. word ++ t) (drop-cons window i 0 lt ∙ (λ j. here j ∷ drop (next j) window)) in
    let later : drop (i + 1) window ++ more ≡ rest = sym (drop-append-le (i + 1) window more (omega (arith, lt))) ∙ ap (drop (i + 1)) (sym all) ∙ sym behind in
    record {
      word = word;
      whole = all ∙ ap (λ t. t ++ more) cut ∙ append_assoc word (byte ∷ drop (i + 1) window) more ∙ ap (λ t. word ++ byte ∷ t) later;
      some = omega (arith, long, some);
      digits = digits;
      value = value;
    }

-- ---- the words

-- bytes that are no blanks are one word
words_alone : (word : List ℕ) → 0 < length word → list_all is_in_word word ≡ true → words word ≡ word ∷ []
unfolding words
words_alone [] some all = absurd (omega (arith, some))
words_alone (b ∷ []) some all =
    let no_blank = no_blank_in b (and_parts (is_in_word b) true all).0 in
    rw (no_blank, words) refl
words_alone (b ∷ c ∷ word) some all =
    let parts = and_parts (is_in_word b) (list_all is_in_word (c ∷ word)) all in
    let here = no_blank_in b parts.0 in
    let next = no_blank_in c (and_parts (is_in_word c) (list_all is_in_word word) parts.1).0 in
    (λ i. cond (here i) (words (c ∷ word)) (cond (next i) ((b ∷ []) ∷ words (c ∷ word)) (before_first b (words_alone (c ∷ word) (omega arith) parts.1 i))))

-- and so they are before a space
words_then : (word rest : List ℕ) → 0 < length word → list_all is_in_word word ≡ true → words (word ++ 32 ∷ rest) ≡ word ∷ words rest
unfolding words
words_then [] rest some all = absurd (omega (arith, some))
words_then (b ∷ []) rest some all =
    let here = no_blank_in b (and_parts (is_in_word b) true all).0 in
    (λ i. cond (here i) (words rest) ((b ∷ []) ∷ words rest))
words_then (b ∷ c ∷ word) rest some all =
    let parts = and_parts (is_in_word b) (list_all is_in_word (c ∷ word)) all in
    let here = no_blank_in b parts.0 in
    let next = no_blank_in c (and_parts (is_in_word c) (list_all is_in_word word) parts.1).0 in
    (λ i. cond (here i) (words (c ∷ (word ++ 32 ∷ rest))) (cond (next i) ((b ∷ []) ∷ words (c ∷ (word ++ 32 ∷ rest))) (before_first b (words_then (c ∷ word) rest (omega arith) parts.1 i))))

-- digits pass a test that each digit passes
digits_pass : (test : ℕ → Bool) → ((b : ℕ) → is_ascii_digit b ≡ true → test b ≡ true) → (word : List ℕ) → list_all is_ascii_digit word ≡ true → list_all test word ≡ true
digits_pass test digit [] all = refl
digits_pass test digit (b ∷ word) all =
    let parts = and_parts (is_ascii_digit b) (list_all is_ascii_digit word) all in
    (λ i. digit b parts.0 i && digits_pass test digit word parts.1 i)

-- a word of a number has digits alone, behind a `-` that may stand before them
size_digits : (digits : List ℕ) (sign : ℕ → ℤ) (z : ℤ) → option_map sign (size_in digits) ≡ Some z → list_all is_ascii_digit digits ≡ true
size_digits digits sign z e = by (is_size digits) refl e
  where
    by : (t : Bool) → is_size digits ≡ t → option_map sign (cond t (Some (value_after 0 digits)) None) ≡ Some z → list_all is_ascii_digit digits ≡ true
    by true is e = let all = and_parts (nat_le 1 (length digits) && nat_le (length digits) 13 && list_all is_ascii_digit digits) (nat_le (value_after 0 digits) 1000000000000) is in (and_parts (nat_le 1 (length digits) && nat_le (length digits) 13) (list_all is_ascii_digit digits) all.0).1
    by false is e = cc

number_passes : (test : ℕ → Bool) → ((b : ℕ) → is_ascii_digit b ≡ true → test b ≡ true) → test 45 ≡ true → (word : List ℕ) (z : ℤ) → number_text word ≡ Some z → list_all test word ≡ true
unfolding number_text
number_passes test digit minus [] z e = cc
number_passes test digit minus (b ∷ rest) z e = by (nat_eq b 45) refl e
  where
    by : (t : Bool) → nat_eq b 45 ≡ t → cond t (option_map (λ size. neg_ℤ (pos size)) (size_in rest)) (option_map pos (size_in (b ∷ rest))) ≡ Some z → list_all test (b ∷ rest) ≡ true
    by true is e = let same : b ≡ 45 = eqb-true b 45 is in (λ i. (ap test same ∙ minus) i && digits_pass test digit rest (size_digits rest (λ size. neg_ℤ (pos size)) z e) i)
    by false is e = digits_pass test digit (b ∷ rest) (size_digits (b ∷ rest) pos z e)

number_some : (word : List ℕ) (z : ℤ) → number_text word ≡ Some z → 0 < length word
unfolding number_text
number_some [] z e = cc
number_some (b ∷ rest) z e = omega arith

-- ---- a number before a line feed

digit_no_minus : (b : ℕ) → is_ascii_digit b ≡ true → nat_eq b 45 ≡ false
digit_no_minus b digit = search rules

module _ (word : List ℕ) (size : ℕ) (some : 0 < length word) (few : length word ≤ 13) (digits : list_all is_ascii_digit word ≡ true) (value : size ≡ value_after 0 word) (low : size ≤ 1000000000000) where
  size_read : Some size ≡ size_in word
  size_read =
      let within : value_after 0 word ≤ 1000000000000 = omega (arith, value, low) in
      ap Some value ∙ sym (λ i. cond (le-leb 1 (length word) (omega (arith, some)) i && le-leb (length word) 13 few i && digits i && le-leb (value_after 0 word) 1000000000000 within i) (Some (value_after 0 word)) None)

  plain_number : (z : ℤ) → z ≡ pos size → Some (to_z w64 (of_z w64 z)) ≡ number_text word
  plain_number z signed = by word refl
    where
      by : (w : List ℕ) → word ≡ w → Some (to_z w64 (of_z w64 z)) ≡ number_text word
      by [] is = absurd (let none = ap length is in omega (arith, none, some))
      by (b ∷ rest) is = plain_read word b rest is size low z (digit_no_minus b (and_parts (is_ascii_digit b) (list_all is_ascii_digit rest) (sym (ap (list_all is_ascii_digit) is) ∙ digits)).0) size_read signed

  minus_number : (z : ℤ) → z ≡ neg_ℤ (pos size) → Some (to_z w64 (of_z w64 z)) ≡ number_text (45 ∷ word)
  minus_number z signed = minus_read (45 ∷ word) 45 word refl size low z refl size_read signed

module _ (text rest : List ℕ) (size : ℕ) (z : ℤ) (begins : BeginsWithNumber text size 10 rest) (few : length text ≤ length rest + 14) (low : size ≤ 1000000000000) where
  few_digits : length begins.word ≤ 13
  few_digits = let all = ap length begins.whole ∙ length-append begins.word (10 ∷ rest) in omega (arith, all, few)

  pub ends_plain : z ≡ pos size → EndsLine text (to_z w64 (of_z w64 z)) rest
  ends_plain signed = record {
    word = begins.word;
    whole = begins.whole;
    number = sym (plain_number begins.word size begins.some few_digits begins.digits begins.value low z signed);
  }

  pub ends_minus : (whole : List ℕ) → whole ≡ 45 ∷ text → z ≡ neg_ℤ (pos size) → EndsLine whole (to_z w64 (of_z w64 z)) rest
  ends_minus whole is signed = record {
    word = 45 ∷ begins.word;
    whole = is ∙ ap (λ t. 45 ∷ t) begins.whole;
    number = sym (minus_number begins.word size begins.some few_digits begins.digits begins.value low z signed);
  }

-- ---- the run

-- where all are digits, so many does the word begin with
digits_all : (word : List ℕ) → list_all is_ascii_digit word ≡ true → digits_len word ≡ length word
digits_all [] e = refl
digits_all (b ∷ rest) e =
    let parts = and_parts (is_ascii_digit b) (list_all is_ascii_digit rest) e in
    rw parts.0 (rw (digits_all rest parts.1) (omega arith))

-- and before a `-`
digits_before : (word more : List ℕ) → list_all is_ascii_digit word ≡ true → digits_len (word ++ 45 ∷ more) ≡ length word
digits_before [] more e = refl
digits_before (b ∷ rest) more e =
    let parts = and_parts (is_ascii_digit b) (list_all is_ascii_digit rest) e in
    rw parts.0 (rw (digits_before rest more parts.1) (omega arith))

not_over : (n : ℕ) → n < 1048576 → nat_le 1048576 n ≡ false
not_over n few = grind (arith, nat_tests)

-- the number that an item begins with, below the limit
number_good : (offset : ℕ) (item word : List ℕ) (n : ℕ) → digits_len item ≡ length word → take (length word) item ≡ word → 0 < length word → n ≡ value_after 0 word → n < RANK_LIMIT → number_at offset item ≡ Ok n
number_good offset item word n len front some is below =
    let value : value_after 0 (take (digits_len item) item) ≡ n = ap (λ k. value_after 0 (take k item)) len ∙ ap (value_after 0) front ∙ sym is in
    ap (λ t. cond t (Err (BadNumber offset)) (cond (nat_le RANK_LIMIT (value_after 0 (take (digits_len item) item))) (Err (OverLimit offset)) (Ok (value_after 0 (take (digits_len item) item))))) (ne_eqb (digits_len item) 0 (λ e. omega (arith, e, len, some)))
    ∙ ap (λ n. cond (nat_le RANK_LIMIT n) (Err (OverLimit offset)) (Ok n)) value
    ∙ ap (λ t. cond t (Err (OverLimit offset)) (Ok n)) (not_over n below)

-- digits that write a number below the limit are one rank
rank_read : (word : List ℕ) (rank : ℕ) → 0 < length word → list_all is_ascii_digit word ≡ true → rank ≡ value_after 0 word → rank < RANK_LIMIT → ranks_text word ≡ Ok (run_ranks rank rank)
rank_read word rank some all is below =
    let len = digits_all word all in
    item_is_text word rank rank some
    (item_alone 0 word rank (number_good 0 word word rank len (take_all (length word) word (omega arith)) some is below) (drop_all (digits_len word) word (omega (arith, len))))

-- two such words with a `-` between are a run
run_read : (word second : List ℕ) (a b : ℕ) → 0 < length word → list_all is_ascii_digit word ≡ true → a ≡ value_after 0 word → 0 < length second → list_all is_ascii_digit second ≡ true → b ≡ value_after 0 second → a ≤ b → b < RANK_LIMIT → ranks_text (word ++ 45 ∷ second) ≡ Ok (run_ranks a b)
run_read word second a b some all is some_second all_second is_second order below =
    let item : List ℕ = word ++ 45 ∷ second in
    let len : digits_len item ≡ length word = digits_before word second all in
    let len_second = digits_all second all_second in
    let offset : ℕ = 0 + digits_len item + 1 in
    let low : a < RANK_LIMIT = omega (arith, order, below) in
    item_is_text item a b (let long = length-append word (45 ∷ second) in omega (arith, long, some))
    (item_run 0 item a (number_good 0 item word a len (take-append_seam word (45 ∷ second)) some is low) 45 second (ap (λ n. drop n item) len ∙ drop-append_seam word (45 ∷ second)) refl
    ∙ ap (second_at a offset second) (number_good offset second second b len_second (take_all (length second) second (omega arith)) some_second is_second below)
    ∙ second_ends a b offset second order (drop_all (digits_len second) second (omega (arith, len_second))))

digit_in_run : (b : ℕ) → is_ascii_digit b ≡ true → is_run_byte b ≡ true
digit_in_run b digit = ap (λ t. t || nat_eq b 45) digit

-- the bytes of a run pass a test that each digit and the `-` pass
run_passes : (test : ℕ → Bool) → ((b : ℕ) → is_ascii_digit b ≡ true → test b ≡ true) → test 45 ≡ true → (word : List ℕ) → list_all is_run_byte word ≡ true → list_all test word ≡ true
run_passes test digit minus [] all = refl
run_passes test digit minus (b ∷ word) all =
    let parts = and_parts (is_run_byte b) (list_all is_run_byte word) all in
    (λ i. byte b parts.0 i && run_passes test digit minus word parts.1 i)
  where
    byte : (b : ℕ) → is_run_byte b ≡ true → test b ≡ true
    byte b e = elim (or_cases (is_ascii_digit b) (nat_eq b 45) e) [
      | inl here ↦ digit b here
      | inr here ↦ ap test (eqb-true b 45 here) ∙ minus
    ]

-- a text that begins with a rank alone
pub one_front : (text rest : List ℕ) (rank : ℕ) → BeginsWithNumber text rank 32 rest → rank < RANK_LIMIT → BeginsWithRun text rank rank rest
one_front text rest rank begins below = record {
  word = begins.word;
  whole = begins.whole;
  some = begins.some;
  bytes = digits_pass is_run_byte digit_in_run begins.word begins.digits;
  read = rank_read begins.word rank begins.some begins.digits begins.value below;
}

-- a text that begins with two ranks, with a `-` between
pub two_front : (text second rest : List ℕ) (a b : ℕ) → BeginsWithNumber text a 45 second → BeginsWithNumber second b 32 rest → a ≤ b → b < RANK_LIMIT → BeginsWithRun text a b rest
two_front text second rest a b begins later order below =
    let long = length-append begins.word (45 ∷ later.word) in
    record {
      word = begins.word ++ 45 ∷ later.word;
      whole = begins.whole ∙ ap (λ t. begins.word ++ 45 ∷ t) later.whole ∙ sym (append_assoc begins.word (45 ∷ later.word) (32 ∷ rest));
      some = omega (arith, long);
      bytes = list_all-append is_run_byte begins.word (45 ∷ later.word) ∙ (λ i. digits_pass is_run_byte digit_in_run begins.word begins.digits i && digits_pass is_run_byte digit_in_run later.word later.digits i);
      read = run_read begins.word later.word a b begins.some begins.digits begins.value later.some later.digits later.value order below;
    }

-- ---- the line

digit_ascii : (b : ℕ) → is_ascii_digit b ≡ true → nat_lt b 128 ≡ true
digit_ascii b digit = search rules

digit_in_word : (b : ℕ) → is_ascii_digit b ≡ true → is_in_word b ≡ true
digit_in_word b digit = search rules

all_ascii : (bytes : List ℕ) → list_all (λ b. nat_lt b 128) bytes ≡ true → IsAscii bytes
all_ascii [] all i = omega arith
all_ascii (b ∷ bytes) all zero = ltb-true b 128 (and_parts (nat_lt b 128) (list_all (λ b. nat_lt b 128) bytes) all).0
all_ascii (b ∷ bytes) all (suc i) = all_ascii bytes (and_parts (nat_lt b 128) (list_all (λ b. nat_lt b 128) bytes) all).1 i

-- a text that begins with `value` and a space
pub value_front : (text word first : List ℕ) → word ≡ take 6 text → first ≡ drop 6 text → word ≡ codes "value " → text ≡ codes "value " ++ first
value_front text word first front behind is = sym (take-append-drop 6 text) ∙ (λ i. (sym front ∙ is) i ++ sym behind i)

module _ (line front after : List ℕ) (first last : ℕ) (z : ℤ) (whole : line ≡ codes "value " ++ front) (begins : BeginsWithRun front first last after) (number : number_text after ≡ Some z) where
  bytes : List ℕ
  bytes = codes "value " ++ (begins.word ++ 32 ∷ after)

  line_is : line ≡ bytes
  unfolding bytes
  line_is = whole ∙ ap (λ t. codes "value " ++ t) begins.whole

  bytes_pass : list_all (λ b. nat_lt b 128) bytes ≡ true
  unfolding bytes
  bytes_pass =
      list_all-append (λ b. nat_lt b 128) begins.word (32 ∷ after)
      ∙ (λ i. run_passes (λ b. nat_lt b 128) digit_ascii refl begins.word begins.bytes i && number_passes (λ b. nat_lt b 128) digit_ascii refl after z number i)

  front_words : words front ≡ begins.word ∷ after ∷ []
  front_words =
      ap words begins.whole
      ∙ words_then begins.word after begins.some (run_passes is_in_word digit_in_word refl begins.word begins.bytes)
      ∙ ap (λ ws. begins.word ∷ ws) (words_alone after (number_some after z number) (number_passes is_in_word digit_in_word refl after z number))

  line_words : words line ≡ codes "value" ∷ words front
  unfolding words
  line_words = ap words whole

  -- a line in its usual form gives a run its number
  pub gives_run : GivesRun line first last z
  gives_run = record {
    utf8 = subst IsUtf8 (sym line_is) (IsUtf8-from_ascii bytes (all_ascii bytes bytes_pass));
    gives = record {
      comment = ap is_comment whole;
      ranks_word = begins.word;
      number_word = after;
      is = line_words ∙ ap (λ ws. codes "value" ∷ ws) front_words;
      read = begins.read;
      number = number;
    };
  }

-- ---- the first line of a text

-- whether a byte ends no line
abbrev is_in_line : ℕ → Bool
is_in_line b = not (nat_eq b 10) && not (nat_eq b 13)

digit_in_line : (b : ℕ) → is_ascii_digit b ≡ true → is_in_line b ≡ true
digit_in_line b digit = search rules

-- lines, of which the first is longer by the byte in front
module _ (b : ℕ) (line : List ℕ) (later : List (List ℕ)) (some : 0 < length line) where
  byte_more : (piece : List ℕ) → without_return piece ≡ line → without_return (b ∷ piece) ≡ b ∷ line
  byte_more [] is = absurd (let len = ap length is in omega (arith, len, some))
  byte_more (c ∷ piece) is = ap (λ t. b ∷ t) is

  byte_before : (ps : List (List ℕ)) → map without_return ps ≡ line ∷ later → map without_return (before_first b ps) ≡ (b ∷ line) ∷ later
  byte_before [] is = absurd (let h = is in cc)
  byte_before (p ∷ ps) is =
      let head : without_return p ≡ line = cc in
      let tail : map without_return ps ≡ later = cc in
      (λ i. byte_more p head i ∷ tail i)

not_in : (t : Bool) → not t ≡ true → t ≡ false
not_in true e = cc
not_in false e = refl

-- a line of such bytes, with a line feed behind it
line_and_feed : (line after : List ℕ) → list_all is_in_line line ≡ true → lines (line ++ 10 ∷ after) ≡ line ∷ lines after
unfolding pieces
line_and_feed [] after all = refl
line_and_feed (b ∷ []) after all =
    let parts = and_parts (is_in_line b) true all in
    let bytes = and_parts (not (nat_eq b 10)) (not (nat_eq b 13)) parts.0 in
    ap (λ t. map without_return (cond t ([] ∷ [] ∷ pieces after) ((b ∷ []) ∷ pieces after))) (not_in (nat_eq b 10) bytes.0)
    ∙ ap (λ t. cond t [] (b ∷ []) ∷ lines after) (not_in (nat_eq b 13) bytes.1)
line_and_feed (b ∷ c ∷ line) after all =
    let parts = and_parts (is_in_line b) (list_all is_in_line (c ∷ line)) all in
    let bytes = and_parts (not (nat_eq b 10)) (not (nat_eq b 13)) parts.0 in
    ap (λ t. map without_return (cond t ([] ∷ pieces ((c ∷ line) ++ 10 ∷ after)) (before_first b (pieces ((c ∷ line) ++ 10 ∷ after))))) (not_in (nat_eq b 10) bytes.0)
    ∙ byte_before b (c ∷ line) (lines after) (omega arith) (pieces ((c ∷ line) ++ 10 ∷ after)) (line_and_feed (c ∷ line) after parts.1)

module _ (text front second rest : List ℕ) (first last : ℕ) (z : ℤ) (whole : text ≡ codes "value " ++ front) (begins : BeginsWithRun front first last second) (ends : EndsLine second z rest) where
  -- the line
  own : List ℕ
  own = begins.word ++ 32 ∷ ends.word

  text_is : text ≡ (codes "value " ++ own) ++ 10 ∷ rest
  unfolding own
  text_is =
      whole
      ∙ ap (λ t. codes "value " ++ t)
      (begins.whole ∙ ap (λ t. begins.word ++ 32 ∷ t) ends.whole ∙ sym (append_assoc begins.word (32 ∷ ends.word) (10 ∷ rest)))

  in_line : list_all is_in_line (codes "value " ++ own) ≡ true
  unfolding own
  in_line =
      list_all-append is_in_line begins.word (32 ∷ ends.word)
      ∙ (λ i. run_passes is_in_line digit_in_line refl begins.word begins.bytes i && number_passes is_in_line digit_in_line refl ends.word z ends.number i)

  own_begins : BeginsWithRun own first last ends.word
  unfolding own
  own_begins = record {
    word = begins.word;
    whole = refl;
    some = begins.some;
    bytes = begins.bytes;
    read = begins.read;
  }

  -- a text whose first line has its usual form
  pub begins_with_value : BeginsWithValue text first last z rest
  begins_with_value = record {
    line = codes "value " ++ own;
    front = ap lines text_is ∙ line_and_feed (codes "value " ++ own) rest in_line;
    run = gives_run (codes "value " ++ own) own ends.word first last z refl own_begins ends.number;
  }

  pub value_shorter : length rest < length text
  value_shorter = let all = ap length text_is ∙ length-append (codes "value " ++ own) (10 ∷ rest) in omega (arith, all)

-- a text with a byte has a line
pub some_line : (text : List ℕ) → nat_eq (length text) 0 ≡ false → lines text ≡ [] → ⊥
some_line text some none = let h = sym (ap (map without_return) (first_piece text (left text some))) ∙ none in cc
  where
    left : (text : List ℕ) → nat_eq (length text) 0 ≡ false → 0 < length text
    left [] e = cc
    left (b ∷ rest) e = omega arith
