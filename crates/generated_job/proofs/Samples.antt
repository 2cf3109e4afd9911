-- The samples' text is read as the job's samples.
use Rattle.std.proofs.Common.{◌≡◌, ℕ, zero, suc, ◌+◌, ◌*◌, ◌/◌, ◌%◌, ◌≤◌, ◌<◌, Bool, true, false, not, cond, ◌||◌, ◌&&◌, nat_lt, nat_le, List, [], ◌∷◌, ◌++◌, length, map, None, Some, Ok, refl, sym, ap, ◌∙◌, arith, append_assoc, length-append, append-nil, codes, IsTrue, slice_index_or}
use Rattle.std.specs.Fmt.{decimal}
use Rattle.std.specs.List.{range_with_len, AllByRecursion}
use Rattle.std.proofs.lemmas.Bool.{le-leb, eqb-true}
use Rattle.std.proofs.lemmas.Bool.Decides.{nat_tests}
use Rattle.std.proofs.lemmas.Fmt.{decimal_digit}
use Rattle.std.proofs.lemmas.List.FromFn.{length-map-range_with_len, map-range_with_len_more}
use Rattle.rank_set.specs.Ranks.{Ranks, none, has, those, union, union-none, is_subset, is_empty, size as size_of, has-none, has-those, same_ranks, subset_from, none_from_size}
use Rattle.rank_set.specs.Runs.{ranks_between}
use Rattle.rank_set.proofs.RunSets.{has-ranks_between}
use Rattle.call_path.specs.Path.{path_text}
use Rattle.call_path.specs.Good.{IsGoodPath, is_good_frame, is_plain}
use Rattle.call_path.proofs.ReadBack.{good_read}
use Rattle.text_lines.specs.Lines.{lines, words, are_none, after_word, after_blanks}
use Rattle.text_lines.specs.Parsing.{and_then, some_or, parsed_lines, if_holds}
use Rattle.text_lines.proofs.Parsing.{parsed_none, parsed_good}
use Rattle.overlay_setup.specs.Daemons.{if_daemon, daemon_named}
use Rattle.stat_plan.specs.Plans.{sampled}
use Rattle.stat_plan.specs.Samples.{SampleLine, all_ranks}
use Rattle.stat_plan.proofs.Elements.{all_append}
use Rattle.overlay_setup.specs.Topologies.{Nodes}
use Rattle.overlay_setup.specs.Trees.{is_daemon}
use Rattle.text_lines.specs.declared.text_error.TextError.TheVariants.{Bad}
use Rattle.text_lines.specs.declared.text_error.Reason.TheVariants.{NotADaemon, BadTime}
use Rattle.sample_text.specs.Words.{Daemon, Stack, read_line, directive, path_in}
use Rattle.sample_text.specs.Steps.{daemon_on, time_at, time_on, are_disjoint, add_at, with_line}
use Rattle.text_lines.specs.RanksWords.{ranks_or_error, ranks_on}
use Rattle.sample_text.specs.Whole.{empty_sets, nothing_parsed, lacks_rank, whole, samples_of_text}
use Rattle.sample_text.proofs.Lines.{whole_good}
use Rattle.sample_text.proofs.Sets.{in_any, has-all_ranks}
use Rattle.sample_text.proofs.Steps.{daemon_good, stack_good, line_good as step_good}
use Rattle.sample_text.proofs.Texts.{path_good}
use Rattle.sample_text.proofs.LineWords.{line_of_words}
use Rattle.generated_job.specs.Texts.{numbers, line_of, daemon_name, daemon_line, sampled_path, stack_line, stack_lines, sample_lines, samples_text, middle_count}
use Rattle.generated_job.specs.Job.{nodes_with, job_nodes, daemon_ranks, sample_of, samples_with, job_samples}
use Rattle.generated_job.specs.Written.{IsWord, IsLine, is_graphic}
use Rattle.generated_job.proofs.Lines.{all_both, lines_are, words_are, line_good, line_utf8, first_off, next_off, last_left, decimal_graphic, decimal_word, numbered_word, number_is}
use Rattle.generated_job.proofs.RankTexts.{rank_read, run_read}
use Rattle.generated_job.proofs.Rows.{row_append, row_all}
use Rattle.generated_job.proofs.Nodes.{length-parents, daemon_number, daemon_is, middle_is}

-- ---- what the lines say

-- the words of a daemon's line
abbrev run_word : ℕ → List ℕ
run_word j = decimal (64 * j) ++ 45 ∷ decimal (64 * j + 63)

abbrev daemon_words : ℕ → List (List ℕ)
daemon_words j = codes "daemon" ∷ daemon_name j ∷ run_word j ∷ []

daemon_words_good : (j : ℕ) → j < 256 → AllByRecursion IsWord (daemon_words j)
daemon_words_good j low = (
  (omega arith, refl),
  (
    numbered_word (codes "d:") j (omega arith, refl) (omega arith),
    (
      (omega (arith, length-append (decimal (64 * j)) (45 ∷ decimal (64 * j + 63))), all_both is_graphic (decimal (64 * j)) (45 ∷ decimal (64 * j + 63)) (decimal_graphic (64 * j) (omega arith)) (decimal_graphic (64 * j + 63) (omega arith))),
      tt,
    ),
  ),
)

pub daemon_line_good : (j : ℕ) → j < 256 → IsLine (daemon_line j)
daemon_line_good j low = line_good (daemon_words j) (daemon_words_good j low)

daemon_line_read : (number j : ℕ) → j < 256 → read_line number (daemon_line j) ≡ Ok (Daemon (daemon_name j) (run_word j))
daemon_line_read number j low =
    line_of_words number (daemon_line j) (ap are_none ws) (line_utf8 (daemon_line j) (daemon_line_good j low))
    ∙ ap (directive number (daemon_line j)) ws
  where
    ws : words (daemon_line j) ≡ daemon_words j
    ws = words_are (daemon_words j) (daemon_words_good j low)

-- the words of a rank's line
abbrev stack_words : ℕ → ℕ → ℕ → List (List ℕ)
stack_words seed t r = codes "stack" ∷ decimal t ∷ decimal r ∷ path_text (sampled_path seed t r) ∷ []

path_word : (seed t r : ℕ) → IsWord (path_text (sampled_path seed t r))
path_word seed t r = (omega arith, all_both is_graphic (decimal (r / 16 % 4)) (59 ∷ 103 ∷ decimal ((r + t + seed % 3) % 3)) (decimal_graphic (r / 16 % 4) (omega arith)) (decimal_graphic ((r + t + seed % 3) % 3) (omega arith)))

stack_words_good : (seed t r : ℕ) → t < 65536 → r < 16384 → AllByRecursion IsWord (stack_words seed t r)
stack_words_good seed t r early low = ((omega arith, refl), (decimal_word t (omega arith), (decimal_word r (omega arith), (path_word seed t r, tt))))

pub stack_line_good : (seed t r : ℕ) → t < 65536 → r < 16384 → IsLine (stack_line seed t r)
stack_line_good seed t r early low = line_good (stack_words seed t r) (stack_words_good seed t r early low)

stack_path : (seed t r : ℕ) → t < 65536 → r < 16384 → path_in (after_word (stack_line seed t r)) ≡ path_text (sampled_path seed t r)
stack_path seed t r early low =
    let good = stack_words_good seed t r early low in
    ap path_in (first_off (codes "stack") (line_of (decimal t ∷ decimal r ∷ path_text (sampled_path seed t r) ∷ [])) good.0)
    ∙ ap (λ x. after_blanks (after_word x)) (next_off (decimal t) (line_of (decimal r ∷ path_text (sampled_path seed t r) ∷ [])) good.1.0)
    ∙ ap after_blanks (next_off (decimal r) (path_text (sampled_path seed t r)) good.1.1.0)
    ∙ last_left (path_text (sampled_path seed t r)) (path_word seed t r)

stack_line_read : (number seed t r : ℕ) → t < 65536 → r < 16384 → read_line number (stack_line seed t r) ≡ Ok (Stack (decimal t) (decimal r) (path_text (sampled_path seed t r)))
stack_line_read number seed t r early low =
    line_of_words number (stack_line seed t r) (ap are_none ws) (line_utf8 (stack_line seed t r) (stack_line_good seed t r early low))
    ∙ ap (directive number (stack_line seed t r)) ws
    ∙ ap (λ path. Ok (Stack (decimal t) (decimal r) path)) (stack_path seed t r early low)
  where
    ws : words (stack_line seed t r) ≡ stack_words seed t r
    ws = words_are (stack_words seed t r) (stack_words_good seed t r early low)

-- ---- paths

digit_plain : (d : ℕ) → d < 10 → is_plain (48 + d) ≡ true
digit_plain d low = grind (arith, nat_tests)

frame_good : (h d : ℕ) → is_plain h ≡ true → d < 10 → is_good_frame (h ∷ decimal d) ≡ true
frame_good h d plain low = ap (λ ds. is_good_frame (h ∷ ds)) (decimal_digit d low) ∙ (λ i. plain i && (digit_plain d low i && true))

pub path_is_good : (seed t r : ℕ) → IsGoodPath (sampled_path seed t r)
path_is_good seed t r = record { some = omega arith; good = record { within_limit = omega arith; good = each } }
  where
    each : (k : ℕ) (d : List ℕ) → k < 3 → IsTrue (is_good_frame (slice_index_or (sampled_path seed t r) k d))
    each zero d lt = refl
    each (suc zero) d lt = frame_good 102 (r / 16 % 4) refl (omega arith)
    each (suc (suc zero)) d lt = frame_good 103 ((r + t + seed % 3) % 3) refl (omega arith)
    each (suc (suc (suc k))) d lt = absurd (omega arith)

-- ---- ranks

any_append : (r : ℕ) (xs ys : List Ranks) → in_any r (xs ++ ys) ≡ (in_any r xs || in_any r ys)
any_append r [] ys = refl
any_append r (x ∷ xs) ys = ap (λ b. has x r || b) (any_append r xs ys) ∙ assoc (has x r) (in_any r xs) (in_any r ys)
  where
    assoc : (a b c : Bool) → (a || (b || c)) ≡ ((a || b) || c)
    assoc true b c = refl
    assoc false b c = refl

any_none : {X : Type 0} (r : ℕ) (xs : List X) → in_any r (map (λ _. none) xs) ≡ false
any_none r [] = refl
any_none r (x ∷ xs) = ap (λ b. b || in_any r (map (λ _. none) xs)) (has-none r) ∙ any_none r xs

no_more : (a r : ℕ) → false ≡ (nat_le (64 * a) r && nat_lt r (64 * (a + 0)))
no_more a r = grind (arith, nat_tests)

one_block : (a n r : ℕ) → ((not (nat_lt r (64 * a)) && not (nat_lt (64 * a + 63) r)) || (nat_le (64 * (a + 1)) r && nat_lt r (64 * (a + 1 + n)))) ≡ (nat_le (64 * a) r && nat_lt r (64 * (a + suc n)))
one_block a n r = grind (arith, nat_tests)

any_blocks : (r a n : ℕ) → in_any r (map daemon_ranks (range_with_len a n)) ≡ (nat_le (64 * a) r && nat_lt r (64 * (a + n)))
any_blocks r a zero = no_more a r
any_blocks r a (suc n) = (λ i. has-ranks_between (64 * a) (64 * a + 63) r i || any_blocks r (a + 1) n i) ∙ one_block a n r

-- the sets of ranks once n daemons have theirs, and w have not
abbrev placed_at : ℕ → ℕ → ℕ → List Ranks
placed_at count n w = (map (λ i. none) (numbers (1 + count)) ++ map daemon_ranks (range_with_len 0 n)) ++ map (λ j. none) (range_with_len n w)

or_false : (b : Bool) → (b || false) ≡ b
or_false true = refl
or_false false = refl

has_placed : (count n w r : ℕ) → has (all_ranks (placed_at count n w)) r ≡ nat_lt r (64 * n)
has_placed count n w r =
    has-all_ranks (placed_at count n w) r
    ∙ any_append r (map (λ i. none) (numbers (1 + count)) ++ map daemon_ranks (range_with_len 0 n)) (map (λ j. none) (range_with_len n w))
    ∙ (λ i. any_append r (map (λ i. none) (numbers (1 + count))) (map daemon_ranks (range_with_len 0 n)) i || any_none r (range_with_len n w) i)
    ∙ (λ i. (any_none r (numbers (1 + count)) i || any_blocks r 0 n i) || false)
    ∙ or_false (nat_le 0 r && nat_lt r (64 * (0 + n)))
    ∙ last
  where
    last : (nat_le (64 * 0) r && nat_lt r (64 * (0 + n))) ≡ nat_lt r (64 * n)
    last = grind (arith, nat_tests)

later_only : (n r : ℕ) → ((not (nat_lt r (64 * n)) && not (nat_lt (64 * n + 63) r)) && nat_lt r (64 * n)) ≡ false
later_only n r = grind (arith, nat_tests)

disjoint : (count n w : ℕ) → are_disjoint (daemon_ranks n) (all_ranks (placed_at count n w)) ≡ true
unfolding are_disjoint
disjoint count n w = ap is_empty (same_ranks (those (has (all_ranks (placed_at count n w))) (daemon_ranks n)) none (λ r.
    has-those (has (all_ranks (placed_at count n w))) (daemon_ranks n) r
    ∙ (λ i. has-ranks_between (64 * n) (64 * n + 63) r i && has_placed count n w r i)
    ∙ later_only n r
    ∙ sym (has-none r)))

add_at_seam : (xs : List Ranks) (x : Ranks) (ys : List Ranks) (more : Ranks) → add_at (xs ++ x ∷ ys) (length xs) more ≡ xs ++ union x more ∷ ys
add_at_seam [] x ys more = refl
add_at_seam (y ∷ xs) x ys more = ap (λ t. y ∷ t) (add_at_seam xs x ys more)

module _ (count n w : ℕ) where
  abbrev first : List Ranks
  first = map (λ i. none) (numbers (1 + count)) ++ map daemon_ranks (range_with_len 0 n)

  abbrev rest : List Ranks
  rest = map (λ j. none) (range_with_len (n + 1) w)

  length-first : length first ≡ 1 + count + n
  length-first = omega (arith, length-append (map (λ i. none) (numbers (1 + count))) (map daemon_ranks (range_with_len 0 n)), length-map-range_with_len {X = Ranks} (λ i. none) 0 (1 + count), length-map-range_with_len daemon_ranks 0 n)

  placed_step : add_at (placed_at count n (suc w)) (1 + count + n) (daemon_ranks n) ≡ placed_at count (n + 1) w
  placed_step =
      ap (λ k. add_at (first ++ none ∷ rest) k (daemon_ranks n)) (sym length-first)
      ∙ add_at_seam first none rest (daemon_ranks n)
      ∙ ap (λ x. first ++ x ∷ rest) (union-none (daemon_ranks n))
      ∙ sym (append_assoc first (daemon_ranks n ∷ []) rest)
      ∙ ap (λ x. x ++ rest) (append_assoc (map (λ i. none) (numbers (1 + count))) (map daemon_ranks (range_with_len 0 n)) (daemon_ranks n ∷ []) ∙ ap (λ x. map (λ i. none) (numbers (1 + count)) ++ x) (sym (map-range_with_len_more daemon_ranks 0 n n (omega arith))))

-- ---- lines one after another

module _ (size count : ℕ) (few : size ≤ 256) (enough : size ≤ 16 * count) where
  abbrev t : Nodes
  t = nodes_with size count

  named : (number j : ℕ) → j < size → daemon_on t number (daemon_name j) ≡ Ok (1 + count + j)
  unfolding daemon_on daemon_named
  named number j low =
      ap (λ o. some_or (Bad number NotADaemon) (if_daemon t.parents o)) (daemon_number size count j low (omega arith))
      ∙ ap (λ b. some_or (Bad number NotADaemon) (cond b (Some (1 + count + j)) None)) (daemon_is size count (1 + count + j) enough (omega arith))

  run_on : (number j : ℕ) → j < 256 → ranks_on number (run_word j) ≡ Ok (daemon_ranks j)
  unfolding ranks_on
  run_on number j low = ap (ranks_or_error number) (run_read (64 * j) (64 * j + 63) (omega arith) (omega arith))

  daemon_step : (number n w : ℕ) → n < size → with_line t (sampled (placed_at count n (suc w)) []) number (daemon_line n) ≡ Ok (sampled (placed_at count (n + 1) w) [])
  daemon_step number n w low =
      step_good t (sampled (placed_at count n (suc w)) []) number (daemon_line n) (Daemon (daemon_name n) (run_word n)) (daemon_line_read number n (omega arith))
      ∙ daemon_good t (sampled (placed_at count n (suc w)) []) number (daemon_name n) (run_word n) (1 + count + n) (named number n low) (daemon_ranks n) (run_on number n (omega arith)) (disjoint count n (suc w))
      ∙ ap (λ p. Ok (sampled p [])) (placed_step count n w)

  daemons_read : (w n number : ℕ) (rest : List (List ℕ)) → n + w ≤ size → parsed_lines (with_line t) (sampled (placed_at count n w) []) number (map daemon_line (range_with_len n w) ++ rest) ≡ parsed_lines (with_line t) (sampled (placed_at count (n + w) 0) []) (number + w) rest
  daemons_read zero n number rest high = (let a : n ≡ n + 0 = omega arith in let b : number ≡ number + 0 = omega arith in (λ i. parsed_lines (with_line t) (sampled (placed_at count (a i) 0) []) (b i) rest))
  daemons_read (suc w) n number rest high =
      parsed_good (with_line t) (sampled (placed_at count n (suc w)) []) number (daemon_line n) (map daemon_line (range_with_len (n + 1) w) ++ rest) (sampled (placed_at count (n + 1) w) []) (daemon_step number n w (omega arith))
      ∙ daemons_read w (n + 1) (suc number) rest (omega arith)
      ∙ (let a : n + 1 + w ≡ n + suc w = omega arith in let b : suc number + w ≡ number + suc w = omega arith in (λ i. parsed_lines (with_line t) (sampled (placed_at count (a i) 0) []) (b i) rest))

  -- a rank's line, where all ranks are placed
  rank_on : (number r : ℕ) → r < 16384 → ranks_on number (decimal r) ≡ Ok (ranks_between r r)
  unfolding ranks_on
  rank_on number r low = ap (ranks_or_error number) (rank_read r (omega arith))

  timed : (number time : ℕ) → time < 65536 → time_on number (decimal time) ≡ Ok time
  unfolding time_on
  timed number time low = ap (time_at number) (number_is time (omega arith)) ∙ ap (λ b. if_holds b (Bad number BadTime) (Ok time)) (le-leb time 65535 (omega arith))

  abbrev placed : List Ranks
  placed = placed_at count size 0

  here : (r q : ℕ) → r < 64 * size → (not (nat_lt q r) && not (nat_lt r q)) ≡ true → nat_lt q (64 * size) ≡ true
  here r q low one = grind (arith, nat_tests)

  is_placed : (r : ℕ) → r < 64 * size → is_subset (ranks_between r r) (all_ranks placed) ≡ true
  is_placed r low = subset_from (ranks_between r r) (all_ranks placed) (λ q one. has_placed count size 0 q ∙ here r q low (sym (has-ranks_between r r q) ∙ one))

  stack_step : (seed time r number : ℕ) (lines : List SampleLine) → time < 65536 → r < 64 * size → length lines < 262144 → with_line t (sampled placed lines) number (stack_line seed time r) ≡ Ok (sampled placed (lines ++ sample_of seed time r ∷ []))
  stack_step seed time r number lines early low more =
      step_good t (sampled placed lines) number (stack_line seed time r) (Stack (decimal time) (decimal r) (path_text (sampled_path seed time r))) (stack_line_read number seed time r early (omega arith))
      ∙ stack_good (sampled placed lines) number (decimal time) (decimal r) (path_text (sampled_path seed time r)) more time (timed number time early) (ranks_between r r) (rank_on number r (omega arith)) (is_placed r low) (sampled_path seed time r) (path_good number (path_text (sampled_path seed time r)) (sampled_path seed time r) (good_read (sampled_path seed time r) (path_is_good seed time r)))

  -- the samples of the ranks below n at a time, behind others
  abbrev lines_at : ℕ → List SampleLine → ℕ → ℕ → List SampleLine
  lines_at seed before time n = before ++ map (sample_of seed time) (range_with_len 0 n)

  stacks_read : (seed time : ℕ) (before : List SampleLine) (w n number : ℕ) (rest : List (List ℕ)) → time < 65536 → n + w ≤ 64 * size → length before ≤ 16384 → parsed_lines (with_line t) (sampled placed (lines_at seed before time n)) number (map (stack_line seed time) (range_with_len n w) ++ rest) ≡ parsed_lines (with_line t) (sampled placed (lines_at seed before time (n + w))) (number + w) rest
  stacks_read seed time before zero n number rest early high short = (let a : n ≡ n + 0 = omega arith in let b : number ≡ number + 0 = omega arith in (λ i. parsed_lines (with_line t) (sampled placed (lines_at seed before time (a i))) (b i) rest))
  stacks_read seed time before (suc w) n number rest early high short =
      parsed_good (with_line t) (sampled placed (lines_at seed before time n)) number (stack_line seed time n) (map (stack_line seed time) (range_with_len (n + 1) w) ++ rest) (sampled placed (lines_at seed before time n ++ sample_of seed time n ∷ []))
      (stack_step seed time n number (lines_at seed before time n) early (omega arith) (omega (arith, length-append before (map (sample_of seed time) (range_with_len 0 n)), length-map-range_with_len (sample_of seed time) 0 n)))
      ∙ ap (λ ls. parsed_lines (with_line t) (sampled placed ls) (suc number) (map (stack_line seed time) (range_with_len (n + 1) w) ++ rest)) (append_assoc before (map (sample_of seed time) (range_with_len 0 n)) (sample_of seed time n ∷ []) ∙ ap (λ x. before ++ x) (sym (map-range_with_len_more (sample_of seed time) 0 n n (omega arith))))
      ∙ stacks_read seed time before w (n + 1) (suc number) rest early (omega arith) short
      ∙ (let a : n + 1 + w ≡ n + suc w = omega arith in let b : suc number + w ≡ number + suc w = omega arith in (λ i. parsed_lines (with_line t) (sampled placed (lines_at seed before time (a i))) (b i) rest))

  -- ---- the whole text

  nones_row : (n a : ℕ) → map {A = ℕ} (λ j. none) (range_with_len a n) ≡ empty_sets n
  nones_row zero a = refl
  nones_row (suc n) a = (let e : suc n ≡ n + 1 = omega arith in ap (λ k. map {A = ℕ} (λ j. none) (range_with_len a k)) e) ∙ map-range_with_len_more (λ j. none) a n (a + n) refl ∙ ap (λ x. x ++ none ∷ []) (nones_row n a)

  at_start : nothing_parsed t ≡ sampled (placed_at count 0 size) []
  at_start =
      ap (λ n. sampled (empty_sets n) []) (length-parents size count)
      ∙ ap (λ p. sampled p []) (
      sym (nones_row (1 + count + size) 0)
      ∙ sym (row_append {X = Ranks} (λ j. none) 0 (1 + count) (1 + count) size (omega arith))
      ∙ (λ i. sym (append-nil (map {A = ℕ} (λ j. none) (numbers (1 + count)))) i ++ (nones_row size (1 + count) ∙ sym (nones_row size 0)) i))

  -- no daemon lacks a rank
  some_ranks : (j : ℕ) → is_empty (daemon_ranks j) ≡ false
  some_ranks j = by (is_empty (daemon_ranks j)) refl
    where
      in_it : (not (nat_lt (64 * j) (64 * j)) && not (nat_lt (64 * j + 63) (64 * j))) ≡ true
      in_it = grind (arith, nat_tests)

      by : (b : Bool) → is_empty (daemon_ranks j) ≡ b → b ≡ false
      by true e = sym (has-ranks_between (64 * j) (64 * j + 63) (64 * j) ∙ in_it) ∙ ap (λ s. has s (64 * j)) (none_from_size (daemon_ranks j) (eqb-true (size_of (daemon_ranks j)) 0 e)) ∙ has-none (64 * j)
      by false e = refl

  none_lacks : (m a n : ℕ) → lacks_rank t.parents n (map daemon_ranks (range_with_len a m)) ≡ false
  none_lacks zero a n = refl
  none_lacks (suc m) a n = (λ i. (is_daemon t.parents n && some_ranks a i) || none_lacks m (a + 1) (suc n) i) ∙ both (is_daemon t.parents n)
    where
      both : (b : Bool) → ((b && false) || false) ≡ false
      both true = refl
      both false = refl

  module _ (some : 1 ≤ count) (least : 16 * count < size + 16) where
    front_lacks : (m a n : ℕ) (sets : List Ranks) → n + m ≤ 1 + count → lacks_rank t.parents (n + m) sets ≡ false → lacks_rank t.parents n (map (λ i. none) (range_with_len a m) ++ sets) ≡ false
    front_lacks zero a n sets high later = (let e : n ≡ n + 0 = omega arith in ap (λ k. lacks_rank t.parents k sets) e) ∙ later
    front_lacks (suc m) a n sets high later =
        (λ i. (middle_is size count n (omega arith) some least i && is_empty none) || lacks_rank t.parents (suc n) (map (λ i. none) (range_with_len (a + 1) m) ++ sets))
        ∙ front_lacks m (a + 1) (suc n) sets (omega arith) ((let e : suc n + m ≡ n + suc m = omega arith in ap (λ k. lacks_rank t.parents k sets) e) ∙ later)

    all_placed : placed ≡ map (λ i. none) (numbers (1 + count)) ++ map daemon_ranks (numbers size)
    all_placed = append-nil (map (λ i. none) (numbers (1 + count)) ++ map daemon_ranks (numbers size))

    whole_text : (lines : List SampleLine) → whole t (sampled placed lines) ≡ Ok (sampled placed lines)
    whole_text lines = whole_good t (sampled placed lines) (ap (lacks_rank t.parents 0) all_placed ∙ front_lacks (1 + count) 0 0 (map daemon_ranks (numbers size)) (omega arith) (none_lacks size 0 (0 + (1 + count))))

    all_lines : (seed : ℕ) → parsed_lines (with_line t) (nothing_parsed t) 1 (sample_lines seed size) ≡ Ok (sampled placed (samples_with seed size count).lines)
    all_lines seed =
        ap (λ s. parsed_lines (with_line t) s 1 (sample_lines seed size)) at_start
        ∙ daemons_read size 0 1 (stack_lines seed size 0 ++ stack_lines seed size 1) (omega arith)
        ∙ (let e : 0 + size ≡ size = omega arith in ap (λ n. parsed_lines (with_line t) (sampled (placed_at count n 0) []) (1 + size) (stack_lines seed size 0 ++ stack_lines seed size 1)) e)
        ∙ stacks_read seed 0 [] (64 * size) 0 (1 + size) (stack_lines seed size 1) (omega arith) (omega arith) (omega arith)
        ∙ (let e : 0 + 64 * size ≡ 64 * size = omega arith in (λ i. parsed_lines (with_line t) (sampled placed (sym (append-nil (map (sample_of seed 0) (range_with_len 0 (e i)))) i)) (1 + size + 64 * size) (sym (append-nil (stack_lines seed size 1)) i)))
        ∙ stacks_read seed 1 (map (sample_of seed 0) (numbers (64 * size))) (64 * size) 0 (1 + size + 64 * size) [] (omega arith) (omega arith) (omega (arith, length-map-range_with_len (sample_of seed 0) 0 (64 * size)))
        ∙ (let e : 0 + 64 * size ≡ 64 * size = omega arith in ap (λ n. parsed_lines (with_line t) (sampled placed (lines_at seed (map (sample_of seed 0) (numbers (64 * size))) 1 n)) (1 + size + 64 * size + 64 * size) []) e)
        ∙ parsed_none (with_line t) (sampled placed (samples_with seed size count).lines) (1 + size + 64 * size + 64 * size)

    lines_good : (seed : ℕ) → AllByRecursion IsLine (sample_lines seed size)
    lines_good seed =
        all_append IsLine (map daemon_line (numbers size)) (stack_lines seed size 0 ++ stack_lines seed size 1)
        (row_all IsLine daemon_line 0 size (λ j le lt. daemon_line_good j (omega arith)))
        (all_append IsLine (stack_lines seed size 0) (stack_lines seed size 1)
        (row_all IsLine (stack_line seed 0) 0 (64 * size) (λ r le lt. stack_line_good seed 0 r (omega arith) (omega arith)))
        (row_all IsLine (stack_line seed 1) 0 (64 * size) (λ r le lt. stack_line_good seed 1 r (omega arith) (omega arith))))

    samples_are : (seed : ℕ) → samples_of_text t (samples_text seed size) ≡ Ok (samples_with seed size count)
    samples_are seed =
        ap (λ ls. and_then (parsed_lines (with_line t) (nothing_parsed t) 1 ls) (whole t)) (lines_are (sample_lines seed size) (lines_good seed))
        ∙ ap (λ r. and_then r (whole t)) (all_lines seed)
        ∙ whole_text (samples_with seed size count).lines
        ∙ ap (λ p. Ok (sampled p (samples_with seed size count).lines)) all_placed

-- the text is read as the samples
pub samples_is : (seed size : ℕ) → 1 ≤ size → size ≤ 256 → samples_of_text (job_nodes size) (samples_text seed size) ≡ Ok (job_samples seed size)
samples_is seed size some few = samples_are size (middle_count size) few (omega arith) (omega arith) (omega arith) seed
