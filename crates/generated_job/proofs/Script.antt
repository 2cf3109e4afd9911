-- The script's text is read as the job's script.
use Rattle.std.proofs.Common.{◌≡◌, ℕ, zero, suc, ◌+◌, ◌*◌, ◌/◌, ◌≤◌, ◌<◌, Bool, true, false, ◌||◌, cond, nat_eq, nat_lt, nat_le, if◌then◌else◌, List, [], ◌∷◌, ◌++◌, length, map, filter, Some, Ok, Err, refl, sym, ap, ◌∙◌, arith, codes}
use Rattle.std.specs.List.{range_with_len, AllByRecursion, list_any}
use Rattle.std.proofs.lemmas.Bool.Decides.{nat_tests}
use Rattle.std.proofs.lemmas.List.FromFn.{length-map-range_with_len, map-range_with_len_more}
use Rattle.text_lines.specs.Lines.{words, are_none}
use Rattle.text_lines.specs.Parsing.{parsed_lines}
use Rattle.text_lines.proofs.Parsing.{parsed_none, parsed_good}
use Rattle.overlay_setup.specs.NodeSets.{up_to}
use Rattle.overlay_setup.specs.Scripts.{scripted, Stream, stream}
use Rattle.overlay_setup.specs.Names.{number_of}
use Rattle.overlay_setup.specs.Topologies.{Nodes}
use Rattle.overlay_setup.specs.Trees.{is_daemon}
use Rattle.overlay_setup.specs.declared.script.Fault.{Fault}
use Rattle.overlay_setup.specs.declared.script.Grain.TheVariants.{Line}
use Rattle.overlay_setup.specs.declared.script.Mode.TheVariants.{WaitForAll, DontWait}
use Rattle.text_lines.specs.declared.text_error.TextError.TheVariants.{Bad, Over}
use Rattle.text_lines.specs.declared.text_error.Reason.TheVariants.{LosesFront, SecondLoss, BadNumber}
use Rattle.text_lines.specs.declared.text_error.Quantity.TheVariants.{Faults}
use Rattle.script_text.specs.Order.{with_item}
use Rattle.script_text.specs.Words.{after_grain, after_samples, after_mode, stream_words, lose_words, LoseWords}
use Rattle.script_text.specs.Numbers.{number_from}
use Rattle.script_text.specs.Streams.{new_number, stream_number, mode_of, daemons_of, all_daemons, stream_of}
use Rattle.script_text.specs.Losses.{as_lost, lost_node, with_fault}
use Rattle.script_text.specs.Whole.{with_words, with_line, script_of}
use Rattle.script_text.proofs.Losses.{fault_good}
use Rattle.script_text.proofs.WholeScript.{lose_one, words_lose, line_by_words, script_good}
use Rattle.generated_job.specs.Texts.{numbers, text_of, middle_name, middle_count, lose_line, stream_lines, script_text}
use Rattle.generated_job.specs.Job.{nodes_with, job_nodes, loss, script_with, job_script}
use Rattle.generated_job.specs.Written.{IsWord, IsLine}
use Rattle.generated_job.proofs.Lines.{lines_are, words_are, line_good, numbered_word}
use Rattle.generated_job.proofs.Nodes.{length-parents, middle_number, daemon_is, middle_is}
use Rattle.generated_job.proofs.Rows.{row_all, range_more}

-- ---- all daemons

filter_push : (p : ℕ → Bool) (xs : List ℕ) (y : ℕ) → filter p (xs ++ y ∷ []) ≡ filter p xs ++ cond (p y) (y ∷ []) []
filter_push p [] y = refl
filter_push p (x ∷ xs) y = by (p x) (filter_push p xs y)
  where
    by : (b : Bool) → filter p (xs ++ y ∷ []) ≡ filter p xs ++ cond (p y) (y ∷ []) [] → cond b (x ∷ filter p (xs ++ y ∷ [])) (filter p (xs ++ y ∷ [])) ≡ cond b (x ∷ filter p xs) (filter p xs) ++ cond (p y) (y ∷ []) []
    by true e = ap (λ t. x ∷ t) e
    by false e = e

module _ (size count : ℕ) (some : 1 ≤ count) (enough : size ≤ 16 * count) (least : 16 * count < size + 16) where
  abbrev t : Nodes
  t = nodes_with size count

  none_before : (n : ℕ) → n ≤ 1 + count → filter (is_daemon t.parents) (up_to n) ≡ []
  none_before zero le = refl
  none_before (suc n) le = filter_push (is_daemon t.parents) (up_to n) n ∙ (λ i. none_before n (omega arith) i ++ cond (middle_is size count n (omega arith) some least i) (n ∷ []) [])

  all_behind : (w : ℕ) → filter (is_daemon t.parents) (up_to (1 + count + w)) ≡ range_with_len (1 + count) w
  all_behind zero = (let e : 1 + count + 0 ≡ 1 + count = omega arith in ap (λ n. filter (is_daemon t.parents) (up_to n)) e) ∙ none_before (1 + count) (omega arith)
  all_behind (suc w) =
      (let e : 1 + count + suc w ≡ suc (1 + count + w) = omega arith in ap (λ n. filter (is_daemon t.parents) (up_to n)) e)
      ∙ filter_push (is_daemon t.parents) (up_to (1 + count + w)) (1 + count + w)
      ∙ (λ i. all_behind w i ++ cond (daemon_is size count (1 + count + w) enough (omega arith) i) ((1 + count + w) ∷ []) [])
      ∙ sym (range_more (1 + count) w (1 + count + w) refl)
      ∙ (let e : w + 1 ≡ suc w = omega arith in ap (range_with_len (1 + count)) e)

  daemons_are : all_daemons t ≡ range_with_len (1 + count) size
  unfolding all_daemons
  daemons_are = ap (λ n. filter (is_daemon t.parents) (up_to n)) (length-parents size count) ∙ all_behind size

-- ---- the lines of streams

first_stream : (t : Nodes) (number : ℕ) → with_line t (scripted [] []) number (codes "stream 0 wait-for-all waves 1 samples 2 on all") ≡ Ok (scripted (stream 0 WaitForAll 1 2 Line (all_daemons t) ∷ []) [])
unfolding words after_grain after_samples after_mode stream_words number_from new_number stream_number mode_of daemons_of stream_of with_words with_line
first_stream t number = refl

second_stream : (t : Nodes) (ds : List ℕ) (number : ℕ) → with_line t (scripted (stream 0 WaitForAll 1 2 Line ds ∷ []) []) number (codes "stream 1 dont-wait waves 1 samples 1 on all") ≡ Ok (scripted (stream 0 WaitForAll 1 2 Line ds ∷ stream 1 DontWait 1 1 Line (all_daemons t) ∷ []) [])
unfolding words after_grain after_samples after_mode stream_words number_from new_number stream_number mode_of daemons_of stream_of with_words with_line
second_stream t ds number = refl

-- ---- the lines of losses

abbrev lose_parts : ℕ → List (List ℕ)
lose_parts k = middle_name (2 * k + 1) ∷ codes "after" ∷ codes "20" ∷ codes "keep" ∷ codes "1" ∷ []

lose_good : (k : ℕ) → k < 65536 → AllByRecursion IsWord (codes "lose" ∷ lose_parts k)
lose_good k low = ((omega arith, refl), (numbered_word (codes "m:") (2 * k + 1) (omega arith, refl) (omega arith), ((omega arith, refl), ((omega arith, refl), ((omega arith, refl), ((omega arith, refl), tt))))))

lose_parts_are : (k : ℕ) → Some (record { name = middle_name (2 * k + 1); after = codes "20"; keep = codes "1" }) ≡ lose_words (lose_parts k)
unfolding lose_words
lose_parts_are k = refl

last_item : {X : Type 0} (number : X → ℕ) (x : X) (ys : List X) → AllByRecursion (λ y. nat_lt (number x) (number y) ≡ false) ys → with_item number x ys ≡ ys ++ x ∷ []
last_item number x [] all = refl
last_item number x (y ∷ ys) all = rw all.0 (ap (λ t. y ∷ t) (last_item number x ys all.1))

none_passes : {X : Type 0} (p : X → Bool) (xs : List X) → AllByRecursion (λ x. p x ≡ false) xs → list_any p xs ≡ false
none_passes p [] all = refl
none_passes p (x ∷ xs) all = (λ i. all.0 i || none_passes p xs all.1 i)

twenty : (line : ℕ) → number_from line 0 65535 (Bad line BadNumber) (codes "20") ≡ Ok 20
unfolding number_from
twenty line = refl

one : (line : ℕ) → number_from line 0 65535 (Bad line BadNumber) (codes "1") ≡ Ok 1
unfolding number_from
one line = refl

module _ (size count : ℕ) (few : count ≤ 16) (streams : List Stream) where
  abbrev u : Nodes
  u = nodes_with size count

  abbrev faults_at : ℕ → List Fault
  faults_at k = map loss (range_with_len 0 k)

  module _ (k line : ℕ) (low : 2 * k + 1 < count) where
    not_many : nat_le 256 (length (faults_at k)) ≡ false
    not_many = let len : length (faults_at k) ≡ k = length-map-range_with_len loss 0 k in grind (arith, nat_tests)

    not_front : nat_eq (1 + (2 * k + 1)) 0 ≡ false
    not_front = grind (arith, nat_tests)

    not_yet : list_any (λ f. nat_eq f.node (1 + (2 * k + 1))) (faults_at k) ≡ false
    not_yet = none_passes (λ (f : Fault). nat_eq f.node (1 + (2 * k + 1))) (faults_at k) (row_all (λ (f : Fault). nat_eq f.node (1 + (2 * k + 1)) ≡ false) loss 0 k (λ j le lt. apart j lt))
      where
        apart : (j : ℕ) → j < 0 + k → nat_eq (1 + (2 * j + 1)) (1 + (2 * k + 1)) ≡ false
        apart j lt = grind (arith, nat_tests)

    lost : lost_node u (faults_at k) line (middle_name (2 * k + 1)) ≡ Ok (1 + (2 * k + 1))
    unfolding lost_node
    lost =
        ap (λ b. if b then Err (Over line Faults 256) else as_lost u (faults_at k) line (number_of (middle_name (2 * k + 1)) u.names)) not_many
        ∙ ap (as_lost u (faults_at k) line) (middle_number size count (2 * k + 1) low (omega arith))
        ∙ ap (λ b. if b then Err (Bad line LosesFront) else if list_any (λ f. nat_eq f.node (1 + (2 * k + 1))) (faults_at k) then Err (Bad line SecondLoss) else Ok (1 + (2 * k + 1))) not_front
        ∙ ap (λ b. if b then Err (Bad line SecondLoss) else Ok (1 + (2 * k + 1))) not_yet

    more : faults_at (k + 1) ≡ with_fault (loss k) (faults_at k)
    more =
        map-range_with_len_more loss 0 k k (omega arith)
        ∙ sym (last_item (λ f. f.node) (loss k) (faults_at k) (row_all (λ (f : Fault). nat_lt (1 + (2 * k + 1)) f.node ≡ false) loss 0 k (λ j le lt. above j lt)))
      where
        above : (j : ℕ) → j < 0 + k → nat_lt (1 + (2 * k + 1)) (1 + (2 * j + 1)) ≡ false
        above j lt = grind (arith, nat_tests)

    lose_step : with_line u (scripted streams (faults_at k)) line (lose_line k) ≡ Ok (scripted streams (faults_at (k + 1)))
    lose_step =
        line_by_words u (scripted streams (faults_at k)) line (lose_line k) (ap are_none ws)
        ∙ words_lose u (scripted streams (faults_at k)) line (words (lose_line k)) (codes "lose") (lose_parts k) ws refl refl
        ∙ lose_one u (scripted streams (faults_at k)) line (lose_words (lose_parts k)) w (loss k) (faults_at (k + 1)) (lose_parts_are k) (fault_good u (faults_at k) line w (1 + (2 * k + 1)) lost 20 (twenty line) 1 (one line)) more
      where
        w : LoseWords
        w = record { name = middle_name (2 * k + 1); after = codes "20"; keep = codes "1" }

        ws : words (lose_line k) ≡ codes "lose" ∷ lose_parts k
        ws = words_are (codes "lose" ∷ lose_parts k) (lose_good k (omega arith))

  losses_read : (w k line : ℕ) → 2 * (k + w) ≤ count → parsed_lines (with_line u) (scripted streams (faults_at k)) line (map lose_line (range_with_len k w)) ≡ Ok (scripted streams (faults_at (k + w)))
  losses_read zero k line le = parsed_none (with_line u) (scripted streams (faults_at k)) line ∙ (let e : k ≡ k + 0 = omega arith in ap (λ n. Ok (scripted streams (faults_at n))) e)
  losses_read (suc w) k line le =
      parsed_good (with_line u) (scripted streams (faults_at k)) line (lose_line k) (map lose_line (range_with_len (k + 1) w)) (scripted streams (faults_at (k + 1))) (lose_step k line (omega arith))
      ∙ losses_read w (k + 1) (suc line) (omega arith)
      ∙ (let e : k + 1 + w ≡ k + suc w = omega arith in ap (λ n. Ok (scripted streams (faults_at n))) e)

-- ---- the whole text

module _ (size count : ℕ) (few : count ≤ 16) (some : 1 ≤ count) (enough : size ≤ 16 * count) (least : 16 * count < size + 16) where
  abbrev v : Nodes
  v = nodes_with size count

  abbrev both : List ℕ → List Stream
  both ds = stream 0 WaitForAll 1 2 Line ds ∷ stream 1 DontWait 1 1 Line ds ∷ []

  abbrev all_lines : List (List ℕ)
  all_lines = stream_lines ++ map lose_line (numbers (count / 2))

  lines_read : parsed_lines (with_line v) (scripted [] []) 1 all_lines ≡ Ok (script_with size count)
  lines_read =
      parsed_good (with_line v) (scripted [] []) 1 (codes "stream 0 wait-for-all waves 1 samples 2 on all") (codes "stream 1 dont-wait waves 1 samples 1 on all" ∷ map lose_line (numbers (count / 2))) _ (first_stream v 1)
      ∙ parsed_good (with_line v) (scripted (stream 0 WaitForAll 1 2 Line (all_daemons v) ∷ []) []) 2 (codes "stream 1 dont-wait waves 1 samples 1 on all") (map lose_line (numbers (count / 2))) _ (second_stream v (all_daemons v) 2)
      ∙ losses_read size count few (both (all_daemons v)) (count / 2) 0 3 (omega arith)
      ∙ (let e : 0 + count / 2 ≡ count / 2 = omega arith in (λ i. Ok (scripted (both (daemons_are size count some enough least i)) (map loss (range_with_len 0 (e i))))))

  lines_good : AllByRecursion IsLine all_lines
  lines_good = (refl, (refl, row_all IsLine lose_line 0 (count / 2) (λ k le lt. line_good (codes "lose" ∷ lose_parts k) (lose_good k (omega arith)))))

  script_are : script_of v (text_of all_lines) ≡ Ok (script_with size count)
  script_are = script_good v (text_of all_lines) (script_with size count) (ap (parsed_lines (with_line v) (scripted [] []) 1) (lines_are all_lines lines_good) ∙ lines_read)

-- the text is read as the script
pub script_is : (size : ℕ) → 1 ≤ size → size ≤ 256 → script_of (job_nodes size) (script_text size) ≡ Ok (job_script size)
script_is size some few = script_are size (middle_count size) (omega arith) (omega arith) (omega arith) (omega arith)
