-- A run of ranks is given a number.
use Rattle.std.proofs.Common.{◌≡◌, ◌↔◌, ◌∙◌, ℕ, ◌+◌, ◌<◌, ◌≤◌, Bool, true, false, not, ◌&&◌, nat_lt, List, get_or, Some, Ok, Err, refl, sym, ap, arith, inl, inr}
use Rattle.std.proofs.Math.IntN.{ℤ}
use Rattle.std.proofs.lemmas.Bool.{and_parts, cases_lt, or_cases, or_right, true≢false}
use Rattle.std.proofs.lemmas.Bool.Decides.{nat_tests}
use Rattle.std.proofs.lemmas.Str.{is_utf8-from_IsUtf8}
use Rattle.rank_set.specs.Ranks.{Ranks, none, Has, has, has-none, has-union, in_order, is_empty, is_subset, subset_from, subset_has}
use Rattle.rank_set.specs.Runs.{ranks_between}
use Rattle.rank_set.proofs.RunSets.{has-ranks_between}
use Rattle.text_lines.specs.declared.text_error.TextError.TheVariants.{Bad}
use Rattle.text_lines.specs.declared.text_error.Reason.TheVariants.{Unplaced, ValueTwice}
use Rattle.text_lines.specs.RanksWords.{ranks_on}
use Rattle.text_lines.proofs.RanksWords.{ranks_good}
use Rattle.value_text.specs.Numbers.{Numbers}
use Rattle.value_text.specs.Steps.{valued, with_numbers, with_line, with_value}
use Rattle.value_text.specs.UsualLines.{GivesRun, run_ranks, with_given}
use Rattle.value_text.specs.Views.{HasEntry, HasRun}
use Rattle.value_text.specs.Words.{number_text, value_words}
use Rattle.value_text.proofs.Grammar.{says_something}
use Rattle.value_text.proofs.WholeLines.{line_of_value}

-- ---- the set of a run

run_from : (first last r : ℕ) → first ≤ r → r ≤ last → (not (nat_lt r first) && not (nat_lt last r)) ≡ true
run_from first last r from to = grind (arith, nat_tests)

run_to : (first last r : ℕ) → (not (nat_lt r first) && not (nat_lt last r)) ≡ true → (first ≤ r) × (r ≤ last)
run_to first last r e =
    let parts = and_parts (not (nat_lt r first)) (not (nat_lt last r)) e in
    let a = parts.0 in
    let b = parts.1 in
    (grind (arith, nat_tests), grind (arith, nat_tests))

module _ (first last : ℕ) where
  -- it has each rank from the first to the last
  pub has_run_ranks : (r : ℕ) → first ≤ r → r ≤ last → Has r (run_ranks first last)
  has_run_ranks r from to =
      has-union none (ranks_between first last) r
      ∙ or_right (has none r) (has (ranks_between first last) r) (has-ranks_between first last r ∙ run_from first last r from to)

  -- and no other
  run_ranks_is : (r : ℕ) → Has r (run_ranks first last) → (first ≤ r) × (r ≤ last)
  run_ranks_is r there = elim (or_cases (has none r) (has (ranks_between first last) r) (sym (has-union none (ranks_between first last) r) ∙ there)) [
    | (inl front) ↦ absurd (true≢false (sym front ∙ has-none r))
    | (inr here) ↦ run_to first last r (sym (has-ranks_between first last r) ∙ here)
  ]

  -- what holds of each rank from the first to the last holds of each rank of the set
  pub each_of_run : (P : ℕ → Type 0) → ((r : ℕ) → first ≤ r → r ≤ last → P r) → (r : ℕ) → Has r (run_ranks first last) → P r
  each_of_run P holds r here = let is = run_ranks_is r here in holds r is.0 is.1

  -- what holds below the run and above it holds of each other rank
  pub others_of_run : (P : ℕ → Type 0) → ((r : ℕ) → r < first → P r) → ((r : ℕ) → last + 1 ≤ r → P r) → (r : ℕ) → has (run_ranks first last) r ≡ false → P r
  others_of_run P below above r away = elim (cases_lt r first) [
    | inl lt ↦ below r lt
    | inr from ↦ elim (cases_lt last r) [
      | inl gt ↦ above r (omega (arith, gt))
      | inr up_to ↦ absurd (true≢false (sym (has_run_ranks r (omega (arith, from)) (omega (arith, up_to))) ∙ away))
    ]
  ]

  pub run_placed : (placed : Ranks) → HasRun placed first last → is_subset (run_ranks first last) placed ≡ true
  run_placed placed there = subset_from (run_ranks first last) placed (each_of_run (λ r. Has r placed) there)

  -- a test of the set is one of the ranks from the first to the last
  pub run_tested : (placed : Ranks) (test : Bool) → test ≡ is_subset (run_ranks first last) placed → (test ≡ true) ↔ HasRun placed first last
  run_tested placed test is = (
    λ e r from to. subset_has (run_ranks first last) placed (sym is ∙ e) r (has_run_ranks r from to),
    λ there. is ∙ run_placed placed there,
  )

  pub run_unplaced : (placed : Ranks) (test : Bool) → (test ≡ true) ↔ HasRun placed first last → test ≡ false → is_subset (run_ranks first last) placed ≡ false
  run_unplaced placed test says away = by (is_subset (run_ranks first last) placed) refl
    where
      by : (t : Bool) → is_subset (run_ranks first last) placed ≡ t → t ≡ false
      by true is = sym (says.1 (λ r from to. subset_has (run_ranks first last) placed is r (has_run_ranks r from to))) ∙ away
      by false is = refl

  -- a test of the entries of the run is one of the entries of the set
  pub entries_tested : (entries : List ℕ) (test : Bool) → (test ≡ false) ↔ HasEntry entries first last 0 → (test ≡ false) ↔ ((r : ℕ) → has (run_ranks first last) r ≡ true → get_or entries r 0 ≡ 0)
  entries_tested entries test says = (
    λ e. each_of_run (λ r. get_or entries r 0 ≡ 0) (says.0 e),
    λ zero. says.1 (λ r from to. zero r (has_run_ranks r from to)),
  )

-- ---- what a line becomes

module _ (placed : Ranks) (v : Numbers) (line_number : ℕ) where
  pub given_unplaced : (ranks : Ranks) (z : ℤ) → is_subset ranks placed ≡ false → with_given placed v line_number ranks z ≡ Err (Bad line_number Unplaced)
  given_unplaced ranks z within = rw within refl

  pub given_twice : (ranks : Ranks) (z : ℤ) → is_subset ranks placed ≡ true → is_empty (valued v ranks) ≡ false → with_given placed v line_number ranks z ≡ Err (Bad line_number ValueTwice)
  given_twice ranks z within new = rw (within, new) refl

  pub given_good : (ranks : Ranks) (z : ℤ) → is_subset ranks placed ≡ true → is_empty (valued v ranks) ≡ true → with_given placed v line_number ranks z ≡ Ok (with_numbers v (in_order ranks) z)
  given_good ranks z within new = rw (within, new) refl

  value_given : (word number : List ℕ) (ranks : Ranks) (z : ℤ) → ranks_on line_number word ≡ Ok ranks → number_text number ≡ Some z → with_value placed v line_number word number ≡ with_given placed v line_number ranks z
  unfolding with_value
  value_given word number ranks z read written = rw (read, written, with_value) refl

  -- a line that gives a run of ranks a number
  pub line_of_run : (line : List ℕ) (first last : ℕ) (z : ℤ) → GivesRun line first last z → with_line placed v line_number line ≡ with_given placed v line_number (run_ranks first last) z
  line_of_run line first last z run =
      let g = run.gives in
      line_of_value placed v line_number line (says_something line (run_ranks first last) z g) (is_utf8-from_IsUtf8 line run.utf8) g.ranks_word g.number_word (ap value_words g.is)
      ∙ value_given g.ranks_word g.number_word (run_ranks first last) z (ranks_good line_number g.ranks_word (run_ranks first last) g.read) g.number
