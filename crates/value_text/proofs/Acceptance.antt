-- A text whose lines are good is accepted, and an accepted text is acceptable.
use Rattle.std.proofs.Common.{◌≡◌, ◌∙◌, inl, inr, ℕ, true, List, [], ◌∷◌, ◌++◌, Option, None, Some, Ok, refl, sym, ap}
use Rattle.std.proofs.Math.IntN.{ℤ}
use Rattle.std.specs.Str.{IsUtf8}
use Rattle.std.proofs.lemmas.List.{append-nil, append_assoc}
use Rattle.std.proofs.lemmas.Str.{is_utf8-from_IsUtf8}
use Rattle.rank_set.specs.Ranks.{Ranks, in_order, has, subset_from, subset_has}
use Rattle.text_lines.specs.Lines.{lines}
use Rattle.text_lines.specs.Parsing.{parsed_lines}
use Rattle.text_lines.proofs.Parsing.{parsed_none, parsed_then, parsed_split}
use Rattle.text_lines.proofs.RanksWords.{ranks_good}
use Rattle.value_text.specs.Grammar.{IsGoodValueLine, IsGoodLine, IsAcceptable}
use Rattle.value_text.specs.Numbers.{Numbers, number_of}
use Rattle.value_text.specs.Words.{value_words}
use Rattle.value_text.specs.Steps.{with_numbers, with_line, values_of_text}
use Rattle.value_text.proofs.Giving.{none_valued, empty_valued}
use Rattle.value_text.proofs.Grammar.{no_value, says_something, is_written, parsed_ends}
use Rattle.value_text.proofs.LineViews.{Changes, changes}
use Rattle.value_text.proofs.Trimming.{same_numbers}
use Rattle.value_text.proofs.WholeLines.{value_good, line_silent, line_of_value}

-- after some lines
module _ (placed : Ranks) (before : List (List ℕ)) (u : Numbers) (parsed : parsed_lines (with_line placed) [] 1 before ≡ Ok u) (line : List ℕ) where
  abbrev IsTaken : Type 0
  IsTaken = (m : Numbers) × ((line_number : ℕ) → with_line placed u line_number line ≡ Ok m)

  value_taken : IsUtf8 line → IsGoodValueLine placed before line → IsTaken
  value_taken utf8 good = (
    with_numbers u (in_order good.ranks) good.number,
    λ line_number.
        line_of_value placed u line_number line (says_something line good.ranks good.number good.gives) (is_utf8-from_IsUtf8 line utf8) good.gives.ranks_word good.gives.number_word (ap value_words good.gives.is)
        ∙ value_good placed u line_number good.gives.ranks_word good.gives.number_word good.ranks (ranks_good line_number good.gives.ranks_word good.ranks good.gives.read)
        (subset_from good.ranks placed good.on_daemons) (empty_valued u good.ranks (λ r here. by r here (number_of u r) refl)) good.number good.gives.number,
  )
    where
      by : (r : ℕ) → has good.ranks r ≡ true → (o : Option ℤ) → number_of u r ≡ o → o ≡ None
      by r here None is = refl
      by r here (Some z) is = absurd (good.new r z here ((is_written placed before u parsed r z).0 is))

  -- a good line is taken
  good_taken : IsGoodLine placed before line → IsTaken
  good_taken (inl quiet) = (u, λ line_number. line_silent placed u line_number line quiet)
  good_taken (inr (utf8, good)) = value_taken utf8 good

  -- a line that is taken is good
  is_good : (m : Numbers) → Changes placed u line m → IsGoodLine placed before line
  is_good m (inl quiet) = inl quiet.0
  is_good m (inr h) = inr (
    h.utf8,
    record {
      ranks = h.ranks;
      number = h.number;
      gives = h.gives;
      on_daemons = subset_has h.ranks placed h.on_daemons;
      new = λ r z here old. no_value (number_of u r) z (none_valued u h.ranks h.new r here) ((is_written placed before u parsed r z).1 old);
    },
  )

-- two numbers are the same where they are each number alike
same_option : (a b : Option ℤ) → ((z : ℤ) → a ≡ Some z → b ≡ Some z) → ((z : ℤ) → b ≡ Some z → a ≡ Some z) → a ≡ b
same_option None None to from = refl
same_option None (Some z) to from = from z refl
same_option (Some z) b to from = sym (to z refl)

module _ (placed : Ranks) (text : List ℕ) (numbers : Numbers) where
  -- the lines of an acceptable text are taken, one after another
  all_taken : IsAcceptable placed text numbers → (after before : List (List ℕ)) (u : Numbers) → parsed_lines (with_line placed) [] 1 before ≡ Ok u → lines text ≡ before ++ after
      → (v : Numbers) × (parsed_lines (with_line placed) [] 1 (lines text) ≡ Ok v)
  all_taken a [] before u h is = (u, ap (parsed_lines (with_line placed) [] 1) (is ∙ append-nil before) ∙ h)
  all_taken a (line ∷ after) before u h is =
      let next = good_taken placed before u h line (a.good_lines before after line is) in
      all_taken a after (before ++ line ∷ []) next.0 (parsed_then (with_line placed) before [] 1 u next.0 line h next.1) (is ∙ sym (append_assoc before (line ∷ []) after))

  -- an acceptable text is accepted
  pub acceptable : IsAcceptable placed text numbers → values_of_text placed text ≡ Ok numbers
  acceptable a =
      let p = all_taken a (lines text) [] [] (parsed_none (with_line placed) [] 1) refl in
      let same : p.0 ≡ numbers = same_numbers p.0 numbers (parsed_ends placed (lines text) p.0 p.1) a.ends (λ r. same_option (number_of p.0 r) (number_of numbers r)
      (λ z e. (a.written r z).1 ((is_written placed (lines text) p.0 p.1 r z).0 e))
      (λ z e. (is_written placed (lines text) p.0 p.1 r z).1 ((a.written r z).0 e))) in
      p.1 ∙ ap Ok same

  -- an accepted text is acceptable
  pub is_acceptable : values_of_text placed text ≡ Ok numbers → IsAcceptable placed text numbers
  is_acceptable h = record {
    written = is_written placed (lines text) numbers h;
    ends = parsed_ends placed (lines text) numbers h;
    good_lines = λ before after line is. (let b = parsed_split (with_line placed) before [] 1 numbers line after (ap (parsed_lines (with_line placed) [] 1) (sym is) ∙ h) in
        is_good placed before b.0 b.1 line b.2.1 (changes placed b.0 b.2.1 b.2.0 line b.2.2));
  }
