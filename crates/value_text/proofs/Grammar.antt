-- The numbers that are parsed are those that lines give.
use Rattle.std.proofs.Common.{◌≡◌, ◌↔◌, ◌∙◌, ◌⊎◌, inl, inr, ℕ, suc, Bool, true, false, ◌||◌, List, [], ◌∷◌, Option, None, Some, Ok, refl, sym, ap, subst, arith}
use Rattle.std.proofs.Math.IntN.{ℤ}
use Rattle.std.proofs.lemmas.Bool.{true≢false}
use Rattle.rank_set.specs.Ranks.{Ranks, in_order, has, Has}
use Rattle.rank_set.specs.RanksText.{ranks_text}
use Rattle.text_lines.specs.Lines.{says_nothing, are_none}
use Rattle.text_lines.specs.Parsing.{parsed_lines}
use Rattle.text_lines.proofs.Errors.{then_inv, ok_inj}
use Rattle.overlay_setup.specs.NodeSets.{In}
use Rattle.value_text.specs.Grammar.{GivesNumber, GivesRank, SomeGivesRank}
use Rattle.value_text.specs.Numbers.{Numbers, number_of, EndsWithNumber}
use Rattle.value_text.specs.Words.{number_text}
use Rattle.value_text.specs.Steps.{with_line}
use Rattle.value_text.proofs.Giving.{all_end, ranks_given, ranks_others, none_valued}
use Rattle.value_text.proofs.LineViews.{AddsNumber, Changes, changes}

pub same_value : (o : Option ℤ) (x z : ℤ) → o ≡ Some x → o ≡ Some z → x ≡ z
same_value o x z e f = cc

pub no_value : (o : Option ℤ) (z : ℤ) → o ≡ None → o ≡ Some z → ⊥
no_value o z e f = cc

-- a line gives one number, and to the same ranks
same_gives : (line : List ℕ) (ranks others : Ranks) (z y : ℤ) → GivesNumber line ranks z → GivesNumber line others y → (ranks ≡ others) × (z ≡ y)
same_gives line ranks others z y a b =
    let ws = sym a.is ∙ b.is in
    let ranks_word : a.ranks_word ≡ b.ranks_word = cc in
    let number_word : a.number_word ≡ b.number_word = cc in
    let sets = sym a.read ∙ ap ranks_text ranks_word ∙ b.read in
    let numbers = sym a.number ∙ ap number_text number_word ∙ b.number in
    (cc, cc)

-- a line that says nothing gives no number
pub says_something : (line : List ℕ) (ranks : Ranks) (z : ℤ) → GivesNumber line ranks z → says_nothing line ≡ false
says_something line ranks z g = (λ i. g.comment i || are_none (g.is i))

-- one line
module _ (placed : Ranks) (v u : Numbers) (line : List ℕ) (r : ℕ) (z : ℤ) where
  abbrev Before : Type 0
  Before = (number_of v r ≡ Some z) ⊎ GivesRank line r z

  adds_to : AddsNumber placed v line u → number_of u r ≡ Some z → Before
  adds_to h there = by (has h.ranks r) refl
    where
      by : (b : Bool) → has h.ranks r ≡ b → Before
      by true here =
          let z_is = same_value (number_of u r) h.number z (subst (λ w. number_of w r ≡ Some h.number) h.after (ranks_given v h.ranks h.number r here)) there in
          inr (h.ranks, here, subst (GivesNumber line h.ranks) z_is h.gives)
      by false away = inl (sym (subst (λ w. number_of w r ≡ number_of v r) h.after (ranks_others v h.ranks h.number r away)) ∙ there)

  to : Changes placed v line u → number_of u r ≡ Some z → Before
  to (inl quiet) there = inl (ap (λ w. number_of w r) quiet.1 ∙ there)
  to (inr h) there = adds_to h there

  adds_from : AddsNumber placed v line u → Before → number_of u r ≡ Some z
  adds_from h (inl old) = by (has h.ranks r) refl
    where
      by : (b : Bool) → has h.ranks r ≡ b → number_of u r ≡ Some z
      by true here = absurd (no_value (number_of v r) z (none_valued v h.ranks h.new r here) old)
      by false away = subst (λ w. number_of w r ≡ number_of v r) h.after (ranks_others v h.ranks h.number r away) ∙ old
  adds_from h (inr g) =
      let same = same_gives line g.0 h.ranks z h.number g.2 h.gives in
      subst (λ w. number_of w r ≡ Some h.number) h.after (ranks_given v h.ranks h.number r (subst (Has r) same.0 g.1)) ∙ ap Some (sym same.1)

  from : Changes placed v line u → Before → number_of u r ≡ Some z
  from (inl quiet) (inl old) = ap (λ w. number_of w r) (sym quiet.1) ∙ old
  from (inl quiet) (inr g) = absurd (true≢false (sym quiet.0 ∙ says_something line g.0 z g.2))
  from (inr h) before = adds_from h before

-- the list still ends with a number
still_ends : (placed : Ranks) (v u : Numbers) (line : List ℕ) → Changes placed v line u → EndsWithNumber v → EndsWithNumber u
still_ends placed v u line (inl quiet) ends = subst EndsWithNumber quiet.1 ends
still_ends placed v u line (inr h) ends = subst EndsWithNumber h.after (all_end v (in_order h.ranks) h.number ends)

-- lines one after another
module _ (placed : Ranks) where
  abbrev HasNumber : Numbers → List (List ℕ) → ℕ → ℤ → Type 0
  HasNumber v ls r z = (number_of v r ≡ Some z) ⊎ SomeGivesRank ls r z

  module _ (v m u : Numbers) (line : List ℕ) (rest : List (List ℕ)) (change : Changes placed v line m) (r : ℕ) (z : ℤ) (later : (number_of u r ≡ Some z) ↔ HasNumber m rest r z) where
    all_to : number_of u r ≡ Some z → HasNumber v (line ∷ rest) r z
    all_to there = by (later.0 there)
      where
        first : (number_of v r ≡ Some z) ⊎ GivesRank line r z → HasNumber v (line ∷ rest) r z
        first (inl old) = inl old
        first (inr g) = inr (line, inl refl, g)

        by : HasNumber m rest r z → HasNumber v (line ∷ rest) r z
        by (inl old) = first (to placed v m line r z change old)
        by (inr g) = inr (g.0, inr g.1, g.2)

    all_from : HasNumber v (line ∷ rest) r z → number_of u r ≡ Some z
    all_from (inl old) = later.1 (inl (from placed v m line r z change (inl old)))
    all_from (inr g) = by g.1
      where
        by : In g.0 (line ∷ rest) → number_of u r ≡ Some z
        by (inl first) = later.1 (inl (from placed v m line r z change (inr (subst (λ l. GivesRank l r z) first g.2))))
        by (inr more) = later.1 (inr (g.0, more, g.2))

  written : (ls : List (List ℕ)) (v u : Numbers) (line_number : ℕ) → parsed_lines (with_line placed) v line_number ls ≡ Ok u → (r : ℕ) (z : ℤ) → (number_of u r ≡ Some z) ↔ HasNumber v ls r z
  unfolding parsed_lines
  written [] v u line_number h r z =
      let same : v ≡ u = ok_inj v u h in (
        λ there. inl (ap (λ w. number_of w r) same ∙ there),
        λ before. elim before [ (inl old) ↦ ap (λ w. number_of w r) (sym same) ∙ old | (inr g) ↦ absurd g.1 ],
      )
  written (line ∷ rest) v u line_number h r z =
      let a = then_inv (with_line placed v line_number line) _ u h in
      let change = changes placed v a.0 line_number line a.1 in
      let later = written rest a.0 u (suc line_number) a.2 r z in
      (all_to v a.0 u line rest change r z later, all_from v a.0 u line rest change r z later)

  all_ends : (ls : List (List ℕ)) (v u : Numbers) (line_number : ℕ) → parsed_lines (with_line placed) v line_number ls ≡ Ok u → EndsWithNumber v → EndsWithNumber u
  unfolding parsed_lines
  all_ends [] v u line_number h ends = subst EndsWithNumber (ok_inj v u h) ends
  all_ends (line ∷ rest) v u line_number h ends =
      let a = then_inv (with_line placed v line_number line) _ u h in
      all_ends rest a.0 u (suc line_number) a.2 (still_ends placed v a.0 line (changes placed v a.0 line_number line a.1) ends)

  -- all lines of a text
  module _ (ls : List (List ℕ)) (u : Numbers) (h : parsed_lines (with_line placed) [] 1 ls ≡ Ok u) where
    pub is_written : (r : ℕ) (z : ℤ) → (number_of u r ≡ Some z) ↔ SomeGivesRank ls r z
    is_written r z =
        let w = written ls [] u 1 h r z in (
          λ there. elim (w.0 there) [ (inl old) ↦ absurd (no_value None z refl old) | (inr g) ↦ g ],
          λ g. w.1 (inr g),
        )

    pub parsed_ends : EndsWithNumber u
    parsed_ends = all_ends ls [] u 1 h (λ r e. absurd (omega (arith, e)))
