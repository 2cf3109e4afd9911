-- What a line without an error says, and what becomes of the numbers.
use Rattle.std.proofs.Common.{◌≡◌, ◌⊎◌, inl, inr, ℕ, Bool, true, false, cond, ◌||◌, List, [], ◌∷◌, Option, None, Some, Ok, Err, refl, ap, codes}
use Rattle.std.proofs.Math.IntN.{ℤ}
use Rattle.std.specs.Option.{unwrap_or}
use Rattle.std.specs.Str.{bytes_eq, IsUtf8, is_utf8}
use Rattle.std.proofs.lemmas.Slice.Eq.{bytes_eq-Decides}
use Rattle.std.proofs.lemmas.Str.{IsUtf8-from_is_utf8}
use Rattle.rank_set.specs.Ranks.{Ranks, in_order, is_empty, is_subset}
use Rattle.text_lines.specs.Lines.{words, says_nothing, is_comment, are_none}
use Rattle.text_lines.specs.Parsing.{some_or}
use Rattle.text_lines.specs.RanksWords.{ranks_on}
use Rattle.text_lines.specs.declared.text_error.TextError.TheVariants.{Bad}
use Rattle.text_lines.specs.declared.text_error.Reason.TheVariants.{NotUtf8, Unplaced, ValueTwice, BadValue}
use Rattle.text_lines.proofs.Errors.{then_inv, test_inv, ok_inj, some_inv}
use Rattle.text_lines.proofs.RanksWords.{ranks_inv}
use Rattle.value_text.specs.Grammar.{GivesNumber}
use Rattle.value_text.specs.Numbers.{Numbers}
use Rattle.value_text.specs.Words.{value_words, number_text}
use Rattle.value_text.specs.Steps.{valued, with_numbers, with_value, with_words, with_line}

-- words of a value
words_inv : (ws : List (List ℕ)) (word number : List ℕ) → value_words ws ≡ Some (word, number) → ws ≡ codes "value" ∷ word ∷ number ∷ []
words_inv [] word number h = cc
words_inv (first ∷ []) word number h = cc
words_inv (first ∷ ranks ∷ []) word number h = cc
words_inv (first ∷ ranks ∷ z ∷ []) word number h = by (bytes_eq first (codes "value")) refl h
  where
    by : (t : Bool) → bytes_eq first (codes "value") ≡ t → cond {A = Option (List ℕ × List ℕ)} t (Some (ranks, z)) None ≡ Some (word, number) → first ∷ ranks ∷ z ∷ [] ≡ codes "value" ∷ word ∷ number ∷ []
    by true e h =
        let value : first ≡ codes "value" = (bytes_eq-Decides first (codes "value")).0 e in
        let pair : (ranks, z) ≡ (word, number) = ap (λ o. unwrap_or o (ranks, z)) h in
        (λ i. value i ∷ (pair i).0 ∷ (pair i).1 ∷ [])
    by false e h = cc
words_inv (first ∷ ranks ∷ z ∷ more ∷ ws) word number h = cc

-- a line gives ranks a number
pub record AddsNumber (placed : Ranks) (v : Numbers) (line : List ℕ) (u : Numbers) : Type 0 where
  pub ranks : Ranks
  pub number : ℤ
  pub utf8 : IsUtf8 line
  pub gives : GivesNumber line ranks number
  pub on_daemons : is_subset ranks placed ≡ true
  pub new : is_empty (valued v ranks) ≡ true
  pub after : with_numbers v (in_order ranks) number ≡ u

-- what becomes of numbers with a line more
abbrev pub Changes : Ranks → Numbers → List ℕ → Numbers → Type 0
Changes placed v line u = ((says_nothing line ≡ true) × (v ≡ u)) ⊎ AddsNumber placed v line u

or_false : (a b : Bool) → (a || b) ≡ false → a ≡ false
or_false true b e = cc
or_false false b e = refl

module _ (placed : Ranks) (v u : Numbers) (line_number : ℕ) (line : List ℕ) where
  by_value : IsUtf8 line → is_comment line ≡ false → (word number : List ℕ) → words line ≡ codes "value" ∷ word ∷ number ∷ [] → with_value placed v line_number word number ≡ Ok u → AddsNumber placed v line u
  unfolding with_value
  by_value utf8 comment word number is h =
      let a = then_inv (ranks_on line_number word) _ u h in
      let b = test_inv (is_subset a.0 placed) (Bad line_number Unplaced) _ u a.2 in
      let c = test_inv (is_empty (valued v a.0)) (Bad line_number ValueTwice) _ u b.1 in
      let d = then_inv (some_or (Bad line_number BadValue) (number_text number)) _ u c.1 in
      record {
        ranks = a.0;
        number = d.0;
        utf8 = utf8;
        gives = record {
          comment = comment;
          ranks_word = word;
          number_word = number;
          is = is;
          read = ranks_inv line_number word a.0 a.1;
          number = some_inv (Bad line_number BadValue) (number_text number) d.0 d.1;
        };
        on_daemons = b.0;
        new = c.0;
        after = ok_inj _ u d.2;
      }

  -- a line without an error changes the numbers as it says
  pub changes : with_line placed v line_number line ≡ Ok u → Changes placed v line u
  unfolding with_line
  changes h = by (says_nothing line) refl (is_utf8 line) refl (value_words (words line)) refl h
    where
      by : (q : Bool) → says_nothing line ≡ q → (t : Bool) → is_utf8 line ≡ t → (o : Option (List ℕ × List ℕ)) → value_words (words line) ≡ o
          → cond q (Ok v) (cond t (with_words placed v line_number o) (Err (Bad line_number NotUtf8))) ≡ Ok u → Changes placed v line u
      by true quiet t utf8 o is h = inl (quiet, ok_inj v u h)
      by false says false utf8 o is h = cc
      by false says true utf8 None is h = cc
      by false says true utf8 (Some (word, number)) is h =
          inr (by_value (IsUtf8-from_is_utf8 line utf8) (or_false (is_comment line) (are_none (words line)) says) word number (words_inv (words line) word number is) h)
