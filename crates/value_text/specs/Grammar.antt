-- What a values text means in the words of its format: its lines `value RANKS NUMBER` give ranks a number. And which
-- texts are accepted.
use Rattle.std.specs.Prelude.{◌≡◌, ◌↔◌, ◌⊎◌, ℕ, ℤ, true, false, List, [], ◌∷◌, ◌++◌, Some, Ok, codes}
use Rattle.std.specs.Str.{IsUtf8}
use Rattle.rank_set.specs.Ranks.{Ranks, Has, IsSubset}
use Rattle.rank_set.specs.RanksText.{ranks_text}
use Rattle.text_lines.specs.Lines.{lines, words, is_comment, says_nothing}
use Rattle.overlay_setup.specs.NodeSets.{In}
use Rattle.value_text.specs.Numbers.{Numbers, number_of, EndsWithNumber}
use Rattle.value_text.specs.Words.{number_text}

-- a line `value RANKS NUMBER` gives some ranks a number
pub record GivesNumber (line : List ℕ) (ranks : Ranks) (z : ℤ) : Type 0 where
  pub comment : is_comment line ≡ false
  pub ranks_word : List ℕ
  pub number_word : List ℕ
  pub is : words line ≡ codes "value" ∷ ranks_word ∷ number_word ∷ []
  pub read : ranks_text ranks_word ≡ Ok ranks
  pub number : number_text number_word ≡ Some z

-- a line gives a rank a number: the rank is one of its RANKS
abbrev pub GivesRank : List ℕ → ℕ → ℤ → Type 0
GivesRank line r z = (ranks : Ranks) × Has r ranks × GivesNumber line ranks z

-- some of these lines gives a rank a number
abbrev pub SomeGivesRank : List (List ℕ) → ℕ → ℤ → Type 0
SomeGivesRank lines r z = (line : List ℕ) × In line lines × GivesRank line r z

-- a line after others gives a number to ranks that are on a daemon, and of which none has a number by a line before it
pub record IsGoodValueLine (placed : Ranks) (before : List (List ℕ)) (line : List ℕ) : Type 0 where
  pub ranks : Ranks
  pub number : ℤ
  pub gives : GivesNumber line ranks number
  pub on_daemons : IsSubset ranks placed
  pub new : (r : ℕ) (z : ℤ) → Has r ranks → SomeGivesRank before r z → ⊥

-- a line after others: it says nothing, or it is UTF-8 and a good line of a value
abbrev pub IsGoodLine : Ranks → List (List ℕ) → List ℕ → Type 0
IsGoodLine placed before line = (says_nothing line ≡ true) ⊎ (IsUtf8 line × IsGoodValueLine placed before line)

-- Each line of a text is good after those before it. A rank has a number exactly where some line gives it that number.
pub record IsAcceptable (placed : Ranks) (text : List ℕ) (numbers : Numbers) : Type 0 where
  pub written : (r : ℕ) (z : ℤ) → (number_of numbers r ≡ Some z) ↔ SomeGivesRank (lines text) r z
  pub ends : EndsWithNumber numbers
  pub good_lines : (before after : List (List ℕ)) (line : List ℕ) →
      lines text ≡ before ++ line ∷ after → IsGoodLine placed before line
