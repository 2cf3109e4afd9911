-- What the code's lines stand for.
use Rattle.std.specs.Prelude.{◌≡◌, ◌<◌, ℕ, Bool, true, false, not, nat_eq, List, ◌∷◌, ◌++◌, length, Some}
use Rattle.std.specs.Char.{is_ascii_digit}
use Rattle.std.specs.List.{list_all}
use Rattle.std.specs.Str.{IsUtf8}
use Rattle.rank_set.specs.Ranks.{none, union}
use Rattle.rank_set.specs.Runs.{ranks_between}
use Rattle.text_lines.specs.Lines.{is_blank, begins_with_blank, number_in}
use Rattle.overlay_setup.specs.Topologies.{Nodes}
use Rattle.stat_plan.specs.Plans.{Sampled}
use Rattle.sample_text.specs.Steps.{with_line, with_one_rank}
use Rattle.sample_text.specs.declared.words.Line.{Line}
use Rattle.sample_text.specs.declared.words.Line.TheVariants as line
use Rattle.sample_text.specs.Words.{LineView, Nothing, Daemon, Stack}

-- what a line says
abbrev pub line_view : Line → LineView
line_view line.Nothing = Nothing
line_view (line.Daemon name ranks) = Daemon name.now ranks.now
line_view (line.Stack time ranks path) = Stack time.now ranks.now path.now

-- a line gives a sample of one rank at a time, in the path that PATH writes: whatever was parsed before it
abbrev pub SamplesOneRank : List ℕ → ℕ → ℕ → List ℕ → Type 0
SamplesOneRank line time rank text = (t : Nodes) (s : Sampled) (line_number : ℕ) →
    with_line t s line_number line ≡ with_one_rank s line_number time rank text

-- a text begins with a number, and this is what stands behind the blank that follows the number
pub record BeginsWithNumber (text : List ℕ) (n : ℕ) (rest : List ℕ) : Type 0 where
  pub word : List ℕ
  pub blank : ℕ
  pub whole : text ≡ word ++ blank ∷ rest
  pub some : 0 < length word
  pub digits : list_all is_ascii_digit word ≡ true
  pub number : number_in word ≡ Some n
  pub ends : is_blank blank ≡ true

-- whether a byte is no line feed
abbrev pub is_no_feed : ℕ → Bool
is_no_feed b = not (nat_eq b 10)

-- A text begins with the start of a line of one rank, and this is what stands behind the start. Whatever PATH a line has
-- behind such a start, the line is a sample in that path.
pub record BeginsOneRank (text : List ℕ) (time rank : ℕ) (rest : List ℕ) : Type 0 where
  pub start : List ℕ
  pub whole : text ≡ start ++ rest
  pub no_feed : list_all is_no_feed start ≡ true
  pub utf8 : IsUtf8 rest
  pub some : 0 < length rest
  pub no_blank : begins_with_blank rest ≡ false
  pub sample : (path : List ℕ) → IsUtf8 path → 0 < length path → begins_with_blank path ≡ false →
      SamplesOneRank (start ++ path) time rank path
