-- What a samples text means in the words of its format: its `daemon` lines place ranks on nodes, and its `stack` lines
-- give the samples. And which texts are accepted.
use Rattle.std.specs.Prelude.{◌≡◌, ◌↔◌, ◌⊎◌, ◌<◌, ◌≤◌, ⊤, ℕ, true, false, List, [], ◌∷◌, ◌++◌, length, filter, slice_index_or, Some, Ok, codes}
use Rattle.std.specs.Str.{IsUtf8}
use Rattle.rank_set.specs.Ranks.{Ranks, none, Has}
use Rattle.rank_set.specs.RanksText.{ranks_text}
use Rattle.call_path.specs.Reading.{path_of}
use Rattle.text_lines.specs.Lines.{lines, words, is_comment, says_nothing, after_blanks, after_word, number_in}
use Rattle.text_lines.specs.Directives.{is_line_of}
use Rattle.overlay_setup.specs.Names.{name_of}
use Rattle.overlay_setup.specs.NodeSets.{In}
use Rattle.stat_plan.specs.Plans.{Sampled}
use Rattle.stat_plan.specs.Samples.{SampleLine}
use Rattle.overlay_setup.specs.Topologies.{Nodes}
use Rattle.stat_plan.specs.Invariants.{SamplesFit}
use Rattle.overlay_setup.specs.Scripts.{IsDaemon}
use Rattle.stat_plan.specs.declared.samples.TheConstants.{TIME_LIMIT, LINE_LIMIT}

-- a line `daemon NAME RANKS`
abbrev pub IsDaemonLine : List ℕ → List ℕ → List ℕ → Type 0
IsDaemonLine line name word = (is_comment line ≡ false) × (words line ≡ codes "daemon" ∷ name ∷ word ∷ [])

-- a line places a rank on node n: it is a `daemon` line with the node's name, and its RANKS have the rank
pub record PlacesRank (t : Nodes) (line : List ℕ) (n r : ℕ) : Type 0 where
  pub word : List ℕ
  pub is : IsDaemonLine line (name_of t.names n) word
  pub ranks : Ranks
  pub read : ranks_text word ≡ Ok ranks
  pub has : Has r ranks

-- some line places a rank on node n
abbrev pub SomePlacesRank : Nodes → List (List ℕ) → ℕ → ℕ → Type 0
SomePlacesRank t lines n r = (line : List ℕ) × In line lines × PlacesRank t line n r

-- a sample is that of a line `stack TIME RANKS PATH`, where PATH is the rest of the line after the blanks behind RANKS
pub record IsSampleOf (line : List ℕ) (sample : SampleLine) : Type 0 where
  pub time_word : List ℕ
  pub ranks_word : List ℕ
  pub more : List (List ℕ)
  pub is : words line ≡ codes "stack" ∷ time_word ∷ ranks_word ∷ more
  pub time : number_in time_word ≡ Some sample.time
  pub ranks : ranks_text ranks_word ≡ Ok sample.ranks
  pub path : path_of (after_blanks (after_word (after_word (after_word line)))) ≡ Ok sample.path

-- samples are those of lines, in order
abbrev pub AreSamplesOf : List (List ℕ) → List SampleLine → Type 0
AreSamplesOf [] [] = ⊤
AreSamplesOf [] (sample ∷ samples) = ⊥
AreSamplesOf (line ∷ lines) [] = ⊥
AreSamplesOf (line ∷ lines) (sample ∷ samples) = IsSampleOf line sample × AreSamplesOf lines samples

-- the `stack` lines of a text, in order
abbrev pub stack_lines : List ℕ → List (List ℕ)
stack_lines text = filter (is_line_of (codes "stack")) (lines text)

-- A rank is placed on a node exactly where some line of the text places it there, and the samples are those of the
-- `stack` lines, in order.
pub record IsWritten (t : Nodes) (text : List ℕ) (s : Sampled) : Type 0 where
  pub placed : (n r : ℕ) → n < length t.parents →
      Has r (slice_index_or s.placed n none) ↔ SomePlacesRank t (lines text) n r
  pub samples : AreSamplesOf (stack_lines text) s.lines

-- some of these lines places a rank on a node
abbrev pub IsPlacedBy : Nodes → List (List ℕ) → ℕ → Type 0
IsPlacedBy t lines r = (n : ℕ) × (n < length t.parents) × SomePlacesRank t lines n r

-- a `daemon` line after others: it has the name of a daemon and a set of ranks, none of which is placed before it
pub record IsGoodDaemonLine (t : Nodes) (before : List (List ℕ)) (line : List ℕ) : Type 0 where
  pub node : ℕ
  pub daemon : IsDaemon t node
  pub word : List ℕ
  pub is : IsDaemonLine line (name_of t.names node) word
  pub ranks : Ranks
  pub read : ranks_text word ≡ Ok ranks
  pub new : (r : ℕ) → Has r ranks → IsPlacedBy t before r → ⊥

-- a `stack` line after others: it is that of a sample with a time of 0 to 65,535, and its ranks are placed before it
pub record IsGoodStackLine (t : Nodes) (before : List (List ℕ)) (line : List ℕ) : Type 0 where
  pub comment : is_comment line ≡ false
  pub sample : SampleLine
  pub is : IsSampleOf line sample
  pub time : sample.time ≤ TIME_LIMIT
  pub placed : (r : ℕ) → Has r sample.ranks → IsPlacedBy t before r

-- a line after others: it says nothing, or it is UTF-8 and a good line of one of the two kinds
abbrev pub IsGoodLine : Nodes → List (List ℕ) → List ℕ → Type 0
IsGoodLine t before line =
    (says_nothing line ≡ true) ⊎ (IsUtf8 line × (IsGoodDaemonLine t before line ⊎ IsGoodStackLine t before line))

-- Each line of a text is good after those before it, at most 262,144 are `stack` lines, and each daemon has a rank.
-- What the text says is what is written.
pub record IsAcceptable (t : Nodes) (text : List ℕ) (s : Sampled) : Type 0 where
  pub form : IsWritten t text s
  pub good_lines : (before after : List (List ℕ)) (line : List ℕ) →
      lines text ≡ before ++ line ∷ after → IsGoodLine t before line
  pub within_limit : length (stack_lines text) ≤ LINE_LIMIT
  pub fits : SamplesFit t s
