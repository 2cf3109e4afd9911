-- What a script text means in the words of its format: its `stream` lines define streams, and its `lose` lines lose
-- nodes. And which texts are accepted.
use Rattle.std.specs.Prelude.{◌≡◌, ◌≢◌, ◌↔◌, ◌⊎◌, ◌≤◌, ℕ, true, false, List, [], ◌∷◌, ◌++◌, length, map, filter, Some, codes}
use Rattle.text_lines.specs.Lines.{lines, words, is_comment, says_nothing, number_in}
use Rattle.text_lines.specs.Directives.{first_is, is_line_of}
use Rattle.overlay_setup.specs.Daemons.{IsDaemonNamed}
use Rattle.overlay_setup.specs.Scripts.{IsDaemon, IsStream, IsFault, Stream, Scripted}
use Rattle.overlay_setup.specs.Names.{name_of, number_of}
use Rattle.overlay_setup.specs.NodeSets.{In, IsStrictlyIncreasing}
use Rattle.overlay_setup.specs.Topologies.{Nodes}
use Rattle.overlay_setup.specs.Trees.{root_of}
use Rattle.overlay_setup.specs.declared.script.TheConstants.{FAULT_LIMIT}
use Rattle.overlay_setup.specs.declared.script.Fault.{Fault}
use Rattle.overlay_setup.specs.declared.script.Mode.{Mode}
use Rattle.overlay_setup.specs.declared.script.Mode.TheVariants as mode
use Rattle.script_text.specs.Words.{ModeWords, WaitForAll, TimeOut, DontWait, StreamWords, LoseWords, stream_words, lose_words}

-- a mode is that of its words
abbrev pub IsModeOf : ModeWords → Mode → Type 0
IsModeOf WaitForAll m = m ≡ mode.WaitForAll
IsModeOf (TimeOut ticks) m = (t : ℕ) × (number_in ticks ≡ Some t) × (m ≡ mode.TimeOut t)
IsModeOf DontWait m = m ≡ mode.DontWait

-- node n is one of the daemons that stand after `on`: it has one of the names, or `all` is the first word there
abbrev pub IsNamedDaemon : Nodes → List (List ℕ) → ℕ → Type 0
IsNamedDaemon t names n = IsDaemon t n × ((first_is (codes "all") names ≡ true) ⊎ In (name_of t.names n) names)

-- a stream is that of a line `stream S MODE waves W samples K on NAMES`, with `by GRAIN` before `on` or without; its
-- daemons ascend
pub record IsStreamOf (t : Nodes) (line : List ℕ) (x : Stream) : Type 0 where
  pub rest : List (List ℕ)
  pub is : words line ≡ codes "stream" ∷ rest
  pub words_of : StreamWords
  pub form : stream_words rest ≡ Some words_of
  pub number : number_in words_of.number ≡ Some x.number
  pub mode : IsModeOf words_of.mode x.mode
  pub waves : number_in words_of.waves ≡ Some x.waves
  pub samples : number_in words_of.samples ≡ Some x.samples
  pub grain : words_of.grain ≡ x.grain
  pub daemons : (n : ℕ) → In n x.daemons ↔ IsNamedDaemon t words_of.names n
  pub daemons_increase : IsStrictlyIncreasing x.daemons

-- a loss is that of a line `lose NAME after E keep K`
pub record IsLossOf (t : Nodes) (line : List ℕ) (f : Fault) : Type 0 where
  pub rest : List (List ℕ)
  pub is : words line ≡ codes "lose" ∷ rest
  pub words_of : LoseWords
  pub form : lose_words rest ≡ Some words_of
  pub node : number_of words_of.name t.names ≡ Some f.node
  pub after : number_in words_of.after ≡ Some f.after
  pub keep : number_in words_of.keep ≡ Some f.keep

-- the lines of a text that begin with `stream`, and those that begin with `lose`
abbrev pub stream_lines : List (List ℕ) → List (List ℕ)
stream_lines lines = filter (is_line_of (codes "stream")) lines

abbrev pub lose_lines : List (List ℕ) → List (List ℕ)
lose_lines lines = filter (is_line_of (codes "lose")) lines

-- Each stream is that of a `stream` line of the text, each such line has its stream, and there are as many of both; the
-- same is true of losses and `lose` lines. Streams ascend by number, and losses by node.
pub record IsWritten (t : Nodes) (text : List ℕ) (c : Scripted) : Type 0 where
  pub streams : (x : Stream) → In x c.streams →
      (line : List ℕ) × In line (stream_lines (lines text)) × IsStreamOf t line x
  pub of_stream_lines : (line : List ℕ) → In line (stream_lines (lines text)) →
      (x : Stream) × In x c.streams × IsStreamOf t line x
  pub stream_count : length c.streams ≡ length (stream_lines (lines text))
  pub streams_increase : IsStrictlyIncreasing (map (λ x. x.number) c.streams)
  pub losses : (f : Fault) → In f c.faults →
      (line : List ℕ) × In line (lose_lines (lines text)) × IsLossOf t line f
  pub of_lose_lines : (line : List ℕ) → In line (lose_lines (lines text)) →
      (f : Fault) × In f c.faults × IsLossOf t line f
  pub loss_count : length c.faults ≡ length (lose_lines (lines text))
  pub losses_increase : IsStrictlyIncreasing (map (λ f. f.node) c.faults)

-- what stands after `on` is `all`, or each word there is the name of a daemon
abbrev pub AreDaemonNames : Nodes → List (List ℕ) → Type 0
AreDaemonNames t names =
    (first_is (codes "all") names ≡ true) ⊎ ((name : List ℕ) → In name names → (n : ℕ) × IsDaemonNamed t name n)

-- a `stream` line after others: it is that of a stream in range, it names nothing but daemons, and no `stream` line
-- before it is that of a stream with the same number
pub record IsGoodStreamLine (t : Nodes) (before : List (List ℕ)) (line : List ℕ) : Type 0 where
  pub comment : is_comment line ≡ false
  pub defined : Stream
  pub is : IsStreamOf t line defined
  pub names : AreDaemonNames t is.words_of.names
  pub range : IsStream defined
  pub new : (earlier : List ℕ) (x : Stream) → In earlier (stream_lines before) → IsStreamOf t earlier x →
      x.number ≢ defined.number

-- a `lose` line after others: it is that of a loss in range, of a node that is not the front end, and no `lose` line
-- before it is that of a loss of the same node
pub record IsGoodLoseLine (t : Nodes) (before : List (List ℕ)) (line : List ℕ) : Type 0 where
  pub comment : is_comment line ≡ false
  pub loss : Fault
  pub is : IsLossOf t line loss
  pub range : IsFault loss
  pub not_front : loss.node ≢ root_of t.parents
  pub new : (earlier : List ℕ) (f : Fault) → In earlier (lose_lines before) → IsLossOf t earlier f →
      f.node ≢ loss.node

-- a line after others: it says nothing, or it is a good line of one of the two kinds
abbrev pub IsGoodLine : Nodes → List (List ℕ) → List ℕ → Type 0
IsGoodLine t before line =
    (says_nothing line ≡ true) ⊎ (IsGoodStreamLine t before line ⊎ IsGoodLoseLine t before line)

-- Each line of a text is good after those before it, at most 256 are `lose` lines, and there is a stream. What the text
-- says is what is written.
pub record IsAcceptable (t : Nodes) (text : List ℕ) (c : Scripted) : Type 0 where
  pub form : IsWritten t text c
  pub good_lines : (before after : List (List ℕ)) (line : List ℕ) →
      lines text ≡ before ++ line ∷ after → IsGoodLine t before line
  pub within_limit : length (lose_lines (lines text)) ≤ FAULT_LIMIT
  pub some_stream : c.streams ≢ []
