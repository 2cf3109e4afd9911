-- Samples with one line more, or the line's first error.
use Rattle.std.specs.Prelude.{ℕ, zero, suc, Bool, nat_le, nat_lt, List, [], ◌∷◌, ◌++◌, length, Option, None, Some, Result, Ok, Err}
use Rattle.rank_set.specs.Ranks.{Ranks, has, none, those, union, is_empty, is_subset}
use Rattle.rank_set.specs.Runs.{ranks_between}
use Rattle.call_path.specs.Path.{Path}
use Rattle.call_path.specs.Reading.{path_of}
use Rattle.call_path.specs.declared.read.PathError.{PathError}
use Rattle.call_path.specs.declared.read.PathError.TheVariants as path_error
use Rattle.text_lines.specs.Lines.{number_in}
use Rattle.text_lines.specs.Parsing.{and_then, some_or, if_holds}
use Rattle.text_lines.specs.RanksWords.{ranks_on}
use Rattle.overlay_setup.specs.Daemons.{daemon_named}
use Rattle.stat_plan.specs.Plans.{Sampled}
use Rattle.stat_plan.specs.Samples.{SampleLine, all_ranks}
use Rattle.overlay_setup.specs.Topologies.{Nodes}
use Rattle.stat_plan.specs.declared.samples.TheConstants.{TIME_LIMIT, LINE_LIMIT}
use Rattle.text_lines.specs.declared.text_error.TextError.{TextError}
use Rattle.text_lines.specs.declared.text_error.TextError.TheVariants.{Bad, Over, OutOfMemory}
use Rattle.text_lines.specs.declared.text_error.Reason.TheVariants.{NotADaemon, PlacedTwice, BadTime, Unplaced, BadPath}
use Rattle.text_lines.specs.declared.text_error.Quantity.TheVariants as quantity
use Rattle.sample_text.specs.Words.{LineView, Nothing, Daemon, Stack, read_line}

-- the daemon that NAME names
unfoldable pub daemon_on : Nodes → ℕ → List ℕ → Result ℕ TextError
daemon_on t line_number name = some_or (Bad line_number NotADaemon) (daemon_named name t)

-- the number that TIME writes, none where it writes no number
abbrev pub time_at : ℕ → Option ℕ → Result ℕ TextError
time_at line_number None = Err (Bad line_number BadTime)
time_at line_number (Some time) = if_holds (nat_le time TIME_LIMIT) (Bad line_number BadTime) (Ok time)

-- the time that TIME writes
unfoldable pub time_on : ℕ → List ℕ → Result ℕ TextError
time_on line_number word = time_at line_number (number_in word)

-- the error of a line whose PATH is refused
abbrev pub error_of_path : ℕ → PathError → TextError
error_of_path line_number (path_error.EmptyFrame frame) = Bad line_number BadPath
error_of_path line_number (path_error.ControlByte place) = Bad line_number BadPath
error_of_path line_number (path_error.FrameTooLong frame) = Bad line_number BadPath
error_of_path line_number path_error.TooDeep = Bad line_number BadPath
error_of_path line_number path_error.OutOfMemory = OutOfMemory

-- PATH as it is read
abbrev pub path_or_error : ℕ → Result Path PathError → Result Path TextError
path_or_error line_number (Err e) = Err (error_of_path line_number e)
path_or_error line_number (Ok path) = Ok path

-- the path that PATH writes
unfoldable pub path_on : ℕ → List ℕ → Result Path TextError
path_on line_number text = path_or_error line_number (path_of text)

-- whether none of some ranks is one of others
unfoldable pub are_disjoint : Ranks → Ranks → Bool
are_disjoint ranks others = is_empty (those (has others) ranks)

-- sets of which set n gets more ranks
abbrev pub add_at : List Ranks → ℕ → Ranks → List Ranks
add_at [] n ranks = []
add_at (set ∷ sets) zero ranks = union set ranks ∷ sets
add_at (set ∷ sets) (suc n) ranks = set ∷ add_at sets n ranks

-- a sample of these parts
abbrev pub sample : ℕ → Ranks → Path → SampleLine
sample time ranks path = record { time = time; ranks = ranks; path = path }

-- samples with one more
abbrev pub with_sample_line : Sampled → SampleLine → Sampled
with_sample_line s line = record s { lines = s.lines ++ line ∷ [] }

-- a line `daemon NAME RANKS`
unfoldable pub with_daemon : Nodes → Sampled → ℕ → List ℕ → List ℕ → Result Sampled TextError
with_daemon t s line_number name word =
    and_then (daemon_on t line_number name) (λ n.
    and_then (ranks_on line_number word) (λ ranks.
    if_holds (are_disjoint ranks (all_ranks s.placed)) (Bad line_number PlacedTwice)
    (Ok (record s { placed = add_at s.placed n ranks }))))

-- a line more, where there may be one
abbrev pub if_room : Sampled → ℕ → Result Sampled TextError → Result Sampled TextError
if_room s line_number next =
    if_holds (nat_lt (length s.lines) LINE_LIMIT) (Over line_number quantity.Lines LINE_LIMIT) next

-- a sample of ranks at a time, in the path that PATH writes
abbrev pub with_sample : Sampled → ℕ → ℕ → Ranks → List ℕ → Result Sampled TextError
with_sample s line_number time ranks text =
    if_holds (is_subset ranks (all_ranks s.placed)) (Bad line_number Unplaced)
    (and_then (path_on line_number text) (λ path.
    Ok (with_sample_line s (sample time ranks path))))

-- a sample of one rank, where there may be a line more
abbrev pub with_one_rank : Sampled → ℕ → ℕ → ℕ → List ℕ → Result Sampled TextError
with_one_rank s line_number time rank text = if_room s line_number (with_sample s line_number time (union none (ranks_between rank rank)) text)

-- a line `stack TIME RANKS PATH`
unfoldable pub with_stack : Sampled → ℕ → List ℕ → List ℕ → List ℕ → Result Sampled TextError
with_stack s line_number time word text =
    if_room s line_number
    (and_then (time_on line_number time) (λ time.
    and_then (ranks_on line_number word) (λ ranks.
    with_sample s line_number time ranks text)))

-- what a line says
abbrev pub with_line_view : Nodes → Sampled → ℕ → LineView → Result Sampled TextError
with_line_view t s line_number Nothing = Ok s
with_line_view t s line_number (Daemon name ranks) = with_daemon t s line_number name ranks
with_line_view t s line_number (Stack time ranks path) = with_stack s line_number time ranks path

-- a line with its number
abbrev pub with_line : Nodes → Sampled → ℕ → List ℕ → Result Sampled TextError
with_line t s line_number line = and_then (read_line line_number line) (with_line_view t s line_number)
