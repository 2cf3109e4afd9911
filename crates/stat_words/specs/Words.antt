-- What the words of the command line ask for.
use Rattle.std.specs.Prelude.{◌≡◌, ◌≤◌, ◌-◌, ◌^◌, ℕ, List, [], ◌∷◌, Option, Some, None, Result, Ok, Err}
use Rattle.clap.specs.Words.{Row, Text}
use Rattle.stat_words.specs.Modes.{mode_of, given}
use Rattle.stat_words.specs.Outcomes.{IsReadOrOutOfMemory}
use Rattle.stat_words.specs.Values.{file_name, number_between, report_form, run_report, value_of, value_or}
use Rattle.stat_words.specs.declared.words.Command.{Command}
use Rattle.stat_words.specs.declared.words.Command.TheVariants as command
use Rattle.stat_words.specs.declared.words.Files.{Files}
use Rattle.stat_words.specs.declared.words.Opt.TheVariants.{Topology, Samples, Script, JournalIn, Capture, Workers, Seed, Size, Report, Commands, Values, Fold as FoldOption, By, Arg}
use Rattle.stat_words.specs.declared.words.ReportForm.{ReportForm}
use Rattle.stat_words.specs.declared.words.ReportForm.TheVariants as form
use Rattle.stat_words.specs.declared.words.RunReport.{RunReport}
use Rattle.stat_words.specs.declared.words.RunReport.TheVariants as report
use Rattle.rank_sums.specs.Words.{fold_named}
use Rattle.rank_sums.specs.declared.fold.Fold.{Fold}
use Rattle.tree_view.specs.Reading.{view_by, view_of}
use Rattle.tree_view.specs.Views.{TreeView}
use Rattle.tree_view.specs.declared.reading.ViewBy.{ViewBy}
use Rattle.stat_words.specs.declared.words.SumsReport.{SumsReport}
use Rattle.stat_words.specs.declared.words.ViewReport.{ViewReport}
use Rattle.stat_words.specs.declared.words.WordFault.{WordFault}
use Rattle.stat_words.specs.declared.words.WordFault.TheVariants.{NoMode, UnknownMode, Value}
use Rattle.stat_words.specs.declared.words.WordsError.{WordsError}
use Rattle.stat_words.specs.declared.modes.Mode.{Mode}
use Rattle.stat_words.specs.declared.modes.Mode.TheVariants as mode

-- the names of the three files
pub record Names : Type 0 where
  pub topology : List ℕ
  pub samples : List ℕ
  pub script : List ℕ

-- what is written of a view: the form of the report, by what it views, and its argument as it is given
pub record AskedView : Type 0 where
  pub form : ReportForm
  pub by : ViewBy
  pub argument : List ℕ

-- what is written of sums: the form of the report, the name of the file of the ranks' numbers, and what is made of them
pub record AskedSums : Type 0 where
  pub form : ReportForm
  pub values : List ℕ
  pub fold : Fold

-- What the words ask for: a mode, and the values of its options. A run and a direct merge have a number of workers, a
-- simulation a seed, a replay the name of a journal, a generated job its size and a seed, what sends commands a seed and their
-- number, sums and a view a seed and what is written of them, and what prints frames the name of a capture.
pub data Asked : Type 0 where
  Run : Names → ℕ → RunReport → Asked
  Sim : Names → ℕ → RunReport → Asked
  Replay : Names → List ℕ → RunReport → Asked
  Direct : Names → ℕ → ReportForm → Asked
  Gen : ℕ → ℕ → Asked
  Cast : Names → ℕ → ℕ → Asked
  Sums : Names → ℕ → AskedSums → Asked
  View : Names → ℕ → AskedView → Asked
  Frames : List ℕ → Asked

-- a second step where the first finds no fault
abbrev pub and_then : {A B : Type 0} → Result A WordFault → (A → Result B WordFault) → Result B WordFault
and_then (Err fault) next = Err fault
and_then (Ok value) next = next value

-- the values of the options, each with its range and its default
abbrev pub names_in : List Row → Result Names WordFault
names_in rows =
    and_then (value_of Topology file_name rows) (λ topology.
    and_then (value_of Samples file_name rows) (λ samples.
    and_then (value_of Script file_name rows) (λ script.
    Ok (record { topology = topology; samples = samples; script = script }))))

abbrev pub journal_in : List Row → Result Text WordFault
journal_in = value_of JournalIn file_name

-- the number of workers, with the default of a mode
abbrev pub workers_in : ℕ → List Row → Result ℕ WordFault
workers_in default = value_or default Workers (number_between 1 32)

abbrev pub seed_in : List Row → Result ℕ WordFault
seed_in = value_or 0 Seed (number_between 0 (2 ^ 64 - 1))

abbrev pub size_in : List Row → Result ℕ WordFault
size_in = value_of Size (number_between 1 256)

abbrev pub commands_in : List Row → Result ℕ WordFault
commands_in = value_of Commands (number_between 1 1000)

abbrev pub values_in : List Row → Result Text WordFault
values_in = value_of Values file_name

abbrev pub fold_in : List Row → Result Fold WordFault
fold_in = value_of FoldOption fold_named

abbrev pub by_in : List Row → Result ViewBy WordFault
by_in = value_of By view_by

-- the argument of a view, as it is given
abbrev pub argument_in : List Row → Result Text WordFault
argument_in = value_of Arg Some

abbrev pub form_in : List Row → Result ReportForm WordFault
form_in = value_or form.Text Report report_form

abbrev pub run_report_in : List Row → Result RunReport WordFault
run_report_in = value_or (report.Releases form.Text) Report run_report

abbrev pub sums_report_in : List Row → Result AskedSums WordFault
sums_report_in rows =
    and_then (form_in rows) (λ form. and_then (values_in rows) (λ values. and_then (fold_in rows) (λ fold.
    Ok (record { form = form; values = values; fold = fold }))))

abbrev pub view_report_in : List Row → Result AskedView WordFault
view_report_in rows =
    and_then (form_in rows) (λ form. and_then (by_in rows) (λ by. and_then (argument_in rows) (λ argument.
    Ok (record { form = form; by = by; argument = argument }))))

abbrev pub capture_in : List Row → Result Text WordFault
capture_in = value_of Capture file_name

-- what a mode makes of its options; their values are tested in the order of `Opt`, the argument of a view behind all others
abbrev pub asked_in : Mode → List Row → Result Asked WordFault
asked_in mode.Run rows =
    and_then (names_in rows) (λ names. and_then (workers_in 4 rows) (λ workers. and_then (run_report_in rows) (λ report.
    Ok (Run names workers report))))
asked_in mode.Sim rows =
    and_then (names_in rows) (λ names. and_then (seed_in rows) (λ seed. and_then (run_report_in rows) (λ report.
    Ok (Sim names seed report))))
asked_in mode.Replay rows =
    and_then (names_in rows) (λ names. and_then (journal_in rows) (λ journal. and_then (run_report_in rows) (λ report.
    Ok (Replay names journal report))))
asked_in mode.Direct rows =
    and_then (names_in rows) (λ names. and_then (workers_in 1 rows) (λ workers. and_then (form_in rows) (λ form.
    Ok (Direct names workers form))))
asked_in mode.Gen rows =
    and_then (seed_in rows) (λ seed. and_then (size_in rows) (λ size.
    Ok (Gen size seed)))
asked_in mode.Cast rows =
    and_then (names_in rows) (λ names. and_then (seed_in rows) (λ seed. and_then (commands_in rows) (λ commands.
    Ok (Cast names seed commands))))
asked_in mode.Sums rows =
    and_then (names_in rows) (λ names. and_then (seed_in rows) (λ seed. and_then (sums_report_in rows) (λ report.
    Ok (Sums names seed report))))
asked_in mode.View rows =
    and_then (names_in rows) (λ names. and_then (seed_in rows) (λ seed. and_then (view_report_in rows) (λ report.
    Ok (View names seed report))))
asked_in mode.Frames rows =
    and_then (capture_in rows) (λ capture.
    Ok (Frames capture))

-- the argument of a view is one of such a view
abbrev pub view_or_fault : Asked → Option TreeView → Result Asked WordFault
view_or_fault asked None = Err (Value Arg)
view_or_fault asked (Some view) = Ok asked

abbrev pub with_good_argument : Asked → Result Asked WordFault
with_good_argument (View names seed report) = view_or_fault (View names seed report) (view_of report.by report.argument)
with_good_argument asked = Ok asked

-- what the words after a mode ask for
abbrev pub asked_after : Option Mode → List Text → Result Asked WordFault
asked_after None words = Err UnknownMode
asked_after (Some mode) words = and_then (and_then (given mode words) (asked_in mode)) with_good_argument

-- what the words ask for, or the first fault
unfoldable pub asked : List (List ℕ) → Result Asked WordFault
asked [] = Err NoMode
asked (word ∷ words) = asked_after (mode_of word) words

-- the names of the files, without where they lie
abbrev pub names_of : Files → Names
names_of files = record { topology = files.topology.now; samples = files.samples.now; script = files.script.now }

-- what is written of sums, without where the file lies
abbrev pub sums_asked : SumsReport → AskedSums
sums_asked report = record { form = report.form; values = report.values.now; fold = report.fold }

-- what is written of a view, without where its argument lies
abbrev pub view_asked : ViewReport → AskedView
view_asked report = record { form = report.form; by = report.by; argument = report.argument.now }

-- what a command says
abbrev pub asked_of : Command → Asked
asked_of (command.Run files workers report) = Run (names_of files) workers report
asked_of (command.Sim files seed report) = Sim (names_of files) seed report
asked_of (command.Replay files journal report) = Replay (names_of files) journal.now report
asked_of (command.Direct files workers form) = Direct (names_of files) workers form
asked_of (command.Gen size seed) = Gen size seed
asked_of (command.Cast files seed commands) = Cast (names_of files) seed commands
asked_of (command.Sums files seed report) = Sums (names_of files) seed (sums_asked report)
asked_of (command.View files seed report) = View (names_of files) seed (view_asked report)
asked_of (command.Frames capture) = Frames capture.now

-- the result is what the words ask for, or their fault, or memory ran out
abbrev pub Reads : Result Asked WordFault → Result Command WordsError → Type 0
Reads = IsReadOrOutOfMemory asked_of

-- the numbers of a command are in their ranges
abbrev pub IsInRanges : Command → Type 0
IsInRanges (command.Run files workers report) = (1 ≤ workers) × (workers ≤ 32)
IsInRanges (command.Direct files workers form) = (1 ≤ workers) × (workers ≤ 32)
IsInRanges (command.Gen size seed) = (1 ≤ size) × (size ≤ 256)
IsInRanges (command.Cast files seed commands) = (1 ≤ commands) × (commands ≤ 1000)
IsInRanges _ = Unit {0}

-- the argument of a view is one of such a view
abbrev pub HasGoodArgument : Command → Type 0
HasGoodArgument (command.View files seed report) = (view : TreeView) × (view_of report.by report.argument.now ≡ Some view)
HasGoodArgument _ = Unit {0}
