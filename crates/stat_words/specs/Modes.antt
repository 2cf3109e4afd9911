-- The modes, and the options that each of them has.
use Rattle.std.specs.Prelude.{List, [], ◌∷◌, ◌++◌, Bool, true, false, fold, find, Option, Some, Result, Ok, Err, codes, if◌then◌else◌}
use Rattle.std.specs.List.{list_any}
use Rattle.std.specs.Str.{bytes_eq}
use Rattle.clap.specs.Words.{App, Row, Rule, Text, fault_of, found_of, matches_of, new_app, new_rule, rows_of, with_rule}
use Rattle.clap.specs.Walk.{is_empty}
use Rattle.clap.specs.declared.parser.matches.ArgMatches.{ArgMatches}
use Rattle.clap.specs.declared.builder.action.ArgAction.TheVariants.{Set}
use Rattle.stat_words.specs.declared.words.Opt.{Opt}
use Rattle.stat_words.specs.declared.words.Opt.TheVariants.{Topology, Samples, Script, JournalIn, Capture, Workers, Seed, Size, Report, Commands, Values, Fold, By, Arg}
use Rattle.stat_words.specs.declared.words.WordFault.{WordFault}
use Rattle.stat_words.specs.declared.words.WordFault.TheVariants.{Options}
use Rattle.stat_words.specs.declared.modes.Mode.{Mode}
use Rattle.stat_words.specs.declared.modes.Mode.TheVariants.{Run, Sim, Replay, Direct, Gen, Cast, Sums, View, Frames}

-- the word of an option, without its two dashes
abbrev pub word_of : Opt → Text
word_of Topology = codes "topology"
word_of Samples = codes "samples"
word_of Script = codes "script"
word_of JournalIn = codes "journal-in"
word_of Capture = codes "capture"
word_of Workers = codes "workers"
word_of Seed = codes "seed"
word_of Size = codes "size"
word_of Report = codes "report"
word_of Commands = codes "commands"
word_of Values = codes "values"
word_of Fold = codes "fold"
word_of By = codes "by"
word_of Arg = codes "arg"

-- the word of a mode
abbrev pub mode_word : Mode → Text
mode_word Run = codes "run"
mode_word Sim = codes "sim"
mode_word Replay = codes "replay"
mode_word Direct = codes "direct"
mode_word Gen = codes "gen"
mode_word Cast = codes "cast"
mode_word Sums = codes "sums"
mode_word View = codes "view"
mode_word Frames = codes "frames"

abbrev pub modes : List Mode
modes = Run ∷ Sim ∷ Replay ∷ Direct ∷ Gen ∷ Cast ∷ Sums ∷ View ∷ Frames ∷ []

-- the mode of a word
abbrev pub mode_of : Text → Option Mode
mode_of word = find (λ mode. bytes_eq word (mode_word mode)) modes

-- an option of a mode, and whether it is required
abbrev pub required : Opt → Opt × Bool
required option = (option, true)

abbrev pub optional : Opt → Opt × Bool
optional option = (option, false)

-- the options of the three files
abbrev pub file_options : List (Opt × Bool)
file_options = required Topology ∷ required Samples ∷ required Script ∷ []

-- those, and the options of what workers do
abbrev pub worker_options : List (Opt × Bool)
worker_options = file_options ++ optional Workers ∷ optional Report ∷ []

-- the files, and the options of a run whose events a seed picks
abbrev pub seed_options : List (Opt × Bool)
seed_options = file_options ++ optional Seed ∷ optional Report ∷ []

-- the table of the modes: the options of each
abbrev pub options_of : Mode → List (Opt × Bool)
options_of Run = worker_options
options_of Sim = seed_options
options_of Replay = file_options ++ required JournalIn ∷ optional Report ∷ []
options_of Direct = worker_options
options_of Gen = optional Seed ∷ required Size ∷ []
options_of Cast = file_options ++ optional Seed ∷ required Commands ∷ []
options_of Sums = seed_options ++ required Values ∷ required Fold ∷ []
options_of View = seed_options ++ required By ∷ required Arg ∷ []
options_of Frames = required Capture ∷ []

-- an option as clap is told of it: `--word`, with one value
abbrev pub rule_for : Opt × Bool → Rule
rule_for option =
    record (new_rule (word_of option.0)) { long = Some (word_of option.0); action = Some Set; required = option.1 }

-- a simple command with no option yet: its words begin after the mode, and it has no help
abbrev pub bare_command : App
bare_command = record {
  top = record (new_app (codes "stat")).top { no_binary_name = true; disable_help_flag = true };
  subs = [];
}

-- a command with more options
abbrev pub with_rules : App → List (Opt × Bool) → App
with_rules = fold (λ command option. with_rule command (rule_for option))

-- the simple command of a mode's options
abbrev pub command_of : Mode → App
command_of mode = with_rules bare_command (options_of mode)

-- whether a word is `--`
abbrev pub has_dashes : List Text → Bool
has_dashes = list_any (λ word. bytes_eq word (codes "--"))

-- The options that words give to a simple command, as clap reads them; an error where clap finds a fault: an option
-- that the command doesn't have, one that comes twice or is missing, a missing value, a stray word.
abbrev pub taken : App → List Text → Result (List Row) WordFault
taken command words = if is_empty (fault_of command words) then Ok (matches_of command words) else Err Options

-- the options that the words after a mode give; an error where one of the words is `--`
abbrev pub given : Mode → List Text → Result (List Row) WordFault
given mode words = if has_dashes words then Err Options else taken (command_of mode) words

-- the options that clap's matches hold
abbrev pub rows_in : ArgMatches → List Row
rows_in matches = rows_of (found_of matches)
