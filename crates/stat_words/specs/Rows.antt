-- Words, and what they ask for.
use Rattle.std.specs.Prelude.{◌≡◌, refl, ℕ, List, [], ◌∷◌, codes, Ok, Err, Some, None}
use Rattle.clap.specs.Walk.{bundle_met, walked}
use Rattle.clap.specs.Faults.{defaults_fault, flags_fault, walk_fault}
use Rattle.call_path.specs.Reading.{first_error, frames, frame_error}
use Rattle.stat_words.specs.Values.{file_name, number_of, number_between, report_form, run_report}
use Rattle.stat_words.specs.Words.{Names, Run, Sim, Replay, Direct, Gen, Cast, Sums, View, Frames, asked, form_in, run_report_in, seed_in, workers_in}
use Rattle.rank_sums.specs.declared.fold.Fold.TheVariants as fold
use Rattle.tree_view.specs.declared.reading.ViewBy.TheVariants as by
use Rattle.stat_words.specs.declared.words.ReportForm.TheVariants.{Text, Json}
use Rattle.stat_words.specs.declared.words.RunReport.TheVariants as report
use Rattle.stat_words.specs.declared.words.Opt.TheVariants.{Capture, Workers, Seed, Size, Report, Commands, Values, Fold as FoldOption, By, Arg}
use Rattle.stat_words.specs.declared.words.WordFault.TheVariants.{NoMode, UnknownMode, Options, Value}

-- the defaults, where an option isn't given
four_workers_of_a_run : workers_in 4 [] ≡ Ok 4
four_workers_of_a_run = refl

seed_zero : seed_in [] ≡ Ok 0
seed_zero = refl

text_report : form_in [] ≡ Ok Text
text_report = refl

text_report_of_runs : run_report_in [] ≡ Ok (report.Releases Text)
text_report_of_runs = refl

-- zeros in front mean nothing, and 21 digits are no number
zeros : number_of (codes "08") ≡ Some 8
zeros = refl

twenty_digits : number_of (codes "00000000000000000007") ≡ Some 7
twenty_digits = refl

twenty_one_digits : number_of (codes "000000000000000000007") ≡ None
twenty_one_digits = refl

sign : number_of (codes "+5") ≡ None
sign = refl

no_digits : number_of [] ≡ None
no_digits = refl

last_seed : number_between 0 18446744073709551615 (codes "18446744073709551615") ≡ Some 18446744073709551615
last_seed = refl

too_large : number_between 0 18446744073709551615 (codes "18446744073709551616") ≡ None
too_large = refl

-- a name that begins like an option
dash : file_name (codes "-x") ≡ None
dash = refl

-- a run can write its frames, a direct merge has none
frames_of_runs : run_report (codes "frames") ≡ Some report.Frames
frames_of_runs = refl

no_frames : report_form (codes "frames") ≡ None
no_frames = refl

-- the words of three files, and their names
abbrev three_files : List (List ℕ)
three_files = codes "--topology" ∷ codes "t" ∷ codes "--samples" ∷ codes "s" ∷ codes "--script=c" ∷ []

abbrev names : Names
names = record { topology = codes "t"; samples = codes "s"; script = codes "c" }

no_word : asked [] ≡ Err NoMode
unfolding asked
no_word = refl

unknown_mode : asked (codes "trace" ∷ []) ≡ Err UnknownMode
unfolding asked
unknown_mode = refl

help : asked (codes "--help" ∷ []) ≡ Err UnknownMode
unfolding asked
help = refl

-- each mode with what it requires, and the defaults
run : asked (codes "run" ∷ three_files) ≡ Ok (Run names 4 (report.Releases Text))
unfolding asked walked walk_fault bundle_met flags_fault defaults_fault
run = refl

sim : asked (codes "sim" ∷ three_files) ≡ Ok (Sim names 0 (report.Releases Text))
unfolding asked walked walk_fault bundle_met flags_fault defaults_fault
sim = refl

replay : asked (codes "replay" ∷ codes "--journal-in=j" ∷ three_files) ≡ Ok (Replay names (codes "j") (report.Releases Text))
unfolding asked walked walk_fault bundle_met flags_fault defaults_fault
replay = refl

direct : asked (codes "direct" ∷ three_files) ≡ Ok (Direct names 1 Text)
unfolding asked walked walk_fault bundle_met flags_fault defaults_fault
direct = refl

gen : asked (codes "gen" ∷ codes "--size=256" ∷ []) ≡ Ok (Gen 256 0)
unfolding asked walked walk_fault bundle_met flags_fault defaults_fault
gen = refl

cast : asked (codes "cast" ∷ codes "--commands=1000" ∷ three_files) ≡ Ok (Cast names 0 1000)
unfolding asked walked walk_fault bundle_met flags_fault defaults_fault
cast = refl

printed_capture : asked (codes "frames" ∷ codes "--capture" ∷ codes "c" ∷ []) ≡ Ok (Frames (codes "c"))
unfolding asked walked walk_fault bundle_met flags_fault defaults_fault
printed_capture = refl

frames_as_report : asked (codes "sim" ∷ codes "--report=frames" ∷ three_files) ≡ Ok (Sim names 0 report.Frames)
unfolding asked walked walk_fault bundle_met flags_fault defaults_fault
frames_as_report = refl

direct_has_no_frames : asked (codes "direct" ∷ codes "--report=frames" ∷ three_files) ≡ Err (Value Report)
unfolding asked walked walk_fault bundle_met flags_fault defaults_fault
direct_has_no_frames = refl

no_name_of_a_capture : asked (codes "frames" ∷ codes "--capture=" ∷ []) ≡ Err (Value Capture)
unfolding asked walked walk_fault bundle_met flags_fault defaults_fault
no_name_of_a_capture = refl

-- options of another mode, missing, given twice, with no value; a stray word; `--`
other_mode : asked (codes "gen" ∷ codes "--size=1" ∷ codes "--workers=1" ∷ []) ≡ Err Options
unfolding asked walked walk_fault bundle_met flags_fault defaults_fault
other_mode = refl

run_has_no_seed : asked (codes "run" ∷ codes "--seed=1" ∷ three_files) ≡ Err Options
unfolding asked walked walk_fault bundle_met flags_fault defaults_fault
run_has_no_seed = refl

run_has_no_journal : asked (codes "run" ∷ codes "--journal-in=j" ∷ three_files) ≡ Err Options
unfolding asked walked walk_fault bundle_met flags_fault defaults_fault
run_has_no_journal = refl

sim_has_no_workers : asked (codes "sim" ∷ codes "--workers=2" ∷ three_files) ≡ Err Options
unfolding asked walked walk_fault bundle_met flags_fault defaults_fault
sim_has_no_workers = refl

replay_has_no_seed : asked (codes "replay" ∷ codes "--journal-in=j" ∷ codes "--seed=1" ∷ three_files) ≡ Err Options
unfolding asked walked walk_fault bundle_met flags_fault defaults_fault
replay_has_no_seed = refl

direct_has_no_seed : asked (codes "direct" ∷ codes "--seed=1" ∷ three_files) ≡ Err Options
unfolding asked walked walk_fault bundle_met flags_fault defaults_fault
direct_has_no_seed = refl

-- a direct merge has workers: one where the words don't say, 1 to 32, tested before the form of its report
direct_by_eight : asked (codes "direct" ∷ codes "--workers=8" ∷ codes "--report=json" ∷ three_files) ≡ Ok (Direct names 8 Json)
unfolding asked walked walk_fault bundle_met flags_fault defaults_fault
direct_by_eight = refl

direct_by_none : asked (codes "direct" ∷ codes "--workers=0" ∷ codes "--report=xml" ∷ three_files) ≡ Err (Value Workers)
unfolding asked walked walk_fault bundle_met flags_fault defaults_fault
direct_by_none = refl

direct_by_33 : asked (codes "direct" ∷ codes "--workers=33" ∷ three_files) ≡ Err (Value Workers)
unfolding asked walked walk_fault bundle_met flags_fault defaults_fault
direct_by_33 = refl

direct_by_one_word : asked (codes "direct" ∷ codes "--workers" ∷ three_files) ≡ Err Options
unfolding asked walked walk_fault bundle_met flags_fault defaults_fault
direct_by_one_word = refl

missing : asked (codes "replay" ∷ three_files) ≡ Err Options
unfolding asked walked walk_fault bundle_met flags_fault defaults_fault
missing = refl

twice : asked (codes "gen" ∷ codes "--size=1" ∷ codes "--size=1" ∷ []) ≡ Err Options
unfolding asked walked walk_fault bundle_met flags_fault defaults_fault
twice = refl

no_value : asked (codes "gen" ∷ codes "--size" ∷ []) ≡ Err Options
unfolding asked walked walk_fault bundle_met flags_fault defaults_fault
no_value = refl

stray : asked (codes "gen" ∷ codes "--size=1" ∷ codes "x" ∷ []) ≡ Err Options
unfolding asked walked walk_fault bundle_met flags_fault defaults_fault
stray = refl

dashes : asked (codes "gen" ∷ codes "--size=1" ∷ codes "--" ∷ []) ≡ Err Options
unfolding asked walked walk_fault bundle_met flags_fault defaults_fault
dashes = refl

-- the first bad value, in the order of `Opt`; options before values
first_bad : asked (codes "gen" ∷ codes "--size=0" ∷ codes "--seed=x" ∷ []) ≡ Err (Value Seed)
unfolding asked walked walk_fault bundle_met flags_fault defaults_fault
first_bad = refl

bad_size : asked (codes "gen" ∷ codes "--size=257" ∷ []) ≡ Err (Value Size)
unfolding asked walked walk_fault bundle_met flags_fault defaults_fault
bad_size = refl

options_first : asked (codes "gen" ∷ codes "--seed=x" ∷ []) ≡ Err Options
unfolding asked walked walk_fault bundle_met flags_fault defaults_fault
options_first = refl

-- commands: none, too many, not said how many; the seed is tested first
no_commands : asked (codes "cast" ∷ codes "--commands=0" ∷ three_files) ≡ Err (Value Commands)
unfolding asked walked walk_fault bundle_met flags_fault defaults_fault
no_commands = refl

too_many_commands : asked (codes "cast" ∷ codes "--commands=1001" ∷ three_files) ≡ Err (Value Commands)
unfolding asked walked walk_fault bundle_met flags_fault defaults_fault
too_many_commands = refl

how_many_commands : asked (codes "cast" ∷ three_files) ≡ Err Options
unfolding asked walked walk_fault bundle_met flags_fault defaults_fault
how_many_commands = refl

seed_before_commands : asked (codes "cast" ∷ codes "--commands=0" ∷ codes "--seed=x" ∷ three_files) ≡ Err (Value Seed)
unfolding asked walked walk_fault bundle_met flags_fault defaults_fault
seed_before_commands = refl

-- sums: with a file of numbers and a fold; the name of the file is tested before the fold, and both after the form
sums : asked (codes "sums" ∷ codes "--fold=min" ∷ codes "--values" ∷ codes "v" ∷ three_files) ≡ Ok (Sums names 0 (record { form = Text; values = codes "v"; fold = fold.Min }))
unfolding asked walked walk_fault bundle_met flags_fault defaults_fault
sums = refl

counts : asked (codes "sums" ∷ codes "--fold=count" ∷ codes "--values=v" ∷ codes "--seed=7" ∷ codes "--report=json" ∷ three_files) ≡ Ok (Sums names 7 (record { form = Json; values = codes "v"; fold = fold.Count }))
unfolding asked walked walk_fault bundle_met flags_fault defaults_fault
counts = refl

no_such_fold : asked (codes "sums" ∷ codes "--fold=mean" ∷ codes "--values=v" ∷ three_files) ≡ Err (Value FoldOption)
unfolding asked walked walk_fault bundle_met flags_fault defaults_fault
no_such_fold = refl

no_name_of_values : asked (codes "sums" ∷ codes "--fold=mean" ∷ codes "--values=" ∷ three_files) ≡ Err (Value Values)
unfolding asked walked walk_fault bundle_met flags_fault defaults_fault
no_name_of_values = refl

no_values : asked (codes "sums" ∷ codes "--fold=sum" ∷ three_files) ≡ Err Options
unfolding asked walked walk_fault bundle_met flags_fault defaults_fault
no_values = refl

form_before_values : asked (codes "sums" ∷ codes "--fold=sum" ∷ codes "--values=" ∷ codes "--report=frames" ∷ three_files) ≡ Err (Value Report)
unfolding asked walked walk_fault bundle_met flags_fault defaults_fault
form_before_values = refl

sums_have_no_workers : asked (codes "sums" ∷ codes "--fold=sum" ∷ codes "--values=v" ∷ codes "--workers=2" ∷ three_files) ≡ Err Options
unfolding asked walked walk_fault bundle_met flags_fault defaults_fault
sums_have_no_workers = refl

-- views: each kind with its argument, then the first bad value; the argument is tested last
view_of_a_frame : asked (codes "view" ∷ codes "--by=frame" ∷ codes "--arg" ∷ codes "MPI_Recv" ∷ three_files) ≡ Ok (View names 0 (record { form = Text; by = by.Frame; argument = codes "MPI_Recv" }))
unfolding asked walked walk_fault bundle_met flags_fault defaults_fault first_error frames frame_error
view_of_a_frame = refl

view_folded : asked (codes "view" ∷ codes "--by" ∷ codes "fold" ∷ codes "--arg=f" ∷ codes "--seed=7" ∷ three_files) ≡ Ok (View names 7 (record { form = Text; by = by.Fold; argument = codes "f" }))
unfolding asked walked walk_fault bundle_met flags_fault defaults_fault first_error frames frame_error
view_folded = refl

view_of_representatives : asked (codes "view" ∷ codes "--by=reps" ∷ codes "--arg=1000" ∷ three_files) ≡ Ok (View names 0 (record { form = Text; by = by.Reps; argument = codes "1000" }))
unfolding asked walked walk_fault bundle_met flags_fault defaults_fault
view_of_representatives = refl

by_what : asked (codes "view" ∷ codes "--by=heap" ∷ codes "--arg=1" ∷ three_files) ≡ Err (Value By)
unfolding asked walked walk_fault bundle_met flags_fault defaults_fault
by_what = refl

no_representatives : asked (codes "view" ∷ codes "--by=reps" ∷ codes "--arg=0" ∷ three_files) ≡ Err (Value Arg)
unfolding asked walked walk_fault bundle_met flags_fault defaults_fault
no_representatives = refl

too_many_representatives : asked (codes "view" ∷ codes "--by=reps" ∷ codes "--arg=1001" ∷ three_files) ≡ Err (Value Arg)
unfolding asked walked walk_fault bundle_met flags_fault defaults_fault
too_many_representatives = refl

two_frames : asked (codes "view" ∷ codes "--by=frame" ∷ codes "--arg=a;b" ∷ three_files) ≡ Err (Value Arg)
unfolding asked walked walk_fault bundle_met flags_fault defaults_fault first_error frames frame_error
two_frames = refl

no_argument : asked (codes "view" ∷ codes "--by=frame" ∷ three_files) ≡ Err Options
unfolding asked walked walk_fault bundle_met flags_fault defaults_fault
no_argument = refl

form_before_argument : asked (codes "view" ∷ codes "--by=frame" ∷ codes "--arg=a;b" ∷ codes "--report=frames" ∷ three_files) ≡ Err (Value Report)
unfolding asked walked walk_fault bundle_met flags_fault defaults_fault
form_before_argument = refl
