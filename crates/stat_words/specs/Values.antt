-- What the value of an option is read as.
use Rattle.std.specs.Prelude.{ℕ, List, [], ◌∷◌, ◌==◌, ◌&&◌, Bool, nat_le, nat_lt, length, Option, Some, None, option_and_then, Result, Ok, Err, codes, if◌then◌else◌}
use Rattle.std.specs.Char.{is_ascii_digit}
use Rattle.std.specs.List.{list_all}
use Rattle.std.specs.Str.{bytes_eq}
use Rattle.std.specs.Str.Parse.{digits_value}
use Rattle.clap.specs.Words.{Row, Text, first_of}
use Rattle.stat_words.specs.Modes.{word_of}
use Rattle.stat_words.specs.declared.words.Opt.{Opt}
use Rattle.stat_words.specs.declared.words.ReportForm.{ReportForm}
use Rattle.stat_words.specs.declared.words.ReportForm.TheVariants as form
use Rattle.stat_words.specs.declared.words.RunReport.{RunReport}
use Rattle.stat_words.specs.declared.words.RunReport.TheVariants as report
use Rattle.stat_words.specs.declared.words.WordFault.{WordFault}
use Rattle.stat_words.specs.declared.words.WordFault.TheVariants.{Options, Value}

-- a file's name: not empty, and not beginning with `-`
abbrev pub file_name : Text → Option Text
file_name [] = None
file_name (b ∷ bytes) = if b == 45 then None else Some (b ∷ bytes)

-- whether a word is 1 to 20 decimal digits
abbrev pub is_number : Text → Bool
is_number word = nat_lt 0 (length word) && (nat_le (length word) 20 && list_all is_ascii_digit word)

-- the number that such a word writes; zeros in front mean nothing
abbrev pub number_of : Text → Option ℕ
number_of word = if is_number word then Some (digits_value 10 word) else None

-- a number, where it is in this range
abbrev pub in_range : ℕ → ℕ → ℕ → Option ℕ
in_range low high n = if nat_le low n && nat_le n high then Some n else None

-- a number in this range
abbrev pub number_between : ℕ → ℕ → Text → Option ℕ
number_between low high word = option_and_then (in_range low high) (number_of word)

-- the form of a report
abbrev pub report_form : Text → Option ReportForm
report_form word =
    if bytes_eq word (codes "text") then Some form.Text
    else (if bytes_eq word (codes "json") then Some form.Json else None)

-- what is written of a run: a report of its releases, or its frames
abbrev pub run_report : Text → Option RunReport
run_report word =
    if bytes_eq word (codes "text") then Some (report.Releases form.Text)
    else (if bytes_eq word (codes "json") then Some (report.Releases form.Json)
    else (if bytes_eq word (codes "frames") then Some report.Frames else None))

-- a value as it is read, or the fault that it is a bad one
abbrev pub good_or : {A : Type 0} → Opt → Option A → Result A WordFault
good_or option None = Err (Value option)
good_or option (Some value) = Ok value

-- the value of an option that is given, and otherwise what stands for it
abbrev pub read_or : {A : Type 0} →
    Result A WordFault → Opt → (Text → Option A) → Option Text → Result A WordFault
read_or missing option read None = missing
read_or missing option read (Some word) = good_or option (read word)

-- the value of a required option
abbrev pub value_of : {A : Type 0} → Opt → (Text → Option A) → List Row → Result A WordFault
value_of option read rows = read_or (Err Options) option read (first_of (word_of option) rows)

-- the value of an option, or its default
abbrev pub value_or : {A : Type 0} → A → Opt → (Text → Option A) → List Row → Result A WordFault
value_or default option read rows = read_or (Ok default) option read (first_of (word_of option) rows)
