-- What a stream line says.
use Rattle.std.specs.Prelude.{ℕ, ◌-◌, ◌==◌, if◌then◌else◌, List, [], ◌∷◌, length, filter, Result, Ok, Err, codes}
use Rattle.std.specs.List.{list_any}
use Rattle.std.specs.Str.{bytes_eq}
use Rattle.overlay_setup.specs.Daemons.{daemon_named}
use Rattle.overlay_setup.specs.NodeSets.{with_number, up_to}
use Rattle.overlay_setup.specs.Scripts.{Stream, stream}
use Rattle.overlay_setup.specs.Topologies.{Nodes}
use Rattle.overlay_setup.specs.Trees.{is_daemon}
use Rattle.overlay_setup.specs.declared.script.Mode.{Mode}
use Rattle.overlay_setup.specs.declared.script.Mode.TheVariants as mode
use Rattle.overlay_setup.specs.declared.script.TheConstants.{STREAM_LIMIT, WAVE_LIMIT, SAMPLE_LIMIT, TICK_LIMIT}
use Rattle.text_lines.specs.declared.text_error.TextError.{TextError}
use Rattle.text_lines.specs.declared.text_error.TextError.TheVariants.{Bad, Over}
use Rattle.text_lines.specs.declared.text_error.Reason.TheVariants.{BadDirective, BadNumber, SecondStream, NotADaemon}
use Rattle.text_lines.specs.declared.text_error.Quantity.TheVariants.{Streams, Waves}
use Rattle.script_text.specs.Order.{with_item}
use Rattle.script_text.specs.Words.{ModeWords, WaitForAll, TimeOut, DontWait, StreamWords}
use Rattle.text_lines.specs.Parsing.{and_then, some_or}
use Rattle.script_text.specs.Numbers.{number_from}

-- a number of a stream, unless an earlier line has defined it
unfoldable pub new_number : List Stream → ℕ → ℕ → Result ℕ TextError
new_number streams line_number n =
    if list_any (λ x. x.number == n) streams then Err (Bad line_number SecondStream) else Ok n

-- the number of a new stream
unfoldable pub stream_number : List Stream → ℕ → List ℕ → Result ℕ TextError
stream_number streams line_number word =
    and_then (number_from line_number 0 (STREAM_LIMIT - 1) (Over line_number Streams STREAM_LIMIT) word)
    (new_number streams line_number)

-- a mode as it is written
unfoldable pub mode_of : ℕ → ModeWords → Result Mode TextError
mode_of line_number WaitForAll = Ok mode.WaitForAll
mode_of line_number (TimeOut ticks) =
    and_then (number_from line_number 1 TICK_LIMIT (Bad line_number BadNumber) ticks) (λ t. Ok (mode.TimeOut t))
mode_of line_number DontWait = Ok mode.DontWait

-- the daemon with a name
unfoldable pub daemon_of : Nodes → ℕ → List ℕ → Result ℕ TextError
daemon_of t line_number name = some_or (Bad line_number NotADaemon) (daemon_named name t)

-- some daemons with those that are named more, each once
unfoldable pub with_named : Nodes → ℕ → List ℕ → List (List ℕ) → Result (List ℕ) TextError
with_named t line_number daemons [] = Ok daemons
with_named t line_number daemons (name ∷ names) =
    and_then (daemon_of t line_number name) (λ n. with_named t line_number (with_number n daemons) names)

-- all daemons of a job
unfoldable pub all_daemons : Nodes → List ℕ
all_daemons t = filter (is_daemon t.parents) (up_to (length t.parents))

-- the daemons that stand after `on`, where something does
unfoldable pub daemons_of : Nodes → ℕ → List (List ℕ) → Result (List ℕ) TextError
daemons_of t line_number [] = Err (Bad line_number BadDirective)
daemons_of t line_number (name ∷ names) =
    if bytes_eq name (codes "all") then Ok (all_daemons t) else with_named t line_number [] (name ∷ names)

-- the stream that the words of a line define, where earlier lines have defined others
unfoldable pub stream_of : Nodes → List Stream → ℕ → StreamWords → Result Stream TextError
stream_of t streams line_number w =
    and_then (stream_number streams line_number w.number) (λ number.
    and_then (mode_of line_number w.mode) (λ mode.
    and_then (number_from line_number 1 WAVE_LIMIT (Over line_number Waves WAVE_LIMIT) w.waves) (λ waves.
    and_then (number_from line_number 1 SAMPLE_LIMIT (Bad line_number BadNumber) w.samples) (λ samples.
    and_then (daemons_of t line_number w.names) (λ daemons.
    Ok (stream number mode waves samples w.grain daemons))))))

-- streams ascending by number, with one more
abbrev pub with_stream : Stream → List Stream → List Stream
with_stream x xs = with_item (λ s. s.number) x xs
