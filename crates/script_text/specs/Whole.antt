-- What a script text says: streams and losses, or its first error.
use Rattle.std.specs.Prelude.{ℕ, if◌then◌else◌, true, false, List, [], ◌∷◌, Option, None, Some, Result, Ok, Err, codes}
use Rattle.std.specs.Str.{bytes_eq}
use Rattle.text_lines.specs.Lines.{lines, words, says_nothing}
use Rattle.text_lines.specs.Parsing.{and_then, parsed_lines}
use Rattle.text_lines.specs.declared.text_error.TextError.{TextError}
use Rattle.text_lines.specs.declared.text_error.TextError.TheVariants.{Bad}
use Rattle.text_lines.specs.declared.text_error.Reason.TheVariants.{BadDirective, NoStream}
use Rattle.overlay_setup.specs.Scripts.{Scripted, scripted}
use Rattle.overlay_setup.specs.Topologies.{Nodes}
use Rattle.script_text.specs.Words.{StreamWords, LoseWords, stream_words, lose_words}
use Rattle.script_text.specs.Streams.{stream_of, with_stream}
use Rattle.script_text.specs.Losses.{fault_of, with_fault}

-- a script with a stream line more
abbrev pub with_stream_line : Nodes → Scripted → ℕ → Option StreamWords → Result Scripted TextError
with_stream_line t c line_number None = Err (Bad line_number BadDirective)
with_stream_line t c line_number (Some w) =
    and_then (stream_of t c.streams line_number w) (λ x. Ok (scripted (with_stream x c.streams) c.faults))

-- a script with a lose line more
abbrev pub with_lose_line : Nodes → Scripted → ℕ → Option LoseWords → Result Scripted TextError
with_lose_line t c line_number None = Err (Bad line_number BadDirective)
with_lose_line t c line_number (Some w) =
    and_then (fault_of t c.faults line_number w) (λ f. Ok (scripted c.streams (with_fault f c.faults)))

-- a script with a line of these words more
unfoldable pub with_words : Nodes → Scripted → ℕ → List (List ℕ) → Result Scripted TextError
with_words t c line_number [] = Err (Bad line_number BadDirective)
with_words t c line_number (word ∷ rest) =
    if bytes_eq word (codes "stream") then with_stream_line t c line_number (stream_words rest)
    else if bytes_eq word (codes "lose") then with_lose_line t c line_number (lose_words rest)
    else Err (Bad line_number BadDirective)

-- a script with a line more
unfoldable pub with_line : Nodes → Scripted → ℕ → List ℕ → Result Scripted TextError
with_line t c line_number line =
    elim (says_nothing line) [ true ↦ Ok c | false ↦ with_words t c line_number (words line) ]

-- a whole script: it must have a stream
abbrev pub whole : Scripted → Result Scripted TextError
whole c = elim c.streams [ [] ↦ Err (Bad 0 NoStream) | (x ∷ xs) ↦ Ok c ]

-- what a script text says of a job with these nodes, or its first error
unfoldable pub script_of : Nodes → List ℕ → Result Scripted TextError
script_of t text = and_then (parsed_lines (with_line t) (scripted [] []) 1 (lines text)) whole
