-- What a line of a printed stack says.
use Rattle.std.specs.Prelude.{ℕ, Bool, false, ◌+◌, ◌&&◌, ◌||◌, not, nat_eq, nat_lt, cond, List, [], ◌∷◌, length, take, drop, Option, None, Some, codes, is_some, unwrap_or, option_map}
use Rattle.std.specs.List.{prefix_len}
use Rattle.std.specs.Option.{option_and_then, option_or}
use Rattle.std.specs.Str.{bytes_eq}
use Rattle.text_lines.specs.Lines.{after_blanks, is_blank, are_none, words}
use Rattle.stack_text.specs.Texts.{begins, behind, before, number_of, first_where}
use Rattle.stack_text.specs.Bare.{BareView, BareCall, BarePlace, Other, bare_of}

-- what a line says
pub data LineView : Type 0 where
  -- it has no word
  Nothing : LineView
  -- the process whose stacks follow
  Process : ℕ → LineView
  -- the thread whose calls follow
  Thread : ℕ → LineView
  -- a call: its number, its function, the file that the function is in, and whether that file was deleted
  Call : (number : ℕ) (name binary : List ℕ) (is_deleted : Bool) → LineView
  -- where the call stands in that file: hexadecimal digits
  Place : List ℕ → LineView
  -- a source file, and the number of a line there, or 0
  Source : (file : List ℕ) (number : ℕ) → LineView
  -- it is no line of a printed stack
  Odd : LineView

-- the name of a file before ` (deleted)`, if it ends so
abbrev pub undeleted : List ℕ → List ℕ
undeleted file = unwrap_or (before (codes " (deleted)") file) file

-- whether the first `]` of a text is its last byte
abbrev pub closes : List ℕ → Bool
closes text = nat_eq (prefix_len (λ b. not (nat_eq b 93)) text + 1) (length text)

-- whether a text is a path, or a name in brackets if they are closed
abbrev pub is_file_if : Bool → List ℕ → Bool
is_file_if closed [] = false
is_file_if closed (b ∷ rest) = nat_eq b 47 || (nat_eq b 91 && closed)

-- whether ` - ` and such a file follow
abbrev pub file_follows_if : Bool → List ℕ → Bool
file_follows_if closed text = begins (codes " - ") text && is_file_if closed (drop 3 text)

-- whether ` - ` and a file follow: a path, or a name in brackets, which may be that of a deleted file
abbrev pub file_follows : List ℕ → Bool
file_follows text = file_follows_if (closes (undeleted (drop 4 text))) text

-- how many bytes stand before ` - ` and the file that a function is in: a path or a name in brackets, or else any name
abbrev pub binary_start : List ℕ → ℕ
binary_start text = cond (nat_lt (first_where file_follows text) (length text)) (first_where file_follows text)
    (first_where (begins (codes " - ")) text)

-- a call whose function and file are parted behind so many bytes
abbrev pub call_parted : ℕ → List ℕ → ℕ → LineView
call_parted number text start =
    Call number (after_blanks (take start text)) (undeleted (drop 3 (drop start text)))
    (is_some (before (codes " (deleted)") (drop 3 (drop start text))))

-- a call by what stands behind its address: nothing, or a blank, the function and the file
abbrev pub call_tail : ℕ → List ℕ → Option LineView
call_tail number [] = Some (Call number [] [] false)
call_tail number (b ∷ rest) = cond (is_blank b) (Some (call_parted number (b ∷ rest) (binary_start (b ∷ rest)))) None

-- the number that a text begins with, if just this stands behind it
abbrev pub number_before : List ℕ → List ℕ → Option ℕ
number_before end text = option_and_then (λ n. cond (bytes_eq n.1 end) (Some n.0) None) (number_of text)

-- whether a text is nothing, or a colon and the number of a column
abbrev pub is_column : List ℕ → Bool
is_column text = nat_eq (length text) 0 || is_some (option_and_then (number_before []) (behind (codes ":") text))

-- the number of a line of a source file: what is left of the text is a colon, this number, and perhaps a column
abbrev pub line_number : List ℕ → Option ℕ
line_number text =
    option_and_then (λ n. cond (is_column n.1) (Some n.0) None) (option_and_then number_of (behind (codes ":") text))

-- a source file, and the number of a line there, whose colon stands behind so many bytes
abbrev pub source_parted : List ℕ → ℕ → LineView
source_parted text start = Source (take start text) (unwrap_or (line_number (drop start text)) 0)

-- what stands behind four blanks: a source file, which begins with no bracket, blank or colon, and perhaps a number
abbrev pub source_at : List ℕ → Option LineView
source_at [] = None
source_at (b ∷ rest) = cond (nat_eq b 91 || is_blank b || nat_eq b 58) None
    (Some (source_parted (b ∷ rest) (first_where (λ t. is_some (line_number t)) (b ∷ rest))))

-- a line that names a source file
abbrev pub source_line : List ℕ → Option LineView
source_line line = option_and_then source_at (behind (codes "    ") line)

-- a line that begins a thread
abbrev pub thread_line : List ℕ → Option LineView
thread_line line = option_map Thread (option_and_then (number_before (codes ":")) (behind (codes "TID ") line))

-- the number of a process, behind `PID `
abbrev pub process_at : List ℕ → Option ℕ
process_at text = option_or (number_before (codes " - process") text) (number_before (codes " - core") text)

-- a line that begins a process
abbrev pub process_line : List ℕ → Option LineView
process_line line = option_map Process (option_and_then process_at (behind (codes "PID ") line))

-- a line that has no address, and a word
abbrev pub other_line : List ℕ → Option LineView
other_line line = option_or (source_line line) (option_or (thread_line line) (process_line line))

-- a call, by what stands before its address, of which the number begins behind `#`, and by what stands behind it
abbrev pub call_line : List ℕ → List ℕ → Option LineView
call_line prefix tail = option_and_then (λ n. call_tail n.0 tail) (number_of (drop 1 prefix))

-- what a line says that is parted at its address
abbrev pub line_of : BareView → LineView
line_of (BareCall prefix tail) = unwrap_or (call_line prefix tail) Odd
line_of (BarePlace offset) = Place offset
line_of (Other line) = cond (are_none (words line)) Nothing (unwrap_or (other_line line) Odd)

-- what a line says
unfoldable pub read_line : List ℕ → LineView
read_line line = line_of (bare_of line)
