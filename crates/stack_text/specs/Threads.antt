-- The calls that the lines of a thread print.
use Rattle.std.specs.Prelude.{ℕ, Bool, true, false, ◌||◌, not, nat_eq, cond, List, [], ◌∷◌, length}
use Rattle.frame_name.specs.Calls.{CallView}
use Rattle.stack_text.specs.Lines.{LineView, Nothing, Process, Thread, Call, Place, Source, Odd, read_line}

-- what the lines of a thread print: its calls, outermost first, and whether a line is odd
pub record ThreadView : Type 0 where
  pub calls : List CallView
  pub is_odd : Bool

-- no line
abbrev pub no_call : ThreadView
no_call = record { calls = []; is_odd = false }

-- the same calls, with an odd line
abbrev pub with_odd_line : ThreadView → ThreadView
with_odd_line t = record t { is_odd = true }

-- one call more: its number is how many there were
abbrev pub with_call : ThreadView → ℕ → List ℕ → List ℕ → Bool → ThreadView
with_call t number name binary is_deleted = record {
  calls = record { name = name; binary = binary; is_deleted = is_deleted; offset = []; file = []; line = 0 } ∷ t.calls;
  is_odd = t.is_odd || not (nat_eq number (length t.calls));
}

-- the last call with an offset, if it has none so far; what was printed before is given in its parts
abbrev pub offset_set : List CallView → Bool → List ℕ → ThreadView
offset_set [] is_odd offset = record { calls = []; is_odd = true }
offset_set (c ∷ calls) is_odd offset =
    cond (nat_eq (length c.offset) 0) (record { calls = record c { offset = offset } ∷ calls; is_odd = is_odd })
    (record { calls = c ∷ calls; is_odd = true })

abbrev pub with_offset : ThreadView → List ℕ → ThreadView
with_offset t offset = offset_set t.calls t.is_odd offset

-- the last call with a source file and a line, if it has none so far
abbrev pub source_set : List CallView → Bool → List ℕ → ℕ → ThreadView
source_set [] is_odd file line = record { calls = []; is_odd = true }
source_set (c ∷ calls) is_odd file line =
    cond (nat_eq (length c.file) 0) (record { calls = record c { file = file; line = line } ∷ calls; is_odd = is_odd })
    (record { calls = c ∷ calls; is_odd = true })

abbrev pub with_source : ThreadView → List ℕ → ℕ → ThreadView
with_source t file line = source_set t.calls t.is_odd file line

-- one line more
abbrev pub with_line : ThreadView → LineView → ThreadView
with_line t Nothing = t
with_line t (Call number name binary is_deleted) = with_call t number name binary is_deleted
with_line t (Place offset) = with_offset t offset
with_line t (Source file number) = with_source t file number
with_line t (Process number) = with_odd_line t
with_line t (Thread number) = with_odd_line t
with_line t Odd = with_odd_line t

-- more lines, one after another
unfoldable pub with_lines : ThreadView → List (List ℕ) → ThreadView
with_lines t [] = t
with_lines t (line ∷ rest) = with_lines (with_line t (read_line line)) rest

-- what the lines below a thread's first line print
unfoldable pub thread_of : List (List ℕ) → ThreadView
thread_of lines = with_lines no_call lines
