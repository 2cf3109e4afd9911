-- The threads that the lines of a process print.
use Rattle.std.specs.Prelude.{◌≡◌, option_map, ℕ, Bool, true, false, not, nat_eq, List, [], ◌∷◌, ◌++◌, map, Option, None, Some}
use Rattle.std.specs.Borrow.{Bor}
use Rattle.std.specs.List.{list_any}
use Rattle.text_lines.specs.Lines.{lines}
use Rattle.stack_text.specs.Lines.{LineView, Nothing, Process, Thread, read_line}
use Rattle.stack_text.specs.Threads.{ThreadView, thread_of}

-- lines, parted at those that begin a thread
pub record Parted : Type 0 where
  -- the lines above the first thread
  pub head : List (List ℕ)
  -- the threads: their numbers, and the lines below each, up to the next
  pub threads : List (ℕ × List (List ℕ))

-- the number of the thread that a line begins
abbrev pub thread_number : LineView → Option ℕ
thread_number (Thread number) = Some number
thread_number _ = None

-- one line more in front, which begins a thread or doesn't
abbrev pub with_first : Option ℕ → List ℕ → Parted → Parted
with_first (Some number) line p = record { head = []; threads = (number, p.head) ∷ p.threads }
with_first None line p = record p { head = line ∷ p.head }

-- lines, parted at those that begin a thread
unfoldable pub parted : List (List ℕ) → Parted
parted [] = record { head = []; threads = [] }
parted (line ∷ rest) = with_first (thread_number (read_line line)) line (parted rest)

-- the threads of a text, from one of this number on, with this text below the line that begins it
abbrev pub threads_from : Option (ℕ × List ℕ) → List (ℕ × List (List ℕ))
threads_from None = []
threads_from (Some next) = (next.0, (parted (lines next.1)).head) ∷ (parted (lines next.1)).threads

-- the threads of a text, where the first of them is left to be read, are these
abbrev pub AreThreadsFrom : Option (ℕ × Bor (List ℕ)) → List (ℕ × List (List ℕ)) → Type 0
AreThreadsFrom next threads = threads_from (option_map (λ n. (n.0, n.1.now)) next) ≡ threads

-- one line more below the last of some threads
abbrev pub below_last : ℕ × List (List ℕ) → List (ℕ × List (List ℕ)) → List ℕ → List (ℕ × List (List ℕ))
below_last thread [] line = (thread.0, thread.1 ++ line ∷ []) ∷ []
below_last thread (next ∷ threads) line = thread ∷ below_last next threads line

-- one line more at the end, which begins no thread
abbrev pub with_line_below : List (List ℕ) → List (ℕ × List (List ℕ)) → List ℕ → Parted
with_line_below head [] line = record { head = head ++ line ∷ []; threads = [] }
with_line_below head (thread ∷ threads) line = record { head = head; threads = below_last thread threads line }

-- one line more at the end, which begins a thread or doesn't
abbrev pub with_last : Option ℕ → List ℕ → Parted → Parted
with_last (Some number) line p = record p { threads = p.threads ++ (number, []) ∷ [] }
with_last None line p = with_line_below p.head p.threads line

-- whether a line may stand above the first thread of a process: it has no word, or names this process
abbrev pub is_head_of : ℕ → LineView → Bool
is_head_of pid Nothing = true
is_head_of pid (Process number) = nat_eq number pid
is_head_of pid _ = false

-- what the lines of a process print: its threads with their numbers, in the order of the lines, and whether a line above
-- the first of them is odd
pub record ProcessView : Type 0 where
  pub threads : List (ℕ × ThreadView)
  pub is_odd : Bool

-- what the lines below the line that begins a thread print
abbrev pub printed_below : ℕ × List (List ℕ) → ℕ × ThreadView
printed_below thread = (thread.0, thread_of thread.1)

-- whether a line above the first thread is odd
abbrev pub has_odd_head : ℕ → List (List ℕ) → Bool
has_odd_head pid head = list_any (λ line. not (is_head_of pid (read_line line))) head

-- what parted lines of a process print
abbrev pub process_parted : ℕ → Parted → ProcessView
process_parted pid p = record { threads = map printed_below p.threads; is_odd = has_odd_head pid p.head }

-- what the lines of the process of this number print
unfoldable pub process_of : ℕ → List (List ℕ) → ProcessView
process_of pid lines = process_parted pid (parted lines)
