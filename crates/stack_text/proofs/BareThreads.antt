-- Bare lines print what their lines print.
use Rattle.std.proofs.Common.{◌≡◌, ◌∙◌, ℕ, List, [], ◌∷◌, map, Option, None, Some, not, refl, ap}
use Rattle.std.specs.Prelude.{◌||◌}
use Rattle.stack_text.specs.Bare.{bare}
use Rattle.stack_text.specs.Lines.{read_line}
use Rattle.stack_text.specs.Processes.{Parted, thread_number, with_first, parted, is_head_of, has_odd_head, printed_below, process_parted, process_of}
use Rattle.stack_text.specs.Threads.{ThreadView, no_call, with_line, with_lines, thread_of}
use Rattle.stack_text.proofs.BareLines.{read_line_bare}

-- a thread
with_bare_lines : (t : ThreadView) (ls : List (List ℕ)) → with_lines t (map bare ls) ≡ with_lines t ls
unfolding with_lines
with_bare_lines t [] = refl
with_bare_lines t (line ∷ rest) =
    ap (λ view. with_lines (with_line t view) (map bare rest)) (read_line_bare line)
    ∙ with_bare_lines (with_line t (read_line line)) rest

pub thread_of_bare : (ls : List (List ℕ)) → thread_of (map bare ls) ≡ thread_of ls
unfolding thread_of
thread_of_bare ls = with_bare_lines no_call ls

-- lines, parted at those that begin a thread
abbrev bare_below : ℕ × List (List ℕ) → ℕ × List (List ℕ)
bare_below thread = (thread.0, map bare thread.1)

abbrev bare_parts : Parted → Parted
bare_parts p = record { head = map bare p.head; threads = map bare_below p.threads }

first_bare : (o : Option ℕ) (line : List ℕ) (p : Parted) → with_first o (bare line) (bare_parts p) ≡ bare_parts (with_first o line p)
first_bare None line p = refl
first_bare (Some number) line p = refl

parted_bare : (ls : List (List ℕ)) → parted (map bare ls) ≡ bare_parts (parted ls)
unfolding parted
parted_bare [] = refl
parted_bare (line ∷ rest) =
    ap (λ view. with_first (thread_number view) (bare line) (parted (map bare rest))) (read_line_bare line)
    ∙ ap (with_first (thread_number (read_line line)) (bare line)) (parted_bare rest)
    ∙ first_bare (thread_number (read_line line)) line (parted rest)

-- a process
threads_bare : (threads : List (ℕ × List (List ℕ))) → map printed_below (map bare_below threads) ≡ map printed_below threads
threads_bare [] = refl
threads_bare (t ∷ threads) = λ i. (t.0, thread_of_bare t.1 i) ∷ threads_bare threads i

head_bare : (pid : ℕ) (head : List (List ℕ)) → has_odd_head pid (map bare head) ≡ has_odd_head pid head
head_bare pid [] = refl
head_bare pid (line ∷ head) = λ i. not (is_head_of pid (read_line_bare line i)) || head_bare pid head i

pub process_of_bare : (pid : ℕ) (ls : List (List ℕ)) → process_of pid (map bare ls) ≡ process_of pid ls
unfolding process_of
process_of_bare pid ls =
    ap (process_parted pid) (parted_bare ls)
    ∙ (λ i. record { threads = threads_bare (parted ls).threads i; is_odd = head_bare pid (parted ls).head i })
