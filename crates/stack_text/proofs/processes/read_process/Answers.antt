use Rattle.std.proofs.Common.{◌≡◌, ◌∙◌, ◌++◌, ℕ, Bool, List, Option, None, Bor, ap, sym, map}
use Rattle.std.specs.Prelude.{option_map}
use Rattle.std.proofs.lemmas.List.{append-nil}
use Rattle.stack_text.specs.Processes.{ProcessView, printed_below, process_of, threads_from}
use Rattle.stack_text.specs.Threads.{ThreadView}
use Rattle.stack_text.proofs.processes.read_process.Goals as goal

-- no thread is left
all_read : (done whole : List (ℕ × ThreadView)) (next : Option (ℕ × Bor (List ℕ))) →
    done ++ map printed_below (threads_from (option_map (λ n. (n.0, n.1.now)) next)) ≡ whole → next ≡ None → done ≡ whole
all_read done whole next so_far none =
    sym (append-nil done)
    ∙ ap (λ n. done ++ map printed_below (threads_from (option_map (λ n. (n.0, n.1.now)) n))) (sym none) ∙ so_far

abbrev view : List (ℕ × ThreadView) → Bool → ProcessView
view threads is_odd = record { threads = threads; is_odd = is_odd }

view_is : (threads whole : List (ℕ × ThreadView)) (is_odd odd : Bool) → threads ≡ whole → is_odd ≡ odd →
    view threads is_odd ≡ view whole odd
view_is threads whole is_odd odd t o = λ i. record { threads = t i; is_odd = o i }

pub returns : goal.returns
unfolding process_of
returns c = view_is _ _ _ _ (all_read _ _ c.loop-next.next c.loop-next.invariant c.in_default.is) c.read_head-is_odd.ensures.head
