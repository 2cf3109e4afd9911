-- Of a stack with frames some are shown.
use Rattle.std.proofs.Common.{ℕ, zero, suc, ◌+◌, ◌-◌, ◌<◌, Bool, true, false, ◌&&◌, cond, [], ◌∷◌, ◌++◌, ap, sym, subst, take, drop, length, arith}
use Rattle.std.specs.Prelude.{min}
use Rattle.std.proofs.lemmas.List.{take-append-drop, length-append, length-drop}
use Rattle.frame_name.specs.Frames.{FrameView}
use Rattle.stack_path.specs.Beginnings.{Stack, from_first, or_else, start_len, without_start, begun_first}
use Rattle.stack_path.specs.Shown.{shown_below, is_static}
use Rattle.stack_path.specs.Recursion.{RecursionView, Cycles, Loops, Each, cycle_len, without_before, len_before, with_call, with_calls, once}
use Rattle.stack_path.specs.Cuts.{is_cut_by}
use Rattle.stack_path.specs.Choices.{EndView, Calls, Whole, ChoiceView}
use Rattle.stack_path.specs.Paths.{visible, ended, kept}
use Rattle.stack_path.proofs.CutsTwice.{until_first}

or_some : (s other : Stack) → 0 < length other → 0 < length (or_else s other)
or_some [] other some = some
or_some (f ∷ s) other some = omega arith

begun_some : (s : Stack) → 0 < length s → 0 < length (begun_first s)
begun_some s some =
    or_some (from_first (λ f. f.is_main) s) (without_start s)
    (omega (arith, some, length-drop (min (start_len s) (length s - 1)) s))

first_some : (t : Bool) (f : FrameView) (s : Stack) → 0 < length (cond t (f ∷ []) (f ∷ s))
first_some true f s = omega arith
first_some false f s = omega arith

visible_some : (end : EndView) (s : Stack) → 0 < length s → 0 < length (visible end s)
visible_some (Calls words) [] some = some
visible_some (Calls words) (f ∷ s) some =
    first_some (is_static (f ∷ s) && f.is_standard) f (shown_below (is_static (f ∷ s)) f.waits s)
visible_some Whole s some = some

without_some : (n : ℕ) (s : Stack) → 0 < length s → 0 < length (without_before n s)
without_some zero s some = subst (λ t. 0 < length t) (sym (take-append-drop (length s - 0) s)) some
without_some (suc n) s some =
    omega (arith, some, length-append (take (length s - (suc n + suc n)) s) (drop (length s - suc n) s), length-drop (length s - suc n) s)

call_some : (how : RecursionView) (s : Stack) (f : FrameView) → 0 < length (with_call how s f)
call_some Cycles s f = without_some (cycle_len (s ++ f ∷ [])) (s ++ f ∷ []) (omega (arith, length-append s (f ∷ [])))
call_some Loops s f = omega (arith, length-append (take (len_before f.name s) s) (f ∷ []))
call_some Each s f = omega (arith, length-append s (f ∷ []))

calls_some : (how : RecursionView) (s calls : Stack) → 0 < length s → 0 < length (with_calls how s calls)
calls_some how s [] some = some
calls_some how s (f ∷ calls) some = calls_some how (with_call how s f) calls (call_some how s f)

once_some : (how : RecursionView) (s : Stack) → 0 < length s → 0 < length (once how s)
once_some how [] some = some
once_some how (f ∷ s) some = calls_some how (with_call how [] f) s (call_some how [] f)

ended_some : (end : EndView) (s : Stack) → 0 < length s → 0 < length (ended end s)
ended_some (Calls words) [] some = some
ended_some (Calls words) (f ∷ s) some =
    omega (arith, ap length (until_first (is_cut_by words) f s))
ended_some Whole s some = some

pub kept_some : (choice : ChoiceView) (s : Stack) → 0 < length s → 0 < length (kept choice s)
kept_some choice s some =
    ended_some choice.end (once choice.recursion (visible choice.end s))
    (once_some choice.recursion (visible choice.end s) (visible_some choice.end s some))

pub first_kept : (choice : ChoiceView) (s : Stack) → 0 < length s → 0 < length (kept choice (begun_first s))
first_kept choice s some = kept_some choice (begun_first s) (begun_some s some)
