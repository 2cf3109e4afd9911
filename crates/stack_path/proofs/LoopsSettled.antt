-- What is shown of loops has no function twice, and so nothing more to leave out.
use Rattle.std.proofs.Common.{◌≡◌, ◌∙◌, ℕ, zero, suc, ◌+◌, Bool, true, false, not, cond, List, [], ◌∷◌, ◌++◌, refl, ap, sym, subst, take, length, arith}
use Rattle.std.specs.Prelude.{◌||◌}
use Rattle.std.specs.List.{list_any}
use Rattle.std.specs.Str.{bytes_eq}
use Rattle.std.proofs.lemmas.Bool.{or_parts}
use Rattle.std.proofs.lemmas.Bool.Decides.{same_from_decides}
use Rattle.std.proofs.lemmas.List.{take_all}
use Rattle.std.proofs.lemmas.List.Folds.{list_any-append}
use Rattle.std.proofs.lemmas.Slice.Eq.{bytes_eq-Decides}
use Rattle.frame_name.specs.Frames.{FrameView}
use Rattle.stack_path.specs.Beginnings.{Stack}
use Rattle.stack_path.specs.Recursion.{RecursionView, Cycles, Loops, Each, len_before, with_call, with_calls, once}
use Rattle.stack_path.proofs.Settled.{IsSettled, calls_settled, cycles_settled}

turned : (a b : List ℕ) → bytes_eq a b ≡ bytes_eq b a
turned a b =
    let d = bytes_eq-Decides b a in
    same_from_decides (bytes_eq a b) (bytes_eq b a) (bytes_eq-Decides a b) ((λ h. sym (d.0 h)), (λ e. d.1 (sym e)))

-- whether a stack has a call of a function
abbrev has_call : List ℕ → Stack → Bool
has_call name s = list_any (λ f. bytes_eq f.name name) s

-- a stack that calls each function once
abbrev IsDistinct : Stack → Type 0
IsDistinct [] = Unit
IsDistinct (f ∷ s) = (has_call f.name s ≡ false) × IsDistinct s

none_in_front : (name : List ℕ) (m : ℕ) (s : Stack) → has_call name s ≡ false → has_call name (take m s) ≡ false
none_in_front name zero s none = refl
none_in_front name (suc m) [] none = refl
none_in_front name (suc m) (f ∷ s) none =
    let parts = or_parts (bytes_eq f.name name) (has_call name s) none in
    (λ i. parts.0 i || none_in_front name m s parts.1 i)

none_before : (name : List ℕ) (s : Stack) → has_call name (take (len_before name s) s) ≡ false
none_before name [] = ap (has_call name) (take_all (len_before name []) [] (omega arith))
none_before name (f ∷ s) = by_test (bytes_eq f.name name) refl (none_before name s)
  where
    by_test : (t : Bool) → bytes_eq f.name name ≡ t → has_call name (take (len_before name s) s) ≡ false →
        has_call name (take (cond (not t) (1 + len_before name s) 0) (f ∷ s)) ≡ false
    by_test true e none = refl
    by_test false e none =
        let at : 1 + len_before name s ≡ suc (len_before name s) = omega arith in
        ap (λ k. has_call name (take k (f ∷ s))) at ∙ (λ i. e i || none i)

all_before : (name : List ℕ) (s : Stack) → has_call name s ≡ false → len_before name s ≡ length s
all_before name [] none = refl
all_before name (f ∷ s) none =
    let parts = or_parts (bytes_eq f.name name) (has_call name s) none in
    let at : 1 + length s ≡ suc (length s) = omega arith in
    (λ i. cond (not (parts.0 i)) (1 + all_before name s parts.1 i) 0) ∙ at

distinct_front : (m : ℕ) (s : Stack) → IsDistinct s → IsDistinct (take m s)
distinct_front zero s distinct = tt
distinct_front (suc m) [] distinct = tt
distinct_front (suc m) (f ∷ s) distinct = (none_in_front f.name m s distinct.0, distinct_front m s distinct.1)

distinct_more : (s : Stack) (f : FrameView) → IsDistinct s → has_call f.name s ≡ false → IsDistinct (s ++ f ∷ [])
distinct_more [] f distinct none = (refl, tt)
distinct_more (g ∷ s) f distinct none =
    let parts = or_parts (bytes_eq g.name f.name) (has_call f.name s) none in
    let other : bytes_eq f.name g.name ≡ false = turned f.name g.name ∙ parts.0 in (
      list_any-append (λ h. bytes_eq h.name g.name) s (f ∷ []) ∙ (λ i. distinct.0 i || (other i || false)),
      distinct_more s f distinct.1 parts.1,
    )

distinct_kept : (kept : Stack) (f : FrameView) (rest : Stack) → IsDistinct (kept ++ f ∷ rest) → has_call f.name kept ≡ false
distinct_kept [] f rest distinct = refl
distinct_kept (g ∷ kept) f rest distinct =
    let none : (has_call g.name kept || has_call g.name (f ∷ rest)) ≡ false =
    sym (list_any-append (λ h. bytes_eq h.name g.name) kept (f ∷ rest)) ∙ distinct.0 in
    let parts = or_parts (has_call g.name kept) (has_call g.name (f ∷ rest)) none in
    let other = or_parts (bytes_eq f.name g.name) (has_call g.name rest) parts.1 in
    (λ i. (turned g.name f.name ∙ other.0) i || distinct_kept kept f rest distinct.1 i)

distinct_call : (kept : Stack) (f : FrameView) → IsDistinct kept → IsDistinct (with_call Loops kept f)
distinct_call kept f distinct =
    distinct_more (take (len_before f.name kept) kept) f (distinct_front (len_before f.name kept) kept distinct)
    (none_before f.name kept)

distinct_calls : (kept s : Stack) → IsDistinct kept → IsDistinct (with_calls Loops kept s)
distinct_calls kept [] distinct = distinct
distinct_calls kept (f ∷ s) distinct = distinct_calls (with_call Loops kept f) s (distinct_call kept f distinct)

distinct_settled : (s : Stack) → IsDistinct s → IsSettled Loops s
distinct_settled s distinct kept f rest e =
    let none : has_call f.name kept ≡ false = distinct_kept kept f rest (subst IsDistinct e distinct) in
    let all : len_before f.name kept ≡ length kept = all_before f.name kept none in
    ap (λ t. t ++ f ∷ []) (take_all (len_before f.name kept) kept (omega (arith, all)))

loops_distinct : (s : Stack) → IsDistinct (once Loops s)
loops_distinct s = distinct_calls [] s tt

pub loops_once : (s outer inner : Stack) (f : FrameView) → once Loops s ≡ outer ++ f ∷ inner → len_before f.name outer ≡ length outer
loops_once s outer inner f e = all_before f.name outer (distinct_kept outer f inner (subst IsDistinct e (loops_distinct s)))

settled : (how : RecursionView) (s : Stack) → IsSettled how (once how s)
settled Cycles s = cycles_settled s
settled Loops s = distinct_settled (once Loops s) (loops_distinct s)
settled Each s = λ kept f rest e. refl

pub once_again : (how : RecursionView) (s : Stack) → once how (once how s) ≡ once how s
once_again how s = calls_settled how [] (once how s) (settled how s)
