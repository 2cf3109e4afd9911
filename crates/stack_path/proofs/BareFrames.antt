-- Which frames are shown doesn't rest on their lines.
use Rattle.std.proofs.Common.{◌≡◌, ◌∙◌, ◌+◌, ◌-◌, Bool, true, false, ◌&&◌, not, cond, [], ◌∷◌, ◌++◌, refl, ap, sym, map, take, drop, length}
use Rattle.std.specs.Prelude.{◌||◌, min, reverse}
use Rattle.std.specs.List.{prefix_len, list_any}
use Rattle.std.proofs.lemmas.List.{take-map, drop-map, map-append, length-map, reverse-append}
use Rattle.frame_name.specs.Frames.{FrameView}
use Rattle.stack_path.specs.Beginnings.{Stack, from_first, or_else, start_len, without_start, begun_first, begun_other}
use Rattle.stack_path.specs.Shown.{shown_below, is_static}
use Rattle.stack_path.specs.Recursion.{once}
use Rattle.stack_path.specs.Cuts.{is_cut_by}
use Rattle.stack_path.specs.Choices.{EndView, Calls, Whole, ChoiceView}
use Rattle.stack_path.specs.Paths.{visible, ended, kept}
use Rattle.stack_path.proofs.SameNames.{once_same}

-- a frame without its line
abbrev bare : FrameView → FrameView
bare f = record f { line = [] }

by_tests : (t u : Bool) (f : FrameView) (p q p' q' : Stack) → p' ≡ map bare p → q' ≡ map bare q →
    cond t p' (cond u (bare f ∷ []) (bare f ∷ q')) ≡ map bare (cond t p (cond u (f ∷ []) (f ∷ q)))
by_tests true u f p q p' q' a b = a
by_tests false true f p q p' q' a b = refl
by_tests false false f p q p' q' a b = ap (λ t. bare f ∷ t) b

below_bare : (named below : Bool) (s : Stack) → shown_below named below (map bare s) ≡ map bare (shown_below named below s)
below_bare named below [] = refl
below_bare named below (f ∷ s) =
    by_tests (below && not f.is_own) (named && f.is_standard) f
    (shown_below named true s) (shown_below named f.waits s)
    (shown_below named true (map bare s)) (shown_below named f.waits (map bare s))
    (below_bare named true s) (below_bare named f.waits s)

static_bare : (s : Stack) → list_any (λ f. f.is_mpi) (map bare s) ≡ list_any (λ f. f.is_mpi) s
static_bare [] = refl
static_bare (f ∷ s) = ap (λ b. f.is_mpi || b) (static_bare s)

visible_bare : (end : EndView) (s : Stack) → visible end (map bare s) ≡ map bare (visible end s)
visible_bare (Calls words) s =
    ap (λ b. shown_below (not b) false (map bare s)) (static_bare s) ∙ below_bare (is_static s) false s
visible_bare Whole s = refl

-- a prefix of frames by a test that doesn't look at lines
prefix_bare : (p : FrameView → Bool) → ((f : FrameView) → p (bare f) ≡ p f) → (s : Stack) → prefix_len p (map bare s) ≡ prefix_len p s
prefix_bare p same [] = refl
prefix_bare p same (f ∷ s) = (λ i. cond (same f i) (1 + prefix_bare p same s i) 0)

ended_bare : (end : EndView) (s : Stack) → ended end (map bare s) ≡ map bare (ended end s)
ended_bare (Calls words) s =
    ap (λ n. take (n + 1) (map bare s)) (prefix_bare (λ f. not (is_cut_by words f)) (λ f. refl) s)
    ∙ take-map bare (prefix_len (λ f. not (is_cut_by words f)) s + 1) s
ended_bare Whole s = refl

pub kept_bare : (choice : ChoiceView) (s : Stack) → map bare (kept choice s) ≡ kept choice (map bare s)
kept_bare choice s =
    let how = choice.recursion in
    let end = choice.end in
    sym (ended_bare end (once how (visible end s)))
    ∙ ap (ended end) (sym (once_same bare (λ f. refl) how (visible end s)))
    ∙ ap (λ t. ended end (once how t)) (sym (visible_bare end s))

from_bare : (is_one : FrameView → Bool) → ((f : FrameView) → is_one (bare f) ≡ is_one f) → (s : Stack) →
    from_first is_one (map bare s) ≡ map bare (from_first is_one s)
from_bare is_one same s =
    ap (λ n. drop n (map bare s)) (prefix_bare (λ f. not (is_one f)) (λ f. ap not (same f)) s)
    ∙ drop-map bare (prefix_len (λ f. not (is_one f)) s) s

reverse_bare : (s : Stack) → reverse (map bare s) ≡ map bare (reverse s)
reverse_bare [] = refl
reverse_bare (f ∷ s) =
    reverse-append (bare f ∷ []) (map bare s) ∙ ap (λ t. t ++ bare f ∷ []) (reverse_bare s)
    ∙ sym (map-append bare (reverse s) (f ∷ [])) ∙ ap (map bare) (sym (reverse-append (f ∷ []) s))

start_bare : (s : Stack) → start_len (map bare s) ≡ start_len s
start_bare s =
    ap (λ t. length t - prefix_len (λ f. not f.is_start) (reverse t)) (take-map bare 4 s)
    ∙ ap (λ l. l - prefix_len (λ f. not f.is_start) (reverse (map bare (take 4 s)))) (length-map (take 4 s) bare)
    ∙ ap (λ t. length (take 4 s) - prefix_len (λ f. not f.is_start) t) (reverse_bare (take 4 s))
    ∙ ap (λ n. length (take 4 s) - n) (prefix_bare (λ f. not f.is_start) (λ f. refl) (reverse (take 4 s)))

without_bare : (s : Stack) → without_start (map bare s) ≡ map bare (without_start s)
without_bare s =
    (λ i. drop (min (start_bare s i) (length-map s bare i - 1)) (map bare s))
    ∙ drop-map bare (min (start_len s) (length s - 1)) s

or_bare : (s other : Stack) → or_else (map bare s) (map bare other) ≡ map bare (or_else s other)
or_bare [] other = refl
or_bare (f ∷ s) other = refl

pub first_bare : (s : Stack) → map bare (begun_first s) ≡ begun_first (map bare s)
first_bare s =
    sym ((λ i. or_else (from_bare (λ f. f.is_main) (λ f. refl) s i) (without_bare s i))
    ∙ or_bare (from_first (λ f. f.is_main) s) (without_start s))

pub other_bare : (s : Stack) → map bare (begun_other s) ≡ begun_other (map bare s)
other_bare s = sym (from_bare (λ f. f.is_own) (λ f. refl) s)
