-- All waves of a book changed in the same way.
use Rattle.std.proofs.Common.{◌≡◌, ◌<◌, ◌≤◌, ◌+◌, ℕ, zero, suc, Bool, true, false, cond, List, [], ◌∷◌, length, get_or, map, refl, sym, ap, subst, ◌∙◌, arith}
use Rattle.std.specs.Prelude.{slice_set}
use Rattle.std.proofs.Math.ListN.{set}
use Rattle.overlay_setup.specs.NodeSets.{In}
use Rattle.stat_plan.specs.Machine.Waves.{Wave, Book}
use Rattle.wave_resend.specs.Books.{AllChange, IsIn, WaveAt, book_of, is_at, key_of, keys_of, untouched, with_state}

-- the wave changed
abbrev pub changed : (Wave → Wave) → WaveAt → WaveAt
changed f e = with_state (f e.state) e

-- the first waves changed
abbrev pub changed_to : (Wave → Wave) → ℕ → List WaveAt → List WaveAt
changed_to f zero es = es
changed_to f (suc i) [] = []
changed_to f (suc i) (e ∷ es) = changed f e ∷ changed_to f i es

set_changed : (f : Wave → Wave) (i : ℕ) (es : List WaveAt) (e : WaveAt) → i < length es → e ≡ get_or (changed_to f i es) i e → set (changed_to f i es) i (changed f e) ≡ changed_to f (suc i) es
set_changed f i [] e lt is = absurd (omega (arith, lt))
set_changed f zero (x ∷ xs) e lt is = ap (λ (y : WaveAt). changed f y ∷ xs) is
set_changed f (suc i) (x ∷ xs) e lt is = ap (λ l. changed f x ∷ l) (set_changed f i xs e (omega (arith, lt)) is)

length_changed : (f : Wave → Wave) (i : ℕ) (es : List WaveAt) → length (changed_to f i es) ≡ length es
length_changed f zero es = refl
length_changed f (suc i) [] = refl
length_changed f (suc i) (e ∷ es) = ap suc (length_changed f i es)

-- one wave more
pub changed_more : (f : Wave → Wave) (start now : List WaveAt) (i : ℕ) (e g : WaveAt) → now ≡ changed_to f i start → i < length now → e ≡ get_or now i e → g ≡ changed f e → slice_set now i g ≡ changed_to f (i + 1) start
changed_more f start now i e g is lt at eg =
    let l : length start ≡ length now = sym (length_changed f i start) ∙ ap length (sym is) in
    let next : suc i ≡ i + 1 = omega arith in
    (λ j. set (is j) i (eg j))
    ∙ set_changed f i start e (omega (arith, l, lt)) (subst (λ es. e ≡ get_or es i e) is at)
    ∙ ap (λ k. changed_to f k start) next

all_changed : (f : Wave → Wave) (i : ℕ) (es : List WaveAt) → length es ≤ i → changed_to f i es ≡ map (changed f) es
all_changed f zero [] h = refl
all_changed f (suc i) [] h = refl
all_changed f zero (e ∷ es) h = absurd (omega (arith, h))
all_changed f (suc i) (e ∷ es) h = ap (λ l. changed f e ∷ l) (all_changed f i es (omega (arith, h)))

changed_book : (f : Wave → Wave) (es : List WaveAt) → f untouched ≡ untouched → (s w : ℕ) → book_of (map (changed f) es) s w ≡ f (book_of es s w)
changed_book f [] h s w = sym h
changed_book f (e ∷ es) h s w = by (is_at s w e) (changed_book f es h s w)
  where
    by : (c : Bool) → book_of (map (changed f) es) s w ≡ f (book_of es s w) → cond c (f e.state) (book_of (map (changed f) es) s w) ≡ f (cond c e.state (book_of es s w))
    by true ih = refl
    by false ih = ih

changed_keys : (f : Wave → Wave) (es : List WaveAt) → keys_of (map (changed f) es) ≡ keys_of es
changed_keys f [] = refl
changed_keys f (e ∷ es) = ap (λ l. key_of e ∷ l) (changed_keys f es)

-- all waves
pub change_end : (f : Wave → Wave) (start now : List WaveAt) (i : ℕ) → f untouched ≡ untouched → now ≡ changed_to f i start → length start ≤ i → AllChange f start now
change_end f start now i h is le =
    let all : now ≡ map (changed f) start = is ∙ all_changed f i start le in
    record {
      keys = ap keys_of all ∙ changed_keys f start;
      book = λ j s w. (ap (λ es. book_of es s w) all ∙ changed_book f start h s w) j;
    }

-- ---- what follows for the book

-- each wave has changed
pub changed_at : (f : Wave → Wave) (old new : List WaveAt) (s w : ℕ) → AllChange f old new → book_of new s w ≡ f (book_of old s w)
changed_at f old new s w h = ap (λ (bk : Book). bk s w) h.book

-- the same waves are there
pub change_has : (f : Wave → Wave) (old new : List WaveAt) (s w : ℕ) → AllChange f old new → IsIn s w old → IsIn s w new
change_has f old new s w h i = subst (λ (ks : List (ℕ × ℕ)). In {X = ℕ × ℕ} (s, w) ks) (sym h.keys) i
