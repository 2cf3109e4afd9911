-- A wave of a book set to another state.
use Rattle.std.proofs.Common.{◌≡◌, ◌<◌, ℕ, zero, suc, Bool, true, false, cond, ◌&&◌, ◌==◌, List, [], ◌∷◌, length, get_or, refl, sym, ap, subst, ◌∙◌, arith, eqb-true, eq-eqb, inl, inr, Result, Ok, Err, OnOk, OnErr}
use Rattle.std.specs.Prelude.{slice_set}
use Rattle.std.specs.Cmp.{both_ways}
use Rattle.std.proofs.Math.ListN.{set}
use Rattle.std.proofs.lemmas.Bool.{and_parts, and_from, true≢false, cases_Bool}
use Rattle.rank_set.specs.Ranks.{Ranks}
use Rattle.overlay_setup.specs.NodeSets.{In}
use Rattle.stat_plan.specs.Machine.Waves.{Wave, Open, Closed, Book, growing, is_open, put_at, set_wave}
use Rattle.wave_resend.specs.Books.{AreAscending, HasOpen, HasSet, IsIn, WaveAt, all_sent, armed, book_of, index_of, is_at, key_of, keys_of, with_state}
use Rattle.wave_resend.proofs.Order.{index_in_range}

-- ---- books with a wave set

-- what a book with a wave set reads
pub book_read : (bk : Book) (s w : ℕ) (v : Wave) (a b : ℕ) → set_wave bk s w v a b ≡ cond ((a == s) && (b == w)) v (bk a b)
book_read bk s w v a b = go (a == s) refl
  where
    go : (c : Bool) → (a == s) ≡ c → (cond c (put_at (bk s) w v) (bk a)) b ≡ cond (c && (b == w)) v (bk a b)
    go true e = ap (λ z. cond (b == w) v (bk z b)) (sym (eqb-true a s e))
    go false e = refl

pub shadow : {A : Type 0} (t : Bool) (u v r : A) → cond t u r ≡ cond t u (cond t v r)
shadow true u v r = refl
shadow false u v r = refl

pub swapped : (x y a b : ℕ) → ((x == a) && (y == b)) ≡ ((a == x) && (b == y))
swapped x y a b = both_ways _ _
    (λ t. let u = and_parts (x == a) (y == b) t in and_from (a == x) (b == y) (eq-eqb a x (sym (eqb-true x a u.0))) (eq-eqb b y (sym (eqb-true y b u.1))))
    (λ t. let u = and_parts (a == x) (b == y) t in and_from (x == a) (y == b) (eq-eqb x a (sym (eqb-true a x u.0))) (eq-eqb y b (sym (eqb-true b y u.1))))

test_for : (e : WaveAt) (s w a b : ℕ) → e.stream ≡ s → e.wave ≡ w → is_at a b e ≡ ((a == s) && (b == w))
test_for e s w a b es ew = swapped e.stream e.wave a b ∙ (λ i. (a == es i) && (b == ew i))

pub crossed : {A : Type 0} (i t : Bool) (x v r : A) → (i ≡ true → t ≡ true → ⊥) → cond i x (cond t v r) ≡ cond t v (cond i x r)
crossed true true x v r h = absurd (h refl refl)
crossed true false x v r h = refl
crossed false t x v r h = refl

index_here : (c : Bool) (n : ℕ) → cond c zero (suc n) ≡ zero → c ≡ true
index_here true n e = refl
index_here false n e = absurd (cc)

index_later : (c : Bool) (n i : ℕ) → cond c zero (suc n) ≡ suc i → (c ≡ false) × (n ≡ i)
index_later true n i e = absurd (cc)
index_later false n i e = (refl, omega (arith, e))

-- ---- a list with a wave set

-- the item at an index is the wave's, and one in its place sets the wave
pub record IsFound (s w : ℕ) (es : List WaveAt) (i : ℕ) (e : WaveAt) : Type 0 where
  pub stream : e.stream ≡ s
  pub wave : e.wave ≡ w
  pub state : book_of es s w ≡ e.state
  pub sets : (f : WaveAt) → f.stream ≡ s → f.wave ≡ w → HasSet s w f.state es (set es i f)

found_at : (s w : ℕ) (es : List WaveAt) (i : ℕ) (e : WaveAt) → index_of s w es ≡ i → i < length es → e ≡ get_or es i e → IsFound s w es i e
found_at s w [] i e at lt is = absurd (omega (arith, lt))
found_at s w (x ∷ xs) zero e at lt is =
    let ec : is_at s w x ≡ true = index_here (is_at s w x) (index_of s w xs) at in
    let u = and_parts (x.stream == s) (x.wave == w) ec in
    let here : x.stream ≡ s = eqb-true x.stream s u.0 in
    let there : x.wave ≡ w = eqb-true x.wave w u.1 in
    record {
      stream = ap (λ (y : WaveAt). y.stream) is ∙ here;
      wave = ap (λ (y : WaveAt). y.wave) is ∙ there;
      state = ap (λ c. cond c x.state (book_of xs s w)) ec ∙ ap (λ (y : WaveAt). y.state) (sym is);
      sets = λ f fs fw. record {
        keys = λ i. ((fs ∙ sym here) i, (fw ∙ sym there) i) ∷ keys_of xs;
        book = λ j a b. (
            (λ i. cond (test_for f s w a b fs fw i) f.state (book_of xs a b))
            ∙ shadow ((a == s) && (b == w)) f.state x.state (book_of xs a b)
            ∙ (λ i. cond ((a == s) && (b == w)) f.state (cond (sym (test_for x s w a b here there) i) x.state (book_of xs a b)))
            ∙ sym (book_read (book_of (x ∷ xs)) s w f.state a b)) j;
      };
    }
found_at s w (x ∷ xs) (suc i) e at lt is =
    let k = index_later (is_at s w x) (index_of s w xs) i at in
    let r = found_at s w xs i e k.1 (omega (arith, lt)) is in
    let distinct : (a b : ℕ) → is_at a b x ≡ true → ((a == s) && (b == w)) ≡ true → ⊥ = (λ a b t u. true≢false (sym t ∙ (let v = and_parts (a == s) (b == w) u in (λ j. is_at (eqb-true a s v.0 j) (eqb-true b w v.1 j) x)) ∙ k.0)) in
    record {
      stream = r.stream;
      wave = r.wave;
      state = ap (λ c. cond c x.state (book_of xs s w)) k.0 ∙ r.state;
      sets = λ f fs fw. let h = r.sets f fs fw in record {
        keys = ap (λ l. (x.stream, x.wave) ∷ l) h.keys;
        book = λ j a b. (
            ap (cond (is_at a b x) x.state) (ap (λ (bk : Book). bk a b) h.book ∙ book_read (book_of xs) s w f.state a b)
            ∙ crossed (is_at a b x) ((a == s) && (b == w)) x.state f.state (book_of xs a b) (distinct a b)
            ∙ sym (book_read (book_of (x ∷ xs)) s w f.state a b)) j;
      };
    }

pub found : (s w : ℕ) (es : List WaveAt) (i : ℕ) (e : WaveAt) → IsIn s w es → i ≡ index_of s w es → e ≡ get_or es i e → IsFound s w es i e
found s w es i e there at is = found_at s w es i e (sym at) (subst (λ k. k < length es) (sym at) (index_in_range s w es there)) is

-- ---- what follows for the book

-- the wave has the state that it was set to
pub set_here : (s w : ℕ) (v : Wave) (old new : List WaveAt) → HasSet s w v old new → book_of new s w ≡ v
set_here s w v old new h =
    ap (λ (bk : Book). bk s w) h.book ∙ book_read (book_of old) s w v s w
    ∙ ap (λ c. cond c v (book_of old s w)) (and_from (s == s) (w == w) (eq-eqb s s refl) (eq-eqb w w refl))

-- any other wave has the state that it had
pub set_elsewhere : (s w : ℕ) (v : Wave) (old new : List WaveAt) (a b : ℕ) → HasSet s w v old new → ((a ≡ s) × (b ≡ w) → ⊥) → book_of new a b ≡ book_of old a b
set_elsewhere s w v old new a b h other =
    let differs : ((a == s) && (b == w)) ≡ false = elim (cases_Bool ((a == s) && (b == w))) [
      | inl t ↦ absurd (let u = and_parts (a == s) (b == w) t in other (eqb-true a s u.0, eqb-true b w u.1))
      | inr f ↦ f
    ] in
    ap (λ (bk : Book). bk a b) h.book ∙ book_read (book_of old) s w v a b ∙ ap (λ c. cond c v (book_of old a b)) differs

-- the same waves are there
pub set_has : (s w : ℕ) (v : Wave) (old new : List WaveAt) (a b : ℕ) → HasSet s w v old new → IsIn a b old → IsIn a b new
set_has s w v old new a b h i = subst (λ (ks : List (ℕ × ℕ)). In {X = ℕ × ℕ} (a, b) ks) (sym h.keys) i

-- ---- one wave of a list changed

-- the list with the wave's item changed
pub changes_found : (g : Wave → Wave) (s w : ℕ) (es : List WaveAt) (i : ℕ) (e f : WaveAt) → IsIn s w es → i ≡ index_of s w es → e ≡ get_or es i e → f ≡ with_state (g e.state) e → HasSet s w (g (book_of es s w)) es (slice_set es i f)
changes_found g s w es i e f there at is ef =
    let h = found s w es i e there at is in
    let state : f.state ≡ g (book_of es s w) = ap (λ (y : WaveAt). y.state) ef ∙ ap g (sym h.state) in
    subst (λ v. HasSet s w v es (slice_set es i f)) state
    (h.sets f (ap (λ (y : WaveAt). y.stream) ef ∙ h.stream) (ap (λ (y : WaveAt). y.wave) ef ∙ h.wave))

-- the same, where the list is known under three names
pub changes_in : (g : Wave → Wave) (s w : ℕ) (old slice es : List WaveAt) (i : ℕ) (e f : WaveAt) → slice ≡ es → es ≡ old → IsIn s w old → i ≡ index_of s w slice → e ≡ get_or es i e → f ≡ with_state (g e.state) e → HasSet s w (g (book_of old s w)) old (slice_set es i f)
changes_in g s w old slice es i e f same is there at here ef =
    subst (λ o. HasSet s w (g (book_of o s w)) o (slice_set es i f)) is
    (changes_found g s w es i e f (subst (IsIn s w) (sym is) there) (at ∙ ap (index_of s w) same) here ef)

-- the state of the wave that was found
pub state_in : (s w : ℕ) (old slice es : List WaveAt) (i : ℕ) (e : WaveAt) → slice ≡ es → es ≡ old → IsIn s w old → i ≡ index_of s w slice → e ≡ get_or es i e → e.state ≡ book_of old s w
state_in s w old slice es i e same is there at here =
    sym (found s w es i e (subst (IsIn s w) (sym is) there) (at ∙ ap (index_of s w) same) here).state
    ∙ ap (λ o. book_of o s w) is

keys_set : (es : List WaveAt) (i : ℕ) (e f : WaveAt) → e ≡ get_or es i e → key_of f ≡ key_of e → keys_of (set es i f) ≡ keys_of es
keys_set [] i e f is k = refl
keys_set (x ∷ xs) zero e f is k = λ j. (k ∙ ap key_of is) j ∷ keys_of xs
keys_set (x ∷ xs) (suc i) e f is k = ap (λ l. key_of x ∷ l) (keys_set xs i e f is k)

-- waves ascend where one has another state
pub ascend_with : (es : List WaveAt) (i : ℕ) (e f : WaveAt) → e ≡ get_or es i e → key_of f ≡ key_of e → AreAscending (keys_of es) → AreAscending (keys_of (slice_set es i f))
ascend_with es i e f is k asc = subst AreAscending (sym (keys_set es i e f is k)) asc

-- a wave keeps its key, whether it has changed or not
pub key_kept : {T E : Type 0} (r : Result T E) (v : Wave) (e f : WaveAt) → OnOk r (f ≡ with_state v e) → OnErr r (f ≡ e) → key_of f ≡ key_of e
key_kept (Ok x) v e f is same = ap key_of is
key_kept (Err x) v e f is same = ap key_of same

-- an open wave stays open where the change ends none
pub stays_open : (g : Wave → Wave) (s w : ℕ) (old new : List WaveAt) → ((v : Wave) → is_open (g v) ≡ is_open v) → HasSet s w (g (book_of old s w)) old new → HasOpen s w old → HasOpen s w new
stays_open g s w old new keeps h was = (
  set_has s w (g (book_of old s w)) old new s w h was.0,
  ap is_open (set_here s w (g (book_of old s w)) old new h) ∙ keeps (book_of old s w) ∙ was.1,
)

-- growing, passing on and starting the timer end no wave
pub growing_open : (set : Ranks) (v : Wave) → is_open (growing set v) ≡ is_open v
growing_open set (Open covered sent timer) = refl
growing_open set Closed = refl

pub all_sent_open : (v : Wave) → is_open (all_sent v) ≡ is_open v
all_sent_open (Open covered sent timer) = refl
all_sent_open Closed = refl

pub armed_open : (t : ℕ) (v : Wave) → is_open (armed t v) ≡ is_open v
armed_open t (Open covered sent timer) = refl
armed_open t Closed = refl
