-- A step on what is held of one wave is a step on all.
use Rattle.std.proofs.Common.{◌≡◌, ◌<◌, ◌≤◌, ◌+◌, ℕ, zero, suc, Bool, true, false, cond, ◌&&◌, ◌==◌, List, [], ◌∷◌, ◌++◌, length, get_or, take, refl, sym, ap, subst, ◌∙◌, arith, eqb-true, eq-eqb, inl, inr}
use Rattle.std.specs.Prelude.{slice_set}
use Rattle.std.proofs.Math.ListN.{set}
use Rattle.std.proofs.lemmas.Bool.{and_parts, and_from, true≢false, cases_Bool}
use Rattle.std.proofs.lemmas.List.{take_more, take_all}
use Rattle.overlay_setup.specs.NodeSets.{In}
use Rattle.stat_plan.specs.Plans.{Plan}
use Rattle.stat_plan.specs.Machine.Waves.{Wave, Book}
use Rattle.wave_resend.specs.Books.{AllChange, IsIn, WaveAt, book_of, keys_of}
use Rattle.wave_resend.proofs.Setting.{crossed, shadow, swapped}
use Rattle.overlay_core.specs.Nodes.{Release, Effects}
use Rattle.overlay_core.specs.History.{of_wave}
use Rattle.overlay_core.specs.TreeReleases.{AreNumberedInOrder, bare_release, bare_releases}
use Rattle.overlay_node.specs.Outputs.{Output}
use Rattle.overlay_node.specs.NodeViews.{AreHeldFits, HeldFits, HeldView, held_keys, is_held_of, release_count_of}
use Rattle.overlay_node.specs.Acting.{AreDistinct, StepsHeld, StepsWave, each_by, effects_of, held_index}
use Rattle.overlay_node.proofs.Numbering.{after_more, count_more, numbered_more}

-- ---- one of all

-- the key of each is among the keys
pub key_at : (hs : List HeldView) (i : ℕ) (h : HeldView) → i < length hs → h ≡ get_or hs i h → In {X = ℕ × ℕ} (h.stream, h.wave) (held_keys hs)
key_at [] i h lt is = absurd (omega (arith, lt))
key_at (x ∷ xs) zero h lt is = inl (ap (λ (y : HeldView). let v : ℕ × ℕ = (y.stream, y.wave) in v) is)
key_at (x ∷ xs) (suc i) h lt is = inr (key_at xs i h (omega (arith, lt)) is)

-- a wave that isn't among the keys has another key
key_else : (hs : List HeldView) (a b s w : ℕ) → (In {X = ℕ × ℕ} (s, w) (held_keys hs) → ⊥) → In {X = ℕ × ℕ} (a, b) (held_keys hs) → ((a == s) && (b == w)) ≡ false
key_else hs a b s w gone i = elim (cases_Bool ((a == s) && (b == w))) [
  | inl t ↦
      let u = and_parts (a == s) (b == w) t in
      absurd (gone (subst (λ (v : ℕ × ℕ). In v (held_keys hs)) (λ j. (eqb-true a s u.0 j, eqb-true b w u.1 j)) i))
  | inr f ↦ f
]

-- what is held of the others fits a book that has them as before
kept : (p : Plan) (n : ℕ) (before after : Book) (s w : ℕ) (hs : List HeldView) → (In {X = ℕ × ℕ} (s, w) (held_keys hs) → ⊥) → ((a b : ℕ) → ((a == s) && (b == w)) ≡ false → after a b ≡ before a b) → AreHeldFits p n before hs → AreHeldFits p n after hs
kept p n before after s w [] gone same f = tt
kept p n before after s w (h ∷ hs) gone same f = (
  subst (HeldFits p n h) (sym (same h.stream h.wave (key_else (h ∷ hs) h.stream h.wave s w gone (inl refl)))) f.0,
  kept p n before after s w hs (λ i. gone (inr i)) same f.1,
)

-- counts of other waves
count_kept : (s w : ℕ) (hs : List HeldView) (new : HeldView) (a b : ℕ) → new.stream ≡ s → new.wave ≡ w → ((a == s) && (b == w)) ≡ false → release_count_of (new ∷ hs) a b ≡ release_count_of hs a b
count_kept s w hs new a b es ew f = ap (λ c. cond c new.release_count (release_count_of hs a b)) ((λ i. (es i == a) && (ew i == b)) ∙ swapped s w a b ∙ f)

-- one thing held in place of another of its wave
record Replaces (p : Plan) (n : ℕ) (before after : Book) (hs : List HeldView) (h g : HeldView) (new : List HeldView) : Type 0 where
  keys : held_keys new ≡ held_keys hs
  fits : HeldFits p n g (after h.stream h.wave) → AreHeldFits p n before hs → AreHeldFits p n after new
  count_here : release_count_of hs h.stream h.wave ≡ h.release_count
  count : (a b : ℕ) → release_count_of new a b ≡ cond ((a == h.stream) && (b == h.wave)) g.release_count (release_count_of hs a b)

test_for : (x : HeldView) (s w a b : ℕ) → x.stream ≡ s → x.wave ≡ w → is_held_of a b x ≡ ((a == s) && (b == w))
test_for x s w a b es ew = swapped x.stream x.wave a b ∙ (λ i. (a == es i) && (b == ew i))

replaced : (p : Plan) (n : ℕ) (before after : Book) (hs : List HeldView) (i : ℕ) (h g : HeldView) → AreDistinct (held_keys hs) → ((a b : ℕ) → ((a == h.stream) && (b == h.wave)) ≡ false → after a b ≡ before a b)
    → i < length hs → h ≡ get_or hs i h → g.stream ≡ h.stream → g.wave ≡ h.wave → Replaces p n before after hs h g (set hs i g)
replaced p n before after [] i h g distinct same lt is gs gw = absurd (omega (arith, lt))
replaced p n before after (x ∷ xs) zero h g distinct same lt is gs gw =
    let xs' : x.stream ≡ h.stream = ap (λ (y : HeldView). y.stream) (sym is) in
    let xw' : x.wave ≡ h.wave = ap (λ (y : HeldView). y.wave) (sym is) in
    let gone : In {X = ℕ × ℕ} (h.stream, h.wave) (held_keys xs) → ⊥ = (λ k. distinct.0 (subst (λ (v : ℕ × ℕ). In v (held_keys xs)) (λ j. (sym xs' j, sym xw' j)) k)) in
    let own : is_held_of h.stream h.wave x ≡ true = and_from (x.stream == h.stream) (x.wave == h.wave) (eq-eqb x.stream h.stream xs') (eq-eqb x.wave h.wave xw') in
    record {
      keys = (λ j. ((gs ∙ sym xs') j, (gw ∙ sym xw') j) ∷ held_keys xs);
      fits = λ fg f. (subst (HeldFits p n g) (λ j. after (sym gs j) (sym gw j)) fg, kept p n before after h.stream h.wave xs gone same f.1);
      count_here = ap (λ c. cond c x.release_count (release_count_of xs h.stream h.wave)) own ∙ ap (λ (y : HeldView). y.release_count) (sym is);
      count = λ a b.
          (λ j. cond (test_for g h.stream h.wave a b gs gw j) g.release_count (release_count_of xs a b))
          ∙ shadow ((a == h.stream) && (b == h.wave)) g.release_count x.release_count (release_count_of xs a b)
          ∙ (λ j. cond ((a == h.stream) && (b == h.wave)) g.release_count (cond (sym (test_for x h.stream h.wave a b xs' xw') j) x.release_count (release_count_of xs a b)));
    }
replaced p n before after (x ∷ xs) (suc i) h g distinct same lt is gs gw =
    let r = replaced p n before after xs i h g distinct.1 same (omega (arith, lt)) is gs gw in
    let there : In {X = ℕ × ℕ} (h.stream, h.wave) (held_keys xs) = key_at xs i h (omega (arith, lt)) is in
    let other : ((x.stream == h.stream) && (x.wave == h.wave)) ≡ false = elim (cases_Bool ((x.stream == h.stream) && (x.wave == h.wave))) [
      | inl t ↦
          let u = and_parts (x.stream == h.stream) (x.wave == h.wave) t in
          absurd (distinct.0 (subst (λ (v : ℕ × ℕ). In v (held_keys xs)) (λ j. (sym (eqb-true x.stream h.stream u.0) j, sym (eqb-true x.wave h.wave u.1) j)) there))
      | inr f ↦ f
    ] in
    let apart : (a b : ℕ) → is_held_of a b x ≡ true → ((a == h.stream) && (b == h.wave)) ≡ true → ⊥ =
    (λ a b t u. let v = and_parts (a == h.stream) (b == h.wave) u in true≢false (sym t ∙ (λ j. is_held_of (eqb-true a h.stream v.0 j) (eqb-true b h.wave v.1 j) x) ∙ other)) in
    record {
      keys = ap (λ l. (x.stream, x.wave) ∷ l) r.keys;
      fits = λ fg f. (subst (HeldFits p n x) (sym (same x.stream x.wave other)) f.0, r.fits fg f.1);
      count_here = ap (λ c. cond c x.release_count (release_count_of xs h.stream h.wave)) other ∙ r.count_here;
      count = λ a b.
          ap (cond (is_held_of a b x) x.release_count) (r.count a b)
          ∙ crossed (is_held_of a b x) ((a == h.stream) && (b == h.wave)) x.release_count g.release_count (release_count_of xs a b) (apart a b);
    }

-- ---- counts

same_given : (hs : List HeldView) (h : HeldView) (k a b : ℕ) → release_count_of hs h.stream h.wave ≡ h.release_count → k ≡ h.release_count → cond ((a == h.stream) && (b == h.wave)) k (release_count_of hs a b) ≡ release_count_of hs a b
same_given hs h k a b here is = by ((a == h.stream) && (b == h.wave)) refl
  where
    by : (c : Bool) → ((a == h.stream) && (b == h.wave)) ≡ c → cond c k (release_count_of hs a b) ≡ release_count_of hs a b
    by false ec = refl
    by true ec = let v = and_parts (a == h.stream) (b == h.wave) ec in is ∙ sym here ∙ (λ j. release_count_of hs (sym (eqb-true a h.stream v.0) j) (sym (eqb-true b h.wave v.1) j))

more_given : (hs : List HeldView) (h : HeldView) (k a b : ℕ) (rs : List Release) (r : Release) → release_count_of hs h.stream h.wave ≡ h.release_count → r.stream ≡ h.stream → r.wave ≡ h.wave → k ≡ suc h.release_count → release_count_of hs a b ≡ length (of_wave a b rs)
    → cond ((a == h.stream) && (b == h.wave)) k (release_count_of hs a b) ≡ length (of_wave a b (rs ++ r ∷ []))
more_given hs h k a b rs r here rs' rw' is old =
    by ((a == h.stream) && (b == h.wave)) refl
    ∙ (λ j. cond ((a == sym rs' j) && (b == sym rw' j)) (suc (length (of_wave a b rs))) (length (of_wave a b rs)))
    ∙ (λ j. cond (sym (swapped r.stream r.wave a b) j) (suc (length (of_wave a b rs))) (length (of_wave a b rs)))
    ∙ sym (count_more a b rs r)
  where
    by : (c : Bool) → ((a == h.stream) && (b == h.wave)) ≡ c → cond c k (release_count_of hs a b) ≡ cond c (suc (length (of_wave a b rs))) (length (of_wave a b rs))
    by false ec = old
    by true ec =
        let v = and_parts (a == h.stream) (b == h.wave) ec in
        is ∙ ap suc (sym here ∙ (λ j. release_count_of hs (sym (eqb-true a h.stream v.0) j) (sym (eqb-true b h.wave v.1) j)) ∙ old)

pub length_keys : (hs : List HeldView) → length (held_keys hs) ≡ length hs
length_keys [] = refl
length_keys (h ∷ hs) = ap suc (length_keys hs)

-- as many are held where the keys are the same
pub same_length : (start now : List HeldView) → held_keys now ≡ held_keys start → length now ≡ length start
same_length start now keys = sym (length_keys now) ∙ ap length keys ∙ length_keys start

-- an index below the count at the start is one of what is held now
pub below_now : (start now : List HeldView) (i end len : ℕ) → held_keys now ≡ held_keys start → end ≡ len → len ≡ length start → i < end → i < length now
below_now start now i end len keys is all lt = subst (λ k. i < k) (is ∙ all ∙ sym (same_length start now keys)) lt

pub key_is : (hs : List HeldView) (i : ℕ) (h : HeldView) (d : ℕ × ℕ) → i < length hs → h ≡ get_or hs i h → get_or (held_keys hs) i d ≡ (h.stream, h.wave)
key_is [] i h d lt is = absurd (omega (arith, lt))
key_is (x ∷ xs) zero h d lt is = ap (λ (y : HeldView). let v : ℕ × ℕ = (y.stream, y.wave) in v) (sym is)
key_is (x ∷ xs) (suc i) h d lt is = key_is xs i h d (omega (arith, lt)) is

-- ---- a step

module _ (p : Plan) (n : ℕ) where
  -- a step on what is held at an index is a step on all
  pub steps_at : (does : Effects → Effects) (hs : List HeldView) (i : ℕ) (h g : HeldView) (b c : List WaveAt) (o q : Output) → AreDistinct (held_keys hs) → i < length hs → h ≡ get_or hs i h → AreHeldFits p n (book_of b) hs
      → StepsWave p n does h g b c o q → StepsHeld p n does hs (slice_set hs i g) b c o q
  steps_at does hs i h g b c o q distinct lt is all s =
      let r = replaced p n (book_of b) (book_of c) hs i h g distinct s.others lt is s.stream s.wave in
      record {
        held_keys = r.keys;
        keys = s.keys;
        fits = r.fits s.fits all;
        output = s.output;
        numbers = λ earlier counts numbered. elim s.gives [
          | inl k ↦ subst (AreNumberedInOrder earlier) (sym k.releases) numbered
          | inr k ↦ subst (AreNumberedInOrder earlier) (sym k.releases) (numbered_more earlier o.releases k.next numbered (k.number ∙ ap suc (sym r.count_here ∙ counts h.stream h.wave (key_at hs i h lt is) ∙ (λ j. length (of_wave (sym k.stream j) (sym k.wave j) (earlier ++ bare_releases o.releases))))))
        ];
        counts = λ earlier counts x y there.
            let old : release_count_of hs x y ≡ length (of_wave x y (earlier ++ bare_releases o.releases)) = counts x y (subst (In {X = ℕ × ℕ} (x, y)) r.keys there) in
            elim s.gives [
              | inl k ↦
                  r.count x y ∙ same_given hs h g.release_count x y r.count_here k.release_count ∙ old
                  ∙ ap (λ l. length (of_wave x y (earlier ++ bare_releases l))) (sym k.releases)
              | inr k ↦
                  r.count x y
                  ∙ more_given hs h g.release_count x y (earlier ++ bare_releases o.releases) (bare_release k.next) r.count_here k.stream k.wave k.release_count old
                  ∙ ap (λ l. length (of_wave x y l)) (sym (after_more earlier o.releases k.next))
                  ∙ ap (λ l. length (of_wave x y (earlier ++ bare_releases l))) (sym k.releases)
            ];
        work = s.work;
      }

  -- a step that is the same
  pub steps_as : (did does : Effects → Effects) (hs new : List HeldView) (b c : List WaveAt) (o q : Output) → did ≡ does → StepsHeld p n did hs new b c o q → StepsHeld p n does hs new b c o q
  steps_as did does hs new b c o q is h = subst (λ d. StepsHeld p n d hs new b c o q) is h

  -- a step that comes to the same
  pub steps_does : (did does : Effects → Effects) (hs new : List HeldView) (b c : List WaveAt) (o q : Output) → did (effects_of b o) ≡ does (effects_of b o) → StepsHeld p n did hs new b c o q → StepsHeld p n does hs new b c o q
  steps_does did does hs new b c o q is h = record {
    held_keys = h.held_keys;
    keys = h.keys;
    fits = h.fits;
    output = h.output;
    numbers = h.numbers;
    counts = h.counts;
    work = h.work ∙ is;
  }

  -- one step after another
  pub steps_then : (first second : Effects → Effects) (hs mid new : List HeldView) (b m c : List WaveAt) (o r q : Output) → StepsHeld p n first hs mid b m o r → StepsHeld p n second mid new m c r q → StepsHeld p n (λ k. second (first k)) hs new b c o q
  steps_then first second hs mid new b m c o r q x y = record {
    held_keys = y.held_keys ∙ x.held_keys;
    keys = y.keys ∙ x.keys;
    fits = y.fits;
    output = λ z. y.output (x.output z);
    numbers = λ earlier counts z. y.numbers earlier (x.counts earlier counts) (x.numbers earlier counts z);
    counts = λ earlier counts. y.counts earlier (x.counts earlier counts);
    work = y.work ∙ ap second x.work;
  }

  -- ---- a step for each wave, one after another

  each_more : (does : ℕ → ℕ → Effects → Effects) (vs : List (ℕ × ℕ)) (v : ℕ × ℕ) (k : Effects) → each_by does (vs ++ v ∷ []) k ≡ does v.0 v.1 (each_by does vs k)
  each_more does [] v k = refl
  each_more does (u ∷ us) v k = each_more does us v (does u.0 u.1 k)

  -- one wave more
  pub each_next : (does : ℕ → ℕ → Effects → Effects) (start now : List HeldView) (i : ℕ) (h g : HeldView) (b m c : List WaveAt) (o r q : Output)
      → AreDistinct (held_keys start) → StepsHeld p n (each_by does (take i (held_keys start))) start now b m o r
      → i < length now → h ≡ get_or now i h → StepsWave p n (does h.stream h.wave) h g m c r q
      → StepsHeld p n (each_by does (take (i + 1) (held_keys start))) start (slice_set now i g) b c o q
  each_next does start now i h g b m c o r q distinct so_far lt is s =
      let keys : List (ℕ × ℕ) = held_keys start in
      let low : i < length keys = subst (λ l. i < length l) so_far.held_keys (subst (λ k. i < k) (sym (length_keys now)) lt) in
      let here : get_or keys i (0, 0) ≡ (h.stream, h.wave) = ap (λ l. get_or l i (0, 0)) (sym so_far.held_keys) ∙ key_is now i h (0, 0) lt is in
      let more : take (i + 1) keys ≡ take i keys ++ (h.stream, h.wave) ∷ [] = take_more keys i (0, 0) low ∙ ap (λ (v : ℕ × ℕ). take i keys ++ v ∷ []) here in
      let next = steps_at (does h.stream h.wave) now i h g m c r q (subst AreDistinct (sym so_far.held_keys) distinct) lt is so_far.fits s in
      steps_does (λ k. does h.stream h.wave (each_by does (take i keys) k)) (each_by does (take (i + 1) keys)) start (slice_set now i g) b c o q
      (sym (each_more does (take i keys) (h.stream, h.wave) (effects_of b o)) ∙ ap (λ l. each_by does l (effects_of b o)) (sym more))
      (steps_then (each_by does (take i keys)) (does h.stream h.wave) start now (slice_set now i g) b m c o r q so_far next)

  -- all waves
  pub each_all : (does : ℕ → ℕ → Effects → Effects) (start now : List HeldView) (i : ℕ) (b c : List WaveAt) (o q : Output) → StepsHeld p n (each_by does (take i (held_keys start))) start now b c o q → length now ≤ i → StepsHeld p n (each_by does (held_keys start)) start now b c o q
  each_all does start now i b c o q h le =
      let l : length (held_keys start) ≡ length now = ap length (sym h.held_keys) ∙ length_keys now in
      subst (λ vs. StepsHeld p n (each_by does vs) start now b c o q) (take_all i (held_keys start) (omega (arith, l, le))) h

  -- what is held at an index fits
  pub fits_at : (book : Book) (hs : List HeldView) (i : ℕ) (h : HeldView) → i < length hs → h ≡ get_or hs i h → AreHeldFits p n book hs → HeldFits p n h (book h.stream h.wave)
  fits_at book [] i h lt is f = absurd (omega (arith, lt))
  fits_at book (x ∷ xs) zero h lt is f = subst (λ (y : HeldView). HeldFits p n y (book y.stream y.wave)) (sym is) f.0
  fits_at book (x ∷ xs) (suc i) h lt is f = fits_at book xs i h (omega (arith, lt)) is f.1

  -- ---- the book as a whole changes

  pub all_changed : (f : Wave → Wave) (hs : List HeldView) (b c : List WaveAt) → AllChange f b c → ((h : HeldView) (v : Wave) → HeldFits p n h v → HeldFits p n h (f v)) → AreHeldFits p n (book_of b) hs → AreHeldFits p n (book_of c) hs
  all_changed f [] b c change each h = tt
  all_changed f (x ∷ xs) b c change each h = (
    subst (HeldFits p n x) (sym (ap (λ (k : Book). k x.stream x.wave) change.book)) (each x (book_of b x.stream x.wave) h.0),
    all_changed f xs b c change each h.1,
  )

-- ---- the first thing held of a wave

pub index_there : (s w : ℕ) (hs : List HeldView) → In {X = ℕ × ℕ} (s, w) (held_keys hs) → held_index s w hs < length hs
index_there s w [] i = absurd i
index_there s w (h ∷ hs) i = go (is_held_of s w h) refl (λ j. index_there s w hs j) i
  where
    go : (c : Bool) → is_held_of s w h ≡ c → (In {X = ℕ × ℕ} (s, w) (held_keys hs) → held_index s w hs < length hs) → In {X = ℕ × ℕ} (s, w) (held_keys (h ∷ hs)) → cond c zero (suc (held_index s w hs)) < length (h ∷ hs)
    go true ec ih j = omega arith
    go false ec ih (inl k) = absurd (true≢false (sym (and_from (h.stream == s) (h.wave == w) (eq-eqb h.stream s (ap (λ (v : ℕ × ℕ). v.0) (sym k))) (eq-eqb h.wave w (ap (λ (v : ℕ × ℕ). v.1) (sym k)))) ∙ ec))
    go false ec ih (inr j) = let q = ih j in omega (arith, q)

-- what is held at a wave's index is held of the wave
named_at : (s w : ℕ) (hs : List HeldView) (h : HeldView) → held_index s w hs < length hs → h ≡ get_or hs (held_index s w hs) h → (h.stream ≡ s) × (h.wave ≡ w)
named_at s w [] h lt is = absurd (omega (arith, lt))
named_at s w (x ∷ xs) h lt is = go (is_held_of s w x) refl (λ l k. named_at s w xs h l k) lt is
  where
    go : (c : Bool) → is_held_of s w x ≡ c → (held_index s w xs < length xs → h ≡ get_or xs (held_index s w xs) h → (h.stream ≡ s) × (h.wave ≡ w)) → cond c zero (suc (held_index s w xs)) < length (x ∷ xs) → h ≡ get_or (x ∷ xs) (cond c zero (suc (held_index s w xs))) h → (h.stream ≡ s) × (h.wave ≡ w)
    go true ec ih l k = let u = and_parts (x.stream == s) (x.wave == w) ec in (ap (λ (y : HeldView). y.stream) k ∙ eqb-true x.stream s u.0, ap (λ (y : HeldView). y.wave) k ∙ eqb-true x.wave w u.1)
    go false ec ih l k = ih (omega (arith, l)) k

-- what a search found of a wave
pub record Finds (s w : ℕ) (hs : List HeldView) (i : ℕ) (h : HeldView) : Type 0 where
  pub below : i < length hs
  pub item : h ≡ get_or hs i h
  pub stream : h.stream ≡ s
  pub wave : h.wave ≡ w

pub finds : (s w : ℕ) (hs : List HeldView) (i : ℕ) (h : HeldView) → In {X = ℕ × ℕ} (s, w) (held_keys hs) → i ≡ held_index s w hs → h ≡ get_or hs i h → Finds s w hs i h
finds s w hs i h there at is =
    let lt : held_index s w hs < length hs = index_there s w hs there in
    let names = named_at s w hs h lt (subst (λ k. h ≡ get_or hs k h) at is) in
    record {
      below = subst (λ k. k < length hs) (sym at) lt;
      item = is;
      stream = names.0;
      wave = names.1;
    }

-- a step on what was found
pub steps_found : (p : Plan) (n : ℕ) (does : ℕ → ℕ → Effects → Effects) (s w : ℕ) (hs : List HeldView) (i : ℕ) (h g : HeldView) (b c : List WaveAt) (o q : Output) → AreDistinct (held_keys hs) → AreHeldFits p n (book_of b) hs → Finds s w hs i h
    → StepsWave p n (does h.stream h.wave) h g b c o q → StepsHeld p n (does s w) hs (slice_set hs i g) b c o q
steps_found p n does s w hs i h g b c o q distinct all found step =
    steps_as p n (does h.stream h.wave) (does s w) hs (slice_set hs i g) b c o q (λ j. does (found.stream j) (found.wave j))
    (steps_at p n (does h.stream h.wave) hs i h g b c o q distinct found.below found.item all step)

-- what was found is of a wave of the book
pub found_in : (s w : ℕ) (hs : List HeldView) (i : ℕ) (h : HeldView) (b : List WaveAt) → held_keys hs ≡ keys_of b → Finds s w hs i h → IsIn h.stream h.wave b
found_in s w hs i h b keys found = subst (In {X = ℕ × ℕ} (h.stream, h.wave)) keys (key_at hs i h found.below found.item)

pub item_in : (hs : List HeldView) (i : ℕ) (h : HeldView) (b : List WaveAt) → held_keys hs ≡ keys_of b → i < length hs → h ≡ get_or hs i h → IsIn h.stream h.wave b
item_in hs i h b keys lt is = subst (In {X = ℕ × ℕ} (h.stream, h.wave)) keys (key_at hs i h lt is)
