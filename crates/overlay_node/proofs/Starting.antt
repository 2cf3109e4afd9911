-- How a node starts.
use Rattle.std.proofs.Common.{◌≡◌, inl, inr, ℕ, ◌+◌, ◌<◌, Bool, true, false, cond, List, [], ◌∷◌, ◌++◌, length, get_or, drop, refl, sym, ap, subst, ◌∙◌, arith}
use Rattle.std.specs.List.{AllByRecursion}
use Rattle.rank_set.specs.Ranks.{none}
use Rattle.overlay_setup.specs.NodeSets.{In, up_to}
use Rattle.stat_plan.specs.Plans.{Plan, waves_of}
use Rattle.overlay_setup.specs.Scripts.{Stream}
use Rattle.stat_plan.specs.Machine.Waves.{Book}
use Rattle.stat_plan.specs.declared.machine.Timer.TheVariants.{Off}
use Rattle.stat_plan.proofs.InLists.{append_left, append_right, in_at, in_map, up_to_in}
use Rattle.wave_resend.specs.Books.{first_waves, untouched}
use Rattle.wave_resend.proofs.Starting.{passing_waves, stream_taken}
use Rattle.overlay_node.specs.NodeViews.{AreHeldFits, HeldFits, HeldView, OpenFits, held_keys, is_held_of, release_count_of}
use Rattle.overlay_node.specs.Starts.{AreFresh, HasWaves, IsFresh}

-- ---- the waves of one stream

-- a wave added at the end adds its key at the end
pub keys-push : (es new : List HeldView) (e : HeldView) → new ≡ es ++ e ∷ [] → held_keys new ≡ held_keys es ++ (e.stream, e.wave) ∷ []
keys-push es new e is = ap held_keys is ∙ go es
  where
    go : (es : List HeldView) → held_keys (es ++ e ∷ []) ≡ held_keys es ++ (e.stream, e.wave) ∷ []
    go [] = refl
    go (d ∷ ds) = ap (λ (l : List (ℕ × ℕ)). (d.stream, d.wave) ∷ l) (go ds)

-- fresh waves with a fresh one at the end
pub fresh_push : (p : Plan) (es new : List HeldView) (e : HeldView) → new ≡ es ++ e ∷ [] → AllByRecursion (IsFresh p) es → IsFresh p e → AllByRecursion (IsFresh p) new
fresh_push p es new e is h k = subst (λ (l : List HeldView). AllByRecursion (IsFresh p) l) (sym is) (go es h)
  where
    go : (es : List HeldView) → AllByRecursion (IsFresh p) es → AllByRecursion (IsFresh p) (es ++ e ∷ [])
    go [] h = (k, tt)
    go (d ∷ ds) h = (h.0, go ds h.1)

-- each wave of a stream is among those of all streams
wave_in : (xs : List Stream) (x : Stream) (w : ℕ) → In {X = Stream} x xs → w < x.waves → In {X = ℕ × ℕ} (x.number, w) (waves_of xs)
wave_in [] x w i lt = absurd i
wave_in (y ∷ ys) x w (inl e) lt =
    subst (λ (z : Stream). In {X = ℕ × ℕ} (x.number, w) (first_waves z.number z.waves ++ waves_of ys)) e
    (append_left (x.number, w) (first_waves x.number x.waves) (waves_of ys) (in_map (λ (v : ℕ). (x.number, v)) w (up_to x.waves) (up_to_in x.waves w lt)))
wave_in (y ∷ ys) x w (inr i) lt = append_right (x.number, w) (first_waves y.number y.waves) (waves_of ys) (wave_in ys x w i lt)

-- the plan has all waves of each of its streams
pub has_waves : (p : Plan) (xs : List Stream) (i : ℕ) (x : Stream) (s waves : ℕ) → xs ≡ p.streams → i < length xs → x ≡ get_or xs i x → s ≡ x.number → waves ≡ x.waves → HasWaves p s waves
has_waves p xs i x s waves same lt is es ew w small =
    let there : In {X = Stream} x xs = subst (λ (z : Stream). In {X = Stream} z xs) (sym is) (in_at xs i x lt) in
    subst (λ (t : ℕ). In {X = ℕ × ℕ} (t, w) (waves_of p.streams)) (sym es)
    (subst (λ (ys : List Stream). In {X = ℕ × ℕ} (x.number, w) (waves_of ys)) same (wave_in xs x w there (subst (λ (m : ℕ). w < m) ew small)))

-- ---- the waves of the streams that are served

-- what is held to which the waves of a stream that passes were added have the keys of the streams so far
pub held_taken : (test : ℕ → Bool) (xs : List Stream) (i : ℕ) (x : Stream) (s waves : ℕ) (old new : List HeldView) → i < length xs → x ≡ get_or xs i x → s ≡ x.number → waves ≡ x.waves → test s ≡ true → held_keys new ≡ held_keys old ++ first_waves s waves → held_keys old ++ passing_waves test (drop i xs) ≡ passing_waves test xs → held_keys new ++ passing_waves test (drop (i + 1) xs) ≡ passing_waves test xs
held_taken test xs i x s waves old new lt is es ew t more left =
    (λ j. (more ∙ (λ k. held_keys old ++ first_waves (es k) (ew k))) j ++ passing_waves test (drop (i + 1) xs))
    ∙ stream_taken test xs i x (held_keys old) lt is (ap test (sym es) ∙ t) left

-- ---- waves of which nothing has come in

-- there was no release of a wave
pub fresh_given : (p : Plan) (hs : List HeldView) → AreFresh p hs → (s w : ℕ) → release_count_of hs s w ≡ 0
fresh_given p [] h s w = refl
fresh_given p (x ∷ xs) h s w = (λ i. cond (is_held_of s w x) (h.0.release_count i) (fresh_given p xs h.1 s w i)) ∙ both (is_held_of s w x)
  where
    both : (b : Bool) → ◌≡◌ {A = ℕ} (cond b 0 0) 0
    both true = refl
    both false = refl

fresh_fits : (p : Plan) (n : ℕ) (x : HeldView) → IsFresh p x → OpenFits p n x none none Off
fresh_fits p n x f = record {
  part = f.part;
  is = f.is;
  stream = f.stream;
  wave = f.wave;
  merge = f.merge;
  covers = f.empty;
  within = λ r there. there;
  within_limit = let a : x.release_count ≡ 0 = f.release_count in omega (arith, a);
  at_front = λ low. f.release_count;
  timer_fits = tt;
}

-- what is held fits a book of untouched waves
pub fresh_all : (p : Plan) (n : ℕ) (book : Book) (hs : List HeldView) → ◌≡◌ {A = Book} book (λ s w. untouched) → AreFresh p hs → AreHeldFits p n book hs
fresh_all p n book [] e h = tt
fresh_all p n book (x ∷ xs) e h = (subst (HeldFits p n x) (sym (ap (λ (k : Book). k x.stream x.wave) e)) (fresh_fits p n x h.0), fresh_all p n book xs e h.1)
