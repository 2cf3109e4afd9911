-- Frames that two paths share.
use Rattle.std.proofs.Common.{◌≡◌, ℕ, zero, suc, ◌+◌, ◌-◌, ◌<◌, ◌≤◌, false, true≢false, List, [], ◌∷◌, ◌++◌, length, drop, take, refl, sym, ap, ◌∙◌, arith, append-nil, inl, inr}
use Rattle.std.specs.Prelude.{slice_get, Some, cond}
use Rattle.std.specs.declared.cmp.Ordering.{Ordering}
use Rattle.std.specs.declared.cmp.Ordering.TheVariants.{Less, Equal, Greater}
use Rattle.std.specs.Ordering.{is_eq, ordering_reverse, nat_cmp, eq_by_cmp}
use Rattle.std.proofs.lemmas.List.{append_assoc, length-drop}
use Rattle.std.proofs.lemmas.Bool.{cases_lt}
use Rattle.std.proofs.lemmas.Option.{same_Some}
use Rattle.std.specs.Cmp.Lexicographic.{slice_cmp, nat_list_cmp_total}
use Rattle.call_path.specs.Path.{Path, shared_len}
use Rattle.call_path.proofs.Shared.{shared_within}
use Rattle.call_path.proofs.Orders.{from_frame}
use Rattle.prefix_tree.specs.Owned.{by_order}
use Rattle.arena_tree.specs.RowForest.{frame_cmp}
use Rattle.arena_tree.specs.ChainForest.{FrameSplit, no_common, with_common, split_frames, split_parts}
use Rattle.arena_tree.proofs.Changes.{none_some}
use Rattle.arena_tree.proofs.Orders.{cmp_itself}

drop_end : (p : Path) (i : ℕ) → length p ≤ i → drop i p ≡ []
drop_end [] zero e = refl
drop_end [] (suc i) e = refl
drop_end (g ∷ p) zero e = absurd (omega (arith, e))
drop_end (g ∷ p) (suc i) e = drop_end p i (omega (arith, e))

take_at : (p : Path) (n : ℕ) (f : List ℕ) → slice_get p n ≡ Some f → take (n + 1) p ≡ take n p ++ f ∷ []
take_at [] n f e = absurd (none_some f e)
take_at (g ∷ p) zero f e = ap (λ h. h ∷ []) (same_Some g f e)
take_at (g ∷ p) (suc n) f e =
    let m : suc n + 1 ≡ suc (n + 1) = omega arith in
    ap (λ k. take k (g ∷ p)) m ∙ ap (λ (q : Path). g ∷ q) (take_at p n f e)

get_drop : (p : Path) (i n : ℕ) (f : List ℕ) → slice_get p (i + n) ≡ Some f → slice_get (drop i p) n ≡ Some f
get_drop p zero n f e = ap (slice_get p) (omega arith) ∙ e
get_drop [] (suc i) n f e = absurd (none_some f e)
get_drop (g ∷ p) (suc i) n f e =
    let m : suc (i + n) ≡ suc i + n = omega arith in
    get_drop p i n f (ap (slice_get (g ∷ p)) m ∙ e)

-- frames before both
abbrev pub before : Path → FrameSplit → FrameSplit
before p s = split_parts (p ++ s.common) s.own s.other

module _ (p q : Path) (i j n : ℕ) where
  -- what is known after n frames
  abbrev pub Known : Type 0
  Known = split_frames (drop i p) (drop j q) ≡ before (take n (drop i p)) (split_frames (drop (i + n) p) (drop (j + n) q))

  pub one_more : Known → (f : List ℕ) → slice_get p (i + n) ≡ Some f → slice_get q (j + n) ≡ Some f → split_frames (drop i p) (drop j q) ≡ before (take (n + 1) (drop i p)) (split_frames (drop (i + (n + 1)) p) (drop (j + (n + 1)) q))
  one_more is f a b =
      let ni : (i + n) + 1 ≡ i + (n + 1) = omega arith in
      let nj : (j + n) + 1 ≡ j + (n + 1) = omega arith in
      is ∙ ap (before (take n (drop i p))) ((λ k. split_frames (from_frame p (i + n) f a k) (from_frame q (j + n) f b k)) ∙ same (drop ((i + n) + 1) p) (drop ((j + n) + 1) q))
      ∙ (λ k. split_parts (sym (append_assoc (take n (drop i p)) (f ∷ []) (split_frames (drop (ni k) p) (drop (nj k) q)).common) k) (split_frames (drop (ni k) p) (drop (nj k) q)).own (split_frames (drop (ni k) p) (drop (nj k) q)).other)
      ∙ ap (λ (r : Path). before r (split_frames (drop (i + (n + 1)) p) (drop (j + (n + 1)) q))) (sym (take_at (drop i p) n f (get_drop p i n f a)))
    where
      same : (u v : Path) → split_frames (f ∷ u) (f ∷ v) ≡ with_common f (split_frames u v)
      same u v = rw (cmp_itself f) refl

  -- frames that differ
  pub parts : Known → (f g : List ℕ) → slice_get p (i + n) ≡ Some f → slice_get q (j + n) ≡ Some g → is_eq (frame_cmp g f) ≡ false → split_frames (drop i p) (drop j q) ≡ split_parts (take n (drop i p)) (drop (i + n) p) (drop (j + n) q)
  parts is f g a b off =
      is ∙ ap (before (take n (drop i p))) ((λ k. split_frames (from_frame p (i + n) f a k) (from_frame q (j + n) g b k)) ∙ other (drop ((i + n) + 1) p) (drop ((j + n) + 1) q) ∙ (λ k. no_common (sym (from_frame p (i + n) f a) k) (sym (from_frame q (j + n) g b) k)))
      ∙ (λ k. split_parts (append-nil (take n (drop i p)) k) (drop (i + n) p) (drop (j + n) q))
    where
      by : (r : Ordering) (s t : FrameSplit) → is_eq r ≡ false → by_order r s t s ≡ s
      by Less s t e = refl
      by Equal s t e = absurd (true≢false e)
      by Greater s t e = refl

      other : (u v : Path) → split_frames (f ∷ u) (g ∷ v) ≡ no_common (f ∷ u) (g ∷ v)
      other u v = by (frame_cmp g f) (no_common (f ∷ u) (g ∷ v)) (with_common f (split_frames u v)) off

  -- where one path ends
  pub finish : Known → i + n ≤ length p → j + n ≤ length q → (i + n < length p → j + n < length q → ⊥) → split_frames (drop i p) (drop j q) ≡ split_parts (take n (drop i p)) (drop (i + n) p) (drop (j + n) q)
  finish is a b row_marks = is ∙ ap (before (take n (drop i p))) (elim (cases_lt (i + n) (length p)) [
    | inr ge ↦ (λ k. split_frames (drop_end p (i + n) ge k) (drop (j + n) q)) ∙ (λ k. no_common (sym (drop_end p (i + n) ge) k) (drop (j + n) q))
    | inl lt ↦ elim (cases_lt (j + n) (length q)) [
      | inl less ↦ absurd (row_marks lt less)
      | inr ge ↦ (λ k. split_frames (drop (i + n) p) (drop_end q (j + n) ge k)) ∙ right (drop (i + n) p) ∙ (λ k. no_common (drop (i + n) p) (sym (drop_end q (j + n) ge) k))
    ]
  ]) ∙ (λ k. split_parts (append-nil (take n (drop i p)) k) (drop (i + n) p) (drop (j + n) q))
    where
      right : (u : Path) → split_frames u [] ≡ no_common u []
      right [] = refl
      right (f ∷ u) = refl

pub some_at : (p : Path) (i : ℕ) → i < length p → (f : List ℕ) × (slice_get p i ≡ Some f)
some_at [] i lt = absurd (omega (arith, lt))
some_at (g ∷ p) zero lt = (g, refl)
some_at (g ∷ p) (suc i) lt = some_at p i (omega (arith, lt))

-- the parts of two paths, by how many frames they share
abbrev parts_of : ℕ → Path → Path → FrameSplit
parts_of n p q = split_parts (take n p) (drop n p) (drop n q)

eq_turned : (f g : List ℕ) → eq_by_cmp (slice_cmp nat_cmp) f g ≡ is_eq (frame_cmp g f)
eq_turned f g = ap is_eq (nat_list_cmp_total.antisymm f g) ∙ turned_eq (frame_cmp g f)
  where
    turned_eq : (r : Ordering) → is_eq (ordering_reverse r) ≡ is_eq r
    turned_eq Less = refl
    turned_eq Equal = refl
    turned_eq Greater = refl

parts_by : (r : Ordering) (f g : List ℕ) (p q : Path) (k : ℕ) → split_frames p q ≡ parts_of k p q
    → by_order r (no_common (f ∷ p) (g ∷ q)) (with_common f (split_frames p q)) (no_common (f ∷ p) (g ∷ q)) ≡ parts_of (cond (is_eq r) (suc k) 0) (f ∷ p) (g ∷ q)
parts_by Less f g p q k is = refl
parts_by Equal f g p q k is = ap (with_common f) is
parts_by Greater f g p q k is = refl

pub split_shared : (p q : Path) → split_frames p q ≡ parts_of (shared_len p q) p q
split_shared [] q = refl
split_shared (f ∷ p) [] = refl
split_shared (f ∷ p) (g ∷ q) =
    parts_by (frame_cmp g f) f g p q (shared_len p q) (split_shared p q) ∙ ap (λ t. parts_of (cond t (suc (shared_len p q)) 0) (f ∷ p) (g ∷ q)) (sym (eq_turned f g))

pub shared_turned : (p q : Path) → shared_len p q ≡ shared_len q p
shared_turned [] [] = refl
shared_turned [] (g ∷ q) = refl
shared_turned (f ∷ p) [] = refl
shared_turned (f ∷ p) (g ∷ q) = let inner = shared_turned p q in λ i. cond (eq_turned f g i) (suc (inner i)) 0

drop_nil : (k : ℕ) → drop {A = List ℕ} k [] ≡ []
drop_nil zero = refl
drop_nil (suc k) = refl

drop_twice : (a k : ℕ) (p : Path) → drop k (drop a p) ≡ drop (a + k) p
drop_twice zero k p = let n : k ≡ 0 + k = omega arith in ap (λ j. drop j p) n
drop_twice (suc a) k [] = drop_nil k ∙ sym (drop_nil (suc a + k))
drop_twice (suc a) k (g ∷ p) = let n : suc (a + k) ≡ suc a + k = omega arith in drop_twice a k p ∙ ap (λ j. drop j (g ∷ p)) n

-- what two paths share behind a frame that is the same
pub record SharesBehind (p q : Path) (i j n : ℕ) : Type 0 where
  pub within_own : i + 1 + n ≤ length p
  pub within_other : j + 1 + n ≤ length q
  pub split : split_frames (drop (i + 1) p) (drop (j + 1) q) ≡ split_parts (take n (drop (i + 1) p)) (drop (i + 1 + n) p) (drop (j + 1 + n) q)

shared_behind : (p q : Path) (i j n : ℕ) → i < length p → j < length q → n ≡ shared_len (drop (i + 1) p) (drop (j + 1) q) → SharesBehind p q i j n
shared_behind p q i j n lt_p lt_q is =
    let within = shared_within (drop (i + 1) p) (drop (j + 1) q) in
    let long = length-drop (i + 1) p in
    let long_q = length-drop (j + 1) q in
    record {
      within_own = omega (arith, within.0, long, lt_p, is);
      within_other = omega (arith, within.1, long_q, lt_q, is);
      split = split_shared (drop (i + 1) p) (drop (j + 1) q) ∙ ap (λ k. parts_of k (drop (i + 1) p) (drop (j + 1) q)) (sym is)
          ∙ (λ k. split_parts (take n (drop (i + 1) p)) (drop_twice (i + 1) n p k) (drop_twice (j + 1) n q k));
    }

one_shared : (f : List ℕ) (p q : Path) → shared_len (f ∷ p) (f ∷ q) ≡ suc (shared_len p q)
one_shared f p q = ap (λ r. cond (is_eq r) (suc (shared_len p q)) 0) (cmp_itself f)

pub first_shared : (p q : Path) (i j : ℕ) → i < length p → j < length q → slice_get p i ≡ slice_get q j → shared_len (drop i p) (drop j q) ≡ suc (shared_len (drop (i + 1) p) (drop (j + 1) q))
first_shared p q i j lt_p lt_q same =
    let at : (f : List ℕ) × (slice_get p i ≡ Some f) = some_at p i lt_p in
    (λ k. shared_len (from_frame p i at.0 at.1 k) (from_frame q j at.0 (sym same ∙ at.1) k)) ∙ one_shared at.0 (drop (i + 1) p) (drop (j + 1) q)

pub shares_behind : (p q : Path) (i j n : ℕ) → i < length p → j < length q → slice_get p i ≡ slice_get q j → n ≡ shared_len (drop i p) (drop j q) → SharesBehind p q i j (n - 1)
shares_behind p q i j n lt_p lt_q same is =
    let e = first_shared p q i j lt_p lt_q same in
    shared_behind p q i j (n - 1) lt_p lt_q (omega (arith, is, e))
