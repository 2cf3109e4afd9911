-- Totals: the order of what is counted doesn't matter.
use Rattle.std.proofs.Common.{◌≡◌, inl, inr, Bool, true, false, cond, List, [], ◌∷◌, ap, refl, sym, ◌∙◌, Option, Some, None, filter, arith, subst}
use Rattle.std.proofs.Math.IntN.{ℤ}
use Rattle.std.specs.Prelude.{⊤, ◌+ℤ◌}
use Rattle.std.specs.Int.{int_min, int_max}
use Rattle.std.proofs.lemmas.Int.{ints, clamps}
use Rattle.overlay_setup.specs.NodeSets.{In}
use Rattle.rank_sums.specs.declared.fold.Fold.{Fold}
use Rattle.rank_sums.specs.declared.fold.Fold.TheVariants.{Sum, Min, Max, Count}
use Rattle.rank_sums.specs.Folds.{join, joined, total}

min-comm : (a b : ℤ) → int_min a b ≡ int_min b a
min-comm a b = omega (arith, ints, clamps)

max-comm : (a b : ℤ) → int_max a b ≡ int_max b a
max-comm a b = omega (arith, ints, clamps)

min-assoc : (a b c : ℤ) → int_min (int_min a b) c ≡ int_min a (int_min b c)
min-assoc a b c = omega (arith, ints, clamps)

max-assoc : (a b c : ℤ) → int_max (int_max a b) c ≡ int_max a (int_max b c)
max-assoc a b c = omega (arith, ints, clamps)

sum-comm : (a b : ℤ) → (a +ℤ b) ≡ (b +ℤ a)
sum-comm a b = omega (arith, ints)

sum-assoc : (a b c : ℤ) → ((a +ℤ b) +ℤ c) ≡ (a +ℤ (b +ℤ c))
sum-assoc a b c = omega (arith, ints)

join-comm : (f : Fold) (a b : ℤ) → join f a b ≡ join f b a
join-comm Sum a b = sum-comm a b
join-comm Min a b = min-comm a b
join-comm Max a b = max-comm a b
join-comm Count a b = sum-comm a b

join-assoc : (f : Fold) (a b c : ℤ) → join f (join f a b) c ≡ join f a (join f b c)
join-assoc Sum a b c = sum-assoc a b c
join-assoc Min a b c = min-assoc a b c
join-assoc Max a b c = max-assoc a b c
join-assoc Count a b c = sum-assoc a b c

pub joined-none : (f : Fold) (a : Option ℤ) → joined f a None ≡ a
joined-none f None = refl
joined-none f (Some a) = refl

pub joined-comm : (f : Fold) (a b : Option ℤ) → joined f a b ≡ joined f b a
joined-comm f None None = refl
joined-comm f None (Some b) = refl
joined-comm f (Some a) None = refl
joined-comm f (Some a) (Some b) = ap Some (join-comm f a b)

pub joined-assoc : (f : Fold) (a b c : Option ℤ) → joined f (joined f a b) c ≡ joined f a (joined f b c)
joined-assoc f None b c = refl
joined-assoc f (Some a) None c = refl
joined-assoc f (Some a) (Some b) None = refl
joined-assoc f (Some a) (Some b) (Some c) = ap Some (join-assoc f a b c)

joined-swap : (f : Fold) (a b c d : Option ℤ) → joined f (joined f a b) (joined f c d) ≡ joined f (joined f a c) (joined f b d)
joined-swap f a b c d =
    joined-assoc f a b (joined f c d)
    ∙ ap (joined f a) (sym (joined-assoc f b c d) ∙ ap (λ x. joined f x d) (joined-comm f b c) ∙ joined-assoc f c b d)
    ∙ sym (joined-assoc f a c (joined f b d))

-- each counts for the same
pub total-same : {X : Type 0} (f : Fold) (g h : X → Option ℤ) (xs : List X) → ((x : X) → In x xs → g x ≡ h x) → total f g xs ≡ total f h xs
total-same f g h [] same = refl
total-same f g h (x ∷ xs) same = ap (λ a. joined f a (total f g xs)) (same x (inl refl)) ∙ ap (joined f (h x)) (total-same f g h xs (λ y i. same y (inr i)))

-- nothing counts
pub total-none : {X : Type 0} (f : Fold) (g : X → Option ℤ) (xs : List X) → ((x : X) → In x xs → g x ≡ None) → total f g xs ≡ None
total-none f g [] none = refl
total-none f g (x ∷ xs) none = ap (λ a. joined f a (total f g xs)) (none x (inl refl)) ∙ total-none f g xs (λ y i. none y (inr i))

pub total-joined : {X : Type 0} (f : Fold) (g h : X → Option ℤ) (xs : List X) → total f (λ x. joined f (g x) (h x)) xs ≡ joined f (total f g xs) (total f h xs)
total-joined f g h [] = refl
total-joined f g h (x ∷ xs) = ap (joined f (joined f (g x) (h x))) (total-joined f g h xs) ∙ joined-swap f (g x) (h x) (total f g xs) (total f h xs)

-- two lists, one within the other, in either order
pub total-exchange : {X Y : Type 0} (f : Fold) (g : X → Y → Option ℤ) (xs : List X) (ys : List Y) → total f (λ x. total f (g x) ys) xs ≡ total f (λ y. total f (λ x. g x y) xs) ys
total-exchange f g [] ys = sym (total-none f (λ y. None) ys (λ y i. refl))
total-exchange f g (x ∷ xs) ys = ap (joined f (total f (g x) ys)) (total-exchange f g xs ys) ∙ sym (total-joined f (g x) (λ y. total f (λ z. g z y) xs) ys)

-- ---- of a list that has each thing once

-- each element stands once
abbrev pub IsOnce : {X : Type 0} → List X → Type 0
IsOnce [] = ⊤
IsOnce (x ∷ xs) = (In x xs → ⊥) × IsOnce xs

-- what passes a test counts
abbrev pub where_so : Bool → Option ℤ → Option ℤ
where_so b a = cond b a None

-- where one thing alone passes the test, it alone counts
pub total-one : {X : Type 0} (f : Fold) (test : X → Bool) (g : X → Option ℤ) (xs : List X) (x : X) → IsOnce xs → In x xs → test x ≡ true → ((y : X) → In y xs → test y ≡ true → y ≡ x) → total f (λ y. where_so (test y) (g y)) xs ≡ g x
total-one f test g [] x once i t alone = absurd i
total-one f test g (z ∷ zs) x once (inl e) t alone =
    let h : test z ≡ true = ap test (sym e) ∙ t in
    ap (λ b. joined f (where_so b (g z)) (total f (λ y. where_so (test y) (g y)) zs)) h
    ∙ ap (joined f (g z)) (total-none f (λ y. where_so (test y) (g y)) zs (λ y i. out y i (test y) refl))
    ∙ joined-none f (g z) ∙ ap g (sym e)
  where
    out : (y : _) → In y zs → (b : Bool) → test y ≡ b → where_so b (g y) ≡ None
    out y i true s = absurd (once.0 (subst (λ k. In k zs) (alone y (inr i) s ∙ e) i))
    out y i false s = refl
total-one f test g (z ∷ zs) x once (inr i) t alone = go (test z) refl (total-one f test g zs x once.1 i t (λ y j. alone y (inr j)))
  where
    go : (b : Bool) → test z ≡ b → total f (λ y. where_so (test y) (g y)) zs ≡ g x → joined f (where_so (test z) (g z)) (total f (λ y. where_so (test y) (g y)) zs) ≡ g x
    go true s ih = absurd (once.0 (subst (λ k. In k zs) (sym (alone z (inl refl) s)) i))
    go false s ih = ap (λ b. joined f (where_so b (g z)) (total f (λ y. where_so (test y) (g y)) zs)) s ∙ ih

-- what a test lets through
pub total-filter : {X : Type 0} (f : Fold) (test : X → Bool) (g : X → Option ℤ) (xs : List X) → total f g (filter test xs) ≡ total f (λ y. where_so (test y) (g y)) xs
total-filter f test g [] = refl
total-filter f test g (z ∷ zs) = go (test z) (total-filter f test g zs)
  where
    go : (b : Bool) → total f g (filter test zs) ≡ total f (λ y. where_so (test y) (g y)) zs → total f g (cond b (z ∷ filter test zs) (filter test zs)) ≡ joined f (where_so b (g z)) (total f (λ y. where_so (test y) (g y)) zs)
    go true ih = ap (joined f (g z)) ih
    go false ih = ih
