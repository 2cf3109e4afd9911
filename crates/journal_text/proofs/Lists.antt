-- What is found in a list, and what a list of lists holds.
use Rattle.std.proofs.Common.{◌≡◌, ◌==◌, eq-eqb, ℕ, Bool, true, false, cond, List, [], ◌∷◌, None, Some, inl, inr, refl, sym, ap, ◌∙◌, subst}
use Rattle.std.specs.Prelude.{find}
use Rattle.std.specs.List.{flat_map}
use Rattle.std.proofs.lemmas.Bool.{true≢false}
use Rattle.overlay_setup.specs.NodeSets.{In}
use Rattle.stat_plan.proofs.InLists.{in_append, append_left, append_right}

-- a text's first byte
abbrev first : List ℕ → ℕ
first [] = 0
first (b ∷ rest) = b

-- texts that begin with different bytes differ
pub differ : {one other : List ℕ} → one ≡ other → (first one == first other) ≡ false → ⊥
differ {one} {other} e not_same = true≢false (sym (eq-eqb (first one) (first other) (ap first e)) ∙ not_same)

-- nothing is found where no element passes
pub find_none : {X : Type 0} (test : X → Bool) (xs : List X) → ((x : X) → In x xs → test x ≡ true → ⊥) → find test xs ≡ None
find_none test [] never = refl
find_none test (y ∷ ys) never = by (test y) refl (find_none test ys (λ x there. never x (inr there)))
  where
    by : (b : Bool) → test y ≡ b → find test ys ≡ None → cond b (Some y) (find test ys) ≡ None
    by true e later = absurd (never y (inl refl) e)
    by false e later = later

-- the one element that passes is found
pub find_only : {X : Type 0} (test : X → Bool) (xs : List X) (x : X) → In x xs → test x ≡ true → ((y : X) → In y xs → test y ≡ true → y ≡ x) → find test xs ≡ Some x
find_only test [] x there passes only = absurd there
find_only {X} test (y ∷ ys) x there passes only = by (test y) refl there (λ later. find_only test ys x later passes (λ z i. only z (inr i)))
  where
    by : (b : Bool) → test y ≡ b → In x (y ∷ ys) → (In x ys → find test ys ≡ Some x) → cond b (Some y) (find test ys) ≡ Some x
    by true e i later = ap Some (only y (inl refl) e)
    by false e (inl is) later = absurd (true≢false (sym passes ∙ ap test is ∙ e))
    by false e (inr i) later = later i

-- what is found passes
pub find_passes : {X : Type 0} (test : X → Bool) (xs : List X) (x : X) → find test xs ≡ Some x → test x ≡ true
find_passes test [] x e = absurd (cc)
find_passes {X} test (y ∷ ys) x e = by (test y) refl e (find_passes test ys x)
  where
    by : (b : Bool) → test y ≡ b → cond b (Some y) (find test ys) ≡ Some x → (find test ys ≡ Some x → test x ≡ true) → test x ≡ true
    by true is found later = let same : y ≡ x = cc in ap test (sym same) ∙ is
    by false is found later = later found

-- what a list of lists holds
pub in_flat_map : {X Y : Type 0} (f : X → List Y) (xs : List X) (x : X) (y : Y) → In x xs → In y (f x) → In y (flat_map f xs)
in_flat_map f [] x y there i = absurd there
in_flat_map f (z ∷ zs) x y (inl e) i = append_left y (f z) (flat_map f zs) (subst (λ k. In y (f k)) e i)
in_flat_map f (z ∷ zs) x y (inr later) i = append_right y (f z) (flat_map f zs) (in_flat_map f zs x y later i)

pub in_from_flat_map : {X Y : Type 0} (f : X → List Y) (xs : List X) (y : Y) → In y (flat_map f xs) → (x : X) × (In x xs × In y (f x))
in_from_flat_map f [] y there = absurd there
in_from_flat_map f (z ∷ zs) y there = elim (in_append y (f z) (flat_map f zs) there) [
  | (inl here) ↦ (z, (inl refl, here))
  | (inr later) ↦ let from = in_from_flat_map f zs y later in (from.0, (inr from.1.0, from.1.1))
]
