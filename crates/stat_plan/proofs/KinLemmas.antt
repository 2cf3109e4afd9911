-- A node's kin: numbers that are added to an ascending list and taken out of it, and the nearest ancestor that isn't lost.
use Rattle.std.proofs.Common.{◌≡◌, ◌⊎◌, inl, inr, ℕ, Bool, true, false, cond, ◌==◌, nat_lt, List, [], ◌∷◌, ◌++◌, refl, sym, ap, subst, ◌∙◌, eqb-true, Option, None, Some}
use Rattle.std.proofs.lemmas.Bool.{cases_Bool, eqb-false, true≢false}
use Rattle.overlay_setup.specs.NodeSets.{In, member, with_number, without_number}
use Rattle.stat_plan.specs.Machine.Kin.{is_parent, nearest}
use Rattle.stat_plan.proofs.InLists.{in_member, in_from_member}

-- ---- one number more, and one less

pub in_with_number : (x y : ℕ) (ys : List ℕ) → In x (with_number y ys) → (x ≡ y) ⊎ In x ys
in_with_number x y [] h = h
in_with_number x y (z ∷ zs) h = go (in_with_number x y zs) (nat_lt y z) (y == z) h
  where
    go : (In x (with_number y zs) → (x ≡ y) ⊎ In x zs) → (a b : Bool) → In x (cond a (y ∷ z ∷ zs) (cond b (z ∷ zs) (z ∷ with_number y zs))) → (x ≡ y) ⊎ In x (z ∷ zs)
    go ih true b k = k
    go ih false true k = inr k
    go ih false false (inl e) = inr (inl e)
    go ih false false (inr k) = elim (ih k) [ inl e ↦ inl e | inr i ↦ inr (inr i) ]

pub with_number_old : (x y : ℕ) (ys : List ℕ) → In x ys → In x (with_number y ys)
with_number_old x y [] h = absurd h
with_number_old x y (z ∷ zs) h = go (with_number_old x y zs) (nat_lt y z) (y == z) h
  where
    go : (In x zs → In x (with_number y zs)) → (a b : Bool) → In x (z ∷ zs) → In x (cond a (y ∷ z ∷ zs) (cond b (z ∷ zs) (z ∷ with_number y zs)))
    go ih true b k = inr k
    go ih false true k = k
    go ih false false (inl e) = inl e
    go ih false false (inr k) = inr (ih k)

pub with_number_new : (y : ℕ) (ys : List ℕ) → In y (with_number y ys)
with_number_new y [] = inl refl
with_number_new y (z ∷ zs) = go (with_number_new y zs) (nat_lt y z) (y == z) refl
  where
    go : In y (with_number y zs) → (a b : Bool) → (y == z) ≡ b → In y (cond a (y ∷ z ∷ zs) (cond b (z ∷ zs) (z ∷ with_number y zs)))
    go ih true b e = inl refl
    go ih false true e = inl (eqb-true y z e)
    go ih false false e = inr ih

pub in_without : (x y : ℕ) (ys : List ℕ) → In x (without_number y ys) → In x ys
in_without x y [] h = h
in_without x y (z ∷ zs) h = go (in_without x y zs) (y == z) h
  where
    go : (In x (without_number y zs) → In x zs) → (a : Bool) → In x (cond a (without_number y zs) (z ∷ without_number y zs)) → In x (z ∷ zs)
    go ih true k = inr (ih k)
    go ih false (inl e) = inl e
    go ih false (inr k) = inr (ih k)

pub without_other : (m c : ℕ) (xs : List ℕ) → (m ≡ c → ⊥) → In c xs → In c (without_number m xs)
without_other m c [] ne i = i
without_other m c (z ∷ zs) ne i = go (without_other m c zs ne) (m == z) refl i
  where
    go : (In c zs → In c (without_number m zs)) → (b : Bool) → (m == z) ≡ b → In c (z ∷ zs) → In c (cond b (without_number m zs) (z ∷ without_number m zs))
    go ih true b (inl k) = absurd (ne (eqb-true m z b ∙ sym k))
    go ih true b (inr k) = ih k
    go ih false b (inl k) = inl k
    go ih false b (inr k) = inr (ih k)

-- the member test of a list with one number more
pub member_more : (a m : ℕ) (lost : List ℕ) → (a ≡ m → ⊥) → member a lost ≡ false → member a (with_number m lost) ≡ false
member_more a m lost ne e = elim (cases_Bool (member a (with_number m lost))) [ inl t ↦ absurd (elim (in_with_number a m lost (in_from_member a (with_number m lost) t)) [ inl i ↦ ne i | inr i ↦ let k : member a lost ≡ true = in_member a lost i in cc ]) | inr f ↦ f ]

-- ---- the nearest of a list that isn't lost

pub nearest_in : (xs lost : List ℕ) (m : ℕ) → nearest xs lost ≡ Some m → In m xs
nearest_in [] lost m e = absurd (cc)
nearest_in (x ∷ xs) lost m e = go (nearest_in xs lost m) (member x lost) e
  where
    go : (nearest xs lost ≡ Some m → In m xs) → (b : Bool) → cond b (nearest xs lost) (Some x) ≡ Some m → In m (x ∷ xs)
    go ih true k = inr (ih k)
    go ih false k = inl (cc)

-- a number that isn't the nearest leaves the nearest as it is
pub nearest_same : (xs lost : List ℕ) (m : ℕ) → is_parent (nearest xs lost) m ≡ false → nearest xs (with_number m lost) ≡ nearest xs lost
nearest_same [] lost m e = refl
nearest_same (x ∷ xs) lost m e = go (nearest_same xs lost m) (member x lost) refl e
  where
    go : (is_parent (nearest xs lost) m ≡ false → nearest xs (with_number m lost) ≡ nearest xs lost) → (b : Bool) → member x lost ≡ b → is_parent (cond b (nearest xs lost) (Some x)) m ≡ false → cond (member x (with_number m lost)) (nearest xs (with_number m lost)) (Some x) ≡ cond b (nearest xs lost) (Some x)
    go ih true eb k = let t : member x (with_number m lost) ≡ true = in_member x (with_number m lost) (with_number_old x m lost (in_from_member x lost eb)) in rw t (ih k)
    go ih false eb k = let t : member x (with_number m lost) ≡ false = member_more x m lost (eqb-false x m k) eb in rw t refl

-- there is a nearest, where one isn't lost
pub nearest_some : (xs lost : List ℕ) (a : ℕ) → In a xs → member a lost ≡ false → (q : ℕ) × (nearest xs lost ≡ Some q)
nearest_some [] lost a i e = absurd i
nearest_some (x ∷ xs) lost a i e = go (member x lost) refl (nearest_some xs lost a)
  where
    go : (b : Bool) → member x lost ≡ b → (In a xs → member a lost ≡ false → (q : ℕ) × (nearest xs lost ≡ Some q)) → (q : ℕ) × (cond b (nearest xs lost) (Some x) ≡ Some q)
    go true k ih = ih (elim i [ inl j ↦ absurd (true≢false (sym (subst (λ y. member y lost ≡ true) (sym j) k) ∙ e)) | inr j ↦ j ]) e
    go false k ih = (x, refl)

-- the nearest of a list, with those before it
pub nearest_split : (xs lost : List ℕ) (q : ℕ) → nearest xs lost ≡ Some q → (near : List ℕ) × (far : List ℕ) × (xs ≡ near ++ q ∷ far) × (member q lost ≡ false) × ((a : ℕ) → In a near → In a lost)
nearest_split [] lost q e = absurd (cc)
nearest_split (x ∷ xs) lost q e = go (member x lost) refl (nearest_split xs lost q) e
  where
    go : (b : Bool) → member x lost ≡ b → (nearest xs lost ≡ Some q → (near : List ℕ) × (far : List ℕ) × (xs ≡ near ++ q ∷ far) × (member q lost ≡ false) × ((a : ℕ) → In a near → In a lost))
        → cond b (nearest xs lost) (Some x) ≡ Some q → (near : List ℕ) × (far : List ℕ) × ((x ∷ xs) ≡ near ++ q ∷ far) × (member q lost ≡ false) × ((a : ℕ) → In a near → In a lost)
    go true k ih h = let r = ih h in (x ∷ r.0, r.1, ap (λ l. x ∷ l) r.2, r.3, λ a i. elim i [ inl j ↦ subst (λ b. In b lost) (sym j) (in_from_member x lost k) | inr j ↦ r.4 a j ])
    go false k ih h = let e : x ≡ q = cc in ([], xs, ap (λ a. a ∷ xs) e, subst (λ a. member a lost ≡ false) e k, λ a i. absurd i)

-- ---- who is the parent

pub is_parent_some : (o : Option ℕ) (m : ℕ) → is_parent o m ≡ true → o ≡ Some m
is_parent_some None m e = absurd (true≢false (sym e))
is_parent_some (Some a) m e = ap Some (eqb-true a m e)
