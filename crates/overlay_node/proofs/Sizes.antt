-- How many ranks a set has.
use Rattle.std.proofs.Common.{◌≡◌, ◌≢◌, ◌⊎◌, inl, inr, ℕ, suc, ◌≤◌, ◌<◌, List, [], ◌∷◌, length, refl, sym, ap, subst, ◌∙◌, arith}
use Rattle.rank_set.specs.Ranks.{Ranks, IsSubset, in_order, size, from_T, has-in_order, same_list}
use Rattle.overlay_setup.specs.NodeSets.{In, IsStrictlyIncreasing}
use Rattle.stat_plan.proofs.Ascending.{ascending}
use Rattle.stat_plan.proofs.InLists.{any_in, in_any}

-- an ascending list of members of another is shorter, or the same
lists_below : (ys xs : List ℕ) → IsStrictlyIncreasing xs → IsStrictlyIncreasing ys → ((x : ℕ) → In x xs → In x ys) → (suc (length xs) ≤ length ys) ⊎ (xs ≡ ys)
lists_below [] [] hx hy h = inr refl
lists_below [] (x ∷ xs) hx hy h = absurd (h x (inl refl))
lists_below (y ∷ ys) [] hx hy h = inl (omega arith)
lists_below (y ∷ ys) (x ∷ xs) hx hy h = elim (h x (inl refl)) [
  | inl e ↦
      elim (lists_below ys xs hx.1 hy.1 (λ z i. elim (h z (inr i)) [ inl f ↦ absurd (let lt : x < z = hx.0 z i in omega (arith, e, f, lt)) | inr j ↦ j ])) [
        | inl lt ↦ inl (omega (arith, lt))
        | inr same ↦ inr (λ i. e i ∷ same i)
      ]
  | inr there ↦
      elim (lists_below ys (x ∷ xs) hx hy.1 (λ z i. elim i [
        | inl f ↦ subst (λ a. In a ys) (sym f) there
        | inr j ↦ elim (h z (inr j)) [ inl f ↦ absurd (let lt : x < z = hx.0 z j in let low : y < x = hy.0 x there in omega (arith, f, lt, low)) | inr k ↦ k ]
      ])) [
        | inl lt ↦ inl (omega (arith, lt))
        | inr same ↦ inl (let l : length (x ∷ xs) ≡ length ys = ap length same in omega (arith, l))
      ]
]

-- a subset has fewer ranks, or is the same set
pub size_below : (s t : Ranks) → IsSubset s t → (suc (size s) ≤ size t) ⊎ (s ≡ t)
size_below s t h = elim (lists_below (in_order t) (in_order s) (ascending _ (from_T _ s.increasing)) (ascending _ (from_T _ t.increasing)) (λ x i. any_in x (in_order t) (sym (has-in_order t x) ∙ h x (has-in_order s x ∙ in_any x (in_order s) i)))) [
  | inl lt ↦ inl lt
  | inr same ↦ inr (same_list s t same)
]

pub size_more : (s t : Ranks) → IsSubset s t → t ≢ s → suc (size s) ≤ size t
size_more s t h ne = elim (size_below s t h) [ inl lt ↦ lt | inr e ↦ absurd (ne (sym e)) ]

pub size_within : (s t : Ranks) → IsSubset s t → size s ≤ size t
size_within s t h = elim (size_below s t h) [ inl lt ↦ omega (arith, lt) | inr e ↦ subst (λ u. size s ≤ size u) e (omega arith) ]
