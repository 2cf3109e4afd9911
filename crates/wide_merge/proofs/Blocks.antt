-- A class put behind others.
use Rattle.std.proofs.Common.{◌≡◌, ℕ, zero, suc, ◌+◌, ◌-◌, Bool, true, false, cond, List, [], ◌∷◌, ◌++◌, get_or, length, set, Some, refl, sym, ap, ◌∙◌, arith}
use Rattle.std.specs.Prelude.{slice_get}
use Rattle.std.proofs.lemmas.Bool.{true≢false}
use Rattle.std.proofs.lemmas.List.{map-append}
use Rattle.std.proofs.lemmas.Option.{same_Some}
use Rattle.rank_set.specs.Ranks.{Ranks, union}
use Rattle.equiv_class.specs.declared.Class.{Class}
use Rattle.wide_merge.specs.Joining.{ends_with, index_view, index_views, same_indices, with_block, with_ranks}

module _ {X : Type 0} (same : X → X → Bool) where
  pub with_last : (ks : List (Ranks × X)) (k : Ranks × X) → ends_with same ks k.1 ≡ true → with_ranks ks k.0 ≡ with_block same ks k
  with_last [] k e = absurd (true≢false (sym e))
  with_last (l ∷ []) k e = sym (ap (λ b. cond b ((union l.0 k.0, l.1) ∷ []) (l ∷ k ∷ [])) e)
  with_last (l ∷ m ∷ ls) k e = ap (λ xs. l ∷ xs) (with_last (m ∷ ls) k e)

  pub with_new : (ks : List (Ranks × X)) (k : Ranks × X) → ends_with same ks k.1 ≡ false → ks ++ k ∷ [] ≡ with_block same ks k
  with_new [] k e = refl
  with_new (l ∷ []) k e = sym (ap (λ b. cond b ((union l.0 k.0, l.1) ∷ []) (l ∷ k ∷ [])) e)
  with_new (l ∷ m ∷ ls) k e = ap (λ xs. l ∷ xs) (with_new (m ∷ ls) k e)

-- the last class of some
pub last_has : (cs : List Class) (x : Class) (is : List ℕ) → Some x ≡ slice_get cs (length cs - 1) → same_indices x.paths.items is ≡ ends_with same_indices (index_views cs) is
last_has [] x is e = absurd (cc)
last_has (c ∷ []) x is e = ap (λ (o : Class). same_indices o.paths.items is) (same_Some x c e)
last_has (c ∷ d ∷ cs) x is e = last_has (d ∷ cs) x is (e ∙ ap (slice_get (c ∷ d ∷ cs)) (let n : length (c ∷ d ∷ cs) - 1 ≡ suc (length (d ∷ cs) - 1) = omega arith in n))

pub set_last : (cs : List Class) (n : ℕ) (x y : Class) (ranks : Ranks) → n + 1 ≡ length cs → x ≡ get_or cs n x → index_view y ≡ (union x.ranks ranks, x.paths.items) → index_views (set cs n y) ≡ with_ranks (index_views cs) ranks
set_last [] n x y ranks end is is_y = absurd (omega (arith, end))
set_last (c ∷ []) zero x y ranks end is is_y = ap (λ k. k ∷ []) (is_y ∙ ap (λ (o : Class). let b : Ranks × List ℕ = (union o.ranks ranks, o.paths.items) in b) is)
set_last (c ∷ []) (suc n) x y ranks end is is_y = absurd (omega (arith, end))
set_last (c ∷ d ∷ cs) zero x y ranks end is is_y = absurd (omega (arith, end))
set_last (c ∷ d ∷ cs) (suc n) x y ranks end is is_y = ap (λ ks. index_view c ∷ ks) (set_last (d ∷ cs) n x y ranks (omega (arith, end)) is is_y)

pub views_push : (cs : List Class) (c : Class) → index_views (cs ++ c ∷ []) ≡ index_views cs ++ index_view c ∷ []
views_push cs c = map-append index_view cs (c ∷ [])
