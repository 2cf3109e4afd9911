-- Parts of sets of ranks, and the paths that a loop has still to go over.
use Rattle.std.proofs.Common.{◌≡◌, ℕ, suc, ◌+◌, ◌<◌, Bool, true, false, ◌&&◌, List, ◌∷◌, length, drop, get_or, drop-cons, refl, sym, ap, ◌∙◌, arith}
use Rattle.rank_set.specs.Ranks.{Ranks, has, those, has-those, same_ranks}
use Rattle.equiv_class.specs.SeenPaths.{entries_view, entry_of}
use Rattle.equiv_class.specs.declared.SeenPath.{SeenPath}

-- tests that agree at each member keep the same members
pub those-on : (s : Ranks) (t u : ℕ → Bool) → ((q : ℕ) → has s q ≡ true → t q ≡ u q) → those t s ≡ those u s
those-on s t u each = same_ranks _ _ (λ q. has-those t s q ∙ under (has s q) (t q) (u q) (each q) ∙ sym (has-those u s q))
  where
    under : (a b c : Bool) → (a ≡ true → b ≡ c) → (a && b) ≡ (a && c)
    under true b c f = f refl
    under false b c f = refl

-- the paths that are left, one by one
pub next_path : (seen : List SeenPath) (i : ℕ) (x : SeenPath) → i < length seen → x ≡ get_or seen i x → entries_view (drop i seen) ≡ entry_of x ∷ entries_view (drop (i + 1) seen)
next_path seen i x lt is =
    let n : suc i ≡ i + 1 = omega arith in
    ap entries_view (drop-cons seen i x lt) ∙ ap (λ y. entry_of y ∷ entries_view (drop (suc i) seen)) (sym is) ∙ ap (λ k. entry_of x ∷ entries_view (drop k seen)) n
