-- The fold over whole daemons is that of their parts.
use Rattle.std.proofs.Common.{◌≡◌, ℕ, true, false, Bool, ◌&&◌, List, [], ◌∷◌, ap, refl, sym, ◌∙◌, Option, arith}
use Rattle.rank_set.specs.Ranks.{Ranks, has, Has, IsSubset, in_order, those, is_subset, same_ranks, has-in_order, has-those, subset_has, subset_from, from_T}
use Rattle.rank_set.proofs.Ordered.{in_order-those}
use Rattle.overlay_setup.specs.NodeSets.{In, IsStrictlyIncreasing}
use Rattle.stat_plan.specs.Plans.{Plan, daemons, ranks}
use Rattle.stat_plan.specs.Invariants.{IsPlan}
use Rattle.stat_plan.proofs.Ascending.{ascending, filter_increases}
use Rattle.stat_plan.proofs.InLists.{any_in, in_any, in_filter, in_from_filter}
use Rattle.stat_plan.proofs.PlanFacts.{increasing}
use Rattle.overlay_core.specs.LinkInvariant.{IsUnion}
use Rattle.value_text.specs.Numbers.{Numbers, number_of}
use Rattle.rank_sums.specs.declared.fold.Fold.{Fold}
use Rattle.rank_sums.specs.Folds.{total, counted_at, part_of}
use Rattle.rank_sums.specs.Parts.{covered_daemons, part_at}
use Rattle.rank_sums.proofs.Totals.{IsOnce, where_so, total-same, total-one, total-exchange, total-filter}

-- ---- members and lists

-- a member stands in the list of members
pub has_in : (C : Ranks) (r : ℕ) → Has r C → In r (in_order C)
has_in C r h = any_in r (in_order C) (sym (has-in_order C r) ∙ h)

pub in_has : (C : Ranks) (r : ℕ) → In r (in_order C) → Has r C
in_has C r i = has-in_order C r ∙ in_any r (in_order C) i

-- an increasing list has each number once
pub increasing_once : (xs : List ℕ) → IsStrictlyIncreasing xs → IsOnce xs
increasing_once [] h = tt
increasing_once (x ∷ xs) h = ((λ i. let lt = h.0 x i in absurd (omega (arith, lt))), increasing_once xs h.1)

-- a rank is of one node
pub sole : (p : Plan) (a b q : ℕ) → IsPlan p → Has q (ranks p a) → Has q (ranks p b) → a ≡ b
unfolding ranks
sole p a b q plan ha hb = plan.samples.once a b q ha hb

-- the covered daemons of a stream each stand once
pub covered_once : (p : Plan) (s : ℕ) (C : Ranks) → IsPlan p → IsOnce (covered_daemons p s C)
covered_once p s C plan = increasing_once (covered_daemons p s C) (filter_increases (λ d. is_subset (ranks p d) C) (daemons p s) (increasing p s plan))

-- of a set, what is a member of a subset
subset_members : (R C : Ranks) → IsSubset R C → those (has R) C ≡ R
subset_members R C lies = same_ranks (those (has R) C) R (λ r. has-those (has R) C r ∙ go r (has R r) (has C r) (lies r))
  where
    go : (r : ℕ) (a b : Bool) → (a ≡ true → b ≡ true) → (b && a) ≡ a
    go r true b h = ap (λ x. x && true) (h refl)
    go r false true h = refl
    go r false false h = refl

-- the ranks of whole daemons, daemon by daemon
pub by_daemons : (p : Plan) (s n : ℕ) (C : Ranks) (f : Fold) (h : ℕ → Option _) → IsPlan p → IsUnion p s n C
    → total f h (in_order C) ≡ total f (λ d. total f h (in_order (ranks p d))) (covered_daemons p s C)
by_daemons p s n C f h plan whole =
    total-same f h (λ r. total f (λ d. where_so (has (ranks p d) r) (h r)) (covered_daemons p s C)) (in_order C) (λ r i. sym (mine r (in_has C r i)))
    ∙ total-exchange f (λ r d. where_so (has (ranks p d) r) (h r)) (in_order C) (covered_daemons p s C)
    ∙ total-same f (λ d. total f (λ r. where_so (has (ranks p d) r) (h r)) (in_order C)) (λ d. total f h (in_order (ranks p d))) (covered_daemons p s C) (λ d i. one d (subset_has (ranks p d) C (in_from_filter (λ d. is_subset (ranks p d) C) d (daemons p s) i).1))
  where
    mine : (r : ℕ) → Has r C → total f (λ d. where_so (has (ranks p d) r) (h r)) (covered_daemons p s C) ≡ h r
    mine r has_r =
        let w = whole r has_r in
        total-one f (λ d. has (ranks p d) r) (λ d. h r) (covered_daemons p s C) w.daemon (covered_once p s C plan)
        (in_filter (λ d. is_subset (ranks p d) C) w.daemon (daemons p s) w.place.listed (subset_from (ranks p w.daemon) C w.all)) w.holds (λ d i k. sole p d w.daemon r plan k w.holds)

    one : (d : ℕ) → IsSubset (ranks p d) C → total f (λ r. where_so (has (ranks p d) r) (h r)) (in_order C) ≡ total f h (in_order (ranks p d))
    one d lies = sym (total-filter f (has (ranks p d)) h (in_order C)) ∙ ap (total f h) (sym (in_order-those (has (ranks p d)) C) ∙ ap in_order (subset_members (ranks p d) C lies))

-- the fold over whole daemons is that of their parts
pub whole_parts : (p : Plan) (v : Numbers) (f : Fold) (s n : ℕ) (C : Ranks) → IsPlan p → IsUnion p s n C → part_of f v C ≡ total f (part_at p v f) (covered_daemons p s C)
whole_parts p v f s n C plan whole = by_daemons p s n C f (λ r. counted_at f (number_of v r)) plan whole

-- a set has each rank once
pub ranks_once : (C : Ranks) → IsOnce (in_order C)
ranks_once C = increasing_once (in_order C) (ascending (in_order C) (from_T _ C.increasing))
