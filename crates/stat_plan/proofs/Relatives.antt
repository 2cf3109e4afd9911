-- Relatives and children in the original tree.
use Rattle.std.proofs.Common.{◌≡◌, ◌<◌, inl, inr, ℕ, Bool, true, false, ◌||◌, ◌==◌, [], refl, sym, subst, ◌∙◌, eqb-true, Option, Some, None}
use Rattle.std.proofs.lemmas.Bool.{or_cases, or_left, or_right, true≢false}
use Rattle.overlay_setup.specs.NodeSets.{In, up_to}
use Rattle.stat_plan.specs.Plans.{Plan, AreRelated, IsUnder, ancestors, nodes, is_related, is_under}
use Rattle.stat_plan.specs.Machine.Kin.{nearest, children_of}
use Rattle.stat_plan.proofs.KinLemmas.{nearest_in}
use Rattle.stat_plan.proofs.InLists.{in_member, in_from_member, in_from_filter}
use Rattle.stat_plan.proofs.PlanFacts.{HasPlanFacts}

pub related_from_test : (p : Plan) (n m : ℕ) → is_related p n m ≡ true → AreRelated p n m
unfolding is_related is_under
related_from_test p n m e = elim (or_cases _ _ e) [ inl a ↦ inl (in_from_member m (ancestors p n) a) | inr a ↦ inr (in_from_member n (ancestors p m) a) ]

pub test_from_related : (p : Plan) (n m : ℕ) → AreRelated p n m → is_related p n m ≡ true
unfolding is_related is_under
test_from_related p n m (inl u) = or_left _ _ (in_member m (ancestors p n) u)
test_from_related p n m (inr u) = or_right _ _ (in_member n (ancestors p m) u)

pub related_back : (p : Plan) (n m : ℕ) → AreRelated p n m → AreRelated p m n
related_back p n m (inl u) = inr u
related_back p n m (inr u) = inl u

pub related_below : (p : Plan) (n m : ℕ) → HasPlanFacts p → AreRelated p n m → m < nodes p
related_below p n m plan (inl u) = (plan.under_nodes n m u).1
related_below p n m plan (inr u) = (plan.under_nodes m n u).0

pub children_under : (p : Plan) (n c : ℕ) → In c (children_of p n) → IsUnder p c n
children_under p n c i = go (nearest (ancestors p c) []) refl (in_from_filter (λ c. elim (nearest (ancestors p c) []) [ None ↦ false | Some m ↦ m == n ]) c (up_to (nodes p)) i).1
  where
    go : (o : Option ℕ) → nearest (ancestors p c) [] ≡ o → (elim o [ None ↦ false | Some m ↦ m == n ]) ≡ true → IsUnder p c n
    go None e t = absurd (cc)
    go (Some m) e t = subst (λ x. In x (ancestors p c)) (eqb-true m n t) (nearest_in (ancestors p c) [] m e)

-- the test in two steps
pub related_first : (p : Plan) (n m : ℕ) (r : Bool) → r ≡ is_under p n m → r ≡ true → r ≡ is_related p n m
unfolding is_related
related_first p n m r e t = t ∙ sym (or_left (is_under p n m) (is_under p m n) (sym e ∙ t))

pub related_second : (p : Plan) (n m : ℕ) (a b : Bool) → a ≡ is_under p n m → a ≡ false → b ≡ is_under p m n → b ≡ is_related p n m
unfolding is_related
related_second p n m a b ea f eb = eb ∙ by (is_under p n m) (sym ea ∙ f)
  where
    by : (x : Bool) → x ≡ false → is_under p m n ≡ (x || is_under p m n)
    by true e = absurd (true≢false e)
    by false e = refl
