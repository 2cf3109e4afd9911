-- When all has come in of a wave that still can.
use Rattle.std.proofs.Common.{◌≡◌, ℕ, ◌+◌, ◌<◌, ◌≤◌, Bool, true, false, not, ◌||◌, cond, ◌&&◌, List, [], ◌∷◌, map, drop, get_or, length, refl, sym, ap, subst, ◌∙◌, inl, inr, Option, Some, None}
use Rattle.std.specs.List.{list_all}
use Rattle.std.proofs.lemmas.Bool.{and_parts, and_from, or_cases, or_left, or_right, true≢false}
use Rattle.std.proofs.lemmas.List.{drop_more}
use Rattle.std.proofs.Math.ListN.{drop_of_length-le}
use Rattle.rank_set.specs.Ranks.{Ranks, none, IsSubset, has, has-none, has-union, union, is_subset, subset_has, subset_from}
use Rattle.overlay_setup.specs.NodeSets.{In, member}
use Rattle.overlay_setup.specs.Scripts.{Stream}
use Rattle.stat_plan.specs.Invariants.{IsPlan}
use Rattle.stat_plan.specs.Machine.Kin.{complete}
use Rattle.stat_plan.specs.Samples.{ranks_with}
use Rattle.stat_plan.specs.Plans.{Plan, nodes, daemons, expected, is_within, ranks, stream_of, those_within}
use Rattle.stat_plan.proofs.InLists.{in_at}
use Rattle.stat_plan.proofs.LookupLemmas.{listed}
use Rattle.loss_adoption.specs.Settled.{is_settled}

module _ (p : Plan) (n : ℕ) (covered : Ranks) where
  abbrev all_of : Ranks → List ℕ → Ranks
  all_of C ds = ranks_with C (map (ranks p) (those_within p n ds))

  last_out : (a : Bool) → (a || false) ≡ true → a ≡ true
  last_out true e = refl
  last_out false e = e

  -- where no node is lost, all that is gathered lies within if each daemon's ranks do
  all_lie : (ds : List ℕ) (C : Ranks) → IsSubset C covered → list_all (is_settled p n [] covered) ds ≡ true → IsSubset (all_of C ds) covered
  all_lie [] C h e = h
  all_lie (d ∷ ds) C h e = by (all_lie ds) (is_within p d n) (and_parts (is_settled p n [] covered d) (list_all (is_settled p n [] covered) ds) e).0 (and_parts (is_settled p n [] covered d) (list_all (is_settled p n [] covered) ds) e).1
    where
      by : ((C : Ranks) → IsSubset C covered → list_all (is_settled p n [] covered) ds ≡ true → IsSubset (all_of C ds) covered) → (b : Bool) → (not b || is_subset (ranks p d) covered || false) ≡ true → list_all (is_settled p n [] covered) ds ≡ true → IsSubset (ranks_with C (map (ranks p) (cond b (d ∷ those_within p n ds) (those_within p n ds)))) covered
      by ih true t rest = ih (union C (ranks p d)) (λ r there. elim (or_cases (has C r) (has (ranks p d) r) (sym (has-union C (ranks p d) r) ∙ there)) [ inl i ↦ h r i | inr i ↦ subset_has (ranks p d) covered (last_out _ t) r i ]) rest
      by ih false t rest = ih C h rest

  -- and where all that is gathered lies within, each daemon's ranks do, whichever nodes are lost
  each_lies : (lost ds : List ℕ) (C : Ranks) → IsSubset (all_of C ds) covered → IsSubset C covered × (list_all (is_settled p n lost covered) ds ≡ true)
  each_lies lost [] C h = (h, refl)
  each_lies lost (d ∷ ds) C h = by (each_lies lost ds) (is_within p d n) h
    where
      by : ((C : Ranks) → IsSubset (all_of C ds) covered → IsSubset C covered × (list_all (is_settled p n lost covered) ds ≡ true)) → (b : Bool) → IsSubset (ranks_with C (map (ranks p) (cond b (d ∷ those_within p n ds) (those_within p n ds)))) covered → IsSubset C covered × (((not b || is_subset (ranks p d) covered || member d lost) && list_all (is_settled p n lost covered) ds) ≡ true)
      by ih true g =
          let r = ih (union C (ranks p d)) g in
          let within : is_subset (ranks p d) covered ≡ true = subset_from (ranks p d) covered (λ x i. r.0 x (has-union C (ranks p d) x ∙ or_right (has C x) (has (ranks p d) x) i)) in
          (λ x i. r.0 x (has-union C (ranks p d) x ∙ or_left (has C x) (has (ranks p d) x) i), and_from _ _ (or_left (is_subset (ranks p d) covered) (member d lost) within) r.1)
      by ih false g = ih C g

-- a daemon at or under the node, whose ranks aren't all covered
pub settled_if_lost : (p : Plan) (n : ℕ) (lost : List ℕ) (covered : Ranks) (d : ℕ) → is_within p d n ≡ true → is_subset (ranks p d) covered ≡ false → member d lost ≡ is_settled p n lost covered d
settled_if_lost p n lost covered d within lacks = sym (ap (λ b. not b || is_subset (ranks p d) covered || member d lost) within ∙ ap (λ b. b || member d lost) lacks)

-- where all that is expected has come in, a wave is complete
pub complete_if_all : (p : Plan) (n s : ℕ) (lost : List ℕ) (covered : Ranks) → is_subset (expected p n s) covered ≡ true → true ≡ complete p n lost s covered
unfolding expected complete
complete_if_all p n s lost covered e = sym (each_lies p n covered lost (daemons p s) none (λ r there. subset_has (all_of p n covered none (daemons p s)) covered e r there)).1

-- where no node is lost, it is only then
pub not_complete : (p : Plan) (n s : ℕ) (covered : Ranks) → is_subset (expected p n s) covered ≡ false → false ≡ complete p n [] s covered
unfolding expected complete
not_complete p n s covered e = sym (Rattle.std.proofs.lemmas.Bool.false_from_ne_true _ (λ all. true≢false (sym (subset_from (all_of p n covered none (daemons p s)) covered (all_lie p n covered (daemons p s) none (λ r there. absurd (true≢false (sym there ∙ has-none r))) all)) ∙ e)))

-- a stream that the plan doesn't have has no daemons
pub complete_unknown : (p : Plan) (n s : ℕ) (lost : List ℕ) (covered : Ranks) → stream_of p s ≡ None → true ≡ complete p n lost s covered
unfolding complete daemons
complete_unknown p n s lost covered is = sym (ap (λ (o : Option Stream). list_all (is_settled p n lost covered) (elim o as (λ _. List ℕ) [ None ↦ [] | (Some x) ↦ x.daemons ])) is)

-- it is complete exactly if nothing more comes of any daemon of the stream
pub complete_known : (p : Plan) (n s : ℕ) (lost : List ℕ) (covered : Ranks) (x : Stream) → stream_of p s ≡ Some x → list_all (is_settled p n lost covered) x.daemons ≡ complete p n lost s covered
unfolding complete daemons
complete_known p n s lost covered x is = sym (ap (λ (o : Option Stream). list_all (is_settled p n lost covered) (elim o as (λ _. List ℕ) [ None ↦ [] | (Some x) ↦ x.daemons ])) is)

-- its daemons are nodes of the plan
pub daemon_below : (p : Plan) (s : ℕ) (x : Stream) (ds : List ℕ) (i : ℕ) → IsPlan p → stream_of p s ≡ Some x → ds ≡ x.daemons → i < length ds → get_or ds i 0 < nodes p
unfolding daemons
daemon_below p s x ds i plan is same lt =
    let there : In (get_or ds i 0) (daemons p s) =
    subst (In (get_or ds i 0)) (same ∙ sym (ap (λ (o : Option Stream). elim o as (λ _. List ℕ) [ None ↦ [] | (Some x) ↦ x.daemons ]) is)) (in_at ds i 0 lt) in
    (listed p (get_or ds i 0) s plan there).0

-- one daemon more
pub settled_more : (test : ℕ → Bool) (ds : List ℕ) (i : ℕ) → i < length ds → test (get_or ds i 0) ≡ true → list_all test (drop i ds) ≡ list_all test ds → list_all test (drop (i + 1) ds) ≡ list_all test ds
settled_more test ds i lt passes so_far =
    sym (ap (λ b. b && list_all test (drop (i + 1) ds)) passes) ∙ ap (list_all test) (sym (drop_more ds i 0 lt)) ∙ so_far

pub settled_fails : (test : ℕ → Bool) (ds : List ℕ) (i : ℕ) → i < length ds → test (get_or ds i 0) ≡ false → list_all test (drop i ds) ≡ list_all test ds → false ≡ list_all test ds
settled_fails test ds i lt fails so_far =
    sym (ap (λ b. b && list_all test (drop (i + 1) ds)) fails) ∙ ap (list_all test) (sym (drop_more ds i 0 lt)) ∙ so_far

pub settled_all : (test : ℕ → Bool) (ds : List ℕ) (i : ℕ) → length ds ≤ i → list_all test (drop i ds) ≡ list_all test ds → true ≡ list_all test ds
settled_all test ds i le so_far = ap (list_all test) (sym (drop_of_length-le ds le)) ∙ so_far
