-- Contributions that are partial merges of a plan.
use Rattle.std.proofs.Common.{◌≡◌, ℕ, ◌<◌, inl, inr, [], sym, ap, subst, ◌∙◌, arith}
use Rattle.std.proofs.lemmas.Bool.{true≢false, or_cases}
use Rattle.rank_set.specs.Ranks.{Ranks, none, has, Has, IsSubset, has-none, union, has-union}
use Rattle.call_path.specs.Pairs.{Pairs}
use Rattle.prefix_tree.specs.Tree.{Tree, tree_of, merged, count_below}
use Rattle.prefix_tree.proofs.TreeLemmas.{coverage-tree_of}
use Rattle.prefix_tree.proofs.TreeLaws.{merged-tree_of, tree_of-uncovered}
use Rattle.stat_plan.specs.Invariants.{IsPlan}
use Rattle.stat_plan.specs.Plans.{Plan, samples, stream_ranks}
use Rattle.merge_filter.specs.Contributions.{Contrib, HasWave, IsPartialMerge, contrib, coverage_of}
use Rattle.merge_filter.proofs.Prefixes.{rows_within}

-- a tree of some ranks covers them
pub covers : (t : Tree) (P : Pairs) (C : Ranks) → t ≡ tree_of P C → t.coverage ≡ C
covers t P C is = ap (λ (u : Tree). u.coverage) is ∙ coverage-tree_of P C

-- a tree of a wave's samples over ranks of the stream
pub stands_from : (p : Plan) (s w : ℕ) (C : Ranks) (t : Tree) → t ≡ tree_of (samples p s w) C → IsSubset C (stream_ranks p s) → HasWave p s w → IsPartialMerge p (contrib s w t)
stands_from p s w C t is lies wave =
    let same : t.coverage ≡ C = covers t (samples p s w) C is in
    record {
      tree = is ∙ ap (tree_of (samples p s w)) (sym same);
      lies = λ r there. lies r (subst (Has r) same there);
      wave = wave;
    }

-- a tree of nothing
pub stands_none : (p : Plan) (s w : ℕ) (t : Tree) → t ≡ tree_of [] none → HasWave p s w → IsPartialMerge p (contrib s w t)
stands_none p s w t is wave = stands_from p s w none t (is ∙ tree_of-uncovered [] (samples p s w)) (λ r there. absurd (true≢false (sym there ∙ has-none r))) wave

-- two contributions to one wave
module _ (p : Plan) (a b : Contrib) (first : IsPartialMerge p a) (second : IsPartialMerge p b) (one_stream : b.stream ≡ a.stream) (one_wave : b.wave ≡ a.wave) where
  merged_is : merged a.tree b.tree ≡ tree_of (samples p a.stream a.wave) (union (coverage_of a) (coverage_of b))
  merged_is =
      let other : b.tree ≡ tree_of (samples p a.stream a.wave) (coverage_of b) = second.tree ∙ (λ i. tree_of (samples p (one_stream i) (one_wave i)) b.tree.coverage) in
      (λ i. merged (first.tree i) (other i)) ∙ merged-tree_of (samples p a.stream a.wave) (coverage_of a) (coverage_of b)

  both_lie : IsSubset (union (coverage_of a) (coverage_of b)) (stream_ranks p a.stream)
  both_lie r there = elim (or_cases (has (coverage_of a) r) (has (coverage_of b) r) (sym (has-union (coverage_of a) (coverage_of b) r) ∙ there)) [
    | (inl here) ↦ first.lies r here
    | (inr here) ↦ subst (λ s. Has r (stream_ranks p s)) one_stream (second.lies r here)
  ]

  both_stand : (t : Tree) → t ≡ merged a.tree b.tree → IsPartialMerge p (contrib a.stream a.wave t)
  both_stand t is = stands_from p a.stream a.wave (union (coverage_of a) (coverage_of b)) t (is ∙ merged_is) both_lie first.wave

  both_covered : (t : Tree) → t ≡ merged a.tree b.tree → t.coverage ≡ union (coverage_of a) (coverage_of b)
  both_covered t is = covers t (samples p a.stream a.wave) (union (coverage_of a) (coverage_of b)) (is ∙ merged_is)

  not_full : IsPlan p → 2048 < count_below (merged a.tree b.tree) → ⊥
  not_full plan full =
      let S : Pairs = samples p a.stream a.wave in
      let fewer = rows_within S (union (coverage_of a) (coverage_of b)) in
      let within = plan.within a.stream a.wave first.wave in
      let over : 2048 < count_below (tree_of S (union (coverage_of a) (coverage_of b))) = subst (λ t. 2048 < count_below t) merged_is full in
      omega (arith, fewer, within, over)

-- the same, of what a program holds
module _ (p : Plan) (a b v u : Contrib) (va : v ≡ a) (ub : u ≡ b) (first : IsPartialMerge p a) (second : IsPartialMerge p b) (one_stream : b.stream ≡ a.stream) (one_wave : b.wave ≡ a.wave) where
  v_stands : IsPartialMerge p v
  v_stands = subst (IsPartialMerge p) (sym va) first

  u_stands : IsPartialMerge p u
  u_stands = subst (IsPartialMerge p) (sym ub) second

  streams : u.stream ≡ v.stream
  streams = ap (λ (c : Contrib). c.stream) ub ∙ one_stream ∙ sym (ap (λ (c : Contrib). c.stream) va)

  waves : u.wave ≡ v.wave
  waves = ap (λ (c : Contrib). c.wave) ub ∙ one_wave ∙ sym (ap (λ (c : Contrib). c.wave) va)

  -- the merged tree is a partial merge
  pub united : (t : Tree) → t ≡ merged v.tree u.tree → IsPartialMerge p (contrib v.stream v.wave t)
  united t is = both_stand p v u v_stands u_stands streams waves t is

  -- it covers the ranks of both
  pub united_covers : (t : Tree) → t ≡ merged v.tree u.tree → t.coverage ≡ union (coverage_of a) (coverage_of b)
  united_covers t is = both_covered p v u v_stands u_stands streams waves t is ∙ (λ i. union (coverage_of (va i)) (coverage_of (ub i)))

  -- it has no more prefixes than the plan allows
  pub has_room : IsPlan p → 2048 < count_below (merged v.tree u.tree) → ⊥
  has_room plan full = not_full p v u v_stands u_stands streams waves plan full
