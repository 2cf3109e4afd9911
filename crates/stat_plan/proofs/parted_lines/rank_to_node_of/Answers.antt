use Rattle.std.proofs.Common.{◌<◌, ℕ, arith, sym, ap, subst, ◌∙◌, get_or, length, inl, inr}
use Rattle.std.proofs.lemmas.Bool.{true≢false, cases_lt}
use Rattle.std.proofs.lemmas.List.{get_or_default}
use Rattle.rank_set.specs.Ranks.{none, has, has-none, Has}
use Rattle.stat_plan.proofs.Indexing.{past, rank_nodes_more, rank_to_node_all}
use Rattle.stat_plan.proofs.parted_lines.rank_to_node_of.Goals as goal

pub assign-requires : goal.assign-requires
assign-requires c r there =
    let is = c.index-placed-n.is ∙ get_or_default c.args.placed.now c.loop-n.n c.index-placed-n.result none c.loop-n-test.true in
    subst (λ k. r < k) (sym c.loop-n.invariant.all) (c.loop-ranks.invariant c.loop-n.n r (omega (arith, c.loop-n-test.true, c.loop-ranks-test.false)) (subst (Has r) is there))

pub loop-n-preserved : goal.loop-n-preserved
loop-n-preserved c = record {
  all = c.assign.ensures.length ∙ c.loop-n.invariant.all;
  each = rank_nodes_more c.args.placed.now c.loop-n.rank_to_node c.assign.new.rank_to_node c.loop-n.n c.index-placed-n.result c.requires.once c.index-placed-n.is c.loop-n-test.true c.loop-n.invariant.each
      (λ r there. c.in_ok-assign-in-Ok.ensures.ranks r there ∙ c.in-Ok.ensures.1)
      c.assign.ensures.others;
}

pub returns : goal.returns
returns c =
    rank_to_node_all c.args.placed.now c.loop-n.rank_to_node (λ n r there. subst (λ k. r < k) (sym c.loop-n.invariant.all) (below n r there))
    (λ n r below. c.loop-n.invariant.each n r (omega (arith, below, c.loop-n-test.false)))
  where
    below : (n r : ℕ) → Has r (get_or c.args.placed.now n none) → r < c.loop-ranks.end
    below n r there = elim (cases_lt n (length c.args.placed.now)) [
      | (inl inside) ↦ c.loop-ranks.invariant n r (omega (arith, inside, c.loop-ranks-test.false)) there
      | (inr outside) ↦ absurd (true≢false (sym there ∙ ap (λ s. has s r) (past c.args.placed.now n outside) ∙ has-none r))
    ]
