use Rattle.std.proofs.Common.{◌≡◌, ◌∙◌, ◌+◌, ◌<◌, ℕ, suc, List, length, drop, drop-cons, get_or, refl, sym, ap, arith}
use Rattle.rank_set.specs.Ranks.{Ranks, none, union}
use Rattle.stat_plan.specs.Plans.{Plan, ranks}
use Rattle.stat_plan.specs.Samples.{ranks_with}
use Rattle.value_text.proofs.read.placed_ranks.Goals as goal

ranks_on_node : (p : Plan) (n : ℕ) → ranks p n ≡ get_or p.placed n none
unfolding ranks
ranks_on_node p n = refl

-- one node more
next_node : (placed : List Ranks) (n : ℕ) (r : Ranks) → n < length placed → ranks_with r (drop n placed) ≡ ranks_with (union r (get_or placed n none)) (drop (n + 1) placed)
next_node placed n r lt =
    ap (ranks_with r) (drop-cons placed n none lt)
    ∙ (let e : suc n ≡ n + 1 = omega arith in ap (λ k. ranks_with (union r (get_or placed n none)) (drop k placed)) e)

pub loop-n-preserved : goal.loop-n-preserved
loop-n-preserved c =
    let placed = c.args.plan.now.placed in
    let lt : c.loop-n.n < length placed = omega (arith, c.loop-n-test.true, c.nodes-n-end.ensures, c.invariant.ensures.samples_fit.paired) in
    ap (λ r. ranks_with r (drop (c.loop-n.n + 1) placed)) (c.in_ok-union_into.ensures.ok ∙ ap (union c.loop-n.ranks) (c.ranks.ensures ∙ ranks_on_node c.args.plan.now c.loop-n.n))
    ∙ sym (next_node placed c.loop-n.n c.loop-n.ranks lt)
    ∙ c.loop-n.invariant
