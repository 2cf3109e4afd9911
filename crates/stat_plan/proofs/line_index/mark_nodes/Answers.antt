use Rattle.std.proofs.Common.{◌≡◌, ◌<◌, ◌⊎◌, ℕ, length, sym, ap, subst, ◌∙◌, arith, inl, inr}
use Rattle.std.proofs.lemmas.Bool.{true≢false, cases_lt}
use Rattle.std.proofs.lemmas.List.{get_or_default}
use Rattle.rank_set.specs.Ranks.{Has, none, union}
use Rattle.rank_set.specs.Runs.{ranks_between}
use Rattle.stat_plan.specs.OwnLines.{ranks_at}
use Rattle.stat_plan.proofs.Indexing.{rank_has_entry, rank_node_is}
use Rattle.stat_plan.proofs.Marking.{marked_for, marked_more}
use Rattle.stat_plan.proofs.line_index.mark_nodes.Goals as goal

pub loop-from-init : goal.loop-from-init
loop-from-init c = record {
  marked = marked_for c.args.placed.now _ _ (ranks_between c.args.lines.first c.args.lines.last) c.args.numbers.now c.loop-run.numbers (λ r there. (there.0, before r there.0 there.1)) c.loop-run.invariant.marked;
  begun = omega arith;
  within = let a = c.in-Some.ensures.below_limit in let b = c.in-Some.ensures.run.some in omega (arith, a, b);
}
  where
    before : (r : ℕ) → Has r c.args.ranks.now → r < c.in-Some.run'.first → r < c.loop-run.from
    before r there lt = elim (cases_lt r c.loop-run.from) [ (inl below) ↦ below | (inr later) ↦ absurd (true≢false (sym there ∙ c.in-Some.ensures.run.passed r later lt)) ]

pub run_at-part-requires-clause-in_table : goal.run_at-part-requires-clause-in_table
run_at-part-requires-clause-in_table c =
    let last = c.in-Some.run'.last in
    let inside = rank_has_entry c.args.placed.now c.args.rank_to_node.now last c.requires.rank_to_node (c.requires.placed last (c.in-Some.ensures.run.within last c.in-Some.ensures.run.some (omega arith))) in
    omega (arith, inside)

pub bounds-numbers-part : goal.bounds-numbers-part
bounds-numbers-part c =
    subst (λ k. c.run_at-part.result.number < k) (sym (c.loop-from.invariant.marked.paired ∙ c.requires.same_length))
    (rank_node_is c.args.placed.now c.args.rank_to_node.now c.loop-from.from c.run_at-part.result.number c.requires.rank_to_node (c.requires.placed c.loop-from.from (c.in-Some.ensures.run.within c.loop-from.from c.loop-from.invariant.begun c.loop-from-test.true)) c.run_at-part.ensures.number).inside

pub loop-from-preserved : goal.loop-from-preserved
loop-from-preserved c =
    let from = c.loop-from.from in
    let part = c.run_at-part.result in
    let node = part.number in
    let begun = c.loop-from.invariant.begun in
    let inside : node < length c.loop-from.numbers =
    subst (λ k. node < k) (sym (c.loop-from.invariant.marked.paired ∙ c.requires.same_length))
    (rank_node_is c.args.placed.now c.args.rank_to_node.now from node c.requires.rank_to_node (c.requires.placed from (c.in-Some.ensures.run.within from begun c.loop-from-test.true)) c.run_at-part.ensures.number).inside in
    record {
      marked = marked_more c.args.placed.now (λ r. Has r c.args.ranks.now × (r < from)) (λ r. Has r c.args.ranks.now × (r < part.end)) (ranks_between c.args.lines.first c.args.lines.last) c.args.numbers.now c.loop-from.numbers node c.mark.new.numbers inside
          (c.in_ok-mark.ensures ∙ ap (λ s. union s (ranks_between c.args.lines.first c.args.lines.last)) (get_or_default c.loop-from.numbers node c.index-numbers-part.result none inside))
          split c.loop-from.invariant.marked;
      begun = let a = c.run_at-part.ensures.passed in omega (arith, begun, a);
      within = let a = c.in-Some.ensures.below_limit in let b = c.run_at-part.ensures.within in omega (arith, a, b);
    }
  where
    split : (n r : ℕ) → Has r (ranks_at c.args.placed.now n) → Has r c.args.ranks.now × (r < c.run_at-part.result.end) → (Has r c.args.ranks.now × (r < c.loop-from.from)) ⊎ (n ≡ c.run_at-part.result.number)
    split n r own some = elim (cases_lt r c.loop-from.from) [
      | (inl before) ↦ inl (some.0, before)
      | (inr later) ↦ inr (sym (c.requires.rank_to_node.each n r own).1 ∙ c.run_at-part.ensures.same r later some.1)
    ]
