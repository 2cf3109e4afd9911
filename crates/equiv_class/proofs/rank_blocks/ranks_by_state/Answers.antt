use Rattle.std.proofs.Common.{◌≡◌, ℕ, List, ◌-◌, get_or, length, replicate, ap, ◌∙◌, ◌≤◌, ◌<◌, true, arith}
use Rattle.std.proofs.lemmas.List.{length-replicate, with_items_is}
use Rattle.rank_set.specs.Ranks.{has}
use Rattle.equiv_class.specs.StateBlocks.{number_of, with_block, with_number, with_run}
use Rattle.equiv_class.specs.declared.rank_blocks.Block.{Block}
use Rattle.equiv_class.proofs.BlockTable.{IsNextTable, IsTable-same, ranks_at, ranks_of_blocks, ranks_start, states_of, table_start, table_step}
use Rattle.equiv_class.proofs.Filling.{fill_end, fill_gap, fill_start, fill_step, zeros}
use Rattle.equiv_class.proofs.StateClasses.{ranks_of_state}
use Rattle.equiv_class.proofs.StateOrder.{order_end, order_gap, order_start, order_step}
use Rattle.equiv_class.proofs.rank_blocks.ranks_by_state.Goals as goal

pub loop-run-init : goal.loop-run-init
loop-run-init c =
    let all_zero : c.in_ok-numbers.numbers.items ≡ replicate c.args.end 0 = c.in_ok-numbers.ensures.items_if_clones_equal (λ y same. same) in
    let start : (k : ℕ) → get_or c.in_ok-numbers.numbers.items k 0 ≡ 0 = λ k. ap (λ xs. get_or xs k 0) all_zero ∙ zeros c.args.end k in
    record {
      within = omega arith;
      long = ap length all_zero ∙ length-replicate c.args.end 0;
      table = table_start c.in_ok-numbers.numbers.items c.new-blocks.result.items start c.new-blocks.ensures.items;
      filled = fill_start c.args.covered.now c.args.states.now (ranks_at c.in_ok-numbers.numbers.items c.new-blocks.result.items) (ranks_start c.in_ok-numbers.numbers.items c.new-blocks.result.items start);
      ordered = order_start c.args.states.now c.args.covered.now (states_of c.new-blocks.result.items) (ap states_of c.new-blocks.ensures.items);
    }

pub returns-clause-ranks : goal.returns-clause-ranks
returns-clause-ranks c =
    let h = c.loop-run.invariant in
    ranks_of_blocks c.loop-run.numbers.items c.loop-run.blocks.items (ranks_of_state c.args.states.now c.args.covered.now) h.table
    (fill_end c.args.covered.now c.args.states.now c.loop-run.from (ranks_at c.loop-run.numbers.items c.loop-run.blocks.items) h.filled c.in_default.ensures.none)

pub returns-clause-order : goal.returns-clause-order
returns-clause-order c = c.loop-run.invariant.ordered ∙ order_end c.args.states.now c.args.covered.now c.loop-run.from c.in_default.ensures.none

pub loop-from-init : goal.loop-from-init
loop-from-init c = record {
  begins = omega arith;
  within = omega (arith, c.in-Some.ensures.run.some);
  long = c.loop-run.invariant.long;
  table = c.loop-run.invariant.table;
  filled = fill_gap c.args.covered.now c.args.states.now c.loop-run.from c.in-Some.run'.first c.in-Some.run'.last (ranks_at c.loop-run.numbers.items c.loop-run.blocks.items) c.in-Some.ensures.run c.loop-run.invariant.filled;
  ordered = c.loop-run.invariant.ordered ∙ order_gap c.args.states.now c.args.covered.now c.loop-run.from c.in-Some.run'.first c.in-Some.run'.last c.in-Some.ensures.run;
}

pub loop-from-preserved : goal.loop-from-preserved
loop-from-preserved c =
    let from = c.loop-from.from in
    let own = c.run_at-own.result in
    let is = c.run_at-own.ensures in
    let numbers : List ℕ = c.loop-from.numbers.items in
    let blocks : List Block = c.loop-from.blocks.items in
    let h = c.loop-from.invariant in
    let k : ℕ = get_or c.args.states.now from 0 in
    let members : (q : ℕ) → from ≤ q → q < own.end → has c.args.covered.now q ≡ true = λ q ge lt. c.in-Some.ensures.run.within q (omega (arith, h.begins, ge)) (omega (arith, lt, is.within)) in
    let same : (q : ℕ) → from ≤ q → q < own.end → get_or c.args.states.now q 0 ≡ k = λ q ge lt. is.same q ge lt ∙ is.number in
    let next : IsNextTable numbers blocks k from (own.end - 1) c.block_number.new.numbers c.put.new.blocks =
    table_step numbers blocks k from (own.end - 1) (omega (arith, c.requires.below_end from, h.long)) (omega (arith, is.passed)) h.table c.block_number.new.numbers c.block_number.new.blocks.items c.put.new.blocks c.in_ok-number.number
    (c.in_ok-number.ensures.numbers ∙ (λ i. with_number (is.number i) (c.as_mut_slice.ensures.value i) blocks)) (c.in_ok-number.ensures.blocks ∙ (λ i. with_block (is.number i) (c.as_mut_slice.ensures.value i) blocks))
    (c.in_ok-number.ensures.number ∙ (λ i. number_of (is.number i) (c.as_mut_slice.ensures.value i) blocks))
    (c.in_ok-put.ensures ∙ (λ i. with_run c.in_ok-number.number from (own.end - 1) (c.as_mut_slice-in-loop-from.ensures.value i))) in
    let numbers_is = with_items_is c.loop-from.numbers c.block_number.new.numbers (c.in_ok-number.ensures.length ∙ c.as_mut_slice.ensures.len) in
    let blocks_is = with_items_is c.block_number.new.blocks c.put.new.blocks (c.put.auto.blocks ∙ c.as_mut_slice-in-loop-from.ensures.len) in
    record {
      begins = omega (arith, h.begins, is.passed);
      within = is.within;
      long = ap length numbers_is ∙ c.in_ok-number.ensures.length ∙ ap length c.as_mut_slice.ensures.value ∙ h.long;
      table = IsTable-same c.block_number.new.numbers _ c.put.new.blocks _ numbers_is blocks_is next.table;
      filled = fill_step c.args.covered.now c.args.states.now from own.end is.passed members same (ranks_at numbers blocks) (ranks_at _ _)
          ((λ i. ranks_at (numbers_is i) (blocks_is i) k) ∙ next.own_ranks) (λ s ne. (λ i. ranks_at (numbers_is i) (blocks_is i) s) ∙ next.others s ne) h.filled;
      ordered = order_step c.args.covered.now c.args.states.now from own.end is.passed members same (ranks_at numbers blocks) (states_of blocks) (states_of _) h.filled (ap states_of blocks_is ∙ next.order) h.ordered;
    }
