use Rattle.std.proofs.Common.{◌≡◌, ℕ, take, ap, sym, subst, ◌∙◌, length, arith}
use Rattle.std.proofs.lemmas.List.{length-map, with_items_is}
use Rattle.rank_set.specs.Ranks.{none}
use Rattle.overlay_setup.specs.NodeSets.{up_to}
use Rattle.stat_plan.specs.OwnLines.{AreIndexed, ranks_of_lines}
use Rattle.stat_plan.proofs.Marking.{indexed_more, indexed_none}
use Rattle.overlay_setup.proofs.UpTo.{length-up_to}
use Rattle.stat_plan.proofs.line_index.line_numbers.Goals as goal

pub loop-first-init : goal.loop-first-init
loop-first-init c = (
  indexed_none c.args.placed.now c.in_ok-numbers.numbers.items (ap length c.in_ok-numbers.ensures ∙ length-map (up_to (length c.args.placed.now)) (λ (_ : ℕ). none) ∙ length-up_to (length c.args.placed.now)),
  omega arith,
)

pub loop-first-preserved-in_ok-mark_each : goal.loop-first-preserved-in_ok-mark_each
loop-first-preserved-in_ok-mark_each c =
    let lines = c.args.lines.now in
    let test = c.loop-first-test.true in
    let count : c.in-Ok.count ≡ length lines = c.in-Ok.ensures.1 in
    let end = c.end_of_same-end.ensures in
    let within = end.within in (
      subst (λ ns. AreIndexed c.args.placed.now (ranks_of_lines (take c.end_of_same-end.result lines)) ns)
          (sym (with_items_is c.loop-first.numbers c.mark_each.new.numbers (c.mark_each.auto.numbers ∙ c.deref_mut.ensures.len)))
          (indexed_more c.args.placed.now lines c.loop-first.first c.end_of_same-end.result c.index-lines-first.result c.deref_mut.result.now c.mark_each.new.numbers
          (omega (arith, test, count)) (omega (arith, within, count)) end.same c.in_ok-mark_each.ensures
          (subst (λ old. AreIndexed c.args.placed.now (ranks_of_lines (take c.loop-first.first lines)) old) (sym c.deref_mut.ensures.value) c.loop-first.invariant.0)),
      within,
    )

pub loop-first-preserved : goal.loop-first-preserved
loop-first-preserved c =
    let lines = c.args.lines.now in
    let test = c.loop-first-test.true in
    let count : c.in-Ok.count ≡ length lines = c.in-Ok.ensures.1 in
    let end = c.end_of_same-end.ensures in
    let within = end.within in (
      subst (λ ns. AreIndexed c.args.placed.now (ranks_of_lines (take c.end_of_same-end.result lines)) ns)
          (sym (with_items_is c.loop-first.numbers c.mark_nodes.new.numbers (c.mark_nodes.auto.numbers ∙ c.deref_mut-else-placed-count.ensures.len)))
          (indexed_more c.args.placed.now lines c.loop-first.first c.end_of_same-end.result c.index-lines-first.result c.deref_mut-else-placed-count.result.now c.mark_nodes.new.numbers
          (omega (arith, test, count)) (omega (arith, within, count)) end.same c.in_ok-mark_nodes.ensures
          (subst (λ old. AreIndexed c.args.placed.now (ranks_of_lines (take c.loop-first.first lines)) old) (sym c.deref_mut-else-placed-count.ensures.value) c.loop-first.invariant.0)),
      within,
    )
