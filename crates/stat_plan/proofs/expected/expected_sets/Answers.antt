use Rattle.std.proofs.Common.{ℕ, ◌<◌, ◌+◌, refl, sym, ap, subst, ◌∙◌, inl, inr, ◌∷◌, get_or, length, map, take}
use Rattle.std.proofs.lemmas.List.{with_items_is}
use Rattle.rank_set.specs.Ranks.{none}
use Rattle.overlay_setup.specs.NodeSets.{In, up_to}
use Rattle.stat_plan.specs.Tables.{AreExpected, GainRanks}
use Rattle.stat_plan.specs.Plans.{nodes, ranks}
use Rattle.stat_plan.proofs.InLists.{in_at}
use Rattle.stat_plan.proofs.TableLemmas.{ancestors_row, length-ancestors, ancestor_below}
use Rattle.stat_plan.proofs.Expecting.{expect_more, expect_none, ranks_at}
use Rattle.stat_plan.specs.Files.{plan_in}
use Rattle.stat_plan.proofs.expected.expected_sets.Goals as goal

pub loop-d-init : goal.loop-d-init
loop-d-init c =
    expect_none (plan_in c.args.files) c.in_ok-sets.sets.items
    (c.in_ok-sets.ensures ∙ ap (λ k. map (λ (_ : ℕ). none) (up_to k)) c.nodes.ensures)

pub bounds-above-d : goal.bounds-above-d
bounds-above-d c =
    subst (λ k. get_or c.args.daemons.now c.loop-d.d-index 0 < k) (sym (length-ancestors (plan_in c.args.files).parents c.args.above.now c.requires.above))
    (c.requires.daemons (get_or c.args.daemons.now c.loop-d.d-index 0) (in_at c.args.daemons.now c.loop-d.d-index 0 c.loop-d-test.true))

pub bounds-placed-d : goal.bounds-placed-d
bounds-placed-d c =
    subst (λ k. get_or c.args.daemons.now c.loop-d.d-index 0 < k) (sym (ap length c.placed-placed.ensures ∙ c.invariant.ensures.samples_fit.paired))
    (c.requires.daemons (get_or c.args.daemons.now c.loop-d.d-index 0) (in_at c.args.daemons.now c.loop-d.d-index 0 c.loop-d-test.true))

pub add_upwards-requires : goal.add_upwards-requires
add_upwards-requires c n (inl e) =
    subst (λ k. n < k) (sym (ap length c.deref_mut.ensures.value ∙ c.loop-d.invariant.paired))
    (subst (λ k. k < nodes (plan_in c.args.files)) (sym e) (c.requires.daemons (get_or c.args.daemons.now c.loop-d.d-index 0) (in_at c.args.daemons.now c.loop-d.d-index 0 c.loop-d-test.true)))
add_upwards-requires c n (inr i) =
    let d = get_or c.args.daemons.now c.loop-d.d-index 0 in
    let below = c.requires.daemons d (in_at c.args.daemons.now c.loop-d.d-index 0 c.loop-d-test.true) in
    let inside : d < length c.args.above.now = subst (λ k. d < k) (sym (length-ancestors (plan_in c.args.files).parents c.args.above.now c.requires.above)) below in
    let row = ancestors_row (plan_in c.args.files) c.args.above.now d c.index-above-d.result c.requires.above below inside c.index-above-d.is in
    subst (λ k. n < k) (sym (ap length c.deref_mut.ensures.value ∙ c.loop-d.invariant.paired))
    (ancestor_below (plan_in c.args.files) c.invariant.ensures.topology.tree.parents_are_nodes d n (subst (In n) (c.as_slice.ensures.value ∙ row) i))

pub loop-d-preserved : goal.loop-d-preserved
loop-d-preserved c =
    let d = get_or c.args.daemons.now c.loop-d.d-index 0 in
    let below = c.requires.daemons d (in_at c.args.daemons.now c.loop-d.d-index 0 c.loop-d-test.true) in
    let inside : d < length c.args.above.now = subst (λ k. d < k) (sym (length-ancestors (plan_in c.args.files).parents c.args.above.now c.requires.above)) below in
    let row = ancestors_row (plan_in c.args.files) c.args.above.now d c.index-above-d.result c.requires.above below inside c.index-above-d.is in
    let paired = ap length c.placed-placed.ensures ∙ c.invariant.ensures.samples_fit.paired in
    let own = ranks_at (plan_in c.args.files) c.placed-placed.result.now d c.index-placed-d.result c.placed-placed.ensures (subst (λ k. d < k) (sym paired) below) c.index-placed-d.is in
    let gain : GainRanks c.deref_mut.result.now c.add_upwards.new.sets (d ∷ c.as_slice.result.now) c.index-placed-d.result = c.in_ok-add_upwards.ensures in
    let so_far = subst (AreExpected (plan_in c.args.files) (take c.loop-d.d-index c.args.daemons.now)) (sym c.deref_mut.ensures.value) c.loop-d.invariant in
    subst (AreExpected (plan_in c.args.files) (take (c.loop-d.d-index + 1) c.args.daemons.now)) (sym (with_items_is c.loop-d.sets c.add_upwards.new.sets (c.add_upwards.auto.sets ∙ c.deref_mut.ensures.len)))
    (expect_more (plan_in c.args.files) c.args.daemons.now c.loop-d.d-index d c.deref_mut.result.now c.add_upwards.new.sets so_far c.loop-d-test.true refl
    (subst (λ xs. GainRanks c.deref_mut.result.now c.add_upwards.new.sets (d ∷ xs) (ranks (plan_in c.args.files) d)) (c.as_slice.ensures.value ∙ row)
    (subst (λ s. GainRanks c.deref_mut.result.now c.add_upwards.new.sets (d ∷ c.as_slice.result.now) s) own gain)))
