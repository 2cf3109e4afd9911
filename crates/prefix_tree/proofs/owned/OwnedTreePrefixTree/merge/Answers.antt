use Rattle.std.proofs.Common.{◌∙◌, ap, sym, subst, arith, length, map}
use Rattle.std.proofs.lemmas.Bool.{leb-true, leb-false}
use Rattle.prefix_tree.specs.Tree.{merged, Unites}
use Rattle.prefix_tree.specs.Owned.{below_in, entries_view}
use Rattle.prefix_tree.specs.Changes.{changed, new_among, inserted}
use Rattle.prefix_tree.proofs.TreeLemmas.{merged_unites}
use Rattle.prefix_tree.proofs.ChangeLemmas.{apart_from_order}
use Rattle.prefix_tree.proofs.OwnedLemmas.{MakesTree, makes_merged, from_equal_ranks, count_merged, puts_count, puts_in_order, puts_are_united}
use Rattle.prefix_tree.proofs.owned.OwnedTreePrefixTree.merge.Goals as goal

-- too many
pub returns-then-not-has_room-clause-full : goal.returns-then-not-has_room-clause-full
returns-then-not-has_room-clause-full c _ =
    let count = count_merged c.self.inside.coverage c.other.inside.coverage c.self.inside.rows.items c.other.inside.rows.items c.args.self.now c.args.other.now c.self.view_is c.other.view_is c.self.invariant.tree c.other.invariant.tree in
    let new = c.in_ok-changes.ensures.added ∙ (λ i. new_among (below_in (c.deref.ensures.value i)) (entries_view (c.deref-2.ensures.value i))) in
    omega (arith, count, new, ap length c.deref-3.ensures.value, leb-false _ _ (sym c.has_room.ensures ∙ c.if-not-has_room.true))

pub insert_rows-requires-clause-capacity : goal.insert_rows-requires-clause-capacity
insert_rows-requires-clause-capacity c =
    let count = ap (λ rows. length (inserted (entries_view rows) (entries_view c.in_ok-changes.changes.rows.items))) c.in_ok-reserve.ensures.items
    ∙ puts_count c.self.inside.rows.items c.self.inside.rows.items c.in_ok-changes.changes.rows.items (entries_view c.other.inside.rows.items) c.self.invariant.tree.in_order (apart_from_order (entries_view c.other.inside.rows.items) c.other.invariant.tree.in_order) (c.in_ok-changes.ensures.rows ∙ (λ i. map (changed (below_in (c.deref.ensures.value i))) (entries_view (c.deref-2.ensures.value i)))) in
    let new = c.in_ok-changes.ensures.added ∙ (λ i. new_among (below_in (c.deref.ensures.value i)) (entries_view (c.deref-2.ensures.value i))) in
    omega (arith, count, new, c.in_ok-reserve.ensures.ok, c.in_ok-reserve.ensures.len, ap length c.deref-3.ensures.value, c.deref-3.ensures.len)

makes : (c : goal.After-insert_rows) → MakesTree c.union_into.new.self c.insert_rows.new.rows.items (merged c.args.self.now c.args.other.now)
makes c =
    from_equal_ranks _ _ _ _ c.in_ok-union_into.ensures.ok
    (makes_merged c.self.inside.coverage c.other.inside.coverage c.self.inside.rows.items c.other.inside.rows.items c.insert_rows.new.rows.items c.args.self.now c.args.other.now c.self.view_is c.other.view_is c.self.invariant.tree c.other.invariant.tree
    (puts_in_order c.self.inside.rows.items c.insert_rows.new.rows.items c.in_ok-changes.changes.rows.items (entries_view c.other.inside.rows.items) c.self.invariant.tree.in_order (apart_from_order (entries_view c.other.inside.rows.items) c.other.invariant.tree.in_order) (c.in_ok-changes.ensures.rows ∙ (λ i. map (changed (below_in (c.deref.ensures.value i))) (entries_view (c.deref-2.ensures.value i)))) (c.insert_rows.ensures ∙ ap (λ rows. inserted (entries_view rows) (entries_view c.in_ok-changes.changes.rows.items)) c.in_ok-reserve.ensures.items))
    (puts_are_united c.self.inside.rows.items c.insert_rows.new.rows.items c.in_ok-changes.changes.rows.items (entries_view c.other.inside.rows.items) c.self.invariant.tree.in_order (apart_from_order (entries_view c.other.inside.rows.items) c.other.invariant.tree.in_order) (c.in_ok-changes.ensures.rows ∙ (λ i. map (changed (below_in (c.deref.ensures.value i))) (entries_view (c.deref-2.ensures.value i)))) (c.insert_rows.ensures ∙ ap (λ rows. inserted (entries_view rows) (entries_view c.in_ok-changes.changes.rows.items)) c.in_ok-reserve.ensures.items)))

pub returns-clause-fits : goal.returns-clause-fits
returns-clause-fits c =
    let count = count_merged c.self.inside.coverage c.other.inside.coverage c.self.inside.rows.items c.other.inside.rows.items c.args.self.now c.args.other.now c.self.view_is c.other.view_is c.self.invariant.tree c.other.invariant.tree in
    let new = c.in_ok-changes.ensures.added ∙ (λ i. new_among (below_in (c.deref.ensures.value i)) (entries_view (c.deref-2.ensures.value i))) in
    let few = c.self.invariant.tree.within_limit in
    omega (arith, count, new, few, ap length c.deref-3.ensures.value, leb-true _ _ (sym c.has_room.ensures ∙ c.if-not-has_room.false))

pub invariant_of-self-2 : goal.invariant_of-self-2
invariant_of-self-2 c =
    let size = (makes c).size in
    let count = count_merged c.self.inside.coverage c.other.inside.coverage c.self.inside.rows.items c.other.inside.rows.items c.args.self.now c.args.other.now c.self.view_is c.other.view_is c.self.invariant.tree c.other.invariant.tree in
    let new = c.in_ok-changes.ensures.added ∙ (λ i. new_among (below_in (c.deref.ensures.value i)) (entries_view (c.deref-2.ensures.value i))) in
    let few = c.self.invariant.tree.within_limit in
    record { tree = (makes c).tree (omega (arith, size, count, new, few, ap length c.deref-3.ensures.value, leb-true _ _ (sym c.has_room.ensures ∙ c.if-not-has_room.false))); no_ranks = c.self.invariant.no_ranks }

pub returns-clause-ok : goal.returns-clause-ok
returns-clause-ok c = (makes c).is

pub returns-clause-pairs : goal.returns-clause-pairs
returns-clause-pairs c = subst (Unites c.args.self.now c.args.other.now) (sym (makes c).is) (merged_unites c.args.self.now c.args.other.now)
