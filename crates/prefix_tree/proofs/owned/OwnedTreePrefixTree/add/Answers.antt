use Rattle.std.proofs.Common.{◌∙◌, ap, sym, subst, arith, length, map}
use Rattle.std.proofs.lemmas.Bool.{leb-true, leb-false}
use Rattle.prefix_tree.specs.Tree.{added, Adds}
use Rattle.prefix_tree.specs.Joined.{path_rows}
use Rattle.prefix_tree.specs.Owned.{below_in, entries_view}
use Rattle.prefix_tree.specs.Changes.{changed, new_among, inserted}
use Rattle.prefix_tree.proofs.TreeLaws.{added_adds}
use Rattle.prefix_tree.proofs.ChangeLemmas.{apart_path_rows}
use Rattle.prefix_tree.proofs.OwnedLemmas.{MakesTree, makes_added, count_added, puts_count, puts_in_order, puts_are_united}
use Rattle.prefix_tree.proofs.owned.OwnedTreePrefixTree.add.Goals as goal

-- too many
pub returns-then-not-has_room-clause-full : goal.returns-then-not-has_room-clause-full
returns-then-not-has_room-clause-full c _ =
    let count = count_added c.self.inside.coverage c.args.ranks.now c.args.path.now c.self.inside.rows.items c.args.self.now c.self.view_is c.self.invariant.tree c.requires.not_empty c.requires.in_coverage in
    let new = c.in_ok-changes.ensures.added ∙ ap (λ rows. new_among (below_in rows) (path_rows c.args.ranks.now c.args.path.now)) c.deref.ensures.value in
    omega (arith, count, new, ap length c.deref-2.ensures.value, leb-false _ _ (sym c.has_room.ensures ∙ c.if-not-has_room.true))

pub insert_rows-requires-clause-capacity : goal.insert_rows-requires-clause-capacity
insert_rows-requires-clause-capacity c =
    let count = ap (λ rows. length (inserted (entries_view rows) (entries_view c.in_ok-changes.changes.rows.items))) c.in_ok-reserve.ensures.items
    ∙ puts_count c.self.inside.rows.items c.self.inside.rows.items c.in_ok-changes.changes.rows.items (path_rows c.args.ranks.now c.args.path.now) c.self.invariant.tree.in_order (apart_path_rows c.args.ranks.now c.args.path.now) (c.in_ok-changes.ensures.rows ∙ ap (λ rows. map (changed (below_in rows)) (path_rows c.args.ranks.now c.args.path.now)) c.deref.ensures.value) in
    let new = c.in_ok-changes.ensures.added ∙ ap (λ rows. new_among (below_in rows) (path_rows c.args.ranks.now c.args.path.now)) c.deref.ensures.value in
    omega (arith, count, new, c.in_ok-reserve.ensures.ok, c.in_ok-reserve.ensures.len, ap length c.deref-2.ensures.value, c.deref-2.ensures.len)

makes : (c : goal.After-insert_rows) → MakesTree c.self.inside.coverage c.insert_rows.new.rows.items (added c.args.self.now c.args.ranks.now c.args.path.now)
makes c =
    makes_added c.self.inside.coverage c.args.ranks.now c.args.path.now c.self.inside.rows.items c.insert_rows.new.rows.items c.args.self.now c.self.view_is c.self.invariant.tree c.requires.not_empty c.requires.in_coverage c.in_ok-changes.ensures.good
    (puts_in_order c.self.inside.rows.items c.insert_rows.new.rows.items c.in_ok-changes.changes.rows.items (path_rows c.args.ranks.now c.args.path.now) c.self.invariant.tree.in_order (apart_path_rows c.args.ranks.now c.args.path.now) (c.in_ok-changes.ensures.rows ∙ ap (λ rows. map (changed (below_in rows)) (path_rows c.args.ranks.now c.args.path.now)) c.deref.ensures.value) (c.insert_rows.ensures ∙ ap (λ rows. inserted (entries_view rows) (entries_view c.in_ok-changes.changes.rows.items)) c.in_ok-reserve.ensures.items))
    (puts_are_united c.self.inside.rows.items c.insert_rows.new.rows.items c.in_ok-changes.changes.rows.items (path_rows c.args.ranks.now c.args.path.now) c.self.invariant.tree.in_order (apart_path_rows c.args.ranks.now c.args.path.now) (c.in_ok-changes.ensures.rows ∙ ap (λ rows. map (changed (below_in rows)) (path_rows c.args.ranks.now c.args.path.now)) c.deref.ensures.value) (c.insert_rows.ensures ∙ ap (λ rows. inserted (entries_view rows) (entries_view c.in_ok-changes.changes.rows.items)) c.in_ok-reserve.ensures.items))

pub returns-clause-fits : goal.returns-clause-fits
returns-clause-fits c =
    let count = count_added c.self.inside.coverage c.args.ranks.now c.args.path.now c.self.inside.rows.items c.args.self.now c.self.view_is c.self.invariant.tree c.requires.not_empty c.requires.in_coverage in
    let new = c.in_ok-changes.ensures.added ∙ ap (λ rows. new_among (below_in rows) (path_rows c.args.ranks.now c.args.path.now)) c.deref.ensures.value in
    let few = c.self.invariant.tree.within_limit in
    omega (arith, count, new, few, ap length c.deref-2.ensures.value, leb-true _ _ (sym c.has_room.ensures ∙ c.if-not-has_room.false))

pub invariant_of-self-2 : goal.invariant_of-self-2
invariant_of-self-2 c =
    let size = (makes c).size in
    let count = count_added c.self.inside.coverage c.args.ranks.now c.args.path.now c.self.inside.rows.items c.args.self.now c.self.view_is c.self.invariant.tree c.requires.not_empty c.requires.in_coverage in
    let new = c.in_ok-changes.ensures.added ∙ ap (λ rows. new_among (below_in rows) (path_rows c.args.ranks.now c.args.path.now)) c.deref.ensures.value in
    let few = c.self.invariant.tree.within_limit in
    record { tree = (makes c).tree (omega (arith, size, count, new, few, ap length c.deref-2.ensures.value, leb-true _ _ (sym c.has_room.ensures ∙ c.if-not-has_room.false))); no_ranks = c.self.invariant.no_ranks }

pub returns-clause-ok : goal.returns-clause-ok
returns-clause-ok c = (makes c).is

pub returns-clause-pairs : goal.returns-clause-pairs
returns-clause-pairs c = subst (Adds c.args.self.now c.args.ranks.now c.args.path.now) (sym (makes c).is) (added_adds c.args.self.now c.args.ranks.now c.args.path.now)
