use Rattle.std.proofs.Common.{◌≡◌, ◌+◌, ◌-◌, ◌≤◌, ◌++◌, [], ◌∷◌, ℕ, true, get_or, refl, take, sym, ap, subst, ◌∙◌, arith}
use Rattle.std.specs.FinMap as finmap
use Rattle.std.proofs.lemmas.Bool.{true≢false}
use Rattle.rank_set.specs.Ranks.{none, is_subset, subset_from, union-none}
use Rattle.prefix_tree.specs.Tree.{Tree, count_below, rows_of, tree_of}
use Rattle.prefix_tree.proofs.TreeLemmas.{coverage-tree_of}
use Rattle.tree_view.specs.Selections.{edited, ends_in, place_in}
use Rattle.tree_view.proofs.Room.{few_edited}
use Rattle.tree_view.proofs.Places.{no_place}
use Rattle.tree_view.proofs.Walk.{edit_step, row_step, shown_ends}
use Rattle.tree_view.proofs.selection.selected.Goals as goal

pub loop-row-init : goal.loop-row-init
loop-row-init g c = record {
  cursor = c.in_ok-at.ensures.cursor;
  below_root = omega (arith, c.in_ok-at.ensures.first);
  frames = c.new-frames.ensures ∙ ap (λ (n : ℕ). (get_or (rows_of (g.T.PrefixTree.tree c.args.tree.now)) (n - 1) ([], (none, none))).0) (sym c.in_ok-at.ensures.first);
  place = no_place c.args.selection.now ∙ ap (place_in c.args.selection.now) (sym c.new-frames.ensures);
  kept =
      c.in_ok-cover.ensures.pairs [] none (λ r p there. absurd (true≢false (sym there))) c.empty-kept.ensures
      ∙ ap (tree_of []) (union-none c.args.covered.now)
      ∙ ap (λ (n : ℕ). tree_of (edited (ends_in c.args.selection.now) (take (n - 1) (finmap.entries (g.T.PrefixTree.tree c.args.tree.now).below))) c.args.covered.now) (sym c.in_ok-at.ensures.first);
}

pub add_ends-requires-clause-covered : goal.add_ends-requires-clause-covered
add_ends-requires-clause-covered g c κs within =
    let t : Tree = g.T.PrefixTree.tree c.args.tree.now in
    let row = c.in-Some.row in
    let h = c.loop-row.invariant in
    let step = row_step (place_in c.args.selection.now) t c.in_ok-at.ensures.lawful.tree c.loop-row.at.row row c.loop-row.frames c.push.new.self c.loop-row.place c.place_after-place.result h.below_root c.in-Some.ensures.within c.in-Some.ensures.shows (c.in-Some.ensures.good h.below_root).some h.frames
    (c.in_ok-push.ensures.ok ∙ ap (λ p. p ++ row.frame.now ∷ []) c.cut.ensures) h.place c.place_after-place.ensures in
    let is = shown_ends (ends_in c.args.selection.now) t c.loop-row.at.row row c.push.new.self c.in_ok-ends.ends h.below_root c.in-Some.ensures.within c.in-Some.ensures.shows step.1 (c.in_ok-ends.ensures c.push.new.self step.2 step.3) in
    let covers : (g.T.PrefixTree.tree c.loop-row.kept).coverage ≡ c.args.covered.now = ap (λ (u : Tree). u.coverage) h.kept ∙ coverage-tree_of _ _ in
    subst (λ C. is_subset c.in_ok-ends.ends C ≡ true) (sym covers)
    (subst (λ s. is_subset s c.args.covered.now ≡ true) (sym is) (subset_from _ _ (c.requires c.in_ok-at.ensures.lawful.tree (c.loop-row.at.row - 1) (omega (arith, h.below_root, c.in-Some.ensures.within)))))

pub add_ends-requires-clause-room : goal.add_ends-requires-clause-room
add_ends-requires-clause-room g c κs within =
    let t : Tree = g.T.PrefixTree.tree c.args.tree.now in
    let row = c.in-Some.row in
    let h = c.loop-row.invariant in
    let step = row_step (place_in c.args.selection.now) t c.in_ok-at.ensures.lawful.tree c.loop-row.at.row row c.loop-row.frames c.push.new.self c.loop-row.place c.place_after-place.result h.below_root c.in-Some.ensures.within c.in-Some.ensures.shows (c.in-Some.ensures.good h.below_root).some h.frames
    (c.in_ok-push.ensures.ok ∙ ap (λ p. p ++ row.frame.now ∷ []) c.cut.ensures) h.place c.place_after-place.ensures in
    let is = edit_step (ends_in c.args.selection.now) t c.args.covered.now c.loop-row.at.row row c.push.new.self c.in_ok-ends.ends (g.T.PrefixTree.tree c.loop-row.kept) h.below_root c.in-Some.ensures.within c.in-Some.ensures.shows step.1 (c.in_ok-ends.ensures c.push.new.self step.2 step.3) h.kept in
    let few = few_edited t c.in_ok-at.ensures.lawful.tree (ends_in c.args.selection.now) c.args.covered.now ((c.loop-row.at.row + 1) - 1) in
    let most = c.in_ok-at.ensures.lawful.within_limit in
    subst (λ u. count_below u ≤ 2048) (sym is) (omega (arith, few, most))

pub loop-row-preserved-in_ok-add_ends : goal.loop-row-preserved-in_ok-add_ends
loop-row-preserved-in_ok-add_ends g c =
    let t : Tree = g.T.PrefixTree.tree c.args.tree.now in
    let row = c.in-Some.row in
    let h = c.loop-row.invariant in
    let step = row_step (place_in c.args.selection.now) t c.in_ok-at.ensures.lawful.tree c.loop-row.at.row row c.loop-row.frames c.push.new.self c.loop-row.place c.place_after-place.result h.below_root c.in-Some.ensures.within c.in-Some.ensures.shows (c.in-Some.ensures.good h.below_root).some h.frames
    (c.in_ok-push.ensures.ok ∙ ap (λ p. p ++ row.frame.now ∷ []) c.cut.ensures) h.place c.place_after-place.ensures in
    let is = edit_step (ends_in c.args.selection.now) t c.args.covered.now c.loop-row.at.row row c.push.new.self c.in_ok-ends.ends (g.T.PrefixTree.tree c.loop-row.kept) h.below_root c.in-Some.ensures.within c.in-Some.ensures.shows step.1 (c.in_ok-ends.ensures c.push.new.self step.2 step.3) h.kept in
    record {
      cursor = c.in-Some.ensures.cursor;
      below_root = omega (arith, h.below_root, c.in-Some.ensures.next);
      frames = c.add_ends.ensures.path ∙ step.0 ∙ ap (λ (n : ℕ). (get_or (rows_of t) (n - 1) ([], (none, none))).0) (sym c.in-Some.ensures.next);
      place = step.3 ∙ ap (place_in c.args.selection.now) (sym c.add_ends.ensures.path);
      kept = c.in_ok-add_ends.ensures.tree ∙ is ∙ ap (λ (n : ℕ). tree_of (edited (ends_in c.args.selection.now) (take (n - 1) (finmap.entries t.below))) c.args.covered.now) (sym c.in-Some.ensures.next);
    }

pub loop-row-preserved-in_ok-add_ends-2 : goal.loop-row-preserved-in_ok-add_ends-2
loop-row-preserved-in_ok-add_ends-2 g c =
    let t : Tree = g.T.PrefixTree.tree c.args.tree.now in
    let row = c.in-Some.row in
    let h = c.loop-row.invariant in
    let step = row_step (place_in c.args.selection.now) t c.in_ok-at.ensures.lawful.tree c.loop-row.at.row row c.loop-row.frames c.push.new.self c.loop-row.place c.place_after-place.result h.below_root c.in-Some.ensures.within c.in-Some.ensures.shows (c.in-Some.ensures.good h.below_root).some h.frames
    (c.in_ok-push.ensures.ok ∙ ap (λ p. p ++ row.frame.now ∷ []) c.cut.ensures) h.place c.place_after-place.ensures in
    let is = edit_step (ends_in c.args.selection.now) t c.args.covered.now c.loop-row.at.row row c.push.new.self c.in_ok-ends.ends (g.T.PrefixTree.tree c.loop-row.kept) h.below_root c.in-Some.ensures.within c.in-Some.ensures.shows step.1 (c.in_ok-ends.ensures c.push.new.self step.2 step.3) h.kept in
    record {
      cursor = c.in-Some.ensures.cursor;
      below_root = omega (arith, h.below_root, c.in-Some.ensures.next);
      frames = c.add_ends.ensures.path ∙ step.0 ∙ ap (λ (n : ℕ). (get_or (rows_of t) (n - 1) ([], (none, none))).0) (sym c.in-Some.ensures.next);
      place = step.3 ∙ ap (place_in c.args.selection.now) (sym c.add_ends.ensures.path);
      kept = c.in_ok-add_ends.ensures.tree ∙ is ∙ ap (λ (n : ℕ). tree_of (edited (ends_in c.args.selection.now) (take (n - 1) (finmap.entries t.below))) c.args.covered.now) (sym c.in-Some.ensures.next);
    }

pub loop-row-preserved-in_ok-add_ends-3 : goal.loop-row-preserved-in_ok-add_ends-3
loop-row-preserved-in_ok-add_ends-3 g c =
    let t : Tree = g.T.PrefixTree.tree c.args.tree.now in
    let row = c.in-Some.row in
    let h = c.loop-row.invariant in
    let step = row_step (place_in c.args.selection.now) t c.in_ok-at.ensures.lawful.tree c.loop-row.at.row row c.loop-row.frames c.push.new.self c.loop-row.place c.place_after-place.result h.below_root c.in-Some.ensures.within c.in-Some.ensures.shows (c.in-Some.ensures.good h.below_root).some h.frames
    (c.in_ok-push.ensures.ok ∙ ap (λ p. p ++ row.frame.now ∷ []) c.cut.ensures) h.place c.place_after-place.ensures in
    let is = edit_step (ends_in c.args.selection.now) t c.args.covered.now c.loop-row.at.row row c.push.new.self c.in_ok-ends.ends (g.T.PrefixTree.tree c.loop-row.kept) h.below_root c.in-Some.ensures.within c.in-Some.ensures.shows step.1 (c.in_ok-ends.ensures c.push.new.self step.2 step.3) h.kept in
    record {
      cursor = c.in-Some.ensures.cursor;
      below_root = omega (arith, h.below_root, c.in-Some.ensures.next);
      frames = c.add_ends.ensures.path ∙ step.0 ∙ ap (λ (n : ℕ). (get_or (rows_of t) (n - 1) ([], (none, none))).0) (sym c.in-Some.ensures.next);
      place = step.3 ∙ ap (place_in c.args.selection.now) (sym c.add_ends.ensures.path);
      kept = c.in_ok-add_ends.ensures.tree ∙ is ∙ ap (λ (n : ℕ). tree_of (edited (ends_in c.args.selection.now) (take (n - 1) (finmap.entries t.below))) c.args.covered.now) (sym c.in-Some.ensures.next);
    }

pub loop-row-preserved : goal.loop-row-preserved
loop-row-preserved g c =
    let t : Tree = g.T.PrefixTree.tree c.args.tree.now in
    let row = c.in-Some.row in
    let h = c.loop-row.invariant in
    let step = row_step (place_in c.args.selection.now) t c.in_ok-at.ensures.lawful.tree c.loop-row.at.row row c.loop-row.frames c.push.new.self c.loop-row.place c.place_after-place.result h.below_root c.in-Some.ensures.within c.in-Some.ensures.shows (c.in-Some.ensures.good h.below_root).some h.frames
    (c.in_ok-push.ensures.ok ∙ ap (λ p. p ++ row.frame.now ∷ []) c.cut.ensures) h.place c.place_after-place.ensures in
    let is = edit_step (ends_in c.args.selection.now) t c.args.covered.now c.loop-row.at.row row c.push.new.self c.in_ok-ends.ends (g.T.PrefixTree.tree c.loop-row.kept) h.below_root c.in-Some.ensures.within c.in-Some.ensures.shows step.1 (c.in_ok-ends.ensures c.push.new.self step.2 step.3) h.kept in
    record {
      cursor = c.in-Some.ensures.cursor;
      below_root = omega (arith, h.below_root, c.in-Some.ensures.next);
      frames = c.add_ends.ensures.path ∙ step.0 ∙ ap (λ (n : ℕ). (get_or (rows_of t) (n - 1) ([], (none, none))).0) (sym c.in-Some.ensures.next);
      place = step.3 ∙ ap (place_in c.args.selection.now) (sym c.add_ends.ensures.path);
      kept = c.in_ok-add_ends.ensures.tree ∙ is ∙ ap (λ (n : ℕ). tree_of (edited (ends_in c.args.selection.now) (take (n - 1) (finmap.entries t.below))) c.args.covered.now) (sym c.in-Some.ensures.next);
    }

pub returns : goal.returns
returns g c =
    let es = finmap.entries (g.T.PrefixTree.tree c.args.tree.now).below in
    c.loop-row.invariant.kept ∙ ap (λ xs. tree_of (edited (ends_in c.args.selection.now) xs) c.args.covered.now) (Rattle.std.proofs.lemmas.List.take_all (c.loop-row.at.row - 1) es (omega (arith, c.in_default.ensures.end refl, c.loop-row.invariant.below_root)))
