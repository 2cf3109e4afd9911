use Rattle.std.proofs.Common.{◌-◌, ◌&&◌, ◌++◌, [], ◌∷◌, ℕ, get_or, ltb, refl, take, sym, ap, ◌∙◌, arith}
use Rattle.std.specs.List.{list_any}
use Rattle.std.specs.FinMap as finmap
use Rattle.rank_set.specs.Ranks.{has, has-none, none}
use Rattle.call_path.specs.Path.{Path}
use Rattle.prefix_tree.specs.Tree.{Marks, Tree, rows_of}
use Rattle.prefix_tree.proofs.TreeLemmas.{IsTreeOf-from_equal}
use Rattle.tree_view.specs.Views.{has_frame}
use Rattle.tree_view.specs.Selections.{place_of}
use Rattle.tree_view.proofs.Lies.{framed_ranks}
use Rattle.tree_view.proofs.Places.{has_by_place}
use Rattle.tree_view.proofs.Walk.{framed_step, row_step}
use Rattle.tree_view.proofs.selection.ranks_in_frame.Goals as goal

pub loop-row-init : goal.loop-row-init
loop-row-init g c = record {
  cursor = c.in_ok-at.ensures.cursor;
  below_root = omega (arith, c.in_ok-at.ensures.first);
  place = ap (λ (n : ℕ). place_of c.args.frame.now (get_or (rows_of (g.T.PrefixTree.tree c.args.tree.now)) (n - 1) ([], (none, none))).0) (sym c.in_ok-at.ensures.first);
  ranks = λ r. ap (λ s. has s r) c.new-ranks.ensures ∙ has-none r ∙ ap (λ (n : ℕ). list_any (λ (e : Path × Marks). has_frame c.args.frame.now e.0 && has e.1.1 r) (take (n - 1) (finmap.entries (g.T.PrefixTree.tree c.args.tree.now).below))) (sym c.in_ok-at.ensures.first);
}

pub loop-row-preserved : goal.loop-row-preserved
loop-row-preserved g c =
    let t : Tree = g.T.PrefixTree.tree c.args.tree.now in
    let f = c.args.frame.now in
    let row = c.in-Some.row in
    let h = c.loop-row.invariant in
    let before : Path = (get_or (rows_of t) (c.loop-row.at.row - 1) ([], (none, none))).0 in
    let path : Path = take (row.depth - 1) before ++ row.frame.now ∷ [] in
    let step = row_step (place_of f) t c.in_ok-at.ensures.lawful.tree c.loop-row.at.row row before path c.loop-row.place c.place_after-place.result h.below_root c.in-Some.ensures.within c.in-Some.ensures.shows (c.in-Some.ensures.good h.below_root).some refl refl h.place c.place_after-place.ensures in
    record {
      cursor = c.in-Some.ensures.cursor;
      below_root = omega (arith, h.below_root, c.in-Some.ensures.next);
      place = step.3 ∙ ap (place_of f) (step.0 ∙ ap (λ (n : ℕ). (get_or (rows_of t) (n - 1) ([], (none, none))).0) (sym c.in-Some.ensures.next));
      ranks = framed_step f t c.loop-row.at.row c.next_row.new.at.row row path c.loop-row.ranks c.add_if.new.ranks (ltb c.place_after-place.result row.depth) h.below_root c.in-Some.ensures.within c.in-Some.ensures.next c.in-Some.ensures.shows step.1
          (has_by_place f path ∙ (λ i. ltb (sym step.3 i) (step.2 i)))
          c.in_ok-add_if.ensures h.ranks;
    }

pub returns : goal.returns
returns g c P C is =
    let t : Tree = g.T.PrefixTree.tree c.args.tree.now in
    framed_ranks P C t (IsTreeOf-from_equal P C t is) c.args.frame.now c.loop-row.ranks
    (λ r. c.loop-row.invariant.ranks r ∙ ap (list_any (λ (e : Path × Marks). has_frame c.args.frame.now e.0 && has e.1.1 r)) (Rattle.std.proofs.lemmas.List.take_all (c.loop-row.at.row - 1) (finmap.entries t.below) (omega (arith, c.in_default.ensures.end refl, c.loop-row.invariant.below_root))))
