use Rattle.std.proofs.Common.{◌≡◌, ◌≤◌, ◌<◌, ℕ, ◌+◌, ◌-◌, ◌*◌, ◌^◌, arith, length, refl, ap, drop, subst, mul-le-mul, suc}
use Rattle.std.specs.FinMap as finmap
use Rattle.prefix_tree.specs.Tree.{Tree, rows_of, count_below}
use Rattle.rank_sums.specs.Folds.{joined, total}
use Rattle.rank_sums.specs.PartTrees.{row_total, tree_total}
use Rattle.rank_sums.proofs.RowValues.{IsRow, all_read, frame_is, joined_bound, part_within, row_is, step_is, value_is}
use Rattle.rank_sums.proofs.Small.{within_more}
use Rattle.rank_sums.proofs.value.rows_value.Goals as goal

few : (t : Tree) (i : ℕ) → count_below t ≤ 2048 → i < length (rows_of t) → (i - 1) * 2 ^ 84 ≤ 2048 * 2 ^ 84
few t i within lt =
    let n : i - 1 ≤ 2048 = omega (arith, within, lt, finmap.len-entries t.below) in
    let one : 2 ^ 84 ≤ 2 ^ 84 = omega arith in
    mul-le-mul n one

pub row_value-part-requires : goal.row_value-part-requires
row_value-part-requires g c =
    let t = g.T.PrefixTree.tree c.args.tree.now in
    frame_is c.args.fold t (c.loop-row.at.row - 1) c.in-Some.row c.requires (row_is t c.loop-row.at.row c.in-Some.row c.loop-row.invariant.below_root c.in-Some.ensures.within c.in-Some.ensures.shows)

pub joined-value-requires-clause-first : goal.joined-value-requires-clause-first
joined-value-requires-clause-first g c =
    let t = g.T.PrefixTree.tree c.args.tree.now in
    let k = few t c.loop-row.at.row c.in_ok-at.ensures.lawful.within_limit c.in-Some.ensures.within in
    within_more ((c.loop-row.at.row - 1) * 2 ^ 84) (2 ^ 120) c.loop-row.value (omega (arith, k)) c.loop-row.invariant.within

pub joined-value-requires-clause-second : goal.joined-value-requires-clause-second
joined-value-requires-clause-second g c =
    let t = g.T.PrefixTree.tree c.args.tree.now in
    let i = c.loop-row.at.row - 1 in
    let row : IsRow t i c.in-Some.row = row_is t c.loop-row.at.row c.in-Some.row c.loop-row.invariant.below_root c.in-Some.ensures.within c.in-Some.ensures.shows in
    let e = value_is c.args.fold t i c.in-Some.row c.count.result c.row_value-part.result c.requires row c.count.ensures.count c.row_value-part.ensures in
    within_more (2 ^ 84) (2 ^ 120) c.row_value-part.result (omega arith)
    (part_within c.args.fold t i c.in-Some.row c.count.result c.row_value-part.result c.requires row c.count.ensures.count c.count.ensures.within_limit e)

pub loop-row-init : goal.loop-row-init
loop-row-init g c =
    let t = g.T.PrefixTree.tree c.args.tree.now in
    let none_read : c.in_ok-at.at.row - 1 ≡ 0 = omega (arith, c.in_ok-at.ensures.first) in
    record {
      cursor = c.in_ok-at.ensures.cursor;
      below_root = omega (arith, c.in_ok-at.ensures.first);
      value = ap (λ n. total c.args.fold (row_total c.args.fold) (drop n (finmap.entries t.below))) none_read;
      within = λ z e. absurd (cc);
    }

pub loop-row-preserved : goal.loop-row-preserved
loop-row-preserved g c =
    let t = g.T.PrefixTree.tree c.args.tree.now in
    let at = c.loop-row.at.row in
    let h = c.loop-row.invariant in
    let row : IsRow t (at - 1) c.in-Some.row = row_is t at c.in-Some.row h.below_root c.in-Some.ensures.within c.in-Some.ensures.shows in
    let e = value_is c.args.fold t (at - 1) c.in-Some.row c.count.result c.row_value-part.result c.requires row c.count.ensures.count c.row_value-part.ensures in
    let w = part_within c.args.fold t (at - 1) c.in-Some.row c.count.result c.row_value-part.result c.requires row c.count.ensures.count c.count.ensures.within_limit e in
    let s = step_is c.args.fold t (at - 1) c.in-Some.row c.loop-row.value c.row_value-part.result c.joined-value.result row e c.joined-value.ensures h.value in
    let b = joined_bound c.args.fold c.loop-row.value c.row_value-part.result c.joined-value.result ((at - 1) * 2 ^ 84) (2 ^ 84) h.within w c.joined-value.ensures in
    let next : suc (at - 1) ≡ c.next_row.new.at.row - 1 = omega (arith, h.below_root, c.in-Some.ensures.next) in
    record {
      cursor = c.in-Some.ensures.cursor;
      below_root = omega (arith, h.below_root, c.in-Some.ensures.next);
      value = subst (λ n. joined c.args.fold c.joined-value.result (total c.args.fold (row_total c.args.fold) (drop n (finmap.entries t.below))) ≡ tree_total c.args.fold t) next s;
      within = within_more ((at - 1) * 2 ^ 84 + 2 ^ 84) ((c.next_row.new.at.row - 1) * 2 ^ 84) c.joined-value.result (omega (arith, ap (λ n. n * 2 ^ 84) next)) b;
    }

pub returns : goal.returns
returns g c =
    all_read c.args.fold (g.T.PrefixTree.tree c.args.tree.now) c.loop-row.at.row c.loop-row.value c.loop-row.invariant.below_root (c.in_default.ensures.end refl) c.loop-row.invariant.value
