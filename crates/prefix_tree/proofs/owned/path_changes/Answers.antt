use Rattle.std.proofs.Common.{◌≡◌, ◌∙◌, ◌≤◌, ◌<◌, ◌+◌, ◌-◌, ◌++◌, [], ◌∷◌, ap, sym, map, take, drop, length, arith}
use Rattle.std.proofs.lemmas.List.{append_assoc}
use Rattle.rank_set.specs.Ranks.{none}
use Rattle.call_path.specs.Path.{Path}
use Rattle.prefix_tree.specs.Tree.{Marks}
use Rattle.prefix_tree.specs.Joined.{path_rows}
use Rattle.prefix_tree.specs.Owned.{entries_view, below_in}
use Rattle.prefix_tree.specs.Changes.{changed, new_among}
use Rattle.prefix_tree.proofs.Edits.{path_step, path_last}
use Rattle.prefix_tree.proofs.owned.path_changes.Goals as goal

pub loop-depth-preserved : goal.loop-depth-preserved
loop-depth-preserved c =
    let b = below_in c.args.rows.now in
    let within : c.loop-depth.depth < length c.args.path.now = omega (arith, c.loop-depth-test.true, c.len-depth-end.ensures.len) in
    let from : 1 ≤ c.loop-depth.depth = omega (arith, c.loop-depth.auto.depth) in
    let step = path_step c.args.ranks.now c.args.path.now c.loop-depth.depth from within in
    let rest = drop ((c.loop-depth.depth + 1) - 1) (path_rows c.args.ranks.now c.args.path.now) in
    let here : Path × Marks = (take c.loop-depth.depth c.args.path.now, (c.args.ranks.now, none)) in
    record {
      rows =
          ap (λ es. es ++ map (changed b) rest) (c.in_ok-note.ensures.rows ∙ (λ k. entries_view c.loop-depth.changes.rows.items ++ changed b (c.in_ok-prefix.ensures k, (c.args.ranks.now, c.requires.no_ranks k)) ∷ []))
          ∙ append_assoc (entries_view c.loop-depth.changes.rows.items) (changed b here ∷ []) (map (changed b) rest)
          ∙ ap (λ es. entries_view c.loop-depth.changes.rows.items ++ map (changed b) es) (sym step)
          ∙ c.loop-depth.invariant.rows;
      added =
          let now = c.in_ok-note.ensures.added ∙ (λ k. c.loop-depth.changes.added + new_among b ((c.in_ok-prefix.ensures k, (c.args.ranks.now, c.requires.no_ranks k)) ∷ [])) in
          let left = ap (new_among b) step in
          let all = c.loop-depth.invariant.added in
          omega (arith, now, left, all);
      within_limit = c.in_ok-note.ensures.added_within;
    }

pub returns-clause-rows : goal.returns-clause-rows
returns-clause-rows c =
    let b = below_in c.args.rows.now in
    let last : c.loop-depth.depth ≡ length c.args.path.now = omega (arith, c.loop-depth-test.false, c.len-depth-end.ensures.len, c.len-depth-end.ensures.not_empty, c.loop-depth.auto.depth-end, c.loop-depth.auto.depth) in
    let end = path_last c.args.ranks.now c.args.path.now c.loop-depth.depth (omega arith) last in
    c.in_ok-note-2.ensures.rows
    ∙ (λ k. entries_view c.loop-depth.changes.rows.items ++ changed b (c.in_ok-copy.ensures k, (c.args.ranks.now, c.args.ranks.now)) ∷ [])
    ∙ ap (λ es. entries_view c.loop-depth.changes.rows.items ++ map (changed b) es) (sym end)
    ∙ c.loop-depth.invariant.rows

pub returns-clause-added : goal.returns-clause-added
returns-clause-added c =
    let b = below_in c.args.rows.now in
    let last : c.loop-depth.depth ≡ length c.args.path.now = omega (arith, c.loop-depth-test.false, c.len-depth-end.ensures.len, c.len-depth-end.ensures.not_empty, c.loop-depth.auto.depth-end, c.loop-depth.auto.depth) in
    let end = path_last c.args.ranks.now c.args.path.now c.loop-depth.depth (omega arith) last in
    c.in_ok-note-2.ensures.added
    ∙ (λ k. c.loop-depth.changes.added + new_among b ((c.in_ok-copy.ensures k, (c.args.ranks.now, c.args.ranks.now)) ∷ []))
    ∙ ap (λ es. c.loop-depth.changes.added + new_among b es) (sym end)
    ∙ c.loop-depth.invariant.added
