use Rattle.std.proofs.Common.{◌∙◌, ◌+◌, ◌++◌, [], ◌∷◌, ap, sym, map, take}
use Rattle.std.proofs.lemmas.List.{map-append}
use Rattle.prefix_tree.specs.Owned.{entry_of, entries_view, below_in}
use Rattle.prefix_tree.specs.Changes.{changed, new_among}
use Rattle.prefix_tree.proofs.ChangeLemmas.{entries_more, new_among-append}
use Rattle.prefix_tree.proofs.owned.row_changes.Goals as goal

pub loop-row-preserved : goal.loop-row-preserved
loop-row-preserved c =
    let b = below_in c.args.rows.now in
    let row = c.row-item.result in
    let more = entries_more c.args.others.now c.loop-row.row-index row c.loop-row-test.true c.row-item.is in
    let before = entries_view (take c.loop-row.row-index c.args.others.now) in
    record {
      rows =
          c.in_ok-note.ensures.rows
          ∙ (λ k. c.loop-row.invariant.rows k ++ changed b (c.in_ok-copy.ensures k, (row.label, row.ends)) ∷ [])
          ∙ sym (ap (map (changed b)) more ∙ map-append (changed b) before (entry_of row ∷ []));
      added =
          c.in_ok-note.ensures.added
          ∙ (λ k. c.loop-row.invariant.added k + new_among b ((c.in_ok-copy.ensures k, (row.label, row.ends)) ∷ []))
          ∙ sym (ap (new_among b) more ∙ new_among-append b before (entry_of row ∷ []));
      within_limit = c.in_ok-note.ensures.added_within;
    }
