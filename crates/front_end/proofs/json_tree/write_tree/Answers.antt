use Rattle.std.proofs.Common.{◌∙◌, ap, sym, arith}
use Rattle.rank_set.specs.Text.{text_of}
use Rattle.prefix_tree.specs.Tree.{rows_of}
use Rattle.front_end.proofs.JsonRows.{rows_begin, rows_next}
use Rattle.front_end.proofs.json_tree.write_tree.Goals.{then-not-equals+in_ok-label_text-2, else-not-equals}
use Rattle.std.specs.Prelude.{string_bytes}
use Rattle.front_end.proofs.json_tree.write_tree.Goals as goal

pub loop-row-init : goal.loop-row-init
loop-row-init g c =
    let rows = rows_of (g.T.PrefixTree.tree c.args.tree.now) in
    record {
      cursor = c.in_ok-at.ensures.cursor;
      label = c.in_ok-label_text.ensures;
      rows = rows_begin c.row-root.result rows c.in_ok-at.at.row c.args.out.now c.begin_list.new.self c.write_row.new.out (omega arith) c.row-root.ensures.shows c.in_ok-begin_list.ensures c.in_ok-write_row.ensures c.in_ok-at.ensures.first;
    }

pub loop-row-preserved : goal.loop-row-preserved
loop-row-preserved g c =
    let rows = rows_of (g.T.PrefixTree.tree c.args.tree.now) in
    let h = c.loop-row.invariant in
    record {
      cursor = c.in-Some.ensures.cursor;
      label = elim c.if-not-equals.branch [
        | then-not-equals+in_ok-label_text-2 w ↦ ap (λ t. string_bytes t) w.label_text-is ∙ w.in_ok-label_text-2.ensures ∙ sym (ap (λ l. text_of l.now) w.label-is)
        | else-not-equals w ↦ ap (λ t. string_bytes t) w.label_text-is ∙ h.label ∙ sym (ap (λ l. text_of l.now) w.label-is)
      ];
      rows = rows_next c.in-Some.row rows c.loop-row.at.row c.next_row.new.at.row _ c.loop-row.out c.write_row-in-Some.new.out c.in-Some.ensures.within c.in-Some.ensures.shows c.in_ok-write_row-2.ensures c.in-Some.ensures.next h.rows;
    }
