use Rattle.std.proofs.Common.{◌∙◌, ◌++◌, refl, ap, sym, drop, arith, append_assoc}
use Rattle.std.proofs.lemmas.List.{append-nil}
use Rattle.std.specs.List.{flat_map}
use Rattle.rank_set.specs.Text.{text_of}
use Rattle.prefix_tree.specs.Tree.{rows_of}
use Rattle.tree_text.specs.TreeText.{row_text}
use Rattle.tree_text.proofs.Lines.{lines_from, lines_end}
use Rattle.tree_text.proofs.rows.write_below.Goals.{then-not-equals+in_ok-write_text-2, else-not-equals}
use Rattle.tree_text.proofs.rows.write_below.Goals as goal

pub loop-chain-preserved : goal.loop-chain-preserved
loop-chain-preserved g c =
    let rows = rows_of (g.T.PrefixTree.tree c.args.tree.now) in
    let chain = c.in-Some.chain in
    let h = c.loop-chain.invariant in
    let below = h.below_root in
    record {
      cursor = c.in-Some.ensures.cursor;
      below_root = omega (arith, c.in-Some.ensures.next, below);
      label = elim c.if-not-equals.branch [
        | then-not-equals+in_ok-write_text-2 w ↦
            ap (λ v. v.items) w.label_text-is ∙ w.in_ok-write_text-2.ensures.ok ∙ ap (λ ys. ys ++ text_of chain.label.now) w.clear.ensures.items ∙ sym (ap (λ l. text_of l.now) w.label-is)
        | else-not-equals w ↦ ap (λ v. v.items) w.label_text-is ∙ h.label ∙ sym (ap (λ l. text_of l.now) w.label-is)
      ];
      lines =
          ap (λ ys. ys ++ flat_map row_text (drop c.next_chain.new.at.row rows)) c.in_ok-write_chain.ensures
          ∙ append_assoc c.loop-chain.out.items _ _
          ∙ ap (λ ys. c.loop-chain.out.items ++ ys) (lines_from rows c.loop-chain.at.row c.next_chain.new.at.row _ c.in-Some.ensures.rows)
          ∙ h.lines;
    }

pub returns : goal.returns
returns g c =
    let rows = rows_of (g.T.PrefixTree.tree c.args.tree.now) in
    sym (ap (λ ys. c.loop-chain.out.items ++ ys) (lines_end rows c.loop-chain.at.row (c.in_default.ensures.end refl)) ∙ append-nil c.loop-chain.out.items) ∙ c.loop-chain.invariant.lines
