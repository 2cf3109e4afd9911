use Rattle.std.proofs.Common.{◌≡◌, ◌∙◌, ◌+◌, ◌-◌, ◌++◌, ap, sym, drop, arith}
use Rattle.std.specs.List.{flat_map}
use Rattle.std.proofs.lemmas.Result.{on_ok_weaker}
use Rattle.prefix_tree.specs.Chains.{chained}
use Rattle.tree_text.specs.TreeText.{seen_text, chain_text}
use Rattle.tree_text.proofs.Lines.{line_more, line_last}
use Rattle.tree_text.proofs.rows.write_chain.Goals as goal

pub loop-i-preserved : goal.loop-i-preserved
loop-i-preserved c =
    let chain = c.args.chain.now in
    line_more chain.frames.now chain.depth chain.skip c.loop-i.i c.frame.result.now (chain.label.now, chain.ends.now) _ c.loop-i.out.items c.write_row_above.new.out.items
    (omega (arith, c.loop-i.auto.i)) c.frame.ensures.frame c.loop-i.invariant
    c.args.label_text.now (omega (arith, c.loop-i-test.true, c.len-last.ensures.len)) c.requires.label c.in_ok-write_row_above.ensures

pub returns : goal.returns
returns c =
    let chain = c.args.chain.now in
    let last = c.len-last.result - 1 in
    let own = c.requires.good.not_empty in
    let at : c.loop-i.i ≡ last = omega (arith, c.loop-i-test.false, c.loop-i.auto.i, c.loop-i.auto.i-end, own, c.len-last.ensures.len) in
    let left = sym (ap (λ k. c.loop-i.out.items ++ flat_map seen_text (chained (chain.depth + (k - chain.skip)) (drop k chain.frames.now) (chain.label.now, chain.ends.now))) at) ∙ c.loop-i.invariant in
    on_ok_weaker c.write_row.result
    (line_last chain.frames.now chain.depth chain.skip last c.frame-2.result.now (chain.label.now, chain.ends.now) (c.args.out.now.items ++ chain_text chain) c.loop-i.out.items c.write_row.new.out.items
    (omega (arith, own, c.len-last.ensures.len)) c.frame-2.ensures.frame left (omega (arith, c.len-last.ensures.len, c.len-last.ensures.not_empty)))
    c.write_row.ensures
