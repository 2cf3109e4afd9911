use Rattle.std.proofs.Common.{◌∙◌, ◌++◌, ap, drop, arith, append_assoc}
use Rattle.std.specs.List.{flat_map}
use Rattle.prefix_tree.specs.Tree.{rows_of}
use Rattle.packet_frame.specs.Writing.{entry_bytes}
use Rattle.packet_frame.proofs.Written.{ends_covered, rows_from, text_from}
use Rattle.packet_frame.proofs.encoding.put_rows.Goals as goal

pub put_chain-requires-clause-covered : goal.put_chain-requires-clause-covered
put_chain-requires-clause-covered g c =
    ends_covered (g.T.PrefixTree.tree c.args.tree.now) c.in_ok-at.ensures.lawful.tree c.args.places.now c.requires c.in-Some.chain c.in-Some.ensures.good c.loop-chain.at.row c.next_chain.new.at.row c.loop-chain.invariant.below_root c.in-Some.ensures.rows

pub loop-chain-preserved : goal.loop-chain-preserved
loop-chain-preserved g c =
    let rows = rows_of (g.T.PrefixTree.tree c.args.tree.now) in
    let chain = c.in-Some.chain in
    let cover = c.args.places.now in
    let k = c.loop-chain.at.row in
    let n = c.next_chain.new.at.row in
    let h = c.loop-chain.invariant in
    let below = h.below_root in
    record {
      cursor = c.in-Some.ensures.cursor;
      below_root = omega (arith, c.in-Some.ensures.next, below);
      bytes =
          ap (λ ys. ys ++ flat_map (entry_bytes cover) (drop n rows)) c.in_ok-put_chain.ensures.bytes
          ∙ append_assoc c.loop-chain.out.items _ _
          ∙ ap (λ ys. c.loop-chain.out.items ++ ys) (rows_from cover rows k n _ c.in-Some.ensures.rows)
          ∙ h.bytes;
      text = λ rest. h.text (text_from chain rows k n c.in-Some.ensures.rows c.in_ok-put_chain.ensures.text rest);
    }
