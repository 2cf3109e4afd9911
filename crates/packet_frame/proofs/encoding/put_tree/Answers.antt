use Rattle.std.proofs.Common.{rules, ◌∙◌, ◌++◌, ap}
use Rattle.std.proofs.lemmas.Result.{on_ok_weaker}
use Rattle.packet_frame.proofs.Written.{few_entries, tree_written}
use Rattle.packet_frame.proofs.encoding.put_tree.Goals as goal

pub overflow_cast-rows : goal.overflow_cast-rows
overflow_cast-rows g c = let lt = few_entries (g.T.PrefixTree.tree c.args.tree.now) c.rows.result c.rows.ensures.count c.rows.ensures.lawful in search rules

pub returns-clause-bytes : goal.returns-clause-bytes
returns-clause-bytes g c =
    on_ok_weaker c.put_rows.result
    (tree_written (g.T.PrefixTree.tree c.args.tree.now) c.row.result.label.now c.args.out.now.items c.put_cover.new.out.items c.extend_from_slice.new.self.items c.put_rows.new.out.items c.rows.result c.row.ensures.shows.label c.rows.ensures.count c.in_ok-put_cover.ensures.bytes
    (c.in_ok-extend_from_slice.ensures.items ∙ ap (λ ys. c.put_cover.new.out.items ++ ys) c.to_be_bytes.ensures))
    c.put_rows.ensures.bytes
