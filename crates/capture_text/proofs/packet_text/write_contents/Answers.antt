use Rattle.std.proofs.Common.{◌≡◌, subst}
use Rattle.std.specs.Prelude.{OnOk}
use Rattle.capture_text.proofs.Written.{contents_written}
use Rattle.capture_text.proofs.packet_text.write_contents.Goals as goal

pub returns : goal.returns
returns g c =
    subst (λ ys. OnOk c.write_rows.result (c.write_rows.new.out.items ≡ ys))
    (contents_written (g.T.PrefixTree.tree c.args.tree.now) c.row.result.label.now c.rows.result c.args.out.now.items c.extend_from_slice.new.self.items c.write_text.new.out.items c.write_numbered.new.out.items c.push.new.self.items
    c.row.ensures.shows.label c.rows.ensures.count c.in_ok-extend_from_slice.ensures.items c.in_ok-write_text.ensures.ok c.in_ok-write_numbered.ensures.ok c.in_ok-push.ensures.items) c.write_rows.ensures.ok
