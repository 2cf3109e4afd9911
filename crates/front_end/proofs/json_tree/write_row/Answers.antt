use Rattle.std.proofs.Common.{◌≡◌, subst}
use Rattle.std.specs.Prelude.{OnOk}
use Rattle.front_end.proofs.JsonRows.{row_written}
use Rattle.front_end.proofs.json_tree.write_row.Goals as goal

pub returns : goal.returns
returns c =
    let row = c.args.row.now in
    subst (λ ts. OnOk c.end_object.result (c.end_object.new.self ≡ ts))
    (row_written row.depth row.label.now row.ends.now row.frame.now c.args.label.now c.args.out.now c.begin_object.new.self c.count.new.self c.write_ends.new.out c.text.new.self c.text-2.new.self
    c.requires c.in_ok-begin_object.ensures c.in_ok-count.ensures c.in_ok-write_ends.ensures c.in_ok-text.ensures c.in_ok-text-2.ensures) c.end_object.ensures
