use Rattle.std.proofs.Common.{rules, ◌≡◌}
use Rattle.packet_frame.specs.declared.packet.Packet.TheVariants.{Up}
use Rattle.packet_frame.specs.Sending.{MayBePacket, spelling_of}
use Rattle.packet_frame.proofs.Written.{few_entries, read_back}
use Rattle.packet_frame.proofs.encoding.encode_up.Goals as goal

pub overflow_mul-rows : goal.overflow_mul-rows
overflow_mul-rows g c = let lt = few_entries (g.T.PrefixTree.tree c.args.tree.now) c.rows.result c.rows.ensures.count c.rows.ensures.lawful in search rules

pub overflow_add-rows : goal.overflow_add-rows
overflow_add-rows g c = let lt = few_entries (g.T.PrefixTree.tree c.args.tree.now) c.rows.result c.rows.ensures.count c.rows.ensures.lawful in search rules

pub returns-clause-read_back : goal.returns-clause-read_back
returns-clause-read_back g c = λ more.
    let p = Up c.args.stream c.args.wave (g.T.PrefixTree.tree c.args.tree.now) in
    let may : MayBePacket 2 p = search rules in
    let is : c.put_tree.new.out.items ≡ spelling_of 2 p = search rules in
    read_back p c.put_tree.new.out.items more may is
