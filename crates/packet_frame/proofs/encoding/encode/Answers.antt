use Rattle.std.proofs.Common.{rules, ◌≡◌}
use Rattle.packet_frame.specs.Sent.{packet_map}
use Rattle.packet_frame.specs.Sending.{MayBePacket, spelling_of}
use Rattle.packet_frame.proofs.Written.{read_back}
use Rattle.packet_frame.proofs.encoding.encode.Goals as goal
use Rattle.packet_frame.proofs.encoding.encode.Goals.{in-Done+in_ok-bytes-in-Done, in-Attach+in_ok-bytes-in-Attach, in-Down+in_ok-bytes-in-Down}

pub returns-clause-read_back : goal.returns-clause-read_back
returns-clause-read_back g c = λ more.
    let p = packet_map g.T.PrefixTree.tree c.args.packet.now in
    let may : MayBePacket 2 p = elim c.match-packet.branch [
      | in-Done+in_ok-bytes-in-Done w ↦ search rules
      | in-Attach+in_ok-bytes-in-Attach w ↦ search rules
      | in-Down+in_ok-bytes-in-Down w ↦ search rules
    ] in
    let is : c.match-packet.bytes.items ≡ spelling_of 2 p = search rules in
    read_back p c.match-packet.bytes.items more may is
