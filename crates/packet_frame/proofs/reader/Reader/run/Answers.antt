use Rattle.std.proofs.Common.{rules, ◌≡◌}
use Rattle.packet_frame.specs.declared.scan.Field.TheVariants as fields
use Rattle.packet_frame.proofs.Steps.{ends}
use Rattle.packet_frame.proofs.reader.Reader.run.Goals as goal

pub returns-clause-whole : goal.returns-clause-whole
returns-clause-whole g c = λ _. ends _ c.args.bytes.now c.loop-alloc.invariant (let e : c.loop-alloc.self.scan.field ≡ fields.End = search rules in e)
