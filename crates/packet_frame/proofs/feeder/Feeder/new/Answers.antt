use Rattle.packet_frame.proofs.Feeds.{new_fed}
use Rattle.packet_frame.proofs.feeder.Feeder.new.Goals as goal

pub invariant_of-result : goal.invariant_of-result
invariant_of-result g c = new_fed c.new-2.result c.new.result.items c.new.ensures.items c.new-2.ensures.on
