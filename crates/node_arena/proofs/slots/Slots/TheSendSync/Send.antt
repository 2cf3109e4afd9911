use denote.RattleType.{RattleType}
use denote.Param.Send.{IsSend}
use Rattle.node_arena.proofs.Sending.{Slots-send}
use Rattle.node_arena.specs.contracts.slots.Slots.{the_row}

pub send : (R : RattleType) → IsSend R → IsSend (the_row R)
send = Slots-send
