use Rattle.rank_table.proofs.Numbers.{long, zeros}
use Rattle.rank_table.proofs.RankTable.new.Goals as goal

pub returns-clause-length : goal.returns-clause-length
returns-clause-length c = long c.loop.words.items c.args.end

pub returns-clause-zero : goal.returns-clause-zero
returns-clause-zero c r = zeros c.loop.words.items c.loop.counter c.args.end r c.loop.invariant
