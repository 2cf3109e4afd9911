use Rattle.std.proofs.Common.{ap, length, sym, ◌∙◌}
use Rattle.rank_table.proofs.Numbers.{long}
use Rattle.rank_table.proofs.RankTable.len.Goals as goal

pub returns : goal.returns
returns c = sym (long c.self.inside.words.items c.self.inside.end) ∙ ap length c.self.view_is
