use Rattle.std.proofs.Common.{ℕ, List, ◌-◌, ap, arith}
use Rattle.rank_set.specs.Ranks.{Ranks}
use Rattle.wide_merge.proofs.Blocks.{set_last}
use Rattle.wide_merge.proofs.united.add_ranks.Goals as goal

pub returns : goal.returns
returns c =
    set_last c.args.all.now.items (c.len-last.result - 1) c.index_mut.result.now (record { ranks = c.union_into.new.self; paths = c.index_mut.result.now.paths }) c.args.ranks.now
    (omega (arith, c.len-last.ensures, c.requires)) c.index_mut.ensures.value (ap (λ (s : Ranks). let b : Ranks × List ℕ = (s, c.index_mut.result.now.paths.items) in b) c.in_ok-union_into.ensures.ok)
