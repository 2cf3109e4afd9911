use Rattle.std.proofs.Common.{arith, ap, ◌∙◌, ◌/◌, ◌%◌, ◌<◌, sym, get_or, length}
use Rattle.rank_table.specs.Numbers.{numbers_of}
use Rattle.rank_table.proofs.Numbers.{below_end, long, word_read}
use Rattle.rank_table.proofs.RankTable.number.Goals as goal

pub index-requires : goal.index-requires
index-requires c = omega (arith, c.requires, c.self.invariant, ap length c.self.view_is, long c.self.inside.words.items c.self.inside.end)

pub returns : goal.returns
returns c =
    let words = c.self.inside.words.items in
    let end = c.self.inside.end in
    let below : c.args.rank < end = omega (arith, c.requires, ap length c.self.view_is, long words end) in
    let read = word_read words (c.args.rank / 64) c.index.result.now c.index.ensures (omega (arith, below, c.self.invariant)) in
    c.number_in.ensures ∙ sym (ap (λ w. get_or (numbers_of w) (c.args.rank % 64) 0) read) ∙ sym (below_end words end c.args.rank below) ∙ ap (λ xs. get_or xs c.args.rank 0) c.self.view_is
