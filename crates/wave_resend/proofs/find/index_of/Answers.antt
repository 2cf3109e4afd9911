use Rattle.std.proofs.Common.{◌∙◌, ◌≡◌, suc, arith}
use Rattle.wave_resend.specs.Books.{index_of}
use Rattle.wave_resend.proofs.Order.{count_index}
use Rattle.wave_resend.proofs.find.index_of.Goals as goal

pub overflow_sub-result : goal.overflow_sub-result
overflow_sub-result c =
    let is : c.count_to.result ≡ suc (index_of c.args.s c.args.w c.args.entries.now) = c.count_to.ensures.count ∙ count_index c.args.s c.args.w c.args.entries.now c.requires.ascending c.requires.known in
    omega (arith, is)

pub returns-clause-index : goal.returns-clause-index
returns-clause-index c =
    let is : c.count_to.result ≡ suc (index_of c.args.s c.args.w c.args.entries.now) = c.count_to.ensures.count ∙ count_index c.args.s c.args.w c.args.entries.now c.requires.ascending c.requires.known in
    omega (arith, is)
