use Rattle.std.proofs.Common.{sym, ap, arith}
use Rattle.rank_set.specs.Words.{ranks_in}
use Rattle.rank_set.proofs.Members.{offset_is}
use Rattle.rank_set.proofs.WordLists.{words_of_ranks}
use Rattle.rank_set.proofs.words.held.Goals as goal

pub returns-clause-trimmed : goal.returns-clause-trimmed
returns-clause-trimmed c = rw (offset_is c.args.offset c.args.words.now c.requires (λ i. omega (arith, c.type_inv.words i))) c.requires

pub returns-clause-ranks : goal.returns-clause-ranks
returns-clause-ranks c = ap (λ o. ranks_in o c.args.words.now) (offset_is c.args.offset c.args.words.now c.requires (λ i. omega (arith, c.type_inv.words i)))

pub returns-clause-list : goal.returns-clause-list
returns-clause-list c = sym (words_of_ranks c.args.offset c.args.words.now c.requires (λ i. omega (arith, c.type_inv.words i)))
