use Rattle.std.proofs.Common.{sym, ◌∙◌, arith}
use Rattle.rank_set.proofs.Members.{offset_is}
use Rattle.std.proofs.lemmas.Bool.{eqb-true}
use Rattle.rank_set.proofs.words.offset_in.Goals as goal

pub returns-then-is_empty : goal.returns-then-is_empty
returns-then-is_empty c = sym (offset_is c.args.offset c.args.words.now c.requires (λ i. omega (arith, c.type_inv.words i)) ∙ c.requires.nothing (eqb-true _ _ (sym c.if-is_empty.ensures)))

pub returns-else-is_empty : goal.returns-else-is_empty
returns-else-is_empty c = sym (offset_is c.args.offset c.args.words.now c.requires (λ i. omega (arith, c.type_inv.words i)))
