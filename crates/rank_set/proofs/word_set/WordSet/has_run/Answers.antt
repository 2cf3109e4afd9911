use Rattle.std.proofs.Common.{nat_eq, ◌&&◌, ap, sym, ◌∙◌, arith, eq-eqb, ne_eqb}
use Rattle.rank_set.proofs.RunWalks.{has_run_is, lacks_first}
use Rattle.rank_set.proofs.word_set.WordSet.has_run.Goals as goal

pub returns-then-within-run : goal.returns-then-within-run
returns-then-within-run c =
    ap (λ b. b && nat_eq c.in-Some.within.last c.args.run.last) (sym (eq-eqb c.in-Some.within.first c.args.run.first c.if-within-run.true))
    ∙ has_run_is c.args.self.now c.args.run.first c.args.run.last c.in-Some.within.first c.in-Some.within.last c.requires c.in-Some.ensures.run

pub returns-else-within-run : goal.returns-else-within-run
returns-else-within-run c =
    ne_eqb c.in-Some.within.first c.args.run.first c.if-within-run.false
    ∙ ap (λ b. b && nat_eq c.in-Some.within.last c.args.run.last) (sym (ne_eqb c.in-Some.within.first c.args.run.first c.if-within-run.false))
    ∙ has_run_is c.args.self.now c.args.run.first c.args.run.last c.in-Some.within.first c.in-Some.within.last c.requires c.in-Some.ensures.run

pub returns-in-None : goal.returns-in-None
returns-in-None c = sym (lacks_first c.args.self.now c.args.run.first c.args.run.last c.requires (c.in-None.ensures.none c.args.run.first (omega arith) c.requires))
