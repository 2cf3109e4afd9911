use Rattle.std.proofs.Common.{◌∙◌, sym, ap, subst}
use Rattle.std.specs.Prelude.{IfSome}
use Rattle.rank_set.specs.Ranks.{union}
use Rattle.rank_set.specs.Runs.{ranks_between, IsRunInRange, with_pending}
use Rattle.rank_set.proofs.RunSets.{union_merged}
use Rattle.rank_set.proofs.read.add_run.Goals as goal

pub returns-clause-ok : goal.returns-clause-ok
returns-clause-ok c =
    let pending : IsRunInRange c.in-Some.old.first c.in-Some.old.last = subst (λ p. IfSome p (λ q. IsRunInRange q.first q.last)) c.in-Some.is c.requires.pending in
    union_merged c.args.ranks.now c.in-Some.old.first c.in-Some.old.last c.args.run.first c.args.run.last c.min.result c.max.result pending.not_empty c.requires.run.not_empty c.if-old-run.false c.if-run-old.false c.min.ensures c.max.ensures
    ∙ ap (λ p. union (with_pending c.args.ranks.now p) (ranks_between c.args.run.first c.args.run.last)) (sym c.in-Some.is)
