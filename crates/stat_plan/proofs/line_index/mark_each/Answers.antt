use Rattle.std.proofs.Common.{◌<◌, ◌+◌, length, arith, sym, subst, ◌∙◌}
use Rattle.rank_set.specs.Runs.{ranks_between}
use Rattle.stat_plan.proofs.Marking.{AreMarkedTo, asked_none, asked_one}
use Rattle.stat_plan.proofs.line_index.mark_each.Goals as goal
use Rattle.stat_plan.proofs.line_index.mark_each.Goals.{then-not-is_disjoint+in_ok-mark, else-not-is_disjoint}

pub loop-n-preserved : goal.loop-n-preserved
loop-n-preserved c =
    let placed = c.args.placed.now in
    let ranks = c.args.ranks.now in
    let n = c.loop-n.n in
    let inside : n < length c.loop-n.numbers = let end = c.loop-n-test.true in let same = c.loop-n.invariant.paired in let paired = c.requires in omega (arith, end, same, paired) in
    elim c.if-not-is_disjoint.branch [
      | (then-not-is_disjoint+in_ok-mark w) ↦
          subst (λ numbers. AreMarkedTo placed ranks (ranks_between c.args.lines.first c.args.lines.last) c.args.numbers.now numbers (n + 1)) (sym w.numbers-is)
          (asked_one placed ranks (ranks_between c.args.lines.first c.args.lines.last) c.args.numbers.now c.loop-n.numbers n w.index-numbers-n.result w.mark.new.numbers inside w.in_ok-mark.ensures c.loop-n.invariant)
      | (else-not-is_disjoint w) ↦
          subst (λ numbers. AreMarkedTo placed ranks (ranks_between c.args.lines.first c.args.lines.last) c.args.numbers.now numbers (n + 1)) (sym w.numbers-is)
          (asked_none placed ranks (ranks_between c.args.lines.first c.args.lines.last) c.args.numbers.now c.loop-n.numbers n c.index-placed-n.result c.index-placed-n.is c.loop-n-test.true (sym c.is_disjoint.ensures ∙ w.if-not-is_disjoint.false) c.loop-n.invariant)
    ]
