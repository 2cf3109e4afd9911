use Rattle.std.proofs.Common.{sym, ◌∙◌, arith}
use Rattle.std.proofs.lemmas.List.{get_or-map}
use Rattle.rank_set.specs.Ranks.{none}
use Rattle.stat_plan.specs.OwnLines.{ranks_of_lines}
use Rattle.stat_plan.specs.declared.samples.StackLine.{StackLine}
use Rattle.stat_plan.proofs.Marking.{same_more}
use Rattle.stat_plan.proofs.line_index.end_of_same.Goals as goal

pub loop-end-preserved : goal.loop-end-preserved
loop-end-preserved c =
    let inv = c.loop-end.invariant in
    let a = inv.0 in
    let test = c.loop-end-test.true in
    let count = c.requires.count in
    let below = c.requires.first in (
      omega (arith, a),
      omega (arith, test),
      same_more (ranks_of_lines c.args.lines.now) c.args.first c.loop-end.end inv.2
          (get_or-map (λ (l : StackLine). l.ranks) c.args.lines.now c.loop-end.end c.index-lines-end.result none (omega (arith, test, count))
          ∙ c.equals.ensures.0 c.if-equals.true
          ∙ sym (get_or-map (λ (l : StackLine). l.ranks) c.args.lines.now c.args.first c.index-lines-first.result none (omega (arith, below, count)))),
    )
