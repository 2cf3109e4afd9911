use Rattle.std.proofs.Common.{ap, ◌∙◌}
use Rattle.std.specs.Prelude.{not}
use Rattle.rank_sums.proofs.LineMaking.{added}
use Rattle.rank_sums.proofs.lines.add_line.Goals as goal

pub returns-clause-lines : goal.returns-clause-lines
returns-clause-lines c paths q =
    added paths c.args.time c.in-Some.leader c.args.d c.args.leader c.args.part c.args.lines.now c.push_one.new.self c.in-Some.is (c.is_none.ensures ∙ ap not c.if-is_none.false) q c.in_ok-push_one.ensures.ok
