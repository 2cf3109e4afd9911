use Rattle.std.proofs.Common.{◌∙◌, ◌++◌, ap, arith}
use Rattle.generated_job.proofs.Numbers.{counts_of_plan}
use Rattle.generated_job.proofs.run_summary.write_plan.Goals as goal

pub returns : goal.returns
returns c = λ seed.
    let daemons = c.from-daemons.ensures in
    let middle_nodes = c.div_ceil-middle_nodes.ensures in
    c.in_ok-write_counts.ensures
    ∙ ap (λ line. c.args.out.now.items ++ line) (counts_of_plan seed c.args.size _ _ _ (omega (arith, daemons, middle_nodes)) (omega (arith, daemons)) (omega (arith, daemons)))
