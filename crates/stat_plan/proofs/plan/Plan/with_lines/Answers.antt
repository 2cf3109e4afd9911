use Rattle.std.proofs.Common.{ℕ, List, Option, sym, ap, subst}
use Rattle.rank_set.specs.Ranks.{Ranks}
use Rattle.overlay_setup.specs.declared.script.Fault.{Fault}
use Rattle.stat_plan.specs.Invariants.{IsPlan}
use Rattle.stat_plan.specs.Plans.{Plan, Sampled, ancestors, fault, is_under, is_within, plan_of, ranks, with_lines}
use Rattle.stat_plan.specs.Samples.{SampleLine}
use Rattle.stat_plan.specs.StackLines.{lines_of}
use Rattle.stat_plan.specs.Tables.{AreTables}
use Rattle.overlay_setup.specs.Tables.{rows_view}
use Rattle.stat_plan.proofs.plan.Plan.with_lines.Goals as goal

-- the tables do not depend on the samples
same_tables : (p : Plan) (ls : List SampleLine) (above : List (List ℕ)) (sets : List (List Ranks)) (faults : List (Option Fault)) → AreTables p above sets faults → AreTables (with_lines p ls) above sets faults
unfolding ranks is_within is_under ancestors fault
same_tables p ls above sets faults h = record {
  above = h.above;
  ranks = record { paired = h.ranks.paired; each = λ i x is. record { paired = (h.ranks.each i x is).paired; each = (h.ranks.each i x is).each } };
  losses = record { paired = h.losses.paired; each = h.losses.each };
}

pub invariant_of-result : goal.invariant_of-result
invariant_of-result c =
    let above : List (List ℕ) = rows_view c.self.inside.ancestors.items in
    let sets : List (List Ranks) = rows_view c.self.inside.expected.items in
    let lines : List SampleLine = lines_of c.args.paths.items c.args.lines in
    let plan : IsPlan (with_lines (plan_of c.self.inside.topology c.self.inside.samples c.self.inside.script) lines) = subst (λ (q : Plan). IsPlan (with_lines q lines)) (sym c.self.view_is) c.requires.plan in
    subst (λ (p : Plan). IsPlan p × AreTables p above sets c.self.inside.faults.items) (sym (ap (λ (s : Sampled). plan_of c.self.inside.topology s c.self.inside.script) c.in_ok-samples.ensures))
    (plan, same_tables (plan_of c.self.inside.topology c.self.inside.samples c.self.inside.script) lines above sets c.self.inside.faults.items c.self.invariant.1)
