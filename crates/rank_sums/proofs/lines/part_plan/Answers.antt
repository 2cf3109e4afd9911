use Rattle.std.proofs.Common.{◌≡◌, List, length, sym, ap, subst, ◌∙◌}
use Rattle.std.proofs.lemmas.Result.{IfOk-weaker}
use Rattle.call_path.specs.Path.{Path}
use Rattle.stat_plan.specs.Invariants.{IsPlan}
use Rattle.stat_plan.specs.Plans.{Plan, with_lines}
use Rattle.stat_plan.specs.Samples.{SampleLine}
use Rattle.stat_plan.specs.StackLines.{PathIndicesInRange, lines_of}
use Rattle.rank_sums.specs.PartPlans.{part_lines, paths_of}
use Rattle.rank_sums.specs.Sums.{IsPartPlan}
use Rattle.rank_sums.proofs.AllLines.{made_are_part_lines, parts_paired}
use Rattle.rank_sums.proofs.PartPlan.{part_plan_is_plan}
use Rattle.rank_sums.proofs.lines.part_plan.Goals as goal

pub lines_with-requires : goal.lines_with-requires
lines_with-requires c = ap length (c.deref-2.ensures.value ∙ c.in_ok-parts.ensures.parts) ∙ parts_paired c.args.plan c.args.values.now c.args.fold

pub with_lines-requires-clause-numbered : goal.with_lines-requires-clause-numbered
with_lines-requires-clause-numbered c =
    let paths : c.in_ok-paths.paths.items ≡ paths_of c.deref-2.result.now = c.in_ok-paths.ensures ∙ ap paths_of (c.deref.ensures.value ∙ sym c.deref-2.ensures.value) in
    subst (λ (q : List Path). PathIndicesInRange q c.in_ok-lines.lines) (sym paths) c.in_ok-lines.ensures.numbered

pub with_lines-requires-clause-plan : goal.with_lines-requires-clause-plan
with_lines-requires-clause-plan c =
    let paths : c.in_ok-paths.paths.items ≡ paths_of c.deref-2.result.now = c.in_ok-paths.ensures ∙ ap paths_of (c.deref.ensures.value ∙ sym c.deref-2.ensures.value) in
    let made : lines_of c.in_ok-paths.paths.items c.in_ok-lines.lines ≡ part_lines c.args.plan c.args.values.now c.args.fold =
    made_are_part_lines c.args.plan c.args.values.now c.args.fold c.deref-2.result.now c.in_ok-paths.paths.items c.in_ok-lines.lines c.invariant.ensures (c.deref-2.ensures.value ∙ c.in_ok-parts.ensures.parts) paths c.in_ok-lines.ensures.lines in
    subst (λ (lines : List SampleLine). IsPlan (with_lines c.args.plan lines)) (sym made) (part_plan_is_plan c.args.plan c.args.values.now c.args.fold c.invariant.ensures c.in_ok-parts.ensures.fit)

pub returns : goal.returns
returns c =
    let paths : c.in_ok-paths.paths.items ≡ paths_of c.deref-2.result.now = c.in_ok-paths.ensures ∙ ap paths_of (c.deref.ensures.value ∙ sym c.deref-2.ensures.value) in
    let made : lines_of c.in_ok-paths.paths.items c.in_ok-lines.lines ≡ part_lines c.args.plan c.args.values.now c.args.fold =
    made_are_part_lines c.args.plan c.args.values.now c.args.fold c.deref-2.result.now c.in_ok-paths.paths.items c.in_ok-lines.lines c.invariant.ensures (c.deref-2.ensures.value ∙ c.in_ok-parts.ensures.parts) paths c.in_ok-lines.ensures.lines in
    IfOk-weaker c.with_lines.result (λ (q : Plan). q ≡ with_lines c.args.plan (lines_of c.in_ok-paths.paths.items c.in_ok-lines.lines)) (IsPartPlan c.args.plan c.args.values.now c.args.fold)
    (λ q is. record {
      plan = c.invariant.ensures;
      numbers = c.invariant-2.ensures;
      fits = c.in_ok-parts.ensures.fit;
      equal = is ∙ ap (with_lines c.args.plan) made;
    })
    c.with_lines.ensures
