use Rattle.std.proofs.Common.{rules, ◌≡◌, ◌<◌, ◌==◌, sym, ap, subst, ◌∙◌, cond, get_or, length, replicate, None, Some}
use Rattle.std.specs.Prelude.{find}
use Rattle.std.proofs.lemmas.List.{length-set, length-replicate, take_all}
use Rattle.overlay_setup.specs.Scripts.{fault_nodes}
use Rattle.overlay_setup.specs.NodeSets.{IsStrictlyIncreasing}
use Rattle.overlay_setup.specs.declared.script.Fault.{Fault}
use Rattle.stat_plan.specs.Plans.{nodes, fault}
use Rattle.stat_plan.proofs.FaultLemmas.{fault_node, find-next, no_faults, table-set}
use Rattle.stat_plan.specs.Files.{plan_in}
use Rattle.stat_plan.proofs.plan.fault_table.Goals as goal

-- the default of a place past the end of the faults
abbrev no_fault : Fault
no_fault = record { node = 0; after = 0; keep = 0 }

pub loop-f-init : goal.loop-f-init
loop-f-init c =
    let none : c.in_ok-table.table.items ≡ replicate c.nodes.result None = c.in_ok-table.ensures.items_if_clones_equal (λ y same. search rules) in
    record {
      paired = ap length none ∙ length-replicate c.nodes.result None ∙ c.nodes.ensures;
      each = λ n. no_faults c.nodes.result n c.in_ok-table.table.items none;
    }

pub index_mut-requires : goal.index_mut-requires
index_mut-requires c =
    let node = fault_node (plan_in c.args.files) c.faults-f-items.result.now c.loop-f.f-index no_fault c.invariant.ensures c.faults-f-items.ensures c.loop-f-test.true in
    subst (λ k. (get_or c.faults-f-items.result.now c.loop-f.f-index no_fault).node < k) (sym c.loop-f.invariant.paired ∙ sym c.loop-f.table.ok.0) node

pub loop-f-preserved : goal.loop-f-preserved
loop-f-preserved c =
    let faults = c.faults-f-items.result.now in
    let f = get_or faults c.loop-f.f-index no_fault in
    let increase = subst (λ fs. IsStrictlyIncreasing (fault_nodes fs)) (sym c.faults-f-items.ensures) c.invariant.ensures.script.faults_increase in
    let node : f.node < nodes (plan_in c.args.files) = fault_node (plan_in c.args.files) faults c.loop-f.f-index no_fault c.invariant.ensures c.faults-f-items.ensures c.loop-f-test.true in
    record {
      paired = length-set c.loop-f.table.items f.node (Some f) ∙ c.loop-f.invariant.paired;
      each = λ n.
          table-set c.loop-f.table.items f n (subst (λ k. f.node < k) (sym c.loop-f.invariant.paired) node)
          ∙ ap (cond (f.node == n) (Some f)) (c.loop-f.invariant.each n)
          ∙ sym (find-next n faults c.loop-f.f-index no_fault c.loop-f-test.true increase);
    }

pub returns : goal.returns
unfolding fault
returns c = record {
  paired = c.loop-f.invariant.paired;
  each = λ n.
      c.loop-f.invariant.each n
      ∙ ap (find (λ (f : Fault). f.node == n)) (take_all c.loop-f.f-index c.faults-f-items.result.now c.loop-f-test.false ∙ c.faults-f-items.ensures);
}
