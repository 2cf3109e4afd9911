use Rattle.std.proofs.Common.{◌≡◌, ◌∙◌, ap, subst}
use Rattle.std.specs.Prelude.{OnOk}
use Rattle.stat_plan.proofs.LookupLemmas.{member-contains}
use Rattle.front_end.specs.JsonReport.{fate_state}
use Rattle.front_end.proofs.JsonWritten.{fault_object}
use Rattle.front_end.proofs.json_report.write_fault.Goals as goal

pub returns : goal.returns
returns c =
    subst (λ ts. OnOk c.end_object.result (c.end_object.new.self ≡ ts))
    (fault_object c.args.plan.now c.args.lost.now c.args.fault c.from.result c.name.result.now c.fate_state.result.now c.args.out.now c.begin_object.new.self c.count.new.self c.text.new.self c.text-2.new.self
    c.from.ensures c.name.ensures (c.fate_state.ensures ∙ ap fate_state (c.contains.ensures.value ∙ member-contains c.args.fault.node c.args.lost.now))
    c.in_ok-begin_object.ensures c.in_ok-count.ensures c.in_ok-text.ensures c.in_ok-text-2.ensures) c.end_object.ensures
