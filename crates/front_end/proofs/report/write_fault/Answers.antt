use Rattle.std.proofs.Common.{◌++◌, ◌∙◌, ap}
use Rattle.stat_plan.proofs.LookupLemmas.{member-contains}
use Rattle.front_end.proofs.Written.{fault_written}
use Rattle.front_end.proofs.report.write_fault.Goals as goal

pub returns : goal.returns
returns c =
    fault_written c.args.plan.now c.args.lost.now c.args.fault c.contains.result c.args.out.now.items c.extend_from_slice.new.self.items c.extend_from_slice-2.new.self.items c.write_fate.new.out.items c.push.new.self.items
    (c.contains.ensures.value ∙ member-contains c.args.fault.node c.args.lost.now) c.in_ok-extend_from_slice.ensures.items
    (c.in_ok-extend_from_slice-2.ensures.items ∙ ap (λ ys. c.extend_from_slice.new.self.items ++ ys) (c.as_bytes.ensures.value ∙ c.name.ensures)) c.in_ok-write_fate.ensures c.in_ok-push.ensures.items
