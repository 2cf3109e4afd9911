use Rattle.std.proofs.Common.{◌∙◌, length, drop, ap, arith, ◌∷◌, []}
use Rattle.std.proofs.lemmas.List.{length-append}
use Rattle.stack_path.specs.Ends.{left_out}
use Rattle.stack_path.proofs.RemarkSteps.{no_longer, ends_with}
use Rattle.stack_path.proofs.remarks.ends_with.Goals as goal

pub push-requires-clause-below_limit : goal.push-requires-clause-below_limit
push-requires-clause-below_limit c =
    omega (arith, no_longer c.new-ends.result c.push_range.new.out c.args.path.now 63 c.in_ok-push_range.ensures, ap length c.new-ends.ensures)

pub push_range-requires-2-clause-room : goal.push_range-requires-2-clause-room
push_range-requires-2-clause-room c =
    omega (
      arith,
      no_longer c.new-ends.result c.push_range.new.out c.args.path.now 63 c.in_ok-push_range.ensures,
      ap length c.new-ends.ensures,
      ap length c.in_ok-push.ensures.ok,
      length-append c.push_range.new.out (left_out ∷ []),
    )

pub push-requires-2-clause-below_limit : goal.push-requires-2-clause-below_limit
push-requires-2-clause-below_limit c =
    omega (
      arith,
      no_longer c.new-ends.result c.push_range.new.out c.args.path.now 63 c.in_ok-push_range.ensures,
      ap length c.new-ends.ensures,
      ap length c.in_ok-push.ensures.ok,
      length-append c.push_range.new.out (left_out ∷ []),
      no_longer c.push.new.self c.push_range-2.new.out (drop 65 c.args.path.now) 63 c.in_ok-push_range-2.ensures,
    )

pub returns : goal.returns
returns c =
    c.into_path.ensures
    ∙ ends_with c.args.path.now c.new-ends.result c.push_range.new.out c.push.new.self c.push_range-2.new.out c.push-2.new.self
    c.args.remark.now c.requires.full c.new-ends.ensures c.in_ok-push_range.ensures c.in_ok-push.ensures.ok c.in_ok-push_range-2.ensures
    c.in_ok-push-2.ensures.ok
