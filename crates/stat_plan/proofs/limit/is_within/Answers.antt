use Rattle.std.proofs.Common.{◌<◌, ◌+◌, sym, subst, ◌∙◌, get_or, []}
use Rattle.std.proofs.lemmas.List.{get_or_default}
use Rattle.stat_plan.specs.PathOrder.{last_path, numbered}
use Rattle.stat_plan.proofs.Counting.{IsCounting, number_below, number_exceeds, number_passes, number_takes, numbers_count, starts}
use Rattle.stat_plan.proofs.limit.is_within.Goals as goal
use Rattle.stat_plan.proofs.limit.is_within.Goals.{then-seen-number+else-count-gt-PREFIX_LIMIT, else-seen-number}

pub loop-number-init : goal.loop-number-init
loop-number-init c = starts (numbered c.args.paths.now c.args.order.now) c.args.seen.now

pub bounds-seen-number : goal.bounds-seen-number
bounds-seen-number c =
    subst (λ n. get_or c.args.order.now c.loop-number.number-index 0 < n) (sym c.requires.seen)
    (number_below c.args.paths.now c.args.order.now c.loop-number.number-index c.requires.paths c.loop-number-test.true)

pub returns-then-count-gt-PREFIX_LIMIT : goal.returns-then-count-gt-PREFIX_LIMIT
returns-then-count-gt-PREFIX_LIMIT c =
    let path = c.index-paths-number.is ∙ get_or_default c.args.paths.now (get_or c.args.order.now c.loop-number.number-index 0) c.index-paths-number.result [] (number_below c.args.paths.now c.args.order.now c.loop-number.number-index c.requires.paths c.loop-number-test.true) in
    sym (number_exceeds c.args.paths.now c.args.order.now c.loop-number.number-index c.requires.paths c.loop-number-test.true c.args.seen.now (last_path c.loop-number.last) c.loop-number.count c.loop-number.invariant
    c.index-paths-number.result c.len.result c.shared_with.result path c.len.ensures.len c.shared_with.ensures.value c.if-seen-number.true c.if-count-gt-PREFIX_LIMIT.true)

pub loop-number-preserved : goal.loop-number-preserved
loop-number-preserved c =
    elim c.if-seen-number.branch [
      | (then-seen-number+else-count-gt-PREFIX_LIMIT w) ↦
          let path = w.index-paths-number.is ∙ get_or_default c.args.paths.now (get_or c.args.order.now c.loop-number.number-index 0) w.index-paths-number.result [] (number_below c.args.paths.now c.args.order.now c.loop-number.number-index c.requires.paths c.loop-number-test.true) in
          let taken = number_takes c.args.paths.now c.args.order.now c.loop-number.number-index c.requires.paths c.loop-number-test.true c.args.seen.now (last_path c.loop-number.last) c.loop-number.count c.loop-number.invariant
          w.index-paths-number.result w.len.result w.shared_with.result path w.len.ensures.len w.shared_with.ensures.value w.if-seen-number.true w.if-count-gt-PREFIX_LIMIT.false in
          subst (λ last. IsCounting (numbered c.args.paths.now c.args.order.now) c.args.seen.now (c.loop-number.number-index + 1) (last_path last) c.if-seen-number.count) (sym w.last-is)
          (subst (IsCounting (numbered c.args.paths.now c.args.order.now) c.args.seen.now (c.loop-number.number-index + 1) w.index-paths-number.result) (sym w.count-is) taken)
      | (else-seen-number w) ↦
          let passed = number_passes c.args.paths.now c.args.order.now c.loop-number.number-index c.requires.paths c.loop-number-test.true c.args.seen.now (last_path c.loop-number.last) c.loop-number.count c.loop-number.invariant w.if-seen-number.false in
          subst (λ last. IsCounting (numbered c.args.paths.now c.args.order.now) c.args.seen.now (c.loop-number.number-index + 1) (last_path last) c.if-seen-number.count) (sym w.last-is)
          (subst (IsCounting (numbered c.args.paths.now c.args.order.now) c.args.seen.now (c.loop-number.number-index + 1) (last_path c.loop-number.last)) (sym w.count-is) passed)
    ]

pub returns : goal.returns
returns c = sym (numbers_count c.args.paths.now c.args.order.now c.args.seen.now c.loop-number.number-index (last_path c.loop-number.last) c.loop-number.count c.loop-number-test.false c.loop-number.invariant)
