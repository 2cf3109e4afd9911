use Rattle.std.proofs.Common.{◌≡◌, ◌<◌, ◌+◌, ◌-◌, ◌^◌, sym, ap, subst, ◌∙◌, arith}
use Rattle.rank_sums.specs.Folds.{IsWithin, joined}
use Rattle.rank_sums.specs.Parts.{part_below}
use Rattle.rank_sums.proofs.PartMaking.{part_bound, run_more, run_within}
use Rattle.rank_sums.proofs.Small.{IsAtMost, small_number}
use Rattle.rank_sums.proofs.parts.with_run.Goals as goal

pub joined-part-requires-clause-first : goal.joined-part-requires-clause-first
joined-part-requires-clause-first c = subst (IsWithin (2 ^ 120)) (sym c.loop-from.invariant.part) (part_bound c.args.values.now c.args.fold c.args.ranks.now c.loop-from.from c.invariant.ensures c.requires.size)

pub joined-part-requires-clause-second : goal.joined-part-requires-clause-second
joined-part-requires-clause-second c =
    let own = c.run_at-own.result in
    let small : IsAtMost 1000000000000 own.number = subst (IsAtMost 1000000000000) (c.run_at-own.ensures.number c.loop-from.from (omega arith) c.run_at-own.ensures.passed) (small_number c.args.values.now c.invariant.ensures c.loop-from.from) in
    let few : own.end - c.loop-from.from < 2 ^ 32 = omega (arith, c.run_at-own.ensures.within, c.requires.below_limit.1) in
    subst (IsWithin (2 ^ 120)) (sym c.counted_times.ensures) (run_within c.args.fold own.number (own.end - c.loop-from.from) small few)

pub loop-from-preserved : goal.loop-from-preserved
loop-from-preserved c =
    let f = c.args.fold in
    let from = c.loop-from.from in
    let own = c.run_at-own.result in
    let before = part_below f c.args.values.now c.args.ranks.now from in
    let passed : from < own.end = c.run_at-own.ensures.passed in
    let next : from + (own.end - from) ≡ own.end = omega (arith, passed) in
    record {
      part = c.joined-part.ensures
          ∙ ap (λ a. joined f a c.counted_times.result) c.loop-from.invariant.part
          ∙ ap (joined f before) c.counted_times.ensures
          ∙ sym (run_more f c.args.values.now c.args.ranks.now from (own.end - from) own.number
          (λ q least lt. c.requires.within q (omega (arith, least, c.loop-from.invariant.passed)) (omega (arith, lt, next, c.run_at-own.ensures.within)))
          (λ q least lt. c.run_at-own.ensures.number q least (omega (arith, lt, next))))
          ∙ ap (part_below f c.args.values.now c.args.ranks.now) next;
      passed = omega (arith, passed, c.loop-from.invariant.passed);
      within = c.run_at-own.ensures.within;
    }
