use Rattle.std.proofs.Common.{◌∙◌, ◌+◌, ◌-◌, ◌≤◌, ℕ, sym, ap, arith}
use Rattle.rank_places.specs.Table.{cover_of, image}
use Rattle.rank_places.proofs.Images.{before_none, before_all, put_run}
use Rattle.rank_places.proofs.moving.moved_runs.Goals as goal

pub loop-run-init : goal.loop-run-init
loop-run-init c = record {
  within = omega arith;
  moves = c.requires.moves;
  numbers = c.in_ok-out.ensures ∙ sym (before_none c.args.way.back (cover_of c.args.way.runs.now) c.args.set.now 0 (λ x one. omega arith));
}

pub loop-run-preserved : goal.loop-run-preserved
loop-run-preserved c =
    let first : ℕ = c.in-Some.run'.first in
    let run = c.in-Some.ensures.run in
    let shift = c.shift_with-shift.ensures in
    let least = c.min.ensures in
    let len : ℕ = c.min.result - first in
    let fits : first + len ≤ c.shift_with-shift.result.last = omega (arith, least, shift.end, run.some) in
    let within_run : first + len ≤ c.in-Some.run'.last = omega (arith, least, shift.end, run.some) in
    record {
      within = omega (arith, within_run, c.in-Some.ensures.below_limit);
      moves = shift.moved;
      numbers =
          put_run c.args.way.back (cover_of c.args.way.runs.now) c.args.set.now c.requires.inside c.loop-run.from first len c.shift_with-shift.result.first c.shift_with-shift.result.last c.shift_with-shift.result.target shift fits run.start run.passed
          c.loop-run.out c.collect_run.new.self c.loop-run.invariant.numbers c.in_ok-collect_run.ensures.ok (λ x up down. run.within x up (omega (arith, down, within_run)));
    }

pub returns : goal.returns
returns c = c.settle.ensures ∙ c.loop-run.invariant.numbers ∙ ap (image c.args.way.back (cover_of c.args.way.runs.now)) (before_all c.args.set.now c.loop-run.from c.in_default.ensures.none)
