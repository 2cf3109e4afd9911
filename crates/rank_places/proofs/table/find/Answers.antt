use Rattle.std.proofs.Common.{rules, ◌≡◌, ◌+◌, ◌-◌, ◌/◌, ◌<◌, ℕ, min, length, ap, arith}
use Rattle.rank_places.specs.declared.table.PlacedRun.{PlacedRun}
use Rattle.rank_places.specs.Table.{source_at}
use Rattle.rank_places.proofs.Runs.{some_runs, source_is}
use Rattle.rank_places.proofs.table.find.Goals.{then-hint-runs+then-source-number, else-hint-runs}
use Rattle.rank_places.proofs.table.find.Goals as goal

abbrev no_run : PlacedRun
no_run = record { first = 0; last = 0; place = 0 }

pub loop-high-init : goal.loop-high-init
loop-high-init c =
    let some : 0 < length c.args.runs.now = some_runs c.args.back c.args.runs.now c.requires.placed c.args.number c.requires.inside in
    elim c.if-hint-runs.branch [
      | then-hint-runs+then-source-number w ↦ record {
        ordered = omega (arith, w.low-is, w.if-hint-runs.true);
        inside = omega arith;
        ahead = omega arith;
        begun = λ _. omega (arith, w.low-is, w.if-source-number.true, w.source.ensures, source_is c.args.back c.args.runs.now c.args.hint no_run w.if-hint-runs.true, ap (source_at c.args.back c.args.runs.now) w.low-is);
        next = λ lt. absurd (omega (arith, lt));
      }
      | else-hint-runs w ↦ record {
        ordered = omega (arith, w.low-is, some);
        inside = omega arith;
        ahead = omega arith;
        begun = λ lt. absurd (omega (arith, lt, w.low-is));
        next = λ lt. absurd (omega (arith, lt));
      }
    ]

pub loop-high-preserved-then-source-number-2 : goal.loop-high-preserved-then-source-number-2
loop-high-preserved-then-source-number-2 c =
    let k : ℕ = c.loop-high.low + c.min-ahead.result in
    let ahead : c.min-ahead.result ≡ min c.loop-high.step ((c.loop-high.high - c.loop-high.low) / 2) = search rules in
    let inside : k < length c.args.runs.now = omega (arith, ahead, c.loop-high.invariant.inside, c.loop-high-test.true) in
    record {
      ordered = omega (arith, ahead, c.loop-high-test.true);
      inside = c.loop-high.invariant.inside;
      ahead = omega (arith, ahead, c.loop-high-test.true, c.loop-high.invariant.ahead);
      begun = λ _. omega (arith, c.if-source-number-2.true, c.source-in-loop-high.ensures, source_is c.args.back c.args.runs.now k no_run inside);
      next = c.loop-high.invariant.next;
    }

pub loop-high-preserved : goal.loop-high-preserved
loop-high-preserved c =
    let k : ℕ = c.loop-high.low + c.min-ahead.result in
    let ahead : c.min-ahead.result ≡ min c.loop-high.step ((c.loop-high.high - c.loop-high.low) / 2) = search rules in
    let inside : k < length c.args.runs.now = omega (arith, ahead, c.loop-high.invariant.inside, c.loop-high-test.true) in
    record {
      ordered = omega (arith, ahead, c.loop-high-test.true, c.loop-high.invariant.ahead);
      inside = omega (arith, inside);
      ahead = c.loop-high.invariant.ahead;
      begun = c.loop-high.invariant.begun;
      next = λ _. omega (arith, c.if-source-number-2.false, c.source-in-loop-high.ensures, source_is c.args.back c.args.runs.now k no_run inside);
    }
