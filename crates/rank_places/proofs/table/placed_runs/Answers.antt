use Rattle.std.proofs.Common.{◌+◌, ◌<◌, ◌≤◌, get_or, subst, sym, arith}
use Rattle.rank_set.specs.declared.TheConstants.{RANK_LIMIT}
use Rattle.rank_set.specs.declared.Run.{Run}
use Rattle.rank_places.proofs.Runs.{IsPlacedTo, placing_starts, placing_fits, placing_goes_on, placing_ends}
use Rattle.rank_places.proofs.table.placed_runs.Goals as goal

abbrev no_run : Run
no_run = record { first = 0; last = 0 }

pub loop-run-init : goal.loop-run-init
loop-run-init c = subst (IsPlacedTo c.args.runs.now 0 0) (sym c.in_ok-table.ensures.items) (placing_starts c.args.runs.now c.requires)

fits : (c : goal.In_ok-push) → let r = get_or c.args.runs.now c.loop-run.run-index no_run in (r.first ≤ r.last) × (c.loop-run.place ≤ r.first) × (r.last < RANK_LIMIT)
fits c = placing_fits c.args.runs.now c.loop-run.run-index c.loop-run.place c.loop-run.table.items c.loop-run.invariant no_run c.loop-run-test.true

pub overflow_sub-place : goal.overflow_sub-place
overflow_sub-place c = (fits c).0

pub overflow_add-place : goal.overflow_add-place
overflow_add-place c = let f = fits c in omega (arith, f)

pub overflow_add-place-in-loop-run : goal.overflow_add-place-in-loop-run
overflow_add-place-in-loop-run c = let f = fits c in omega (arith, f)

pub loop-run-preserved : goal.loop-run-preserved
loop-run-preserved c =
    subst (IsPlacedTo c.args.runs.now (c.loop-run.run-index + 1) _) (sym c.in_ok-push.ensures.items)
    (placing_goes_on c.args.runs.now c.loop-run.run-index c.loop-run.place c.loop-run.table.items c.loop-run.invariant no_run c.loop-run-test.true)

pub returns : goal.returns
returns c = placing_ends c.args.runs.now c.loop-run.run-index c.loop-run.place c.loop-run.table.items c.loop-run.invariant c.loop-run-test.false
