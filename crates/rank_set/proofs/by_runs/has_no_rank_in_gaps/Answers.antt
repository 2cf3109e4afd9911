use Rattle.std.proofs.Common.{◌≡◌, ◌-◌, Bool, false, true, not, ap, sym, ◌∙◌, arith}
use Rattle.std.specs.Prelude.{is_some}
use Rattle.rank_set.proofs.RunWalks.{gap_has, last_gap}
use Rattle.rank_set.proofs.by_runs.has_no_rank_in_gaps.Goals as goal

pub returns-then-is_some : goal.returns-then-is_some
returns-then-is_some c = sym (gap_has c.args.set.now c.args.other.now c.loop-run.from c.in-Some.run'.first c.in-Some.run'.last (c.in-Some.run'.first - 1) c.run_within.result (sym c.is_some.ensures ∙ c.if-is_some.true) c.in-Some.ensures.run (omega (arith, c.if-from-run.true)) c.run_within.ensures.run)

turned : (a b : Bool) → a ≡ not b → b ≡ not a
turned a true e = sym (ap not e)
turned a false e = sym (ap not e)

pub returns : goal.returns
returns c =
    turned (is_some c.run_within-2.result) c.is_none.result c.is_none.ensures ∙ last_gap c.args.set.now c.args.other.now c.loop-run.from c.end-end.result c.run_within-2.result c.loop-run.invariant.done c.in_default.ensures.none c.end-end.ensures.above c.run_within-2.ensures.none c.run_within-2.ensures.run
