use Rattle.std.proofs.Common.{◌≡◌, ◌&&◌, true, ltb, get_or, ap, ◌∙◌, arith}
use Rattle.std.proofs.lemmas.Bool.{le-ltb}
use Rattle.rank_set.specs.Ranks.{has}
use Rattle.equiv_class.specs.States.{state_after, with_next}
use Rattle.equiv_class.proofs.LedPaths.{note_step}
use Rattle.equiv_class.proofs.Parting.{members_step}
use Rattle.equiv_class.proofs.states.part.Goals as goal

pub run_at-own-requires-clause-in_table : goal.run_at-own-requires-clause-in_table
run_at-own-requires-clause-in_table c =
    let inside = c.requires.entries c.in-Some.run'.last (c.in-Some.ensures.run.within c.in-Some.run'.last c.in-Some.ensures.run.some (omega arith)) in
    omega (arith, inside, c.loop-from.invariant.long)

pub set_run-requires-clause-in_table : goal.set_run-requires-clause-in_table
set_run-requires-clause-in_table c =
    let inside = c.requires.entries c.in-Some.run'.last (c.in-Some.ensures.run.within c.in-Some.run'.last c.in-Some.ensures.run.some (omega arith)) in
    omega (arith, inside, c.run_at-own.ensures.within, c.loop-from.invariant.long)

pub loop-from-preserved : goal.loop-from-preserved
loop-from-preserved c =
    let from = c.loop-from.from in
    let h = c.loop-from.invariant in
    let member : has c.args.ranks.now from ≡ true = c.in-Some.ensures.run.within from h.begins c.loop-from-test.true in
    let stayed : get_or c.loop-from.states from 0 ≡ get_or c.args.states.now from 0 = h.moved.stayed from (ap (λ b. b && ltb from from) member ∙ le-ltb from from (omega arith)) in
    let end = c.run_at-own.ensures in
    let own = c.run_at-own.result.number in
    let set = c.set_run.ensures in
    let both = members_step c.args.ranks.now c.in_ok-base.base from c.run_at-own.result.end c.in_ok-state.state c.args.states.now c.loop-from.states c.set_run.new.self
    c.loop-from.next.items c.next_state.new.next.items end.passed
    (λ q ge lt. c.in-Some.ensures.run.within q (omega (arith, h.begins, ge)) (omega (arith, lt, end.within)))
    (λ q ge lt. end.same q ge lt ∙ end.number) (c.in_ok-state.ensures.state ∙ ap (λ k. state_after c.in_ok-base.base k c.loop-from.next.items) end.number)
    (c.in_ok-state.ensures.next ∙ ap (λ k. with_next c.in_ok-base.base k c.loop-from.next.items) end.number) c.in_ok-set_run.ensures.given set.below set.above h.tables h.moved in
    let noted = note_step c.args.path c.in_ok-base.base own c.args.origins.now.items c.loop-from.next.items c.next_state.new.next.items
    c.loop-from.origins.items c.next_state.new.origins.items h.moved.room (omega (arith, end.number, stayed, h.moved.old_below from)) h.tables.next_within c.in_ok-state.ensures.next c.in_ok-state.ensures.origins h.origins h.noted in
    record {
      begins = omega (arith, h.begins, end.passed);
      within = end.within;
      long = set.length ∙ h.long;
      tables = both.0;
      origins = noted.0;
      noted = noted.1;
      moved = both.1;
    }
