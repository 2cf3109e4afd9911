use Rattle.std.proofs.Common.{◌+◌, ◌-◌, ◌≤◌, false, get_or, sym, subst, arith}
use Rattle.rank_places.specs.declared.table.PlacedRun.{PlacedRun}
use Rattle.rank_places.specs.Table.{cover_of, source, source_end, IsShift}
use Rattle.rank_places.proofs.Runs.{run_at, found_in, to_shift, back_shift, ends_fit, last_in}
use Rattle.rank_places.proofs.table.shift_at.Goals as goal

abbrev no_run : PlacedRun
no_run = record { first = 0; last = 0; place = 0 }

pub overflow_sub-len : goal.overflow_sub-len
overflow_sub-len c = (run_at c.args.runs.now c.requires.placed c.args.at no_run c.requires.found.within).some

pub overflow_add-result : goal.overflow_add-result
overflow_add-result c =
    let h = run_at c.args.runs.now c.requires.placed c.args.at no_run c.requires.found.within in
    let fit = ends_fit (cover_of c.args.runs.now) c.args.number (get_or c.args.runs.now c.args.at no_run) h in
    omega (arith, fit)

pub returns-then-back-clause-shift : goal.returns-then-back-clause-shift
returns-then-back-clause-shift c =
    let r = get_or c.args.runs.now c.args.at no_run in
    let h = run_at c.args.runs.now c.requires.placed c.args.at no_run c.requires.found.within in
    let here = found_in c.args.back c.args.runs.now c.requires.placed c.args.number c.args.at c.requires.inside c.requires.found no_run in
    subst (λ b. IsShift b (cover_of c.args.runs.now) c.args.number r.place (r.place + (r.last - r.first)) r.first) (sym c.if-back.true)
    (back_shift (cover_of c.args.runs.now) c.args.number r h (subst (λ b. (source b r ≤ c.args.number) × (c.args.number ≤ source_end b r)) c.if-back.true here))

pub returns-clause-shift : goal.returns-clause-shift
returns-clause-shift c =
    let r = get_or c.args.runs.now c.args.at no_run in
    let h = run_at c.args.runs.now c.requires.placed c.args.at no_run c.requires.found.within in
    let here = found_in c.args.back c.args.runs.now c.requires.placed c.args.number c.args.at c.requires.inside c.requires.found no_run in
    subst (λ b. IsShift b (cover_of c.args.runs.now) c.args.number r.first r.last r.place) (sym c.if-back.false)
    (to_shift (cover_of c.args.runs.now) c.args.number r h (subst (λ b. (source b r ≤ c.args.number) × (c.args.number ≤ source_end b r)) c.if-back.false here))

pub returns-then-back-clause-last : goal.returns-then-back-clause-last
returns-then-back-clause-last c = λ end x le one.
    let r = get_or c.args.runs.now c.args.at no_run in
    let lies = last_in c.args.back c.args.runs.now c.requires.placed c.args.number c.args.at c.requires.found end x le one no_run in
    subst (λ b. x ≤ source_end b r) c.if-back.true lies

pub returns-clause-last : goal.returns-clause-last
returns-clause-last c = λ end x le one.
    let r = get_or c.args.runs.now c.args.at no_run in
    let h = run_at c.args.runs.now c.requires.placed c.args.at no_run c.requires.found.within in
    let lies = last_in c.args.back c.args.runs.now c.requires.placed c.args.number c.args.at c.requires.found end x le one no_run in
    let up : x ≤ source_end false r = subst (λ b. x ≤ source_end b r) c.if-back.false lies in
    omega (arith, up, h.some)
