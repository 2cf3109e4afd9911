use Rattle.std.proofs.Common.{◌<◌, sym, subst, ap, get_or, refl}
use Rattle.stat_plan.specs.Machine.Waves.{unsent}
use Rattle.wave_resend.proofs.Changing.{change_end, changed_more}
use Rattle.wave_resend.proofs.changes.reset_all.Goals as goal

pub loop-i-preserved : goal.loop-i-preserved
loop-i-preserved c =
    let now = c.loop-i.entries in
    let i = c.loop-i.i in
    changed_more unsent c.args.entries.now now i (get_or now i c.index-entries-i.result) _ c.loop-i.invariant
    (subst (λ k. i < k) (sym c.loop-i.auto.entries) c.loop-i-test.true)
    (ap (get_or now i) c.index-entries-i.is)
    c.reset.ensures

pub returns : goal.returns
returns c = change_end unsent c.args.entries.now c.loop-i.entries c.loop-i.i refl c.loop-i.invariant c.loop-i-test.false
