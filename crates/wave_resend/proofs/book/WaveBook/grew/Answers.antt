use Rattle.std.proofs.lemmas.Result.{on_ok_weaker}
use Rattle.stat_plan.specs.Machine.Waves.{growing}
use Rattle.wave_resend.proofs.Setting.{ascend_with, changes_in, key_kept}
use Rattle.wave_resend.proofs.book.WaveBook.grew.Goals as goal

pub invariant_of-self : goal.invariant_of-self
invariant_of-self c =
    ascend_with c.self.inside.entries.items c.index_of-i.result c.index_mut-entry.result.now c.grow.new.self
    c.index_mut-entry.ensures.value (key_kept c.grow.result _ c.index_mut-entry.result.now c.grow.new.self c.grow.ensures.ok c.grow.ensures.err) c.self.invariant

pub returns-clause-ok : goal.returns-clause-ok
returns-clause-ok c = on_ok_weaker c.grow.result (λ is.
    changes_in (growing c.args.ranks.now) c.args.s c.args.w c.args.self.now c.deref.result.now c.self.inside.entries.items c.index_of-i.result c.index_mut-entry.result.now c.grow.new.self
    c.deref.ensures.value c.self.view_is c.requires.known c.index_of-i.ensures.index c.index_mut-entry.ensures.value is) c.grow.ensures.ok
