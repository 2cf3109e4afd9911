use Rattle.std.proofs.Common.{ap}
use Rattle.stat_plan.specs.Machine.Waves.{Closed}
use Rattle.wave_resend.specs.Books.{key_of}
use Rattle.wave_resend.proofs.Setting.{ascend_with, changes_in}
use Rattle.wave_resend.proofs.book.WaveBook.close.Goals as goal

pub invariant_of-self : goal.invariant_of-self
invariant_of-self c =
    ascend_with c.self.inside.entries.items c.index_of-i.result c.index_mut-entry.result.now c.close.new.self
    c.index_mut-entry.ensures.value (ap key_of c.close.ensures) c.self.invariant

pub returns : goal.returns
returns c =
    changes_in (λ _. Closed) c.args.s c.args.w c.args.self.now c.deref.result.now c.self.inside.entries.items c.index_of-i.result c.index_mut-entry.result.now c.close.new.self
    c.deref.ensures.value c.self.view_is c.requires.known c.index_of-i.ensures.index c.index_mut-entry.ensures.value c.close.ensures
