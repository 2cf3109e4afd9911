use Rattle.std.proofs.Common.{ap}
use Rattle.wave_resend.specs.Books.{armed, key_of}
use Rattle.wave_resend.proofs.Setting.{ascend_with, changes_in}
use Rattle.wave_resend.proofs.book.WaveBook.arm.Goals as goal

pub invariant_of-self : goal.invariant_of-self
invariant_of-self c =
    ascend_with c.self.inside.entries.items c.index_of-i.result c.index_mut-entry.result.now c.arm.new.self
    c.index_mut-entry.ensures.value (ap key_of c.arm.ensures) c.self.invariant

pub returns : goal.returns
returns c =
    changes_in (armed c.args.t) c.args.s c.args.w c.args.self.now c.deref.result.now c.self.inside.entries.items c.index_of-i.result c.index_mut-entry.result.now c.arm.new.self
    c.deref.ensures.value c.self.view_is c.requires.known c.index_of-i.ensures.index c.index_mut-entry.ensures.value c.arm.ensures
