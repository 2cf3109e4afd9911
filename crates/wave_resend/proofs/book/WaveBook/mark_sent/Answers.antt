use Rattle.std.proofs.lemmas.Result.{on_ok_weaker}
use Rattle.wave_resend.specs.Books.{all_sent}
use Rattle.wave_resend.proofs.Setting.{ascend_with, changes_in, key_kept}
use Rattle.wave_resend.proofs.book.WaveBook.mark_sent.Goals as goal

pub invariant_of-self : goal.invariant_of-self
invariant_of-self c =
    ascend_with c.self.inside.entries.items c.index_of-i.result c.index_mut-entry.result.now c.mark_sent.new.self
    c.index_mut-entry.ensures.value (key_kept c.mark_sent.result _ c.index_mut-entry.result.now c.mark_sent.new.self c.mark_sent.ensures.ok c.mark_sent.ensures.err) c.self.invariant

pub returns-clause-ok : goal.returns-clause-ok
returns-clause-ok c = on_ok_weaker c.mark_sent.result (λ is.
    changes_in all_sent c.args.s c.args.w c.args.self.now c.deref.result.now c.self.inside.entries.items c.index_of-i.result c.index_mut-entry.result.now c.mark_sent.new.self
    c.deref.ensures.value c.self.view_is c.requires.known c.index_of-i.ensures.index c.index_mut-entry.ensures.value is) c.mark_sent.ensures.ok
