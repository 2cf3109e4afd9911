use Rattle.std.proofs.Common.{◌∙◌}
use Rattle.wave_resend.proofs.Setting.{state_in}
use Rattle.wave_resend.proofs.book.WaveBook.state.Goals as goal

pub returns : goal.returns
returns c =
    c.state.ensures
    ∙ state_in c.args.s c.args.w c.args.self.now c.deref.result.now c.self.inside.entries.items c.index_of-i.result c.index.result.now
    c.deref.ensures.value c.self.view_is c.requires c.index_of-i.ensures.index c.index.ensures
