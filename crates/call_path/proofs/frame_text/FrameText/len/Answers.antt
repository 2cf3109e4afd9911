use Rattle.std.proofs.Common.{◌∙◌, ap, sym, subst, length}
use Rattle.call_path.proofs.Texts.{length-cut}
use Rattle.call_path.specs.Good.{AreGoodFrames}
use Rattle.call_path.proofs.frame_text.FrameText.len.Goals as goal

pub returns-clause-len : goal.returns-clause-len
returns-clause-len c = ap length c.as_slice.ensures ∙ sym (length-cut 0 c.self.inside.ends.items _) ∙ ap length c.self.view_is

pub returns-clause-good : goal.returns-clause-good
returns-clause-good c = subst AreGoodFrames c.self.view_is c.self.invariant.good
