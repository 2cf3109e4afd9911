use Rattle.frame_name.proofs.GoodFrames.{frame_is}
use Rattle.frame_name.proofs.Remarks.{frame_remark}
use Rattle.frame_name.proofs.laws.frames_are_good.Goals as goal

pub returns-clause-good : goal.returns-clause-good
returns-clause-good c = λ rules is_innermost call. (frame_is rules.keeps_lines is_innermost call).good

pub returns-clause-utf8 : goal.returns-clause-utf8
returns-clause-utf8 c = λ rules is_innermost call. (frame_is rules.keeps_lines is_innermost call).text_is.utf8

pub returns-clause-no_remark : goal.returns-clause-no_remark
returns-clause-no_remark c = λ rules is_innermost call. frame_remark rules.keeps_lines is_innermost call
