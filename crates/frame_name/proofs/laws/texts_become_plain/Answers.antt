use Rattle.frame_name.proofs.PlainTexts.{plain_text}
use Rattle.frame_name.proofs.laws.texts_become_plain.Goals as goal

pub returns-clause-bytes : goal.returns-clause-bytes
returns-clause-bytes c = λ text. (plain_text text).text_is.plain

pub returns-clause-utf8 : goal.returns-clause-utf8
returns-clause-utf8 c = λ text. (plain_text text).text_is.utf8

pub returns-clause-not_empty : goal.returns-clause-not_empty
returns-clause-not_empty c = λ text. (plain_text text).not_empty

pub returns-clause-no_remark : goal.returns-clause-no_remark
returns-clause-no_remark c = λ text. (plain_text text).no_remark
