use Rattle.std.proofs.Common.{arith}
use Rattle.frame_name.specs.Plain.{plain}
use Rattle.frame_name.proofs.PlainTexts.{plain_text}
use Rattle.frame_name.proofs.ShortTexts.{within_text, within_len, within_some}
use Rattle.frame_name.proofs.laws.names_are_fitted.Goals as goal

pub returns-clause-bytes : goal.returns-clause-bytes
returns-clause-bytes c = λ text. (within_text 740 320 (plain text) (omega arith) (plain_text text).text_is).plain

pub returns-clause-utf8 : goal.returns-clause-utf8
returns-clause-utf8 c = λ text. (within_text 740 320 (plain text) (omega arith) (plain_text text).text_is).utf8

pub returns-clause-not_empty : goal.returns-clause-not_empty
returns-clause-not_empty c = λ text. within_some 740 320 (plain text) (omega arith) (plain_text text).text_is.utf8 (plain_text text).not_empty

pub returns-clause-within_limit : goal.returns-clause-within_limit
returns-clause-within_limit c = λ text. within_len 740 320 (plain text) (omega arith) (plain_text text).text_is.utf8
