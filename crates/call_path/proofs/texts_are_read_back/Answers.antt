use Rattle.call_path.proofs.ReadBack.{good_read, read_good}
use Rattle.call_path.proofs.texts_are_read_back.Goals as goal

pub returns-clause-read : goal.returns-clause-read
returns-clause-read c = good_read

pub returns-clause-good : goal.returns-clause-good
returns-clause-good c = read_good
