use Rattle.journal_text.proofs.ReadBack.{read_back}
use Rattle.journal_text.proofs.laws.journals_are_read_back.Goals as goal

pub returns : goal.returns
returns c = λ p journal plan are. read_back p plan journal are
