use Rattle.text_lines.specs.Lines.{lines}
use Rattle.journal_text.proofs.ReadBack.{events_are_of}
use Rattle.journal_text.proofs.laws.what_is_read_is_of_the_plan.Goals as goal

pub returns : goal.returns
returns c = λ p text plan. events_are_of p plan (lines text)
