use Rattle.journal_text.proofs.OneEvent.{says_event}
use Rattle.journal_text.proofs.laws.a_line_says_one_event.Goals as goal

pub returns : goal.returns
returns c = λ p line e plan. says_event p plan line e
