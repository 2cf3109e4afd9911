use Rattle.overlay_core.proofs.Journals.{after_more, legal_more, legal_less}
use Rattle.overlay_core.proofs.journals_go_on.Goals as goal

pub returns : goal.returns
returns c = record { state = after_more; legal = legal_more; parts = legal_less }
