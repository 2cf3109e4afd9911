use Rattle.overlay_core.proofs.Picks.{picks_are_legal, picks_go_on}
use Rattle.overlay_core.proofs.picks_go_on.Goals as goal

pub returns : goal.returns
returns c = record { extended = λ p seed journal y picked e. picks_go_on p seed journal y e picked; legal = picks_are_legal }
