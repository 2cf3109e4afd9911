use Rattle.overlay_core.proofs.Journals.{lost_where_dead}
use Rattle.overlay_core.proofs.lost_nodes_are_dead.Goals as goal

pub returns : goal.returns
returns c = record { lost = lost_where_dead }
