use Rattle.call_path.proofs.TextOrders.{text_order}
use Rattle.call_path.proofs.paths_are_ordered_by_texts.Goals as goal

pub returns : goal.returns
returns c = text_order
