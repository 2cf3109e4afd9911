use Rattle.tree_view.proofs.SameViews.{none_empty}
use Rattle.tree_view.proofs.views_keep_no_empty_path.Goals as goal

pub returns : goal.returns
returns c = none_empty
