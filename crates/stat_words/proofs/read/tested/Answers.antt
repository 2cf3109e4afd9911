use Rattle.std.proofs.Common.{sym, subst}
use Rattle.tree_view.specs.Reading.{tree_view}
use Rattle.stat_words.specs.Words.{HasGoodArgument}
use Rattle.stat_words.proofs.Tested.{good, none}
use Rattle.stat_words.proofs.read.tested.Goals as goal
use Rattle.stat_words.proofs.read.tested.Goals.{in-Ok, in-Err-BadArgument, in-Err-OutOfMemory}

pub returns-clause-good : goal.returns-clause-good
returns-clause-good c = elim c.match-read.branch [
  | in-Ok w ↦ good c.match-read.result c.args.command w.result-is (subst HasGoodArgument (sym c.in-View.is) (tree_view w.in-Ok.field-0, w.in-Ok.ensures.ok))
  | in-Err-BadArgument w ↦ none c.match-read.result _ w.result-is
  | in-Err-OutOfMemory w ↦ none c.match-read.result _ w.result-is
]
