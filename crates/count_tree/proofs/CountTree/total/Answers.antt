use Rattle.std.proofs.Common.{◌∙◌, ap}
use Rattle.std.specs.List.{sum}
use Rattle.count_tree.proofs.Trees.{root}
use Rattle.count_tree.proofs.CountTree.total.Goals as goal

pub returns : goal.returns
returns c =
    c.index.ensures ∙ root c.self.inside.sums.items c.self.inside.leaves c.self.inside.places c.self.invariant c.index.result.now ∙ ap sum c.self.view_is
