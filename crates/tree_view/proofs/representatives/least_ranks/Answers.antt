use Rattle.std.proofs.Common.{◌∙◌, ap}
use Rattle.std.proofs.lemmas.List.{take_all}
use Rattle.rank_set.specs.Ranks.{has, same_ranks}
use Rattle.equiv_class.specs.ClassList.{class_views}
use Rattle.tree_view.specs.Views.{least_ranks}
use Rattle.tree_view.proofs.Least.{class_step}
use Rattle.tree_view.proofs.representatives.least_ranks.Goals as goal

pub loop-class-init : goal.loop-class-init
loop-class-init c es r = ap (λ s. has s r) c.new-ranks.ensures

pub loop-class-preserved : goal.loop-class-preserved
loop-class-preserved c es =
    class_step es c.args.count c.args.classes.now c.loop-class.class-index c.class-item.result c.loop-class.ranks c.add_least.new.all c.loop-class-test.true c.class-item.is c.in_ok-add_least.ensures (c.loop-class.invariant es)

pub returns : goal.returns
returns c es =
    same_ranks c.loop-class.ranks (least_ranks c.args.count (class_views es c.args.classes.now)) (λ r.
    c.loop-class.invariant es r ∙ ap (λ cs. has (least_ranks c.args.count (class_views es cs)) r) (take_all c.loop-class.class-index c.args.classes.now c.loop-class-test.false))
