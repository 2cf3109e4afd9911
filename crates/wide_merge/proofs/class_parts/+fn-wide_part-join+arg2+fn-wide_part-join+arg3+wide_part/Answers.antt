use Rattle.std.proofs.Common.{List}
use Rattle.std.proofs.lemmas.Result.{IfOk-at_ok, IfOk-weaker}
use Rattle.rank_set.specs.Ranks.{Ranks}
use Rattle.call_path.specs.Path.{Path}
use Rattle.wide_merge.specs.Joining.{AreClassesSeen, AreUnited}
use Rattle.wide_merge.proofs.Cutting.{whole_classes}
use Rattle.wide_merge.proofs.class_parts.+fn-wide_part-join+arg2+fn-wide_part-join+arg3+wide_part.Goals as goal

pub returns : goal.returns
returns g t c =
    let es : List (Path × Ranks) = g.S.SharedPaths.seen c.args.seen.now in
    IfOk-weaker c.unite.result
    (λ all. AreUnited c.in_ok-one.one.items c.in_ok-other.other.items all.items)
    (λ all. AreClassesSeen es c.args.ranks.now all.items)
    (λ all united.
    whole_classes es c.args.ranks.now c.in_ok-low.low c.in_ok-low.high c.in_ok-one.one.items c.in_ok-other.other.items all.items c.in_ok-low.ensures
    (IfOk-at_ok (λ all. AreClassesSeen es c.in_ok-low.low all.items) c.in_ok-one.was c.join-one.ensures.first)
    (IfOk-at_ok (λ all. AreClassesSeen es c.in_ok-low.high all.items) c.in_ok-other.was c.join-one.ensures.second)
    united)
    c.unite.ensures
