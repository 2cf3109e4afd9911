use Rattle.std.proofs.Common.{◌≡◌, ◌∙◌, ap, arith, get_or, length, refl}
use Rattle.rank_set.specs.Ranks.{union}
use Rattle.stat_plan.specs.Plans.{ranks}
use Rattle.control_cast.specs.CastNets.{node_at}
use Rattle.control_cast.specs.CastViews.{cast_state}
use Rattle.cast_text.specs.CastText.{has_obeyed}
use Rattle.cast_text.proofs.Numbers.{has_it, has_not}
use Rattle.cast_text.proofs.Lines.{ranks_more, ranks_same}
use Rattle.cast_text.proofs.report.ranks_that_obeyed.Goals.{then-command-obeyed+in_ok-union_into, else-command-obeyed}
use Rattle.cast_text.proofs.report.ranks_that_obeyed.Goals as goal

pub loop-d-preserved : goal.loop-d-preserved
loop-d-preserved c =
    let v = c.args.net.now in
    let p = v.plan in
    let xs = c.args.daemons.now in
    let k = c.loop-d.d-index in
    let d = get_or xs k 0 in
    let len : length c.obeyed.result.now ≡ length ((cast_state v).obeyed d) = ap length c.obeyed.ensures in
    elim c.if-command-obeyed.branch [
      | then-command-obeyed+in_ok-union_into w ↦
          w.set-is
          ∙ ranks_more p (λ n. has_obeyed (cast_state v) n c.args.command) xs k d c.loop-d.set _ c.loop-d-test.true refl
          (has_it ((cast_state v).obeyed d) (node_at p v.members d).seen c.args.command refl c.requires.first (omega (arith, len, w.if-command-obeyed.true)))
          c.loop-d.invariant (w.in_ok-union_into.ensures.ok ∙ ap (union c.loop-d.set) (w.ranks.ensures ∙ ap (λ q. ranks q d) w.plan.ensures))
      | else-command-obeyed w ↦
          w.set-is
          ∙ ranks_same p (λ n. has_obeyed (cast_state v) n c.args.command) xs k d c.loop-d.set c.loop-d-test.true refl
          (has_not ((cast_state v).obeyed d) (node_at p v.members d).seen c.args.command refl (omega (arith, len, w.if-command-obeyed.false)))
          c.loop-d.invariant
    ]
