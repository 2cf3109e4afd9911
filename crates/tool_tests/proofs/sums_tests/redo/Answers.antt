use Rattle.std.proofs.Common.{[], ◌∷◌, ◌++◌, take, sym, ap, subst, ◌∙◌}
use Rattle.std.proofs.lemmas.List.{take_more}
use Rattle.std.proofs.lemmas.Option.{get_or_from_slice_get, slice_get_within}
use Rattle.overlay_net.specs.Nets.{IsReachedBy}
use Rattle.tool_tests.proofs.sums_tests.redo.Goals as goal

pub loop-number-preserved : goal.loop-number-preserved
loop-number-preserved g c =
    let old = c.loop-number.invariant in
    let journal = c.args.journal.now in
    let n = c.loop-number.number in
    record {
      plan = c.apply.ensures.plan ∙ old.plan;
      usable = c.in-Ok.ensures.usable;
      home = c.apply.ensures.home c.in-Ok.ensures.usable;
      reached = subst (IsReachedBy c.apply.new.self)
          (sym (take_more journal n c.at.result (slice_get_within journal n c.at.result c.at.ensures) ∙ ap (λ e. take n journal ++ e ∷ []) (get_or_from_slice_get journal n c.at.result c.at.result c.at.ensures)))
          (c.in-Ok.ensures.reached (take n journal) old.reached);
    }
