use Rattle.std.proofs.Common.{◌∙◌, ◌+◌, ◌∷◌, ap, sym, drop}
use Rattle.std.proofs.lemmas.List.{drop_more}
use Rattle.stack_path.specs.ChoiceViews.{recursion_view}
use Rattle.stack_path.specs.Recursion.{with_calls}
use Rattle.stack_path.specs.StackViews.{stack_view}
use Rattle.stack_path.proofs.recursion.once.Goals as goal

pub loop-frame-preserved : goal.loop-frame-preserved
loop-frame-preserved c =
    c.loop-frame.invariant
    ∙ ap (λ rest. with_calls (recursion_view c.args.recursion) (stack_view c.loop-frame.shown.items) (stack_view rest))
    (drop_more c.args.calls.now c.loop-frame.frame-index c.frame-item.result c.loop-frame-test.true)
    ∙ ap (λ f. with_calls (recursion_view c.args.recursion) (stack_view c.loop-frame.shown.items) (f.now ∷ stack_view (drop (c.loop-frame.frame-index + 1) c.args.calls.now))) (sym c.frame-item.is)
    ∙ ap (λ s. with_calls (recursion_view c.args.recursion) s (stack_view (drop (c.loop-frame.frame-index + 1) c.args.calls.now))) (sym c.in_ok-add_call.ensures)
