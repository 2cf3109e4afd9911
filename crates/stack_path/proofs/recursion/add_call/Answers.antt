use Rattle.std.proofs.Common.{◌∙◌, ap, sym, not}
use Rattle.std.specs.List.{prefix_len}
use Rattle.std.specs.Str.{bytes_eq}
use Rattle.stack_path.specs.ChoiceViews.{recursion_view}
use Rattle.stack_path.specs.Recursion.{len_before, with_call}
use Rattle.stack_path.specs.StackViews.{stack_view}
use Rattle.stack_path.proofs.Views.{prefix_view, with_view}
use Rattle.stack_path.proofs.recursion.add_call.Goals as goal

pub returns-in_ok-push-in-Loops : goal.returns-in_ok-push-in-Loops
returns-in_ok-push-in-Loops c =
    with_view c.len_before-n.result (len_before c.args.frame.now.name (stack_view c.args.stack.now.items))
    c.args.stack.now.items c.truncate.new.self.items c.push-in-Loops.new.self.items c.args.frame
    c.truncate.ensures.items c.in_ok-push-in-Loops.ensures.items
    (c.len_before-n.ensures.value
    ∙ ap (prefix_len (λ f. not (bytes_eq f.now.name c.args.frame.now.name))) c.as_slice.ensures.value
    ∙ prefix_view (λ f. not (bytes_eq f.name c.args.frame.now.name)) c.args.stack.now.items)
    ∙ ap (λ r. with_call (recursion_view r) (stack_view c.args.stack.now.items) c.args.frame.now) (sym c.in-Loops.is)
