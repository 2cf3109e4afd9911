use Rattle.std.proofs.Common.{◌≡◌, ◌++◌, ◌∙◌, ap}
use Rattle.tree_view.specs.Reading.{by_word, tree_view}
use Rattle.front_end.proofs.ViewWritten.{view_written}
use Rattle.front_end.proofs.view_report.write_view.Goals as goal

pub returns : goal.returns
returns c =
    view_written (tree_view c.args.view.now) c.args.argument.now c.word.result.now c.args.out.now.items c.extend_from_slice.new.self.items c.extend_from_slice-2.new.self.items c.push.new.self.items c.extend_from_slice-3.new.self.items c.push-2.new.self.items
    (c.word.ensures ∙ ap by_word c.by.ensures) c.in_ok-extend_from_slice.ensures.items
    (c.in_ok-extend_from_slice-2.ensures.items ∙ ap (λ ys. c.extend_from_slice.new.self.items ++ ys) c.as_bytes.ensures.value) c.in_ok-push.ensures.items
    (c.in_ok-extend_from_slice-3.ensures.items ∙ ap (λ ys. c.push.new.self.items ++ ys) c.as_bytes-2.ensures.value) c.in_ok-push-2.ensures.items
