use Rattle.std.proofs.Common.{◌≡◌, ◌∙◌, ap, subst}
use Rattle.std.specs.Prelude.{OnOk}
use Rattle.tree_view.specs.Reading.{by_word, tree_view}
use Rattle.front_end.proofs.ViewWritten.{view_object}
use Rattle.front_end.proofs.json_view.write_view.Goals as goal

pub returns : goal.returns
returns c =
    subst (λ ts. OnOk c.end_object.result (c.end_object.new.self ≡ ts))
    (view_object (tree_view c.args.view.now) c.args.argument.now c.word.result.now c.args.out.now c.begin_object.new.self c.text.new.self c.text-2.new.self
    (c.word.ensures ∙ ap by_word c.by.ensures) c.in_ok-begin_object.ensures c.in_ok-text.ensures c.in_ok-text-2.ensures) c.end_object.ensures
