use Rattle.std.proofs.Common.{◌≡◌, ◌∙◌, ap, subst}
use Rattle.std.specs.Prelude.{OnOk}
use Rattle.equiv_class.specs.ClassList.{classes_view}
use Rattle.overlay_core.specs.TreeReleases.{release_view}
use Rattle.tree_view.specs.Reading.{tree_view}
use Rattle.front_end.specs.JsonValues.{classes_data}
use Rattle.front_end.proofs.ViewWritten.{viewed_object}
use Rattle.front_end.proofs.json_view.write_release.Goals as goal

pub returns : goal.returns
returns g c =
    let release = release_view g.T.PrefixTree.tree c.args.release.now in
    subst (λ ts. OnOk c.end_object.result (c.end_object.new.self ≡ ts))
    (viewed_object (tree_view c.args.view.now) c.args.argument.now release (g.T.PrefixTree.tree c.in_ok-kept.kept) (classes_data (classes_view c.in_ok-classes.classes)) c.row.result.label.now c.row-2.result.label.now
    c.as_str.result.now c.as_str-2.result.now c.kind_word.result.now c.from.result c.from-2.result c.from-3.result
    c.args.out.now c.begin_object.new.self c.key.new.self c.write_classes.new.out c.text.new.self c.text-2.new.self c.text-3.new.self c.count.new.self c.count-2.new.self c.key-2.new.self c.write_tree.new.out c.key-3.new.self c.write_view.new.out c.count-3.new.self
    c.rows-lawful.ensures.lawful.tree c.in_ok-kept.ensures.own (ap classes_data c.in_ok-classes.ensures.own) c.row.ensures.shows.label c.row-2.ensures.shows.label
    (c.as_str.ensures.value ∙ c.in_ok-covered.ensures) (c.as_str-2.ensures.value ∙ c.in_ok-ranks.ensures) c.kind_word.ensures c.from.ensures c.from-2.ensures c.from-3.ensures
    c.in_ok-begin_object.ensures c.in_ok-key.ensures c.in_ok-write_classes.ensures c.in_ok-text.ensures c.in_ok-text-2.ensures c.in_ok-text-3.ensures c.in_ok-count.ensures c.in_ok-count-2.ensures
    c.in_ok-key-2.ensures c.in_ok-write_tree.ensures c.in_ok-key-3.ensures c.in_ok-write_view.ensures c.in_ok-count-3.ensures) c.end_object.ensures
