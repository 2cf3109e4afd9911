use Rattle.std.proofs.Common.{◌≡◌, ◌∙◌, ap, subst}
use Rattle.std.specs.Prelude.{OnOk}
use Rattle.equiv_class.specs.ClassList.{classes_view}
use Rattle.overlay_core.specs.TreeReleases.{release_view}
use Rattle.front_end.specs.JsonValues.{classes_data}
use Rattle.front_end.proofs.JsonWritten.{release_object}
use Rattle.front_end.proofs.json_release.write_release.Goals as goal

pub returns : goal.returns
returns g c =
    let release = release_view g.T.PrefixTree.tree c.args.release.now in
    subst (λ ts. OnOk c.end_object.result (c.end_object.new.self ≡ ts))
    (release_object c.args.plan.now release c.row.result.label.now c.deref.result.now c.as_str.result.now c.kind_word.result.now c.from.result c.from-2.result c.from-3.result (classes_data (classes_view c.in_ok-classes.classes))
    c.args.out.now c.begin_object.new.self c.key.new.self c.write_classes.new.out c.text.new.self c.text-2.new.self c.key-2.new.self c.write_missing.new.out c.count.new.self c.count-2.new.self c.key-3.new.self c.write_tree.new.out c.count-3.new.self
    (ap classes_data c.in_ok-classes.ensures.own) c.row.ensures.shows.label (c.as_str.ensures.value ∙ c.in_ok-ranks_text.ensures) c.kind_word.ensures c.deref.ensures.value
    c.from.ensures c.from-2.ensures c.from-3.ensures
    c.in_ok-begin_object.ensures c.in_ok-key.ensures c.in_ok-write_classes.ensures c.in_ok-text.ensures c.in_ok-text-2.ensures c.in_ok-key-2.ensures c.in_ok-write_missing.ensures c.in_ok-count.ensures c.in_ok-count-2.ensures
    c.in_ok-key-3.ensures c.in_ok-write_tree.ensures c.in_ok-count-3.ensures) c.end_object.ensures
