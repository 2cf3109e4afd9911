use Rattle.std.proofs.Common.{◌≡◌, ◌∙◌, subst}
use Rattle.std.specs.Prelude.{OnOk}
use Rattle.overlay_core.specs.TreeReleases.{release_view}
use Rattle.front_end.proofs.SumsWritten.{sum_object}
use Rattle.front_end.proofs.json_sums.write_sum.Goals as goal

pub returns : goal.returns
returns g c =
    subst (λ ts. OnOk c.end_object.result (c.end_object.new.self ≡ ts))
    (sum_object c.args.fold (release_view g.T.PrefixTree.tree c.args.release.now) c.row.result.label.now c.as_str.result.now c.word.result.now c.kind_word.result.now c.from.result c.from-2.result c.from-3.result c.in_ok-value.value
    c.args.out.now c.begin_object.new.self c.text.new.self c.text-2.new.self c.text-3.new.self c.count.new.self c.count-2.new.self c.value.new.self c.count-3.new.self
    c.row.ensures.shows.label (c.as_str.ensures.value ∙ c.in_ok-covered.ensures) c.word.ensures c.kind_word.ensures c.from.ensures c.from-2.ensures c.from-3.ensures c.in_ok-value.ensures
    c.in_ok-begin_object.ensures c.in_ok-text.ensures c.in_ok-text-2.ensures c.in_ok-text-3.ensures c.in_ok-count.ensures c.in_ok-count-2.ensures c.in_ok-value-2.ensures c.in_ok-count-3.ensures) c.end_object.ensures
