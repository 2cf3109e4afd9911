use Rattle.std.proofs.Common.{◌≡◌, ◌++◌, ◌∙◌, ap}
use Rattle.overlay_core.specs.TreeReleases.{release_view}
use Rattle.front_end.specs.SumsReport.{value_text}
use Rattle.front_end.proofs.SumsWritten.{sum_written}
use Rattle.front_end.proofs.sums_report.write_sum.Goals as goal

pub returns : goal.returns
returns g c =
    sum_written c.args.fold (release_view g.T.PrefixTree.tree c.args.release.now) c.row.result.label.now c.word.result.now (value_text c.in_ok-value.value) c.args.out.now.items
    c.write_release_words.new.out.items c.extend_from_slice.new.self.items c.write_text.new.out.items c.push.new.self.items c.extend_from_slice-2.new.self.items c.push-2.new.self.items c.write_value.new.out.items c.push-3.new.self.items
    c.row.ensures.shows.label c.word.ensures (ap value_text c.in_ok-value.ensures) c.in_ok-write_release_words.ensures c.in_ok-extend_from_slice.ensures.items c.in_ok-write_text.ensures.ok c.in_ok-push.ensures.items
    (c.in_ok-extend_from_slice-2.ensures.items ∙ ap (λ ys. c.push.new.self.items ++ ys) c.as_bytes.ensures.value) c.in_ok-push-2.ensures.items c.in_ok-write_value.ensures c.in_ok-push-3.ensures.items
