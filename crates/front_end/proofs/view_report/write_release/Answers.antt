use Rattle.std.proofs.Common.{◌≡◌, subst}
use Rattle.std.specs.Prelude.{OnOk}
use Rattle.overlay_core.specs.TreeReleases.{release_view}
use Rattle.tree_view.specs.Reading.{tree_view}
use Rattle.front_end.proofs.ViewWritten.{viewed_written}
use Rattle.front_end.proofs.view_report.write_release.Goals as goal

pub returns : goal.returns
returns g c =
    let release = release_view g.T.PrefixTree.tree c.args.release.now in
    subst (λ ys. OnOk c.write_tree_and_classes.result (c.write_tree_and_classes.new.out.items ≡ ys))
    (viewed_written (tree_view c.args.view.now) c.args.argument.now release (g.T.PrefixTree.tree c.in_ok-kept.kept) c.row.result.label.now c.row-2.result.label.now c.args.out.now.items c.write_heading.new.out.items c.write_ranks.new.out.items
    c.write_view.new.out.items c.write_ranks-2.new.out.items c.rows-lawful.ensures.lawful.tree c.in_ok-kept.ensures.own c.row.ensures.shows.label c.row-2.ensures.shows.label
    c.in_ok-write_heading.ensures c.in_ok-write_ranks.ensures c.in_ok-write_view.ensures c.in_ok-write_ranks-2.ensures) c.write_tree_and_classes.ensures
