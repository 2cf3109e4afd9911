use Rattle.std.proofs.Common.{◌≡◌, subst}
use Rattle.std.specs.Prelude.{OnOk}
use Rattle.overlay_core.specs.TreeReleases.{release_view}
use Rattle.front_end.proofs.Written.{release_written}
use Rattle.front_end.proofs.release_text.write_release.Goals as goal

pub returns : goal.returns
returns g c =
    let release = release_view g.T.PrefixTree.tree c.args.release.now in
    subst (λ ys. OnOk c.write_tree_and_classes.result (c.write_tree_and_classes.new.out.items ≡ ys))
    (release_written c.args.plan.now release c.row.result.label.now c.deref.result.now c.args.out.now.items c.write_heading.new.out.items c.write_ranks.new.out.items c.write_missing.new.out.items
    c.row.ensures.shows.label c.deref.ensures.value c.in_ok-write_heading.ensures c.in_ok-write_ranks.ensures c.in_ok-write_missing.ensures) c.write_tree_and_classes.ensures
