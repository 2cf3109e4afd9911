use Rattle.std.proofs.Common.{◌≡◌, ◌++◌, drop}
use Rattle.std.specs.List.{flat_map}
use Rattle.tree_view.specs.Reading.{tree_view}
use Rattle.front_end.specs.Shown.{shown_releases}
use Rattle.front_end.specs.ViewReport.{own_pairs, viewed_text}
use Rattle.front_end.proofs.view_report.write_viewed.Given as goal

abbrev pub invariant-loop-release : goal.invariant-loop-release
invariant-loop-release g l =
    l.out.items ++ flat_map (λ r. viewed_text (tree_view l.view) l.argument (own_pairs r) r) (shown_releases g.T.PrefixTree.tree (drop l.release-index l.releases))
    ≡ l.fn.out.items ++ flat_map (λ r. viewed_text (tree_view l.view) l.argument (own_pairs r) r) (shown_releases g.T.PrefixTree.tree l.releases)
