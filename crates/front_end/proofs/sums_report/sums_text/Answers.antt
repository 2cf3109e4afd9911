use Rattle.std.proofs.Common.{◌++◌, ◌∙◌, ap, sym, subst}
use Rattle.std.specs.List.{flat_map}
use Rattle.overlay_core.specs.TreeReleases.{releases_view}
use Rattle.front_end.specs.Shown.{shown_releases}
use Rattle.front_end.specs.SumsReport.{SayNumbers, sum_line, tree_value}
use Rattle.front_end.proofs.SumsWritten.{report_of_sums, say_in_order}
use Rattle.front_end.proofs.sums_report.sums_text.Goals as goal

pub write_sums-requires-clause-numbers : goal.write_sums-requires-clause-numbers
write_sums-requires-clause-numbers g c κs within =
    let tree = g.T.PrefixTree.tree in
    subst (λ rs. SayNumbers c.args.fold (shown_releases tree rs)) (sym c.deref.ensures.value)
    (say_in_order c.args.fold (releases_view tree c.args.releases.now) (shown_releases tree c.in_ok-ordered.ordered.items) c.in_ok-ordered.ensures c.requires.numbers)

pub returns : goal.returns
returns g c =
    let tree = g.T.PrefixTree.tree in
    let text = c.new-text.result.items in
    record {
      ordered = shown_releases tree c.in_ok-ordered.ordered.items;
      in_order = c.in_ok-ordered.ensures;
      is = report_of_sums c.args.fold (shown_releases tree c.in_ok-ordered.ordered.items) text c.write_sums.new.out.items c.extend_from_slice.new.self.items c.new-text.ensures.items
          (c.in_ok-write_sums.ensures ∙ ap (λ rs. text ++ flat_map (sum_line c.args.fold (tree_value c.args.fold)) (shown_releases tree rs)) c.deref.ensures.value)
          c.in_ok-extend_from_slice.ensures.items;
    }
