use Rattle.std.proofs.Common.{◌++◌, ◌∙◌, ap}
use Rattle.std.specs.List.{flat_map}
use Rattle.tree_view.specs.Reading.{tree_view}
use Rattle.front_end.specs.Shown.{shown_releases}
use Rattle.front_end.specs.ViewReport.{own_pairs, viewed_text}
use Rattle.front_end.proofs.ViewWritten.{report_of_view}
use Rattle.front_end.proofs.view_report.own_text.Goals as goal

pub returns : goal.returns
returns g c =
    let tree = g.T.PrefixTree.tree in
    let v = tree_view c.args.view.now in
    let text = c.in_ok-text.text.items in
    record {
      ordered = shown_releases tree c.in_ok-ordered.ordered.items;
      in_order = c.in_ok-ordered.ensures;
      is = report_of_view v c.args.argument.now (shown_releases tree c.in_ok-ordered.ordered.items) text c.write_viewed.new.out.items c.extend_from_slice.new.self.items c.in_ok-text.ensures.items
          (c.in_ok-write_viewed.ensures ∙ ap (λ rs. text ++ flat_map (λ r. viewed_text v c.args.argument.now (own_pairs r) r) (shown_releases tree rs)) c.deref.ensures.value)
          c.in_ok-extend_from_slice.ensures.items;
    }
