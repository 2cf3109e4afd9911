use Rattle.std.proofs.Common.{◌++◌, ◌∙◌, ap}
use Rattle.std.specs.List.{flat_map}
use Rattle.front_end.specs.ReleaseText.{release_text}
use Rattle.front_end.specs.Shown.{shown_releases}
use Rattle.front_end.proofs.Written.{report_written}
use Rattle.front_end.proofs.report.text_with_faults.Goals as goal

pub returns : goal.returns
returns g c =
    let tree = g.T.PrefixTree.tree in
    let text = c.in_ok-text.text.items in
    record {
      ordered = shown_releases tree c.in_ok-ordered.ordered.items;
      in_order = c.in_ok-ordered.ensures;
      is = report_written c.args.plan.now c.args.faults.now c.args.lost.now (shown_releases tree c.in_ok-ordered.ordered.items) text c.write_releases.new.out.items c.write_faults.new.out.items c.extend_from_slice.new.self.items c.in_ok-text.ensures.items
          (c.in_ok-write_releases.ensures ∙ ap (λ rs. text ++ flat_map (release_text c.args.plan.now) (shown_releases tree rs)) c.deref.ensures.value)
          c.in_ok-write_faults.ensures c.in_ok-extend_from_slice.ensures.items;
    }
