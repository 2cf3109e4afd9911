use Rattle.std.proofs.Common.{◌∙◌, ◌++◌, ap, map}
use Rattle.std.proofs.lemmas.Result.{IfOk-weaker}
use Rattle.front_end.specs.Shown.{shown_releases}
use Rattle.json_text.specs.Values.{list_of}
use Rattle.front_end.specs.JsonReport.{release_data}
use Rattle.json_text.specs.Tokens.{value_tokens}
use Rattle.front_end.proofs.JsonWritten.{report_line}
use Rattle.front_end.proofs.json_report.json_with_faults.Goals as goal

pub returns : goal.returns
returns g c =
    let tree = g.T.PrefixTree.tree in
    let before = c.key-2.new.self in
    IfOk-weaker c.into_line.result _ _ (λ line is. record {
      ordered = shown_releases tree c.in_ok-ordered.ordered.items;
      in_order = c.in_ok-ordered.ensures;
      is = report_line c.args.plan.now c.args.faults.now c.args.lost.now (shown_releases tree c.in_ok-ordered.ordered.items) line.items c.new-out.result c.begin_object.new.self c.key.new.self c.write_faults.new.out before c.write_releases.new.out c.end_object.new.self
          c.new-out.ensures c.in_ok-begin_object.ensures c.in_ok-key.ensures c.in_ok-write_faults.ensures c.in_ok-key-2.ensures
          (c.in_ok-write_releases.ensures ∙ ap (λ rs. before ++ value_tokens (list_of (map (release_data c.args.plan.now) (shown_releases tree rs)))) c.deref.ensures.value)
          c.in_ok-end_object.ensures is;
    }) c.into_line.ensures
