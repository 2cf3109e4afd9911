use Rattle.std.proofs.Common.{◌∙◌, ◌++◌, ap, map}
use Rattle.std.proofs.lemmas.Result.{IfOk-weaker}
use Rattle.tree_view.specs.Reading.{tree_view}
use Rattle.front_end.specs.Shown.{shown_releases}
use Rattle.json_text.specs.Values.{list_of}
use Rattle.json_text.specs.Tokens.{value_tokens}
use Rattle.front_end.specs.JsonViewReport.{viewed_data}
use Rattle.front_end.specs.ViewReport.{own_pairs}
use Rattle.front_end.proofs.ViewWritten.{view_report_line}
use Rattle.front_end.proofs.json_view.own_json.Goals as goal

pub returns : goal.returns
returns g c =
    let tree = g.T.PrefixTree.tree in
    let v = tree_view c.args.view.now in
    let before = c.key.new.self in
    IfOk-weaker c.into_line.result _ _ (λ line is. record {
      ordered = shown_releases tree c.in_ok-ordered.ordered.items;
      in_order = c.in_ok-ordered.ensures;
      is = view_report_line v c.args.argument.now (shown_releases tree c.in_ok-ordered.ordered.items) line.items c.new-out.result c.begin_object.new.self before c.write_viewed.new.out c.end_object.new.self
          c.new-out.ensures c.in_ok-begin_object.ensures c.in_ok-key.ensures
          (c.in_ok-write_viewed.ensures ∙ ap (λ rs. before ++ value_tokens (list_of (map (λ r. viewed_data v c.args.argument.now (own_pairs r) r) (shown_releases tree rs)))) c.deref.ensures.value)
          c.in_ok-end_object.ensures is;
    }) c.into_line.ensures
