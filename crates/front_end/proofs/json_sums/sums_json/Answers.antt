use Rattle.std.proofs.Common.{◌∙◌, ◌++◌, ap, map, sym, subst}
use Rattle.std.proofs.lemmas.Result.{IfOk-weaker}
use Rattle.overlay_core.specs.TreeReleases.{releases_view}
use Rattle.front_end.specs.Shown.{shown_releases}
use Rattle.json_text.specs.Values.{list_of}
use Rattle.json_text.specs.Tokens.{value_tokens}
use Rattle.front_end.specs.JsonSumsReport.{sum_data}
use Rattle.front_end.specs.SumsReport.{SayNumbers, tree_value}
use Rattle.front_end.proofs.SumsWritten.{say_in_order, sums_report_line}
use Rattle.front_end.proofs.json_sums.sums_json.Goals as goal

pub write_sums-requires-clause-numbers : goal.write_sums-requires-clause-numbers
write_sums-requires-clause-numbers g c κs within =
    let tree = g.T.PrefixTree.tree in
    subst (λ rs. SayNumbers c.args.fold (shown_releases tree rs)) (sym c.deref.ensures.value)
    (say_in_order c.args.fold (releases_view tree c.args.releases.now) (shown_releases tree c.in_ok-ordered.ordered.items) c.in_ok-ordered.ensures c.requires.numbers)

pub returns : goal.returns
returns g c =
    let tree = g.T.PrefixTree.tree in
    let before = c.key.new.self in
    IfOk-weaker c.into_line.result _ _ (λ line is. record {
      ordered = shown_releases tree c.in_ok-ordered.ordered.items;
      in_order = c.in_ok-ordered.ensures;
      is = sums_report_line c.args.fold (shown_releases tree c.in_ok-ordered.ordered.items) line.items c.new-out.result c.begin_object.new.self before c.write_sums.new.out c.end_object.new.self
          c.new-out.ensures c.in_ok-begin_object.ensures c.in_ok-key.ensures
          (c.in_ok-write_sums.ensures ∙ ap (λ rs. before ++ value_tokens (list_of (map (sum_data c.args.fold (tree_value c.args.fold)) (shown_releases tree rs)))) c.deref.ensures.value)
          c.in_ok-end_object.ensures is;
    }) c.into_line.ensures
