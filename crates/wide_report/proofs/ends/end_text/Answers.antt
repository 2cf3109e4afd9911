use Rattle.std.proofs.Common.{◌∙◌}
use Rattle.wide_report.proofs.Texts.{none_distinct}
use Rattle.wide_report.proofs.ends.end_text.Goals as goal

pub report_text-requires-clause-distinct : goal.report_text-requires-clause-distinct
report_text-requires-clause-distinct g c κs within = none_distinct g.T.PrefixTree.tree c.deref.result.now (c.deref.ensures.value ∙ c.new-none.ensures.items)

pub direct_text-requires-clause-distinct : goal.direct_text-requires-clause-distinct
direct_text-requires-clause-distinct g c κs within = none_distinct g.T.PrefixTree.tree c.deref-else-report.result.now (c.deref-else-report.ensures.value ∙ c.new-none.ensures.items)
