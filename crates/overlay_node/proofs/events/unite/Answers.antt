use Rattle.std.proofs.Common.{◌≡◌, ◌∙◌, sym, ap}
use Rattle.rank_set.specs.Ranks.{none, union, union-none}
use Rattle.merge_filter.specs.Contributions.{coverage_of}
use Rattle.overlay_node.proofs.Fitting.{is_partial_merge}
use Rattle.overlay_node.proofs.Results.{no_first}
use Rattle.overlay_node.proofs.events.unite.Goals as goal

pub returns-then-is_none : goal.returns-then-is_none
returns-then-is_none g c =
    let empty : coverage_of c.args.part.now ≡ none = sym c.coverage.ensures ∙ no_first c.first.result c.is_none.result c.first.ensures.none c.is_none.ensures c.if-is_none.true in
    is_partial_merge c.args.plan.now c.args.received c.args.part.now.stream c.args.part.now.wave _ c.requires.received_merge c.requires.stream c.requires.wave
    (sym (union-none (coverage_of c.args.received)) ∙ ap (λ set. union set (coverage_of c.args.received)) (sym empty))
