use Rattle.std.proofs.Common.{◌∙◌, ap, subst, ◌≡◌}
use Rattle.std.proofs.lemmas.Result.{IfOk-weaker}
use Rattle.overlay_setup.specs.NodeSets.{In}
use Rattle.stat_plan.specs.Plans.{ranks_on, stream_ranks}
use Rattle.stat_plan.proofs.LookupLemmas.{daemons_at}
use Rattle.merge_filter.specs.Contributions.{coverage_of}
use Rattle.merge_filter.proofs.Daemons.{all_daemons, stream_some}
use Rattle.wide_merge.specs.Parts.{IsPartOf}
use Rattle.wide_merge.proofs.parts.wide_tree.Goals as goal

pub known_stream-requires : goal.known_stream-requires
known_stream-requires g c = stream_some c.args.merge.now.plan.now c.args.merge.now.stream c.args.merge.now.wave c.requires.wave

pub wide_part-requires-after_bounds : goal.wide_part-requires-after_bounds
wide_part-requires-after_bounds g c κs within = record {
  wave = c.requires.wave;
  daemons = λ d i. subst (In d) (c.daemons-some.ensures ∙ daemons_at c.args.merge.now.plan.now c.args.merge.now.stream _ c.known_stream.ensures) i;
}

pub returns-clause-coverage : goal.returns-clause-coverage
returns-clause-coverage g c =
    IfOk-weaker c.wide_part.result (IsPartOf c.args.merge.now.plan.now c.daemons-some.result.now c.args.merge.now.stream c.args.merge.now.wave) (λ all. coverage_of all ≡ stream_ranks c.args.merge.now.plan.now c.args.merge.now.stream)
    (λ all is.
    is.coverage
    ∙ ap (ranks_on c.args.merge.now.plan.now) (c.daemons-some.ensures ∙ daemons_at c.args.merge.now.plan.now c.args.merge.now.stream _ c.known_stream.ensures)
    ∙ all_daemons c.args.merge.now.plan.now c.args.merge.now.stream) c.wide_part.ensures
