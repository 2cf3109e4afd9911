use Rattle.std.proofs.Common.{◌≡◌, sym, ap, ◌∙◌, subst}
use Rattle.std.proofs.lemmas.Result.{IfOk-weaker}
use Rattle.overlay_setup.specs.NodeSets.{In}
use Rattle.stat_plan.specs.Plans.{ranks_on, stream_ranks}
use Rattle.merge_filter.specs.Contributions.{HasWave, coverage_of}
use Rattle.merge_filter.proofs.Daemons.{all_daemons, all_expected, stream_some}
use Rattle.merge_filter.proofs.direct.Goals as goal

pub daemons_of-requires : goal.daemons_of-requires
daemons_of-requires g c = stream_some c.args.plan.now c.args.s c.args.w c.requires

pub expected-requires-clause-stream : goal.expected-requires-clause-stream
expected-requires-clause-stream g c = stream_some c.args.plan.now c.args.s c.args.w c.requires

pub times_of-requires : goal.times_of-requires
times_of-requires g c = stream_some c.args.plan.now c.args.s c.args.w c.requires

pub of_wanted-requires-clause-wave : goal.of_wanted-requires-clause-wave
of_wanted-requires-clause-wave g c lifetimes outlives = subst (HasWave c.args.plan.now c.args.s) (sym c.times_of.ensures.wave) c.requires

pub of_wanted-requires-clause-daemons : goal.of_wanted-requires-clause-daemons
of_wanted-requires-clause-daemons g c lifetimes outlives = λ d there. subst (In d) c.daemons_of.ensures there

pub of_wanted-requires-clause-ranks : goal.of_wanted-requires-clause-ranks
of_wanted-requires-clause-ranks g c lifetimes outlives =
    all_expected c.args.plan.now c.args.s c.args.w c.invariant.ensures c.requires c.front.result c.expected.result.now c.front.ensures.value c.expected.ensures
    ∙ sym (all_daemons c.args.plan.now c.args.s)
    ∙ ap (ranks_on c.args.plan.now) (sym c.daemons_of.ensures)

pub returns-clause-coverage : goal.returns-clause-coverage
returns-clause-coverage g c =
    IfOk-weaker c.of_wanted.result (λ all. coverage_of all ≡ c.expected.result.now) (λ all. coverage_of all ≡ stream_ranks c.args.plan.now c.args.s)
    (λ all covers. covers ∙ all_expected c.args.plan.now c.args.s c.args.w c.invariant.ensures c.requires c.front.result c.expected.result.now c.front.ensures.value c.expected.ensures)
    c.of_wanted.ensures.coverage
