use Rattle.std.proofs.Common.{length, ◌≡◌, ◌<◌, ◌+◌, ℕ, List, Bool, suc, None, Some, sym, ap, subst, ◌∙◌, arith, map}
use Rattle.std.specs.Prelude.{find}
use Rattle.overlay_setup.specs.NodeSets.{In, up_to}
use Rattle.stat_plan.specs.Limits.{is_over, is_within_limit}
use Rattle.rank_set.specs.Ranks.{Has, Ranks}
use Rattle.stat_plan.specs.OwnLines.{HasRankOn}
use Rattle.stat_plan.specs.Plans.{Plan, ranks_on}
use Rattle.overlay_setup.specs.Scripts.{Stream}
use Rattle.overlay_setup.specs.declared.script.Grain.{Grain}
use Rattle.stat_plan.specs.Samples.{SampleLine, samples_of, seen_by, wave_lines}
use Rattle.stat_plan.proofs.Indexing.{rank_on}
use Rattle.stat_plan.proofs.FirstOver.{wave_value, none_over_more, over_found}
use Rattle.stat_plan.specs.Files.{plan_in}
use Rattle.stat_plan.proofs.limit.check_stream.Goals as goal

pub ranks_of-requires-clause-daemons : goal.ranks_of-requires-clause-daemons
ranks_of-requires-clause-daemons c d there = c.requires.daemons d (subst (In d) c.daemons-daemons.ensures there)

pub wave_is_within-requires-clause-nodes : goal.wave_is_within-requires-clause-nodes
wave_is_within-requires-clause-nodes c d there =
    subst (λ k. d < k) (sym (ap length c.requires.placed ∙ c.invariant.ensures.samples_fit.paired)) (c.requires.daemons d (subst (In d) c.daemons-daemons.ensures there))

pub wave_is_within-requires-clause-ranks : goal.wave_is_within-requires-clause-ranks
wave_is_within-requires-clause-ranks c r there =
    subst (λ placed. HasRankOn placed c.daemons-daemons.result.now r) (sym c.requires.placed)
    (rank_on (plan_in c.args.files) c.daemons-daemons.result.now r (subst (Has r) c.in_ok-ranks.ensures there))

-- what the test of a wave says
abbrev tested : (p : Plan) (x : Stream) (w : ℕ) (g : Grain) (k : ℕ) (lines : List SampleLine) (own : List ℕ) (ranks : Ranks) (b : Bool) → b ≡ is_within_limit (samples_of (map (seen_by g ranks) (wave_lines k w lines)))
    → g ≡ x.grain → k ≡ x.samples → lines ≡ p.lines → ranks ≡ ranks_on p own → own ≡ x.daemons → b ≡ is_within_limit (samples_of (map (seen_by x.grain (ranks_on p x.daemons)) (wave_lines x.samples w p.lines)))
tested p x w g k lines own ranks b is grain samples all on daemons = let own_ranks : ranks ≡ ranks_on p x.daemons = on ∙ ap (ranks_on p) daemons in
    is ∙ (λ i. is_within_limit (samples_of (map (seen_by (grain i) (own_ranks i)) (wave_lines (samples i) w (all i)))))

pub returns-then-not-branch-clause-err : goal.returns-then-not-branch-clause-err
returns-then-not-branch-clause-err c =
    let lt : c.loop-wave.wave < c.args.stream.now.waves = subst (λ k. c.loop-wave.wave < k) c.waves-wave-end.ensures c.loop-wave-test.true in
    let is = tested (plan_in c.args.files) c.args.stream.now c.loop-wave.wave _ _ _ c.daemons-daemons.result.now c.in_ok-ranks.ranks c.in_ok-wave_is_within.field-0 c.in_ok-wave_is_within.ensures c.grain.ensures c.samples.ensures c.requires.lines c.in_ok-ranks.ensures c.daemons-daemons.ensures in
    over_found (plan_in c.args.files) c.args.stream.now c.loop-wave.wave lt c.loop-wave.invariant
    (wave_value (plan_in c.args.files) c.args.stream.now c.loop-wave.wave c.requires.stream ∙ sym is ∙ c.if-not-branch.true)
    ∙ ap (λ n. let v : ℕ × ℕ = (n, c.loop-wave.wave) in Some v) (sym c.number.ensures)

pub loop-wave-preserved : goal.loop-wave-preserved
loop-wave-preserved c =
    let is = tested (plan_in c.args.files) c.args.stream.now c.loop-wave.wave _ _ _ c.daemons-daemons.result.now c.in_ok-ranks.ranks c.in_ok-wave_is_within.field-0 c.in_ok-wave_is_within.ensures c.grain.ensures c.samples.ensures c.requires.lines c.in_ok-ranks.ensures c.daemons-daemons.ensures in
    let next : suc c.loop-wave.wave ≡ c.loop-wave.wave + 1 = omega arith in
    subst (λ k. find (is_over (plan_in c.args.files)) (map (λ (w : ℕ). let v : ℕ × ℕ = (c.args.stream.now.number, w) in v) (up_to k)) ≡ None) next
    (none_over_more (plan_in c.args.files) c.args.stream.now c.loop-wave.wave c.loop-wave.invariant
    (wave_value (plan_in c.args.files) c.args.stream.now c.loop-wave.wave c.requires.stream ∙ sym is ∙ c.if-not-branch.false))
