use Rattle.std.proofs.Common.{◌≡◌, ℕ, ◌&&◌, sym, ◌∙◌}
use Rattle.std.proofs.lemmas.Result.{IfOk-weaker}
use Rattle.rank_set.specs.Ranks.{has, those}
use Rattle.stat_plan.proofs.Gathering.{common_subset, common_those}
use Rattle.stat_plan.proofs.wave_lines.common.Goals as goal

pub returns-then-is_subset : goal.returns-then-is_subset
returns-then-is_subset c =
    let ranks = c.args.ranks.now in
    let own = c.args.own.now in
    IfOk-weaker c.copy.result (λ both. both ≡ ranks) (λ both. (r : ℕ) → has both r ≡ (has own r && has ranks r)) (λ both is. common_subset ranks own both (sym c.is_subset.ensures ∙ c.if-is_subset.true) is) c.copy.ensures

pub returns : goal.returns
returns c =
    let ranks = c.args.ranks.now in
    let own = c.args.own.now in
    IfOk-weaker c.intersection.result (λ both. both ≡ those (has ranks) own) (λ both. (r : ℕ) → has both r ≡ (has own r && has ranks r)) (λ both is. common_those ranks own both is) c.intersection.ensures
