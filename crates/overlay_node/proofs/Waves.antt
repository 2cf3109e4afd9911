-- The waves of a node.
use Rattle.std.proofs.Common.{ℕ, List, [], ◌∷◌, refl, inl, inr}
use Rattle.std.specs.List.{AllByRecursion}
use Rattle.overlay_setup.specs.NodeSets.{In}
use Rattle.stat_plan.specs.Plans.{Plan, daemons, is_within, serves, waves_at, waves_of}
use Rattle.stat_plan.proofs.InLists.{any_from_in, in_filter}
use Rattle.merge_filter.specs.Contributions.{HasWave}
use Rattle.overlay_core.proofs.Outcomes.{waves_at_named}
use Rattle.overlay_core.proofs.ParentLinks.{test_from_within}

-- a daemon of a stream has its waves
pub own_wave : (p : Plan) (n s w : ℕ) → In n (daemons p s) → In {X = ℕ × ℕ} (s, w) (waves_of p.streams) → In {X = ℕ × ℕ} (s, w) (waves_at p n)
unfolding waves_at serves
own_wave p n s w daemon wave = in_filter (λ (v : ℕ × ℕ). serves p n v.0) (s, w) (waves_of p.streams) wave (any_from_in (λ d. is_within p d n) n (daemons p s) daemon (test_from_within p n n (inl refl)))

-- the waves at a node are waves of the plan
pub plan_waves : (p : Plan) (n : ℕ) → AllByRecursion (λ (v : ℕ × ℕ). HasWave p v.0 v.1) (waves_at p n)
plan_waves p n = all_from (waves_at p n) (waves_at_named p n)
  where
    all_from : (vs : List (ℕ × ℕ)) → ((v : ℕ × ℕ) → In v vs → In v (waves_of p.streams)) → AllByRecursion (λ (v : ℕ × ℕ). HasWave p v.0 v.1) vs
    all_from [] h = tt
    all_from (v ∷ vs) h = (h v (inl refl), all_from vs (λ x i. h x (inr i)))
