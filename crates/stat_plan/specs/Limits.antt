-- The limit of distinct prefixes in each wave of a plan.
use Rattle.std.specs.Prelude.{ℕ, ◌≡◌, ⊤, Bool, not, nat_le, find, map, List, Option, Some}
use Rattle.call_path.specs.Pairs.{Pairs}
use Rattle.stat_plan.specs.Samples.{prefix_count}
use Rattle.stat_plan.specs.Plans.{Plan, samples, waves_of}
use Rattle.overlay_setup.specs.NodeSets.{up_to}
use Rattle.overlay_setup.specs.Scripts.{Stream}
use Rattle.stat_plan.specs.declared.plan_error.PlanError.{PlanError}
use Rattle.stat_plan.specs.declared.plan_error.PlanError.TheVariants.{TooManyPrefixes, OutOfMemory}

-- whether samples have at most 2,048 distinct prefixes
abbrev pub is_within_limit : Pairs → Bool
is_within_limit samples = nat_le (prefix_count samples) 2048

-- whether a wave of a plan is within the limit
unfoldable pub wave_is_within : Plan → ℕ × ℕ → Bool
wave_is_within p v = is_within_limit (samples p v.0 v.1)

-- whether a wave of a plan has more than 2,048 distinct prefixes
abbrev pub is_over : Plan → ℕ × ℕ → Bool
is_over p v = not (wave_is_within p v)

-- the first wave, by stream and wave, of which the samples have more than 2,048 distinct prefixes
abbrev pub first_over : Plan → Option (ℕ × ℕ)
first_over p = find (is_over p) (waves_of p.streams)

-- the waves of a stream
abbrev pub stream_waves : Stream → List (ℕ × ℕ)
stream_waves x = map (λ w. (x.number, w)) (up_to x.waves)

-- why a plan is refused, by its first wave over the limit
abbrev pub RefusesAt : Option (ℕ × ℕ) → PlanError → Type 0
RefusesAt first (TooManyPrefixes stream wave) = first ≡ Some (stream, wave)
RefusesAt first OutOfMemory = ⊤
