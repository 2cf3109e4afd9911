-- The waves of a plan are few: at most 8 streams have at most 16 waves each.
use Rattle.std.proofs.Common.{◌≡◌, ◌+◌, ◌*◌, ◌<◌, ◌≤◌, ℕ, List, [], ◌∷◌, map, length, length-append, inl, inr, sym, subst, arith}
use Rattle.std.specs.List.{AllByRecursion}
use Rattle.std.proofs.lemmas.List.{length-map}
use Rattle.overlay_setup.specs.NodeSets.{In, IsStrictlyIncreasing, up_to}
use Rattle.overlay_setup.specs.Scripts.{IsStream, Stream}
use Rattle.stat_plan.specs.Invariants.{IsPlan}
use Rattle.stat_plan.specs.Plans.{Plan, waves_of}
use Rattle.stat_plan.proofs.Ascending.{ascending_within_limit}
use Rattle.overlay_setup.proofs.UpTo.{length-up_to}

-- the numbers of streams are below 8
numbers_below : (xs : List Stream) → AllByRecursion IsStream xs → (n : ℕ) → In n (map (λ (x : Stream). x.number) xs) → n < 8
numbers_below [] all n i = absurd i
numbers_below (x ∷ xs) all n (inl e) = subst (λ k. k < 8) (sym e) all.0.number
numbers_below (x ∷ xs) all n (inr i) = numbers_below xs all.1 n i

-- there are at most 8 streams
pub streams_within_limit : (xs : List Stream) → AllByRecursion IsStream xs → IsStrictlyIncreasing (map (λ (x : Stream). x.number) xs) → length xs ≤ 8
streams_within_limit xs all increasing =
    let some : 0 ≤ 8 = omega arith in
    let a : 0 + length (map (λ (x : Stream). x.number) xs) ≤ 8 = ascending_within_limit (map (λ (x : Stream). x.number) xs) 0 8 some increasing (λ n i. (omega arith, numbers_below xs all n i)) in
    let b : length (map (λ (x : Stream). x.number) xs) ≡ length xs = length-map xs (λ (x : Stream). x.number) in
    omega arith

-- the waves of one stream
abbrev own_waves : Stream → List (ℕ × ℕ)
own_waves x = map (λ w. (x.number, w)) (up_to x.waves)

-- a stream has at most 16 waves
waves_within_limit : (xs : List Stream) → AllByRecursion IsStream xs → length (waves_of xs) ≤ 16 * length xs
waves_within_limit [] all = omega arith
waves_within_limit (x ∷ xs) all =
    let a : length (waves_of (x ∷ xs)) ≡ length (own_waves x) + length (waves_of xs) = length-append (own_waves x) (waves_of xs) in
    let b : length (own_waves x) ≡ length (up_to x.waves) = length-map (up_to x.waves) (λ w. (x.number, w)) in
    let c : length (up_to x.waves) ≡ x.waves = length-up_to x.waves in
    let d : x.waves ≤ 16 = all.0.waves_within_limit in
    let rest : length (waves_of xs) ≤ 16 * length xs = waves_within_limit xs all.1 in
    omega arith

-- the waves of a plan
pub waves_of_plan : (p : Plan) → IsPlan p → length (waves_of p.streams) ≤ 128
waves_of_plan p plan =
    let b : length (waves_of p.streams) ≤ 16 * length p.streams = waves_within_limit p.streams plan.script.streams in
    let c : length p.streams ≤ 8 = streams_within_limit p.streams plan.script.streams plan.script.streams_increase in
    omega (arith, b, c)
