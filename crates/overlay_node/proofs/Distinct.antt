-- A plan's waves are distinct.
use Rattle.std.proofs.Common.{◌≡◌, inl, inr, ℕ, Bool, true, false, cond, List, [], ◌∷◌, ◌++◌, map, filter, refl, arith, ◌<◌}
use Rattle.overlay_setup.specs.NodeSets.{In, IsStrictlyIncreasing, up_to}
use Rattle.stat_plan.specs.Invariants.{IsPlan}
use Rattle.stat_plan.specs.Plans.{Plan, serves, waves_of, waves_at}
use Rattle.overlay_setup.specs.Scripts.{Stream}
use Rattle.stat_plan.proofs.InLists.{in_append, in_from_filter}
use Rattle.stat_plan.proofs.Ascending.{up_to_increases}
use Rattle.stat_plan.proofs.LookupLemmas.{stream_of_wave, wave_is_of}
use Rattle.overlay_node.specs.Acting.{AreDistinct}

-- distinct keys of two lists without a common one are distinct together
once_append : (xs ys : List (ℕ × ℕ)) → AreDistinct xs → AreDistinct ys → ((v : ℕ × ℕ) → In {X = ℕ × ℕ} v xs → In {X = ℕ × ℕ} v ys → ⊥) → AreDistinct (xs ++ ys)
once_append [] ys h k distinct = k
once_append (x ∷ xs) ys h k distinct =
    (λ i. elim (in_append x xs ys i) [ inl a ↦ h.0 a | inr b ↦ distinct x (inl refl) b ], once_append xs ys h.1 k (λ v i j. distinct v (inr i) j))

-- the waves of one stream are distinct
once_map : (s : ℕ) (ws : List ℕ) → IsStrictlyIncreasing ws → AreDistinct (map (λ w. (s, w)) ws)
once_map s [] h = tt
once_map s (w ∷ ws) h = (λ i. (let lt : w < w = h.0 w (wave_is_of s ws (s, w) i).1 in omega arith), once_map s ws h.1)

-- the waves of ascending streams are distinct
once_of : (xs : List Stream) → IsStrictlyIncreasing (map (λ x. x.number) xs) → AreDistinct (waves_of xs)
once_of [] h = tt
once_of (x ∷ xs) h =
    once_append (map (λ w. (x.number, w)) (up_to x.waves)) (waves_of xs) (once_map x.number (up_to x.waves) (up_to_increases x.waves)) (once_of xs h.1)
    (λ v i j. (let lt : x.number < v.0 = h.0 v.0 (stream_of_wave xs v j) in let e : v.0 ≡ x.number = (wave_is_of x.number (up_to x.waves) v i).0 in omega arith))

-- the keys that pass a test are distinct too
once_filter : (test : ℕ × ℕ → Bool) (vs : List (ℕ × ℕ)) → AreDistinct vs → AreDistinct (filter test vs)
once_filter test [] h = tt
once_filter test (v ∷ vs) h = go (once_filter test vs h.1) (test v)
  where
    go : AreDistinct (filter test vs) → (b : Bool) → AreDistinct (cond b (v ∷ filter test vs) (filter test vs))
    go ih true = (λ i. h.0 (in_from_filter test v vs i).0, ih)
    go ih false = ih

-- the waves of a plan are distinct
pub waves_distinct : (p : Plan) → IsPlan p → AreDistinct (waves_of p.streams)
waves_distinct p h = once_of p.streams h.script.streams_increase

-- the waves of the streams that a node serves are distinct
pub waves_at_distinct : (p : Plan) (n : ℕ) → IsPlan p → AreDistinct (waves_at p n)
unfolding waves_at
waves_at_distinct p n h = once_filter (λ v. serves p n v.0) (waves_of p.streams) (waves_distinct p h)
