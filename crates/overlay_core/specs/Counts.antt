-- How often a node sends a wave, how often its coverage grows, and how often its parent changes.
use Rattle.std.specs.Prelude.{◌≡◌, ℕ, ◌+◌, Bool, true, false, ◌&&◌, not, ◌==◌, cond, List, [], ◌∷◌, Option, None, Some}
use Rattle.std.specs.List.{count_by}
use Rattle.rank_set.specs.Ranks.{IsSubset, is_same}
use Rattle.stat_plan.specs.Plans.{Plan}
use Rattle.stat_plan.specs.Machine.Waves.{Wave, Open, Closed, is_open, coverage_of, has_grown}
use Rattle.overlay_event.specs.declared.event.Event.{Event}
use Rattle.overlay_core.specs.declared.release.Kind.{Kind}
use Rattle.overlay_core.specs.declared.release.Kind.TheVariants.{Partial as PartialRelease, Final as FinalRelease}
use Rattle.overlay_core.specs.Nodes.{Packet, Up, Done, Attach, Down, Release, Effects}
use Rattle.overlay_core.specs.Machine.{State, step}
use Rattle.overlay_core.specs.Independent.{outcome}
use Rattle.overlay_event.specs.Events.{event_node}

-- 1 where a test holds, and 0 elsewhere
abbrev pub one_if : Bool → ℕ
one_if b = cond b 1 0

-- whether ranks of the wave go up
abbrev pub is_up_of : ℕ → ℕ → Packet → Bool
is_up_of s w (Up a b set) = (s == a) && (w == b)
is_up_of s w (Done a b) = false
is_up_of s w Attach = false
is_up_of s w Down = false

-- whether more of the wave can come
abbrev pub is_partial : Kind → Bool
is_partial PartialRelease = true
is_partial FinalRelease = false

-- whether it is a partial release of the wave
abbrev pub is_partial_of : ℕ → ℕ → Release → Bool
is_partial_of s w r = is_partial r.kind && ((s == r.stream) && (w == r.wave))

-- how often a wave went up, or was partially released
abbrev pub sends_in : ℕ → ℕ → Effects → ℕ
sends_in s w k = count_by (λ v. is_up_of s w v.1) k.sends + count_by (is_partial_of s w) k.releases

-- whether a wave that stood so, and stands so after an event, is open and covers something else now
abbrev pub grows : Wave → Wave → Bool
grows (Open old a b) (Open covered c d) = not (is_same covered old)
grows (Open old a b) Closed = false
grows Closed v = false

-- a wave that is open now was open, and covers what it covered
pub record OnlyGrows (old new : Wave) : Type 0 where
  pub opens : is_open new ≡ true → is_open old ≡ true
  pub covers : is_open new ≡ true → IsSubset (coverage_of old) (coverage_of new)

-- whether two parents are the same
abbrev pub is_same_parent : Option ℕ → Option ℕ → Bool
is_same_parent None None = true
is_same_parent None (Some m) = false
is_same_parent (Some m) None = false
is_same_parent (Some m) (Some k) = m == k

-- whether a wave covers what wasn't sent yet
abbrev pub is_unsent : Wave → Bool
is_unsent (Open covered sent timer) = has_grown covered sent
is_unsent Closed = false

-- how often n sends the wave in an event
abbrev pub sends_at : Plan → State → Event → ℕ → ℕ → ℕ → ℕ
sends_at p st e n s w = cond (event_node e == n) (sends_in s w (outcome p st e).work) 0

-- how often n sends the wave in some events
abbrev pub sends : Plan → State → List Event → ℕ → ℕ → ℕ → ℕ
sends p st [] n s w = 0
sends p st (e ∷ es) n s w = sends_at p st e n s w + sends p (step p st e) es n s w

-- how often what n covers of the wave grows in some events
abbrev pub growths : Plan → State → List Event → ℕ → ℕ → ℕ → ℕ
growths p st [] n s w = 0
growths p st (e ∷ es) n s w = one_if (grows ((st.node n).book s w) (((step p st e).node n).book s w)) + growths p (step p st e) es n s w

-- how often n's parent changes in some events
abbrev pub moves : Plan → State → List Event → ℕ → ℕ
moves p st [] n = 0
moves p st (e ∷ es) n = one_if (not (is_same_parent (st.node n).kin.parent ((step p st e).node n).kin.parent)) + moves p (step p st e) es n
