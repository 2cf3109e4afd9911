-- History: what the releases of each wave are, one after the other.
use Rattle.rank_set.specs.Ranks.{Ranks, none, IsSubset}
use Rattle.std.specs.Prelude.{ℕ, ◌≡◌, ◌≢◌, ◌⊎◌, Bool, false, ◌&&◌, ◌==◌, List, [], ◌∷◌, filter}
use Rattle.overlay_setup.specs.NodeSets.{In}
use Rattle.stat_plan.specs.Plans.{Plan, front, daemons, ranks}
use Rattle.overlay_core.specs.Nodes.{Done, Release}
use Rattle.stat_plan.specs.Machine.Waves.{Wave, Open, Closed, is_open}
use Rattle.overlay_core.specs.Machine.{State}
use Rattle.overlay_core.specs.declared.release.Kind.{Kind}
use Rattle.overlay_core.specs.declared.release.Kind.TheVariants.{Partial as PartialRelease, Final as FinalRelease}

-- the releases of one wave
abbrev pub of_wave : ℕ → ℕ → List Release → List Release
of_wave s w rs = filter (λ r. (r.stream == s) && (r.wave == w)) rs

-- each daemon of the stream is covered or known to be lost, and who is known to be lost is
pub record MissesOnlyLost (p : Plan) (alive : ℕ → Bool) (s : ℕ) (covered : Ranks) (lost : List ℕ) : Type 0 where
  pub each : (d : ℕ) → In d (daemons p s) → IsSubset (ranks p d) covered ⊎ In d lost
  pub dead : (m : ℕ) → In m lost → alive m ≡ false

-- the first of a partial release, the second of a final one
abbrev pub ByKind : Kind → Type 0 → Type 0 → Type 0
ByKind PartialRelease A B = A
ByKind FinalRelease A B = B

-- A wave's releases after one with the coverage `last`, where the wave stands as v at the front end: coverages grow;
-- a final one is the last, and the wave is closed exactly then; while it is open, what was sent is the last coverage.
abbrev pub IsHistory : Plan → (ℕ → Bool) → ℕ → Ranks → List Release → Wave → Type 0
IsHistory p alive s last [] (Open covered sent timer) = sent ≡ last
IsHistory p alive s last [] Closed = ⊥
IsHistory p alive s last (r ∷ rs) v =
    IsSubset last r.covered × ByKind r.kind ((last ≢ r.covered) × IsHistory p alive s r.covered rs v) (MissesOnlyLost p alive s r.covered r.lost × (rs ≡ []) × (is_open v ≡ false))

-- each wave has such a history at the front end, and a wave that has ended anywhere, or of which a link says so, has ended there
pub record HistoryIsSound (p : Plan) (st : State) : Type 0 where
  pub releases : (s w : ℕ) → IsHistory p st.alive s none (of_wave s w st.releases) ((st.node (front p)).book s w)
  pub closed : (n s w : ℕ) → is_open ((st.node n).book s w) ≡ false → is_open ((st.node (front p)).book s w) ≡ false
  pub named : (m n s w : ℕ) → In (Done s w) (st.link m n) → is_open ((st.node (front p)).book s w) ≡ false
