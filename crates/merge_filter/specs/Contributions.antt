-- What is known of a wave: a stream, a wave, and a tree of its samples.
use Rattle.std.specs.Prelude.{ℕ, ◌≡◌, refl}
use Rattle.std.specs.Coded.{Coded, code_by, coded×, coded_ℕ}
use Rattle.rank_set.specs.Ranks.{Ranks, IsSubset}
use Rattle.prefix_tree.specs.Tree.{Tree, tree_of}
use Rattle.prefix_tree.specs.Code.{coded_tree}
use Rattle.overlay_setup.specs.NodeSets.{In}
use Rattle.stat_plan.specs.Plans.{Plan, samples, stream_ranks, waves_of}

-- a stream, a wave, and what is known of the wave as a tree
pub record Contrib : Type 0 where
  pub stream : ℕ
  pub wave : ℕ
  pub tree : Tree

-- the contribution of these parts
abbrev pub contrib : ℕ → ℕ → Tree → Contrib
contrib s w t = record { stream = s; wave = w; tree = t }

-- a contribution is stored as its parts
abbrev pub coded_contrib : Coded Contrib
coded_contrib = code_by (ℕ × (ℕ × Tree)) (coded× coded_ℕ (coded× coded_ℕ coded_tree)) (λ c. (c.stream, (c.wave, c.tree))) (λ p. contrib p.0 p.1.0 p.1.1) (λ _. refl)

-- the ranks that it covers
abbrev pub coverage_of : Contrib → Ranks
coverage_of c = c.tree.coverage

-- the plan has a wave w of stream s
abbrev pub HasWave : Plan → ℕ → ℕ → Type 0
HasWave p s w = In (s, w) (waves_of p.streams)

-- the tree is that of the wave's samples over the ranks that it covers, which are ranks of the stream
pub record IsPartialMerge (p : Plan) (c : Contrib) : Type 0 where
  pub tree : c.tree ≡ tree_of (samples p c.stream c.wave) c.tree.coverage
  pub lies : IsSubset c.tree.coverage (stream_ranks p c.stream)
  pub wave : HasWave p c.stream c.wave
