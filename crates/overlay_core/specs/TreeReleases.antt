-- A release as the front end gives it out: with its number and its tree.
use Rattle.std.specs.Prelude.{◌≡◌, ℕ, List, [], ◌∷◌, ◌++◌, map}
use Rattle.prefix_tree.specs.Tree.{Tree}
use Rattle.overlay_core.specs.Nodes.{Release}
use Rattle.overlay_core.specs.Releases.{next_release}
use Rattle.overlay_core.specs.declared.release.Kind.{Kind}
use Rattle.overlay_core.specs.declared.release.Release.{Release as CodeRelease}

-- the stream, the wave, the release's number within its wave, whether more can come, what was merged, and which nodes
-- the front end knew to be lost
pub record TreeRelease : Type 0 where
  pub stream : ℕ
  pub wave : ℕ
  pub number : ℕ
  pub kind : Kind
  pub tree : Tree
  pub lost : List ℕ

-- a program's release, where `tree` says what its tree is
abbrev pub release_view : {X : Type 0} → (X → Tree) → CodeRelease X → TreeRelease
release_view tree r = record { stream = r.stream; wave = r.wave; number = r.number; kind = r.kind; tree = tree r.tree; lost = r.lost.items }

-- a program's releases
abbrev pub releases_view : {X : Type 0} → (X → Tree) → List (CodeRelease X) → List TreeRelease
releases_view tree rs = map (release_view tree) rs

-- the machine's release: of the tree, the ranks that it covers
abbrev pub bare_release : TreeRelease → Release
bare_release r = record { stream = r.stream; wave = r.wave; covered = r.tree.coverage; kind = r.kind; lost = r.lost }

-- the machine's releases
abbrev pub bare_releases : List TreeRelease → List Release
bare_releases rs = map bare_release rs

-- the numbers of some releases that come after earlier ones: each is one more than how many of its wave came before it
abbrev pub numbers_after : List Release → List Release → List ℕ
numbers_after earlier [] = []
numbers_after earlier (r ∷ rs) = next_release r.stream r.wave earlier ∷ numbers_after (earlier ++ r ∷ []) rs

-- each release that comes after the earlier ones has its number
abbrev pub AreNumberedInOrder : List Release → List TreeRelease → Type 0
AreNumberedInOrder earlier rs = map (λ r. r.number) rs ≡ numbers_after earlier (bare_releases rs)
