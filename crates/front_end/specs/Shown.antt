-- Releases that are shown by reference.
use Rattle.std.specs.Prelude.{List, map}
use Rattle.std.specs.Borrow.{Bor}
use Rattle.prefix_tree.specs.Tree.{Tree}
use Rattle.overlay_core.specs.TreeReleases.{TreeRelease, release_view}
use Rattle.overlay_core.specs.declared.release.Release.{Release}

-- the releases that references show, where `tree` says what the tree of each is
abbrev pub shown_releases : {X : Type 0} → (X → Tree) → List (Bor (Release X)) → List TreeRelease
shown_releases tree shown = map (λ release. release_view tree release.now) shown
