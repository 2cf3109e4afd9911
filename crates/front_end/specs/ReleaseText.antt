-- The text of a release: its heading, the ranks that it covers, the daemons with missing ranks, its tree and its classes.
use Rattle.std.specs.Prelude.{ℕ, Bool, true, false, not, cond, List, [], ◌∷◌, ◌++◌, codes}
use Rattle.std.specs.Fmt.{decimal}
use Rattle.std.specs.List.{flat_map}
use Rattle.rank_set.specs.Ranks.{Ranks, has, those, is_empty}
use Rattle.rank_set.specs.Text.{text_of}
use Rattle.call_path.specs.Path.{Path}
use Rattle.prefix_tree.specs.Tree.{Tree, pairs_of}
use Rattle.equiv_class.specs.Classes.{classes_of}
use Rattle.overlay_setup.specs.Names.{name_of}
use Rattle.overlay_setup.specs.NodeSets.{member}
use Rattle.stat_plan.specs.Plans.{Plan, daemons, ranks}
use Rattle.overlay_core.specs.TreeReleases.{TreeRelease}
use Rattle.overlay_core.specs.declared.release.Kind.{Kind}
use Rattle.overlay_core.specs.declared.release.Kind.TheVariants.{Partial, Final}
use Rattle.tree_text.specs.TreeText.{tree_text}
use Rattle.front_end.specs.ClassText.{classes_text}

-- the classes of a tree
abbrev pub classes_in : Tree → List (Ranks × List Path)
classes_in t = classes_of (pairs_of t) t.coverage

-- whether more of the wave can come
abbrev pub kind_text : Kind → List ℕ
kind_text Partial = codes "partial"
kind_text Final = codes "final"

-- which release it is: its stream, its wave, its number within its wave, and whether it is the last
abbrev pub release_words : TreeRelease → List ℕ
release_words r = codes "stream " ++ decimal r.stream ++ codes " wave " ++ decimal r.wave ++ codes " release " ++ decimal r.number ++ 32 ∷ [] ++ kind_text r.kind

-- the line above a release
abbrev pub heading : TreeRelease → List ℕ
heading r = release_words r ++ 10 ∷ []

-- the ranks of a daemon that are not covered
abbrev pub missing : Plan → Ranks → ℕ → Ranks
missing p covered daemon = those (λ r. not (has covered r)) (ranks p daemon)

-- missing ranks are lost with their daemon, or are still to come
abbrev pub missing_text : Bool → List ℕ
missing_text true = codes "lost "
missing_text false = codes "pending "

-- the line of a daemon with missing ranks; nothing where all are covered
abbrev pub missing_line : Plan → Ranks → List ℕ → ℕ → List ℕ
missing_line p covered lost daemon =
    cond (is_empty (missing p covered daemon)) [] (missing_text (member daemon lost) ++ name_of p.names daemon ++ 32 ∷ [] ++ text_of (missing p covered daemon) ++ 10 ∷ [])

-- those lines of the daemons of a release's stream
abbrev pub missing_lines : Plan → TreeRelease → List ℕ
missing_lines p r = flat_map (missing_line p r.tree.coverage r.lost) (daemons p r.stream)

-- a line of ranks, behind a word
abbrev pub ranks_line : List ℕ → Ranks → List ℕ
ranks_line word ranks = word ++ text_of ranks ++ 10 ∷ []

-- the rows of a tree, and classes
abbrev pub tree_and_classes : Tree → List (Ranks × List Path) → List ℕ
tree_and_classes t classes = codes "tree\n" ++ tree_text t ++ codes "classes\n" ++ classes_text classes

-- all that a release says
unfoldable pub release_text : Plan → TreeRelease → List ℕ
release_text p r = heading r ++ ranks_line (codes "covered ") r.tree.coverage ++ missing_lines p r ++ tree_and_classes r.tree (classes_in r.tree)
