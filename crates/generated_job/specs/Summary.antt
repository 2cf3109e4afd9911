-- The summary of a run of the generated job.
use Rattle.std.specs.Prelude.{◌≡◌, ℕ, Bool, true, false, ◌&&◌, nat_eq, cond, List, [], ◌∷◌, ◌++◌, length, map, filter, codes}
use Rattle.std.specs.Fmt.{decimal}
use Rattle.std.specs.List.{flat_map, sum_by}
use Rattle.rank_set.specs.Ranks.{size}
use Rattle.prefix_tree.specs.Tree.{Tree, tree_of, pairs_of, rows_of}
use Rattle.equiv_class.specs.Classes.{classes_of}
use Rattle.stat_plan.specs.Plans.{Plan, nodes, samples}
use Rattle.overlay_event.specs.declared.event.Event.{Event}
use Rattle.overlay_event.specs.declared.event.Event.TheVariants.{Sample, Recv, Tick, Lose}
use Rattle.overlay_core.specs.Nodes.{Release}
use Rattle.overlay_core.specs.Runs.{after}
use Rattle.overlay_core.specs.TreeReleases.{TreeRelease}
use Rattle.overlay_core.specs.declared.release.Kind.{Kind}
use Rattle.overlay_core.specs.declared.release.Kind.TheVariants.{Partial, Final}
use Rattle.generated_job.specs.Job.{job_plan}

abbrev pub is_partial : Kind → Bool
is_partial Partial = true
is_partial Final = false

abbrev pub is_final : Kind → Bool
is_final Partial = false
is_final Final = true

-- whether a node is lost
abbrev pub is_loss : Event → Bool
is_loss (Sample node stream wave) = false
is_loss (Recv node from) = false
is_loss (Tick node) = false
is_loss (Lose node) = true

-- words, each followed by its number
abbrev pub parts_text : List (List ℕ × ℕ) → List ℕ
parts_text parts = flat_map (λ part. part.0 ++ decimal part.1) parts

-- a line of words with numbers
abbrev pub parts_line : List (List ℕ × ℕ) → List ℕ
parts_line parts = parts_text parts ++ 10 ∷ []

-- the seed and the size
abbrev pub job_line : ℕ → ℕ → List ℕ
job_line seed size = parts_line ((codes "gen seed ", seed) ∷ (codes " size ", size) ∷ [])

-- numbers of nodes, ranks and lines of samples
abbrev pub counts_line : ℕ → ℕ → ℕ → List ℕ
counts_line nodes ranks lines =
    parts_line ((codes "nodes ", nodes) ∷ (codes " ranks ", ranks) ∷ (codes " lines ", lines) ∷ [])

-- how many nodes, ranks and lines of samples the plan has
abbrev pub plan_line : Plan → List ℕ
plan_line p = counts_line (nodes p) (sum_by size p.placed) (length p.lines)

-- how many releases there are of a kind
abbrev pub count_of : (Kind → Bool) → List TreeRelease → ℕ
count_of is_kind releases = length (filter (λ r. is_kind r.kind) releases)

-- how many events there were, releases of either kind, and lost nodes
abbrev pub run_line : List Event → List TreeRelease → List ℕ
run_line journal releases =
    parts_line
    ((codes "events ", length journal) ∷ (codes " partial ", count_of is_partial releases)
    ∷ (codes " final ", count_of is_final releases) ∷ (codes " lost ", length (filter is_loss journal)) ∷ [])

-- how many classes a tree's ranks fall into
abbrev pub class_count : Tree → ℕ
class_count t = length (classes_of (pairs_of t) t.coverage)

-- how many ranks a tree covers, how many rows it has with the root's, and how many classes
abbrev pub tree_counts : Tree → List ℕ
tree_counts t =
    parts_line
    ((codes " covered ", size t.coverage) ∷ (codes " rows ", length (rows_of t))
    ∷ (codes " classes ", class_count t) ∷ [])

-- the line of a release: its stream, its wave, and the counts of its tree
abbrev pub release_line : TreeRelease → List ℕ
release_line r = parts_text ((codes "stream ", r.stream) ∷ (codes " wave ", r.wave) ∷ []) ++ tree_counts r.tree

-- whether a release is the final one of wave 0 of a stream
abbrev pub ends_stream : ℕ → TreeRelease → Bool
ends_stream s r = is_final r.kind && (nat_eq r.stream s && nat_eq r.wave 0)

-- the line of the final release of wave 0 of a stream; nothing for another release
abbrev pub end_line : ℕ → TreeRelease → List ℕ
end_line s r = cond (ends_stream s r) (release_line r) []

-- the lines of a stream
abbrev pub wave_lines : ℕ → List TreeRelease → List ℕ
wave_lines s releases = flat_map (end_line s) releases

-- the summary of a journal and releases of the job
abbrev pub summary_text : ℕ → ℕ → List Event → List TreeRelease → List ℕ
summary_text seed size journal releases =
    job_line seed size
    ++ (plan_line (job_plan seed size)
    ++ (run_line journal releases
    ++ (wave_lines 0 releases
    ++ (wave_lines 1 releases
    ++ codes "end\n"))))

-- a stream has exactly one line: that of the only release that ends its wave
pub record HasOneLine (s : ℕ) (releases : List TreeRelease) : Type 0 where
  pub release : TreeRelease
  pub ends : filter (ends_stream s) releases ≡ release ∷ []
  pub line : wave_lines s releases ≡ release_line release

-- ---- the summary of a journal

-- a release of the machine, with the tree of its wave's samples over the ranks that it covers; no line shows its number
abbrev pub release_of_samples : Plan → Release → TreeRelease
release_of_samples p r = record {
  stream = r.stream;
  wave = r.wave;
  number = 0;
  kind = r.kind;
  tree = tree_of (samples p r.stream r.wave) r.covered;
  lost = r.lost;
}

-- the releases after a journal, with their trees
abbrev pub releases_after : Plan → List Event → List TreeRelease
releases_after p journal = map (release_of_samples p) (after p journal).releases

-- the summary of a journal of the job
abbrev pub summary_of : ℕ → ℕ → List Event → List ℕ
summary_of seed size journal =
    summary_text seed size journal (releases_after (job_plan seed size) journal)

-- a release's tree is that of its wave's samples over the ranks that it covers
abbrev pub HasTreeOfSamples : Plan → TreeRelease → Type 0
HasTreeOfSamples p r = r.tree ≡ tree_of (samples p r.stream r.wave) r.tree.coverage
