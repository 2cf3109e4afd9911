-- The paths in which ranks were seen, and what they say of a rank.
use Rattle.std.specs.Prelude.{◌≡◌, ℕ, Bool, not, List, map}
use Rattle.std.specs.List.{list_all, filter}
use Rattle.std.specs.FinMap as finmap
use Rattle.rank_set.specs.Ranks.{Ranks, has, is_empty}
use Rattle.call_path.specs.Path.{Path}
use Rattle.call_path.specs.Pairs.{Pairs}
use Rattle.prefix_tree.specs.Tree.{Tree, Marks}
use Rattle.equiv_class.specs.Classes.{same_answer, equivalent, paths_of}
use Rattle.equiv_class.specs.declared.SeenPath.{SeenPath}

-- a path, with the ranks that were seen in it
abbrev pub entry_of : SeenPath → Path × Ranks
entry_of seen = (seen.path, seen.ranks.now)

-- each of them
abbrev pub entries_view : List SeenPath → List (Path × Ranks)
entries_view seen = map entry_of seen

-- some rank ends at the row
abbrev pub has_ends : Path × Marks → Bool
has_ends row = not (is_empty row.1.1)

-- the path of a row, with the ranks that end there
abbrev pub ends_at : Path × Marks → Path × Ranks
ends_at row = (row.0, row.1.1)

-- the paths of a tree in which ranks were seen, in order
abbrev pub seen_in : Tree → List (Path × Ranks)
seen_in t = map ends_at (filter has_ends (finmap.entries t.below))

-- r and s were seen in the same paths
abbrev pub same_paths : ℕ → ℕ → List (Path × Ranks) → Bool
same_paths r s es = list_all (λ e. same_answer (has e.1 r) (has e.1 s)) es

-- the paths in which r was seen
abbrev pub paths_to : ℕ → List (Path × Ranks) → List Path
paths_to r es = map (λ e. e.0) (filter (λ e. has e.1 r) es)

-- the paths say of each rank what the pairs say
pub record Lists (P : Pairs) (es : List (Path × Ranks)) : Type 0 where
  pub same_ranks : (r s : ℕ) → equivalent P r s ≡ same_paths r s es
  pub paths_agree : (r : ℕ) → paths_of P r ≡ paths_to r es
