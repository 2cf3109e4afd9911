-- Views: what is kept of pairs of a rank and a path, and of a coverage.
use Rattle.std.specs.Prelude.{ℕ, nat_eq, Bool, true, false, cond, ◌&&◌, ◌||◌, List, [], ◌∷◌, filter, map, take}
use Rattle.std.specs.List.{list_any, flat_map}
use Rattle.std.specs.Ordering.{nat_cmp, eq_by_cmp}
use Rattle.std.specs.Cmp.Lexicographic.{slice_cmp}
use Rattle.rank_set.specs.Ranks.{Ranks, has, in_order, set_of, those}
use Rattle.call_path.specs.Path.{Path}
use Rattle.call_path.specs.Pairs.{Pairs}
use Rattle.prefix_tree.specs.Tree.{Tree, tree_of}
use Rattle.equiv_class.specs.Classes.{classes_of}

-- A view: of some ranks alone, of the paths that have a frame, of the paths cut behind their first such frame, and of so many
-- ranks of each class.
pub data TreeView : Type 0 where
  OfRanks : Ranks → TreeView
  WithFrame : List ℕ → TreeView
  FoldedAt : List ℕ → TreeView
  OfEachClass : ℕ → TreeView

-- two frames are the same
abbrev pub is_frame : List ℕ → List ℕ → Bool
is_frame f g = eq_by_cmp (slice_cmp nat_cmp) f g

-- some frame of the path is f
abbrev pub has_frame : List ℕ → Path → Bool
has_frame f [] = false
has_frame f (g ∷ p) = is_frame g f || has_frame f p

-- the path up to its first frame f, and the whole path where it has none
abbrev pub cut_at : List ℕ → Path → Path
cut_at f [] = []
cut_at f (g ∷ p) = g ∷ cond (is_frame g f) [] (cut_at f p)

-- some path of the rank has the frame f
abbrev pub was_in : Pairs → List ℕ → ℕ → Bool
was_in P f r = list_any (λ e. nat_eq e.0 r && has_frame f e.1) P

-- the pairs whose path has the frame f
abbrev pub with_frame : List ℕ → Pairs → Pairs
with_frame f P = filter (λ e. has_frame f e.1) P

-- the ranks of C with such a pair
abbrev pub ranks_with : List ℕ → Pairs → Ranks → Ranks
ranks_with f P C = those (was_in P f) C

-- each path is cut behind its first frame f
abbrev pub folded : List ℕ → Pairs → Pairs
folded f P = map (λ e. (e.0, cut_at f e.1)) P

-- the k least ranks of each of some blocks, or all where it has fewer
abbrev pub least_ranks : ℕ → List (Ranks × List Path) → Ranks
least_ranks k blocks = set_of (flat_map (λ b. take k (in_order b.0)) blocks)

-- the k least ranks of each class of the pairs over C
abbrev pub reps_of : ℕ → Pairs → Ranks → Ranks
reps_of k P C = those (has (least_ranks k (classes_of P C))) C

-- the pairs that a view keeps
abbrev pub viewed_pairs : TreeView → Pairs → Pairs
viewed_pairs (OfRanks ranks) P = P
viewed_pairs (WithFrame f) P = with_frame f P
viewed_pairs (FoldedAt f) P = folded f P
viewed_pairs (OfEachClass k) P = P

-- the covered ranks that a view keeps
abbrev pub viewed_ranks : TreeView → Pairs → Ranks → Ranks
viewed_ranks (OfRanks ranks) P C = those (has ranks) C
viewed_ranks (WithFrame f) P C = ranks_with f P C
viewed_ranks (FoldedAt f) P C = C
viewed_ranks (OfEachClass k) P C = reps_of k P C

-- the tree of what a view keeps
abbrev pub viewed_tree : TreeView → Pairs → Ranks → Tree
viewed_tree v P C = tree_of (viewed_pairs v P) (viewed_ranks v P C)

-- the classes of what a view keeps
abbrev pub viewed_classes : TreeView → Pairs → Ranks → List (Ranks × List Path)
viewed_classes v P C = classes_of (viewed_pairs v P) (viewed_ranks v P C)
