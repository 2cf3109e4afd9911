-- What ends at each row of a tree where some of its ends are kept. No public clause cites these definitions.
use Rattle.std.specs.Prelude.{◌≡◌, ℕ, suc, Bool, true, false, cond, List, [], ◌∷◌, ◌<◌, get_or, length}
use Rattle.std.specs.List.{flat_map}
use Rattle.std.specs.FinMap as finmap
use Rattle.rank_set.specs.Ranks.{Ranks, none, has, in_order, those, IsSubset, is_empty}
use Rattle.call_path.specs.Path.{Path}
use Rattle.call_path.specs.Pairs.{Pairs, pairs_at}
use Rattle.prefix_tree.specs.Tree.{Marks, Tree, added}
use Rattle.tree_view.specs.Views.{is_frame, has_frame}
use Rattle.tree_view.specs.declared.selection.Selection.{Selection}
use Rattle.tree_view.specs.declared.selection.Selection.TheVariants.{Ranks as RanksOnly, Frame, Fold}

abbrev pub is_root : Path → Bool
is_root [] = true
is_root (g ∷ p) = false

-- the first frame f of the path is its last frame
abbrev pub closes : List ℕ → Path → Bool
closes f [] = false
closes f (g ∷ p) = cond (is_frame g f) (is_root p) (closes f p)

-- the ranks that end at a row in a fold: all that pass it where it is cut, and none below
abbrev pub fold_ends : List ℕ → Path → Marks → Ranks
fold_ends f p m = cond (closes f p) m.0 (cond (has_frame f p) none m.1)

-- the ranks that end at a row, by its path and its marks
abbrev pub ends_in : Selection → Path → Marks → Ranks
ends_in (RanksOnly ranks) p m = those (has ranks.now) m.1
ends_in (Frame f) p m = cond (has_frame f.now p) m.1 none
ends_in (Fold f) p m = fold_ends f.now p m

-- the pairs of rows by these ends
abbrev pub edited : (Path → Marks → Ranks) → List (Path × Marks) → Pairs
edited h es = flat_map (λ e. pairs_at (in_order (h e.0 e.1)) e.0) es

-- no row
abbrev pub no_entry : Path × Marks
no_entry = ([], (none, none))

-- the ranks of all these ends lie in a set
abbrev pub LieIn : (Path → Marks → Ranks) → Tree → Ranks → Type 0
LieIn h t C = (k : ℕ) → k < length (finmap.entries t.below) → IsSubset (h (get_or (finmap.entries t.below) k no_entry).0 (get_or (finmap.entries t.below) k no_entry).1) C

-- how many frames stand before the first frame f, and how many there are where it has none
abbrev pub place_of : List ℕ → Path → ℕ
place_of f [] = 0
place_of f (g ∷ p) = cond (is_frame g f) 0 (suc (place_of f p))

-- that of the frame that is sought, if one is
abbrev pub place_in : Selection → Path → ℕ
place_in (RanksOnly ranks) p = length p
place_in (Frame f) p = place_of f.now p
place_in (Fold f) p = place_of f.now p

-- the tree with a path that each of the ranks was seen in, and the tree itself where there are no ranks
abbrev pub with_ends : Tree → Ranks → Path → Tree
with_ends t ends p = cond (is_empty ends) t (added t ends p)
