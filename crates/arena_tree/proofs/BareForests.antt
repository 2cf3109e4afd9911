-- Forests without their places.
use Rattle.std.proofs.Common.{◌≡◌, ℕ, suc, ◌+◌, List, [], ◌∷◌, ◌++◌, map, refl, sym, ap, ◌∙◌, subst}
use Rattle.prefix_tree.specs.Joined.{below_frame}
use Rattle.arena_tree.specs.RowForest.{RowForest, no_rows, row_node, size, forest_rows, IsBefore, HasIncreasingRows}
use Rattle.arena_tree.specs.RowMerge.{merge_rows}

-- a forest, all of whose places are 0
abbrev pub bare : RowForest → RowForest
bare no_rows = no_rows
bare (row_node a f m b s) = row_node 0 f m (bare b) (bare s)

-- it shows the same rows
pub count_rows-bare : (k : RowForest) → forest_rows (bare k) ≡ forest_rows k
count_rows-bare no_rows = refl
count_rows-bare (row_node a f m b s) = λ i. (f ∷ [], m) ∷ map (below_frame f) (count_rows-bare b i) ++ count_rows-bare s i

pub size-bare : (k : RowForest) → size (bare k) ≡ size k
size-bare no_rows = refl
size-bare (row_node a f m b s) = λ i. suc (size-bare b i + size-bare s i)

-- is in the same order
before-bare : (f : List ℕ) (k : RowForest) → IsBefore f k → IsBefore f (bare k)
before-bare f no_rows is = tt
before-bare f (row_node a g m b s) is = is

before-back : (f : List ℕ) (k : RowForest) → IsBefore f (bare k) → IsBefore f k
before-back f no_rows is = tt
before-back f (row_node a g m b s) is = is

pub ordered-bare : (k : RowForest) → HasIncreasingRows k → HasIncreasingRows (bare k)
ordered-bare no_rows up = tt
ordered-bare (row_node a f m b s) up = (before-bare f s up.0, ordered-bare b up.1, ordered-bare s up.2)

pub ordered-back : (k : RowForest) → HasIncreasingRows (bare k) → HasIncreasingRows k
ordered-back no_rows up = tt
ordered-back (row_node a f m b s) up = (before-back f s up.0, ordered-back b up.1, ordered-back s up.2)

pub rows_alike : (k o : RowForest) → bare k ≡ bare o → forest_rows k ≡ forest_rows o
rows_alike k o e = sym (count_rows-bare k) ∙ ap forest_rows e ∙ count_rows-bare o

pub increasing_alike : (k o : RowForest) → bare k ≡ bare o → HasIncreasingRows o → HasIncreasingRows k
increasing_alike k o e up = ordered-back k (subst HasIncreasingRows (sym e) (ordered-bare o up))

-- merging with nothing
pub merge_rows-none : (n : ℕ) (k : RowForest) → merge_rows n k no_rows ≡ k
merge_rows-none n no_rows = refl
merge_rows-none n (row_node a f m b s) = refl

pub merge_rows-new : (n : ℕ) (o : RowForest) → bare (merge_rows n no_rows o) ≡ bare o
merge_rows-new n no_rows = refl
merge_rows-new n (row_node x g w c t) = λ i. row_node 0 g w (merge_rows-new (suc n) c i) (merge_rows-new (suc n + size c) t i)
