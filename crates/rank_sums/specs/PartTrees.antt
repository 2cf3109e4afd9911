-- Trees that carry parts: the least rank of each daemon was seen in one path, whose only frame is the daemon's part.
use Rattle.std.specs.Prelude.{◌≤◌, ℕ, ℤ, ◌≡◌, ◌<◌, ◌^◌, true, List, [], ◌∷◌, Option, Some, None, slice_get}
use lib.Signed.{mag}
use Rattle.std.specs.FinMap as finmap
use Rattle.std.specs.Fmt.{signed_decimal}
use Rattle.std.specs.Str.Parse.{signed_digits_value}
use Rattle.rank_set.specs.Ranks.{in_order, size}
use Rattle.rank_set.specs.declared.TheConstants.{RANK_LIMIT}
use Rattle.call_path.specs.Path.{Path}
use Rattle.call_path.specs.Pairs.{Pairs, is_pair}
use Rattle.prefix_tree.specs.Tree.{Marks, Tree}
use Rattle.overlay_setup.specs.NodeSets.{In}
use Rattle.stat_plan.specs.Plans.{Plan, daemons, ranks}
use Rattle.value_text.specs.Numbers.{Numbers}
use Rattle.rank_sums.specs.declared.fold.Fold.{Fold}
use Rattle.rank_sums.specs.Folds.{total}
use Rattle.rank_sums.specs.Parts.{part_at}

-- the least rank of a daemon
abbrev pub leader : Plan → ℕ → Option ℕ
leader p d = slice_get (in_order (ranks p d)) 0

-- the path of a number: one frame, which is its decimal text
abbrev pub number_path : ℤ → Path
number_path z = signed_decimal z ∷ []

-- the number of a path
abbrev pub number_at : Path → Option ℤ
number_at [] = None
number_at (f ∷ []) = Some (signed_digits_value 10 f)
number_at (f ∷ g ∷ p) = None

-- what a row counts for: its number, once for each rank whose path ends there
abbrev pub row_total : Fold → Path × Marks → Option ℤ
row_total f e = total f (λ r. number_at e.0) (in_order e.1.1)

-- what a tree counts for
abbrev pub tree_total : Fold → Tree → Option ℤ
tree_total f t = total f (row_total f) (finmap.entries t.below)

-- the daemon d of the stream has the part z, and its least rank is r
pub record IsPartOf (p : Plan) (v : Numbers) (f : Fold) (s d : ℕ) (r : ℕ) (z : ℤ) : Type 0 where
  pub listed : In d (daemons p s)
  pub part : part_at p v f d ≡ Some z
  pub leads : leader p d ≡ Some r

-- a pair that says which part a daemon has
pub record SaysPart (p : Plan) (v : Numbers) (f : Fold) (s : ℕ) (r : ℕ) (q : Path) : Type 0 where
  pub daemon : ℕ
  pub number : ℤ
  pub of : IsPartOf p v f s daemon r number
  pub path : q ≡ number_path number

-- the pairs are the parts of the stream's daemons
pub record CarriesParts (p : Plan) (v : Numbers) (f : Fold) (s : ℕ) (P : Pairs) : Type 0 where
  pub says : (r : ℕ) (q : Path) → is_pair P r q ≡ true → SaysPart p v f s r q
  pub complete : (d r : ℕ) (z : ℤ) → IsPartOf p v f s d r z → is_pair P r (number_path z) ≡ true

-- a text of a number that an `i64` has
pub record IsNumberText (text : List ℕ) : Type 0 where
  pub number : ℤ
  pub fits : mag number < 2 ^ 63
  pub writes : text ≡ signed_decimal number

-- a row of a number that an `i64` has
pub record IsNumberRow (e : Path × Marks) : Type 0 where
  pub number : ℤ
  pub fits : mag number < 2 ^ 63
  pub path : e.0 ≡ number_path number

-- each row is of a number, and what the tree counts for is one that an `i64` has
pub record SaysNumbers (f : Fold) (t : Tree) : Type 0 where
  pub rows : (e : Path × Marks) → In e (finmap.entries t.below) → IsNumberRow e
  pub fits : (z : ℤ) → tree_total f t ≡ Some z → mag z < 2 ^ 63

-- a tree says numbers, if what it covers are no more ranks than there can be
abbrev pub SaysNumbersWithin : Fold → Tree → Type 0
SaysNumbersWithin f t = size t.coverage ≤ RANK_LIMIT → SaysNumbers f t
