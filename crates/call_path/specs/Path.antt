-- A call path as a value: its frames, root first, each a list of bytes.
use Rattle.std.specs.Prelude.{ℕ, suc, Bool, true, false, ◌&&◌, cond, List, [], ◌∷◌}
use Rattle.std.specs.List.{join_with_byte}
use Rattle.std.specs.Ordering.{nat_cmp, eq_by_cmp}
use Rattle.std.specs.declared.cmp.Ordering.{Ordering}
use Rattle.std.specs.Cmp.{IsTotalOrder}
use Rattle.std.specs.Cmp.Lexicographic.{slice_cmp, lists_total, nat_list_cmp_total}
use Rattle.std.specs.FinMap as finmap

-- the names of the frames
abbrev pub Path : Type 0
Path = List (List ℕ)

-- frame by frame in byte order, a prefix first
abbrev pub path_cmp : Path → Path → Ordering
path_cmp = slice_cmp (slice_cmp nat_cmp)

-- whether two paths are the same
abbrev pub is_path : Path → Path → Bool
is_path p q = eq_by_cmp path_cmp p q

-- whether q starts with p
abbrev pub is_prefix : Path → Path → Bool
is_prefix [] q = true
is_prefix (f ∷ p) [] = false
is_prefix (f ∷ p) (g ∷ q) = eq_by_cmp (slice_cmp nat_cmp) f g && is_prefix p q

-- how many of their first frames two paths share
abbrev pub shared_len : Path → Path → ℕ
shared_len [] q = 0
shared_len (f ∷ p) [] = 0
shared_len (f ∷ p) (g ∷ q) = cond (eq_by_cmp (slice_cmp nat_cmp) f g) (suc (shared_len p q)) 0

-- the text of a path: its frames joined by `;`
abbrev pub path_text : Path → List ℕ
path_text p = join_with_byte 59 p

-- the order of paths is total
pub path_cmp_total : IsTotalOrder path_cmp
path_cmp_total = lists_total nat_list_cmp_total

-- only equal paths tie
pub path_cmp_exact : finmap.IsAntisymmetric path_cmp
path_cmp_exact = finmap.slice_cmp-IsAntisymmetric (finmap.slice_cmp-IsAntisymmetric finmap.nat_cmp-IsAntisymmetric)
