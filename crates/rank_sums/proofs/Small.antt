-- The parts of small numbers are small.
use Rattle.std.proofs.Common.{◌≡◌, ℕ, ◌<◌, ◌≤◌, ◌*◌, ◌+◌, ◌^◌, List, [], ◌∷◌, refl, Option, Some, None, subst, arith, length, mul-le-mul}
use Rattle.std.proofs.Math.IntN.{ℤ, pos, negsuc}
use lib.Signed.{mag}
use Rattle.std.specs.Prelude.{◌+ℤ◌}
use Rattle.std.specs.Int.{int_min, int_max}
use borrow.Author.Differences.{up, down}
use Rattle.std.proofs.lemmas.Int.{ints, clamps}
use Rattle.rank_set.specs.Ranks.{Ranks, size, in_order}
use Rattle.rank_set.specs.declared.TheConstants.{RANK_LIMIT}
use Rattle.rank_sums.specs.declared.fold.Fold.{Fold}
use Rattle.rank_sums.specs.declared.fold.Fold.TheVariants.{Sum, Min, Max, Count}
use Rattle.value_text.specs.Numbers.{AreSmall, Numbers, number_of}
use Rattle.rank_sums.specs.Folds.{IsWithin, counted, counted_at, join, joined, total, part_of}

-- from -m to m
abbrev pub Within : ℕ → ℤ → Type 0
Within m z = (up z ≤ down z + m) × (down z ≤ up z + m)

sum_within : (a b : ℤ) (m n : ℕ) → Within m a → Within n b → Within (m + n) (a +ℤ b)
sum_within a b m n ha hb = (omega (arith, ints), omega (arith, ints))

min_within : (a b : ℤ) (m n : ℕ) → Within m a → Within n b → Within (m + n) (int_min a b)
min_within a b m n ha hb = (omega (arith, ints, clamps), omega (arith, ints, clamps))

max_within : (a b : ℤ) (m n : ℕ) → Within m a → Within n b → Within (m + n) (int_max a b)
max_within a b m n ha hb = (omega (arith, ints, clamps), omega (arith, ints, clamps))

join_within : (f : Fold) (a b : ℤ) (m n : ℕ) → Within m a → Within n b → Within (m + n) (join f a b)
join_within Sum a b m n ha hb = sum_within a b m n ha hb
join_within Min a b m n ha hb = min_within a b m n ha hb
join_within Max a b m n ha hb = max_within a b m n ha hb
join_within Count a b m n ha hb = sum_within a b m n ha hb

-- a result, if there is one, is from -m to m
abbrev pub IsAtMost : ℕ → Option ℤ → Type 0
IsAtMost m o = (z : ℤ) → o ≡ Some z → Within m z

pub joined_within : (f : Fold) (a b : Option ℤ) (m n : ℕ) → IsAtMost m a → IsAtMost n b → IsAtMost (m + n) (joined f a b)
joined_within f None b m n ha hb z e = let k = hb z e in (omega (arith, k), omega (arith, k))
joined_within f (Some a) None m n ha hb z e = let k = ha z e in (omega (arith, k), omega (arith, k))
joined_within f (Some a) (Some b) m n ha hb z e = let is : join f a b ≡ z = cc in subst (Within (m + n)) is (join_within f a b m n (ha a refl) (hb b refl))

pub total_within : (f : Fold) (g : ℕ → Option ℤ) (m : ℕ) (xs : List ℕ) → ((x : ℕ) → IsAtMost m (g x)) → IsAtMost (length xs * m) (total f g xs)
total_within f g m [] h z e = absurd (cc)
total_within f g m (x ∷ xs) h z e = let k = joined_within f (g x) (total f g xs) m (length xs * m) (h x) (total_within f g m xs h) z e in (omega (arith, k), omega (arith, k))

-- the two forms of a bound
pub to_order : (m : ℕ) (o : Option ℤ) → IsAtMost m o → IsWithin m o
to_order m o h z e = let k = h z e in (omega (arith, ints, k.0, k.1), omega (arith, ints, k.0, k.1))

pub from_order : (m : ℕ) (o : Option ℤ) → IsWithin m o → IsAtMost m o
from_order m o h z e = let k = h z e in (omega (arith, ints, k.0, k.1), omega (arith, ints, k.0, k.1))

pub within_more : (m n : ℕ) (o : Option ℤ) → m ≤ n → IsWithin m o → IsWithin n o
within_more m n o le h = to_order n o (λ z e. let k = from_order m o h z e in (omega (arith, k.0, le), omega (arith, k.1, le)))

counted_within : (f : Fold) (z : ℤ) → Within 1000000000000 z → Within 1000000000000 (counted f z)
counted_within Sum z h = h
counted_within Min z h = h
counted_within Max z h = h
counted_within Count z h = (omega arith, omega arith)

pub at_within : (f : Fold) (o : Option ℤ) → IsAtMost 1000000000000 o → IsAtMost 1000000000000 (counted_at f o)
at_within f None h z e = absurd (cc)
at_within f (Some n) h z e = let is : counted f n ≡ z = cc in subst (Within 1000000000000) is (counted_within f n (h n refl))

pub small_number : (v : Numbers) → AreSmall v → (r : ℕ) → IsAtMost 1000000000000 (number_of v r)
small_number v small r z e = let k = small r z e in (omega (arith, ints, k.0, k.1), omega (arith, ints, k.0, k.1))

fits : (z : ℤ) (m : ℕ) → Within m z → m < 2 ^ 63 → mag z < 2 ^ 63
fits (pos n) m h lt = omega (arith, h, lt)
fits (negsuc n) m h lt = omega (arith, h, lt)

-- what some ranks count for is bounded by how many they are
pub fold_within : (v : Numbers) (f : Fold) (C : Ranks) → AreSmall v → size C ≤ RANK_LIMIT → IsAtMost (2 ^ 62) (part_of f v C)
fold_within v f C small n z e =
    let k = total_within f (λ r. counted_at f (number_of v r)) 1000000000000 (in_order C) (λ r. at_within f (number_of v r) (small_number v small r)) z e in
    let one : 1000000000000 ≤ 1000000000000 = omega arith in
    let m : size C * 1000000000000 ≤ RANK_LIMIT * 1000000000000 = mul-le-mul n one in
    (omega (arith, k.0, m), omega (arith, k.1, m))

-- so it is small
pub fold_small : (v : Numbers) (f : Fold) (C : Ranks) → AreSmall v → size C ≤ RANK_LIMIT → (z : ℤ) → part_of f v C ≡ Some z → mag z < 2 ^ 63
fold_small v f C small n z e = fits z (2 ^ 62) (fold_within v f C small n z e) (omega arith)
