-- What is made of the numbers of some ranks.
use Rattle.std.specs.Prelude.{◌≡◌, ℕ, ℤ, zero, suc, List, [], ◌∷◌, Option, Some, None, pos, neg_ℤ, ◌+ℤ◌, ◌*ℤ◌, ◌≤ℤ◌}
use Rattle.std.specs.Int.{int_min, int_max}
use Rattle.rank_set.specs.Ranks.{Ranks, in_order}
use Rattle.value_text.specs.Numbers.{Numbers, number_of}
use Rattle.rank_sums.specs.declared.fold.Fold.{Fold}
use Rattle.rank_sums.specs.declared.fold.Fold.TheVariants.{Sum, Min, Max, Count}

-- what is made of two results
abbrev pub join : Fold → ℤ → ℤ → ℤ
join Sum a b = a +ℤ b
join Min a b = int_min a b
join Max a b = int_max a b
join Count a b = a +ℤ b

-- the same, where there may be none
abbrev pub joined : Fold → Option ℤ → Option ℤ → Option ℤ
joined f None b = b
joined f (Some a) None = Some a
joined f (Some a) (Some b) = Some (join f a b)

-- the result of some things that each give one, or none
abbrev pub total : {X : Type 0} → Fold → (X → Option ℤ) → List X → Option ℤ
total f g [] = None
total f g (x ∷ xs) = joined f (g x) (total f g xs)

-- what one number counts for
abbrev pub counted : Fold → ℤ → ℤ
counted Sum z = z
counted Min z = z
counted Max z = z
counted Count z = pos 1

-- what a rank counts for: nothing where it has no number
abbrev pub counted_at : Fold → Option ℤ → Option ℤ
counted_at f None = None
counted_at f (Some z) = Some (counted f z)

-- what the numbers of some ranks count for; none where no rank has a number
abbrev pub part_of : Fold → Numbers → Ranks → Option ℤ
part_of f v set = total f (λ r. counted_at f (number_of v r)) (in_order set)

-- a number as often as this: none where it is not there
abbrev pub times : Fold → ℤ → ℕ → Option ℤ
times f z zero = None
times Sum z (suc n) = Some (z *ℤ pos (suc n))
times Min z (suc n) = Some z
times Max z (suc n) = Some z
times Count z (suc n) = Some (z *ℤ pos (suc n))

-- the fold of no numbers
abbrev pub of_none : Fold → Option ℤ
of_none Sum = Some (pos 0)
of_none Min = None
of_none Max = None
of_none Count = Some (pos 0)

-- a result, where there may have been nothing to count
abbrev pub result_of : Fold → Option ℤ → Option ℤ
result_of f None = of_none f
result_of f (Some z) = Some z

-- the fold over the ranks that have a number
abbrev pub fold_of : Fold → Numbers → Ranks → Option ℤ
fold_of f v set = result_of f (part_of f v set)

-- a result, if there is one, is from -m to m
abbrev pub IsWithin : ℕ → Option ℤ → Type 0
IsWithin m o = (z : ℤ) → o ≡ Some z → (neg_ℤ (pos m) ≤ℤ z) × (z ≤ℤ pos m)
