-- The words of folds.
use Rattle.std.specs.Prelude.{ℕ, List, Option, Some, None, codes, if◌then◌else◌}
use Rattle.std.specs.Str.{bytes_eq}
use Rattle.rank_sums.specs.declared.fold.Fold.{Fold}
use Rattle.rank_sums.specs.declared.fold.Fold.TheVariants.{Sum, Min, Max, Count}

-- the word of a fold
abbrev pub fold_word : Fold → List ℕ
fold_word Sum = codes "sum"
fold_word Min = codes "min"
fold_word Max = codes "max"
fold_word Count = codes "count"

-- the fold that a word names, by exactly these words
abbrev pub fold_named : List ℕ → Option Fold
fold_named word =
    if bytes_eq word (codes "sum") then Some Sum
    else (if bytes_eq word (codes "min") then Some Min
    else (if bytes_eq word (codes "max") then Some Max
    else (if bytes_eq word (codes "count") then Some Count else None)))
