-- The numbers of ranks, as a table holds them. No public clause cites these definitions.
use Rattle.std.specs.Prelude.{ℕ, ◌/◌, ◌%◌, List, get_or, map, replicate}
use Rattle.std.specs.List.{range_with_len}
use Rattle.rank_table.specs.declared.WordNumbers.{WordNumbers}
use Rattle.rank_table.specs.declared.WordNumbers.TheVariants.{Same, Each}

-- the numbers of the ranks of a word
abbrev pub numbers_of : WordNumbers → List ℕ
numbers_of (Same number) = replicate 64 number
numbers_of (Each numbers) = numbers.value

-- the number of a rank
abbrev pub number_at : List WordNumbers → ℕ → ℕ
number_at words r = get_or (numbers_of (get_or words (r / 64) (Same 0))) (r % 64) 0

-- the numbers of the ranks below an end
abbrev pub numbers_below : List WordNumbers → ℕ → List ℕ
numbers_below words end = map (number_at words) (range_with_len 0 end)
