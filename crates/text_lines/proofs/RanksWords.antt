-- Words that write ranks.
use Rattle.std.proofs.Common.{◌≡◌, ℕ, List, Result, Ok, Err, ap}
use Rattle.rank_set.specs.Ranks.{Ranks}
use Rattle.rank_set.specs.RanksText.{ranks_text}
use Rattle.rank_set.specs.declared.read.RanksError.{RanksError}
use Rattle.text_lines.specs.RanksWords.{ranks_or_error, ranks_on}
use Rattle.text_lines.proofs.Errors.{ok_inj}

-- words that are read, on a line
pub ranks_good : (number : ℕ) (word : List ℕ) (ranks : Ranks) → ranks_text word ≡ Ok ranks → ranks_on number word ≡ Ok ranks
unfolding ranks_on
ranks_good number word ranks e = ap (ranks_or_error number) e

ranks_read : (number : ℕ) (r : Result Ranks RanksError) (ranks : Ranks) → ranks_or_error number r ≡ Ok ranks → r ≡ Ok ranks
ranks_read number (Err e) ranks h = cc
ranks_read number (Ok x) ranks h = ap Ok (ok_inj x ranks h)

pub ranks_inv : (number : ℕ) (word : List ℕ) (ranks : Ranks) → ranks_on number word ≡ Ok ranks → ranks_text word ≡ Ok ranks
unfolding ranks_on
ranks_inv number word ranks h = ranks_read number (ranks_text word) ranks h
