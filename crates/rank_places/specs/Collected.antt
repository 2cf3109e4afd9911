-- Numbers that are collected in ascending order, as words.
use Rattle.std.specs.Prelude.{◌≡◌, ◌+◌, ◌<◌, ◌≤◌, [], ◌∷◌, length}
use Rattle.rank_set.specs.declared.TheConstants.{WORD_LIMIT}
use Rattle.rank_set.specs.Ranks.{Ranks, union}
use Rattle.rank_set.specs.Words.{ranks_in, AreWords}
use Rattle.rank_places.specs.declared.collected.Collected.{Collected}

-- the numbers
abbrev pub collected : Collected → Ranks
collected c = union (ranks_in c.offset c.words.items) (ranks_in c.index (c.word ∷ []))

-- The words before the last are trimmed and end before it, and the last is 0 only where nothing was collected.
pub record IsCollected (c : Collected) : Type 0 where
  pub trimmed : AreWords c.offset c.words.items
  pub before : c.offset + length c.words.items ≤ c.index
  pub within : c.index < WORD_LIMIT
  pub nothing : c.word ≡ 0 → length c.words.items ≡ 0
