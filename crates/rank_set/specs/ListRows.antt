-- Sets, their words and their runs. Each row is computed.
use Rattle.std.specs.Prelude.{◌≡◌, refl, [], ◌∷◌}
use Rattle.rank_set.specs.Ranks.{none, has, set_of, union, with_rank}
use Rattle.rank_set.specs.Runs.{ranks_between, runs_of, ranks_of_runs}
use Rattle.rank_set.specs.WordLists.{words_of, set_word}

no_words : words_of none ≡ []
unfolding words_of
no_words = refl

words_with_a_gap : words_of (set_of (130 ∷ 64 ∷ 66 ∷ 256 ∷ [])) ≡ 5 ∷ 4 ∷ 0 ∷ 1 ∷ []
unfolding words_of set_word has with_rank
words_with_a_gap = refl

some_runs : runs_of (0 ∷ 1 ∷ 2 ∷ 7 ∷ []) ≡ (0, 2) ∷ (7, 7) ∷ []
some_runs = refl

ranks_of_some_runs : ranks_of_runs ((0, 2) ∷ (7, 7) ∷ []) ≡ set_of (0 ∷ 1 ∷ 2 ∷ 7 ∷ [])
unfolding union ranks_between with_rank
ranks_of_some_runs = refl
