-- Texts, sets and words, and what the definitions say of them. Each row is computed.
use Rattle.std.specs.Prelude.{◌≡◌, true, false, refl, not, [], ◌∷◌, Ok, Err, codes}
use Rattle.std.specs.Fmt.{digits}
use Rattle.rank_set.specs.declared.read.RanksError.TheVariants.{Empty, BadNumber, Backward, OverLimit}
use Rattle.rank_set.specs.Ranks.{none, has, set_of, union, with_rank, those}
use Rattle.rank_set.specs.Runs.{ranks_between}
use Rattle.rank_set.specs.Words.{word_at, ranks_in, offset_of, spans}
use Rattle.rank_set.specs.Text.{text_of}
use Rattle.rank_set.specs.RanksText.{ranks_text, ranks_at, items, item_at}

-- texts that are refused, and where

empty : ranks_text [] ≡ Err Empty
empty = refl

two_commas : ranks_text (codes "1,,2") ≡ Err (BadNumber 2)
unfolding ranks_at items item_at
two_commas = refl

comma_last : ranks_text (codes "1,") ≡ Err (BadNumber 2)
unfolding ranks_at items item_at
comma_last = refl

comma_first : ranks_text (codes ",1") ≡ Err (BadNumber 0)
unfolding ranks_at items item_at
comma_first = refl

backward : ranks_text (codes "3-1") ≡ Err (Backward 2)
unfolding ranks_at items item_at
backward = refl

backward_then_x : ranks_text (codes "5-3x") ≡ Err (Backward 2)
unfolding ranks_at items item_at
backward_then_x = refl

backward_later : ranks_text (codes "10,8,20-18") ≡ Err (Backward 8)
unfolding ranks_at items item_at union ranks_between with_rank
backward_later = refl

over : ranks_text (codes "1048576x") ≡ Err (OverLimit 0)
unfolding ranks_at items item_at
over = refl

over_then_dash : ranks_text (codes "1048576-") ≡ Err (OverLimit 0)
unfolding ranks_at items item_at
over_then_dash = refl

over_second : ranks_text (codes "5-2000000") ≡ Err (OverLimit 2)
unfolding ranks_at items item_at
over_second = refl

dash_last : ranks_text (codes "5-") ≡ Err (BadNumber 2)
unfolding ranks_at items item_at
dash_last = refl

two_dashes : ranks_text (codes "1-2-3") ≡ Err (BadNumber 3)
unfolding ranks_at items item_at
two_dashes = refl

-- texts that are read

overlapping : ranks_text (codes "7,0-2,1") ≡ Ok (set_of (0 ∷ 1 ∷ 2 ∷ 7 ∷ []))
unfolding ranks_at items item_at union ranks_between with_rank
overlapping = refl

leading_zeros : ranks_text (codes "007,00-02") ≡ Ok (set_of (0 ∷ 1 ∷ 2 ∷ 7 ∷ []))
unfolding ranks_at items item_at union ranks_between with_rank
leading_zeros = refl

-- sets and their texts

some_text : text_of (set_of (7 ∷ 2 ∷ 0 ∷ 1 ∷ [])) ≡ codes "4:[0-2,7]"
unfolding with_rank digits
some_text = refl

no_text : text_of none ≡ codes "0:[]"
unfolding digits
no_text = refl

two_united : union (set_of (0 ∷ 1 ∷ [])) (set_of (1 ∷ 2 ∷ [])) ≡ set_of (0 ∷ 1 ∷ 2 ∷ [])
unfolding union with_rank
two_united = refl

one_less : those (λ r. not (has (set_of (1 ∷ [])) r)) (set_of (0 ∷ 1 ∷ 2 ∷ [])) ≡ set_of (0 ∷ 2 ∷ [])
unfolding those has with_rank
one_less = refl

a_run : ranks_between 3 5 ≡ set_of (3 ∷ 4 ∷ 5 ∷ [])
unfolding ranks_between with_rank
a_run = refl

no_run : ranks_between 5 3 ≡ none
unfolding ranks_between with_rank
no_run = refl

-- words

two_in_second_word : ranks_in 1 (5 ∷ []) ≡ set_of (64 ∷ 66 ∷ [])
unfolding ranks_in word_at those with_rank
two_in_second_word = refl

second_word : offset_of (set_of (64 ∷ 66 ∷ [])) ≡ 1
unfolding with_rank
second_word = refl

-- words that hold the ranks of another set

within_words : spans (set_of (100 ∷ 200 ∷ [])) (set_of (64 ∷ 255 ∷ [])) ≡ true
unfolding spans with_rank
within_words = refl

below_words : spans (set_of (100 ∷ 200 ∷ [])) (set_of (63 ∷ 200 ∷ [])) ≡ false
unfolding spans with_rank
below_words = refl

past_words : spans (set_of (100 ∷ 200 ∷ [])) (set_of (100 ∷ 256 ∷ [])) ≡ false
unfolding spans with_rank
past_words = refl

no_words : spans none (set_of (0 ∷ [])) ≡ false
unfolding spans with_rank
no_words = refl

no_ranks : spans none none ≡ true
unfolding spans
no_ranks = refl
