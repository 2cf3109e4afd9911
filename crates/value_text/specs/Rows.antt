-- Values texts where the ranks 0 to 3 are on a daemon, and what they say.
use Rattle.std.specs.Prelude.{◌≡◌, refl, ℕ, pos, negsuc, List, [], ◌∷◌, ◌++◌, None, Some, Result, Ok, Err, codes}
use Rattle.std.specs.Str.{is_utf8, chars}
use Rattle.rank_set.specs.Ranks.{set_of, has, those, union, with_rank}
use Rattle.rank_set.specs.Runs.{ranks_between}
use Rattle.rank_set.specs.RanksText.{items, item_at, ranks_at}
use Rattle.text_lines.specs.Lines.{pieces, words}
use Rattle.text_lines.specs.Parsing.{parsed_lines}
use Rattle.text_lines.specs.RanksWords.{ranks_on}
use Rattle.text_lines.specs.declared.text_error.TextError.{TextError}
use Rattle.text_lines.specs.declared.text_error.TextError.TheVariants.{Bad, Over}
use Rattle.text_lines.specs.declared.text_error.Reason.TheVariants.{NotUtf8, BadDirective, BadRanks, Unplaced, ValueTwice, BadValue}
use Rattle.text_lines.specs.declared.text_error.Quantity.TheVariants as quantity
use Rattle.value_text.specs.Numbers.{Numbers}
use Rattle.value_text.specs.Words.{number_text}
use Rattle.value_text.specs.Steps.{with_value, with_line, values_of_text}

abbrev line : List ℕ → List ℕ
line text = text ++ 10 ∷ []

-- what a text says
abbrev parsed : List ℕ → Result Numbers TextError
parsed text = values_of_text (set_of (0 ∷ 1 ∷ 2 ∷ 3 ∷ [])) text

three_ranks : parsed (line (codes "value 0 5") ++ line (codes "# x") ++ line (codes " value 1-2  -3 " ++ 13 ∷ [])) ≡ Ok (Some (pos 5) ∷ Some (negsuc 2) ∷ Some (negsuc 2) ∷ [])
unfolding pieces words has those union with_rank ranks_between items item_at ranks_at is_utf8 chars ranks_on with_value with_line number_text parsed_lines lib.Utf8.encode
three_ranks = refl

-- the list goes up to the last rank with a number
one_rank : parsed (codes "value 2 0") ≡ Ok (None ∷ None ∷ Some (pos 0) ∷ [])
unfolding pieces words has those union with_rank ranks_between items item_at ranks_at is_utf8 chars ranks_on with_value with_line number_text parsed_lines lib.Utf8.encode
one_rank = refl

no_text : parsed [] ≡ Ok []
unfolding pieces parsed_lines
no_text = refl

-- a rank that is named twice on one line has one value
named_twice : parsed (codes "value 0,0 5") ≡ Ok (Some (pos 5) ∷ [])
unfolding pieces words has those union with_rank ranks_between items item_at ranks_at is_utf8 chars ranks_on with_value with_line number_text parsed_lines lib.Utf8.encode
named_twice = refl

-- a second value is refused, even where it is no value, or the same one
second_value : parsed (line (codes "value 0 5") ++ codes "value 1,0 x") ≡ Err (Bad 2 ValueTwice)
unfolding pieces words has those union with_rank ranks_between items item_at ranks_at is_utf8 chars ranks_on with_value with_line number_text parsed_lines lib.Utf8.encode
second_value = refl

unplaced : parsed (line (codes "value 3 5") ++ codes "value 3-4 x") ≡ Err (Bad 2 Unplaced)
unfolding pieces words has those union with_rank ranks_between items item_at ranks_at is_utf8 chars ranks_on with_value with_line number_text parsed_lines lib.Utf8.encode
unplaced = refl

bad_value : parsed (codes "value 1 5.") ≡ Err (Bad 1 BadValue)
unfolding pieces words has those union with_rank ranks_between items item_at ranks_at is_utf8 chars ranks_on with_value with_line number_text parsed_lines lib.Utf8.encode
bad_value = refl

bad_ranks : parsed (codes "value 1- 5") ≡ Err (Bad 1 BadRanks)
unfolding pieces words has union with_rank ranks_between items item_at ranks_at is_utf8 chars ranks_on with_value with_line parsed_lines lib.Utf8.encode
bad_ranks = refl

over_ranks : parsed (codes "value 4,1048576 5") ≡ Err (Over 1 quantity.Ranks 1048576)
unfolding pieces words has union with_rank ranks_between items item_at ranks_at is_utf8 chars ranks_on with_value with_line parsed_lines lib.Utf8.encode
over_ranks = refl

few_words : parsed (codes "value 1 ") ≡ Err (Bad 1 BadDirective)
unfolding pieces words is_utf8 chars with_line parsed_lines lib.Utf8.encode
few_words = refl

many_words : parsed (codes "value 1 2 3") ≡ Err (Bad 1 BadDirective)
unfolding pieces words is_utf8 chars with_line parsed_lines lib.Utf8.encode
many_words = refl

other_word : parsed (codes "values 1 2") ≡ Err (Bad 1 BadDirective)
unfolding pieces words is_utf8 chars with_line parsed_lines lib.Utf8.encode
other_word = refl

not_utf8 : parsed (line [] ++ line (codes "#" ++ 255 ∷ []) ++ 255 ∷ []) ≡ Err (Bad 3 NotUtf8)
unfolding pieces words is_utf8 chars with_line parsed_lines lib.Utf8.encode
not_utf8 = refl

minus_zero : number_text (codes "-0") ≡ Some (pos 0)
unfolding number_text
minus_zero = refl

leading_zeros : number_text (codes "0000000000007") ≡ Some (pos 7)
unfolding number_text
leading_zeros = refl

-- leading zeros count among the digits
fourteen_digits : number_text (codes "00000000000007") ≡ None
unfolding number_text
fourteen_digits = refl

no_digit : number_text (codes "-") ≡ None
unfolding number_text
no_digit = refl

two_signs : number_text (codes "--5") ≡ None
unfolding number_text
two_signs = refl

plus_sign : number_text (codes "+5") ≡ None
unfolding number_text
plus_sign = refl

least : number_text (codes "-1000000000000") ≡ Some (negsuc 999999999999)
unfolding number_text
least = refl

largest : number_text (codes "1000000000000") ≡ Some (pos 1000000000000)
unfolding number_text
largest = refl

too_large : number_text (codes "1000000000001") ≡ None
unfolding number_text
too_large = refl

too_small : number_text (codes "-1000000000001") ≡ None
unfolding number_text
too_small = refl
