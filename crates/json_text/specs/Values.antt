-- Values of JSON: lists and objects, numbers, and the text of a set of ranks.
use Rattle.std.specs.Prelude.{ℕ, pos, negsuc, List, [], ◌∷◌, Option, Some, None}
use Rattle.std.proofs.Math.IntN.{ℤ}
use Rattle.serde_json.specs.Data.{Data, Members, array, member, negative, no_members, null, number, object, string, unsigned}
use Rattle.serde_json.specs.View.{items_of}
use Rattle.rank_set.specs.Ranks.{Ranks}
use Rattle.rank_set.specs.Text.{text_of}

-- the members of an object
abbrev pub members : List (List ℕ × Data) → Members
members [] = no_members
members (m ∷ ms) = member m.0 m.1 (members ms)

-- an object with these members
abbrev pub object_of : List (List ℕ × Data) → Data
object_of ms = object (members ms)

-- a list of these values
abbrev pub list_of : List Data → Data
list_of values = array (items_of values)

-- a number
abbrev pub count : ℕ → Data
count n = number (unsigned n)

-- the text of a set of ranks; `0:[]` where there is none
abbrev pub ranks_data : Ranks → Data
ranks_data s = string (text_of s)

-- a number that there may be; `null` where there is none
abbrev pub value_data : Option ℤ → Data
value_data None = null
value_data (Some (pos n)) = number (unsigned n)
value_data (Some (negsuc n)) = number (negative (negsuc n))
