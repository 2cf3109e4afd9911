-- Names of nodes: a host, a colon and an index, as `node12:0`.
use Rattle.std.specs.Prelude.{◌≡◌, ◌≤◌, ℕ, Bool, true, false, ◌||◌, not, nat_eq, List, [], ◌∷◌, ◌++◌, length, Option, slice_index_or}
use Rattle.std.specs.Char.{is_ascii_digit, is_ascii_alphanumeric}
use Rattle.std.specs.List.{list_all, position}
use Rattle.std.specs.Str.{bytes_eq}

-- letters, digits, `.`, `-` and `_`
abbrev pub is_host_byte : ℕ → Bool
is_host_byte b = is_ascii_alphanumeric b || nat_eq b 46 || nat_eq b 45 || nat_eq b 95

-- whether a text begins with this byte
abbrev pub begins : ℕ → List ℕ → Bool
begins c [] = false
begins c (b ∷ bs) = nat_eq b c

-- 1 to 63 host bytes, `:`, and 1 to 5 digits without a leading zero, but `0` itself
pub record IsName (name : List ℕ) : Type 0 where
  pub host : List ℕ
  pub index : List ℕ
  pub parts : name ≡ host ++ 58 ∷ index
  pub host_bytes : list_all is_host_byte host ≡ true
  pub has_host : 1 ≤ length host
  pub host_within_limit : length host ≤ 63
  pub digits : list_all is_ascii_digit index ≡ true
  pub has_digits : 1 ≤ length index
  pub digits_within_limit : length index ≤ 5
  pub no_leading_zero : (nat_eq (length index) 1 || not (begins 48 index)) ≡ true

-- the name of a node, where names stand in order of number
abbrev pub name_of : List (List ℕ) → ℕ → List ℕ
name_of names n = slice_index_or names n []

-- the number of the node with a name
unfoldable pub number_of : List ℕ → List (List ℕ) → Option ℕ
number_of name names = position (bytes_eq name) names
