-- The tokens of a topology text, each with its line.
use Rattle.std.specs.Prelude.{ℕ, ◌≡◌, zero, suc, ◌+◌, ◌-◌, Bool, true, false, ◌||◌, ◌&&◌, not, nat_eq, nat_le, cond, List, [], ◌∷◌, length, take, drop}
use Rattle.rank_set.specs.Digits.{digits_len}
use Rattle.text_lines.specs.Lines.{line_len}
use Rattle.std.specs.List.{prefix_len}
use Rattle.overlay_setup.specs.Names.{is_host_byte, begins}

-- a token, the end of the text, or bytes that are no token
pub data Piece : Type 0 where
  Arrow : Piece
  Semicolon : Piece
  Name : List ℕ → Piece
  End : Piece
  NoToken : Piece

-- spaces, tabs and carriage returns
abbrev pub is_space : ℕ → Bool
is_space b = nat_eq b 32 || nat_eq b 9 || nat_eq b 13

-- how many host bytes a text begins with
abbrev pub host_len : List ℕ → ℕ
host_len text = prefix_len is_host_byte text

-- 1 to 63 host bytes, `:`, and 1 to 5 digits without a leading zero, but `0` itself
abbrev pub is_name : ℕ → ℕ → List ℕ → ℕ → Bool
is_name host colon index digits =
    nat_le 1 host && nat_le host 63 && nat_eq colon 58 && nat_le 1 digits && nat_le digits 5 && (nat_eq digits 1 || not (begins 48 index))

-- the name that a text begins with, by what follows its host bytes: a colon, and all digits after it
abbrev pub name_after : List ℕ → ℕ → List ℕ → Piece
name_after text host [] = NoToken
name_after text host (colon ∷ index) =
    cond (is_name host colon index (digits_len index)) (Name (take (host + 1 + digits_len index) text)) NoToken

-- the name that a text begins with, by longest match
abbrev pub name_at : List ℕ → Piece
name_at text = name_after text (host_len text) (drop (host_len text) text)

-- the token that a text begins with
abbrev pub piece_at : List ℕ → Piece
piece_at text =
    cond (begins 59 text) Semicolon
    (cond (begins 61 text && begins 62 (drop 1 text)) Arrow
    (name_at text))

-- how many bytes a token has
abbrev pub piece_len : Piece → ℕ
piece_len Arrow = 2
piece_len Semicolon = 1
piece_len (Name name) = length name
piece_len End = 1
piece_len NoToken = 1

-- The tokens and the text's end from a line on, where the first bytes belong to the token or comment before.
-- `#` outside a token starts a comment that goes to the line's end.
unfoldable pub pieces : ℕ → ℕ → List ℕ → List (ℕ × Piece)
pieces line_number passed [] = (line_number, End) ∷ []
pieces line_number (suc passed) (b ∷ rest) = pieces line_number passed rest
pieces line_number zero (b ∷ rest) = elim (nat_eq b 10) [
  | true ↦ pieces (suc line_number) 0 rest
  | false ↦ elim (is_space b) [
    | true ↦ pieces line_number 0 rest
    | false ↦ elim (nat_eq b 35) [
      | true ↦ pieces line_number (line_len rest) rest
      | false ↦ (line_number, piece_at (b ∷ rest)) ∷ pieces line_number (piece_len (piece_at (b ∷ rest)) - 1) rest
    ]
  ]
]

-- a token or the end of the text is here: no blank and no comment
abbrev pub StopsAt : List ℕ → Type 0
StopsAt [] = Unit {0}
StopsAt (b ∷ rest) = (nat_eq b 10 ≡ false) × (is_space b ≡ false) × (nat_eq b 35 ≡ false)
