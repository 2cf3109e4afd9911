-- What the code's tokens mean.
use denote.Bor.{Bor}
use Rattle.std.specs.Prelude.{ℕ, List, Option, None, Some}
use Rattle.topology_text.specs.declared.tokens.Token.{Token}
use Rattle.topology_text.specs.declared.tokens.Token.TheVariants as token
use Rattle.topology_text.specs.Tokens.{Piece, Arrow, Semicolon, Name, NoToken, piece_len}

-- what a token means
abbrev pub token_view : Token → Piece
token_view token.Arrow = Arrow
token_view token.Semicolon = Semicolon
token_view (token.Name name) = Name name.now

-- what is found where a token is looked for
abbrev pub token_view_at : Option Token → Piece
token_view_at None = NoToken
token_view_at (Some token) = token_view token

-- how many bytes a token has
abbrev pub token_bytes : Token → ℕ
token_bytes token = piece_len (token_view token)

-- the name that is found
abbrev pub named : Option (Bor (List ℕ)) → Piece
named None = NoToken
named (Some name) = Name name.now
