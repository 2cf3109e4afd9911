-- For private clauses: the tokens of a value, and of parts of one.
use Rattle.std.specs.Prelude.{ℕ, List, ◌∷◌}
use Rattle.json.specs.Token.{Token, key}
use Rattle.json.specs.Tree.{items_tokens, json_tokens}
use Rattle.serde_json.specs.Data.{Data}
use Rattle.serde_json.specs.View.{items_of}
use Rattle.serde_json.specs.Written.{items_outline, outline}

-- the tokens of a value
abbrev pub value_tokens : Data → List Token
value_tokens d = json_tokens (outline d)

-- those of a key and a value
abbrev pub member_tokens : List ℕ → Data → List Token
member_tokens k d = key k ∷ value_tokens d

-- those of the values that are left of a list, and of its end
abbrev pub rest_tokens : List Data → List Token
rest_tokens values = items_tokens (items_outline (items_of values))
