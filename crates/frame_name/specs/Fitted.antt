-- Texts that are too long are given by their ends and by their SHA-256.
use Rattle.std.specs.Prelude.{◌≡◌, ℕ, Bool, ◌+◌, ◌-◌, ◌≤◌, ◌&&◌, nat_le, nat_lt, cond, List, ◌++◌, length, take, drop, codes}
use Rattle.std.specs.List.{prefix_len, suffix_len}
use Rattle.sha2.specs.Sha256.{sha256}
use Rattle.hex.specs.Hex.{encode_lower}

-- whether a byte goes on with a character of UTF-8 that an earlier byte begins
abbrev pub is_inside : ℕ → Bool
is_inside b = nat_le 128 b && nat_lt b 192

-- the whole characters among the first n bytes of a text that has more
abbrev pub whole_front : ℕ → List ℕ → List ℕ
whole_front n text = take (n - suffix_len is_inside (take (n + 1) text)) text

-- the whole characters among the last n bytes
abbrev pub without_inside : List ℕ → List ℕ
without_inside text = drop (prefix_len is_inside text) text

abbrev pub whole_back : ℕ → List ℕ → List ℕ
whole_back n text = without_inside (drop (length text - n) text)

-- the digits of a text's SHA-256, 64 of them
abbrev pub digits_of : List ℕ → List ℕ
digits_of text = encode_lower (sha256 text)

-- a text by its ends of n bytes
unfoldable pub shortened : ℕ → List ℕ → List ℕ
shortened n text = whole_front n text ++ codes "..(" ++ digits_of text ++ codes ").." ++ whole_back n text

-- a text that stays if it has at most so many bytes
unfoldable pub within : ℕ → ℕ → List ℕ → List ℕ
within most n text = cond (nat_le (length text) most) text (shortened n text)

-- a name of at most 740 bytes
abbrev pub fitted : List ℕ → List ℕ
fitted name = within 740 320 name

-- a text that looks as if it had been shortened: between two ends of at most n bytes it has the digits of something
pub record LooksShortened (n : ℕ) (text front digits back : List ℕ) : Type 0 where
  pub parts : text ≡ front ++ codes "..(" ++ digits ++ codes ").." ++ back
  pub front_len : length front ≤ n
  pub digits_len : length digits ≡ 64
  pub back_len : length back ≤ n
