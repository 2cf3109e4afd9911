-- A text as a frame of any length: UTF-8 with no control byte, no `;` and no blank at its ends, and never empty.
use Rattle.std.specs.Prelude.{ℕ, Bool, ◌&&◌, ◌||◌, not, nat_eq, nat_lt, cond, List, [], ◌∷◌, ◌++◌, map, drop, codes}
use Rattle.std.specs.List.{prefix_len}
use Rattle.std.specs.Str.Lossy.{utf8_lossy}
use Rattle.frame_name.specs.Texts.{begins_with, closes_with, before_last_bytes}

-- a byte below 32, or 127
abbrev pub is_control : ℕ → Bool
is_control b = nat_lt b 32 || nat_eq b 127

-- a byte of a frame: a `;` becomes a `:`, and a control byte a blank
abbrev pub plain_byte : ℕ → ℕ
plain_byte b = cond (is_control b) 32 (cond (nat_eq b 59) 58 b)

abbrev pub is_blank : ℕ → Bool
is_blank b = nat_eq b 32

-- a text without the blanks that it begins with, and without those at both ends
abbrev pub without_blanks : List ℕ → List ℕ
without_blanks text = drop (prefix_len is_blank text) text

abbrev pub trimmed : List ℕ → List ℕ
trimmed text = before_last_bytes is_blank (without_blanks text)

-- what stands for a function that isn't known
abbrev pub unknown : List ℕ
unknown = codes "??"

-- a frame that is a remark of this program, and no function; in functions' names compilers write `(anonymous namespace)`
abbrev pub is_remark : List ℕ → Bool
is_remark text =
    begins_with (codes "(") text && (closes_with (codes ")") text && not (begins_with (codes "(anonymous") text))

-- the text, or `??` where there is none; and with `??` before it where it would be taken for a remark
abbrev pub or_unknown : List ℕ → List ℕ
or_unknown [] = unknown
or_unknown (b ∷ text) = cond (is_remark (b ∷ text)) (unknown ++ b ∷ text) (b ∷ text)

-- a text as a frame of any length
unfoldable pub plain : List ℕ → List ℕ
plain text = or_unknown (trimmed (map plain_byte (utf8_lossy text)))
