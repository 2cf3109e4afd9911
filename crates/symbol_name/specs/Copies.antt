-- A symbol without the marks at its end that compilers put on copies of a function, and linkers on versions.
use Rattle.std.specs.Prelude.{ℕ, Bool, ◌&&◌, ◌||◌, not, nat_eq, cond, List, [], ◌∷◌, length, Option, None, Some, option_map, codes}
use Rattle.std.specs.Char.{is_ascii_digit}
use Rattle.std.specs.List.{list_all}
use Rattle.std.specs.Option.{option_and_then, option_or}
use Rattle.std.specs.Str.{bytes_eq}
use Rattle.symbol_name.specs.Repeats.{settled}
use Rattle.symbol_name.specs.Texts.{begins_with, before, is_word_byte, begins_upper, end_run, before_run, is_one_of}

-- one or more digits
abbrev pub is_number : List ℕ → Bool
is_number word = not (nat_eq (length word) 0) && list_all is_ascii_digit word

-- whether a word says what a copy was made for: an optimization, or a processor
abbrev pub is_copy_word : List ℕ → Bool
is_copy_word word =
    is_one_of (codes "isra part constprop cold lto_priv localalias llvm default") word
    || begins_with (codes "avx") word || begins_with (codes "sse") word || begins_with (codes "fma") word
    || begins_with (codes "arch_") word

-- a text without the `.` and the number at its end
abbrev pub without_number : List ℕ → Option (List ℕ)
without_number text =
    cond (is_number (end_run is_word_byte text)) (before (codes ".") (before_run is_word_byte text)) None

-- a text without the `.` and the word for a copy at its end
abbrev pub without_copy_word : List ℕ → Option (List ℕ)
without_copy_word text =
    cond (is_copy_word (end_run is_word_byte text)) (before (codes ".") (before_run is_word_byte text)) None

-- a text without the word for a copy at its end and the numbers behind it: `.isra.0`
abbrev pub without_part : List ℕ → Option (List ℕ)
without_part text = without_copy_word (settled without_number text)

-- a text without all such words at its end, if there is one: `.part.0.isra.3`
abbrev pub without_parts : List ℕ → Option (List ℕ)
without_parts text = option_map (settled without_part) (without_part text)

-- a text without such words in brackets at its end: ` [clone .constprop.0]`
abbrev pub without_bracket : List ℕ → Option (List ℕ)
without_bracket text = option_and_then (before (codes " [clone ")) (option_and_then without_parts (before (codes "]") text))

-- a version has no blank and no `@`
abbrev pub is_version_byte : ℕ → Bool
is_version_byte b = not (nat_eq b 32 || nat_eq b 64)

-- whether a version may stand behind a single `@`
abbrev pub is_version : List ℕ → Bool
is_version version = begins_upper version || bytes_eq version (codes "plt")

-- a text without the version at its end: `@@GLIBC_2.34`, `@GLIBC_2.2.5`, `@plt`
abbrev pub without_version : List ℕ → Option (List ℕ)
without_version text =
    option_or (before (codes "@@") (before_run is_version_byte text))
    (cond (is_version (end_run is_version_byte text)) (before (codes "@") (before_run is_version_byte text)) None)

-- a mark never takes all of a name
abbrev pub unless_empty : List ℕ → Option (List ℕ)
unless_empty [] = None
unless_empty (b ∷ name) = Some (b ∷ name)

-- a name without the mark at its end; none where there is no mark
abbrev pub without_mark : List ℕ → Option (List ℕ)
without_mark name = option_and_then unless_empty (option_or (without_bracket name) (option_or (without_part name) (without_version name)))

-- a name without the marks at its end
abbrev pub without_copies : List ℕ → List ℕ
without_copies name = settled without_mark name
