-- What is shown of the source file and the line that a call stands at: ` (FILE)@LINE`.
use Rattle.std.specs.Prelude.{ℕ, Bool, ◌+◌, ◌-◌, ◌&&◌, ◌||◌, not, nat_eq, nat_lt, nat_le, cond, List, [], ◌++◌, length, take, map, codes, decimal}
use Rattle.std.specs.Char.{is_ascii_digit}
use Rattle.std.specs.List.{suffix_len}
use Rattle.std.specs.Str.Lossy.{utf8_lossy}
use Rattle.frame_name.specs.Calls.{CallView}
use Rattle.frame_name.specs.Texts.{begins_with, closes_with, last_bytes, before_last_bytes, base_name}
use Rattle.frame_name.specs.Plain.{is_control, is_blank}
use Rattle.frame_name.specs.Fitted.{within}

-- a byte of a file's name: a `;` becomes a `:`, and a blank or a control byte a `_`
abbrev pub file_byte : ℕ → ℕ
file_byte b = cond (is_control b || is_blank b) 95 (cond (nat_eq b 59) 58 b)

-- a file's name, of at most 255 bytes
unfoldable pub file_text : List ℕ → List ℕ
file_text file = within 255 90 (map file_byte (utf8_lossy (base_name file)))

-- whether the file and the line are known; a line has at most nine digits
abbrev pub has_line : CallView → Bool
has_line call = nat_lt 0 (length (base_name call.file)) && (nat_lt 0 call.line && nat_le call.line 999999999)

unfoldable pub line_of : CallView → List ℕ
line_of call = cond (has_line call) (codes " (" ++ file_text call.file ++ codes ")@" ++ decimal call.line) []

-- what stands behind a text's last blank
abbrev pub last_word : List ℕ → List ℕ
last_word text = last_bytes (λ b. not (is_blank b)) text

-- whether that is `(FILE)@LINE`
abbrev pub is_line_word : List ℕ → Bool
is_line_word word = begins_with (codes "(") word
    && (nat_lt 0 (suffix_len is_ascii_digit word) && closes_with (codes ")@") (before_last_bytes is_ascii_digit word))

abbrev pub ends_in_line : List ℕ → Bool
ends_in_line text = is_line_word (last_word text)

-- a text without ` (FILE)@LINE` at its end
unfoldable pub unlined : List ℕ → List ℕ
unlined text = cond (ends_in_line text) (take (length text - (length (last_word text) + 1)) text) text
