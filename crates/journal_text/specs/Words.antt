-- Words of a line, parted by spaces.
use Rattle.std.specs.Prelude.{ℕ, Bool, not, nat_eq, List}
use Rattle.std.specs.List.{list_all, prefix_len}

-- whether a text has no space
abbrev pub has_no_space : List ℕ → Bool
has_no_space text = list_all (λ b. not (nat_eq b 32)) text

-- how many bytes a text has before its first space
abbrev pub word_len : List ℕ → ℕ
word_len text = prefix_len (λ b. not (nat_eq b 32)) text
