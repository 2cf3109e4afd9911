-- What the parts of a text are, so that it is read back as these parts.
use Rattle.std.specs.Prelude.{◌≡◌, ◌<◌, ℕ, Bool, true, ◌&&◌, nat_le, nat_lt, List, ◌∷◌, length}
use Rattle.std.specs.List.{list_all, AllByRecursion}
use Rattle.overlay_setup.specs.Names.{IsName}
use Rattle.topology_text.specs.Grammar.{Statement}
use Rattle.generated_job.specs.Texts.{statement}

-- printable ASCII
abbrev pub is_printable : ℕ → Bool
is_printable b = nat_le 32 b && nat_lt b 127

-- printable ASCII other than a space
abbrev pub is_graphic : ℕ → Bool
is_graphic b = nat_lt 32 b && nat_lt b 127

-- one or more graphic bytes
abbrev pub IsWord : List ℕ → Type 0
IsWord word = (0 < length word) × (list_all is_graphic word ≡ true)

-- printable bytes
abbrev pub IsLine : List ℕ → Type 0
IsLine line = list_all is_printable line ≡ true

-- the line of a statement
abbrev pub statement_line : Statement → List ℕ
statement_line s = statement s.parent (s.child ∷ s.others)

-- a statement of well-formed names
pub record IsGoodStatement (s : Statement) : Type 0 where
  pub parent : IsName s.parent
  pub child : IsName s.child
  pub others : AllByRecursion IsName s.others
