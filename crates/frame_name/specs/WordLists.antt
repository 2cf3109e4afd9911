-- Words that there may be.
use Rattle.std.specs.Prelude.{ℕ, List, [], Option, None, Some}
use Rattle.call_path.specs.Path.{Path}

-- the words, or none
abbrev pub words_of : Option Path → List (List ℕ)
words_of None = []
words_of (Some path) = path
