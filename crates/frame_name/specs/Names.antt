-- The name of a frame: the function's, or where its call stands in its file.
use Rattle.std.specs.Prelude.{ℕ, Bool, ◌||◌, not, nat_eq, cond, List, [], ◌++◌, length, codes}
use Rattle.std.specs.Str.{bytes_eq}
use Rattle.symbol_name.specs.Symbols.{symbol}
use Rattle.frame_name.specs.Calls.{CallView}
use Rattle.frame_name.specs.Plain.{unknown, plain}
use Rattle.frame_name.specs.Fitted.{fitted}
use Rattle.frame_name.specs.Binaries.{binary_name, file_name, is_mpi, is_plugin}

-- whether a name is known
abbrev pub has_name : List ℕ → Bool
has_name name = not (nat_eq (length name) 0 || bytes_eq name unknown)

-- the function that a call is of; empty where its name isn't known
unfoldable pub function_of : CallView → List ℕ
function_of call = cond (has_name call.name) (symbol (is_mpi call.binary) call.name) []

-- what stands behind a function's name: the library's name, if two such libraries may have functions of one name
abbrev pub library_mark : List ℕ → List ℕ
library_mark binary = cond (is_plugin binary) (codes " (" ++ file_name binary ++ codes ")") []

-- where a call stands in its file; the innermost one is at another place from one moment to the next
abbrev pub offset_text : Bool → List ℕ → List ℕ
offset_text is_innermost offset = cond (is_innermost || nat_eq (length offset) 0) (codes "?") (codes "0x" ++ offset)

-- what is shown of a function with no name
abbrev pub place_text : Bool → CallView → List ℕ
place_text is_innermost call = cond (nat_eq (length call.binary) 0) unknown
    (binary_name call.binary ++ codes "+" ++ offset_text is_innermost call.offset)

-- what is shown of a call of a function
abbrev pub name_text : List ℕ → Bool → CallView → List ℕ
name_text function is_innermost call =
    cond (has_name call.name) (function ++ library_mark call.binary) (place_text is_innermost call)

abbrev pub shown_name : List ℕ → Bool → CallView → List ℕ
shown_name function is_innermost call = fitted (plain (name_text function is_innermost call))

-- the name of a call's frame
unfoldable pub name_of : Bool → CallView → List ℕ
name_of is_innermost call = shown_name (function_of call) is_innermost call
