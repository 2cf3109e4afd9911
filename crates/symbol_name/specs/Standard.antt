-- The functions of the MPI standard.
use Rattle.std.specs.Prelude.{ℕ, Bool, List}
use Rattle.symbol_name.specs.declared.standard.TheConstants.{FUNCTIONS}
use Rattle.symbol_name.specs.Texts.{is_one_of}

-- whether a name is that of a function of the MPI standard 4.1 in C
unfoldable pub is_standard : List ℕ → Bool
is_standard name = is_one_of FUNCTIONS.now name
