-- The functions of MPI.
use Rattle.std.specs.Prelude.{ℕ, Bool, false, ◌&&◌, ◌||◌, ◌++◌, not, nat_eq, cond, List, [], ◌∷◌, drop, map, Option, None, Some, unwrap_or, codes}
use Rattle.std.specs.Char.{is_ascii_digit, is_ascii_uppercase, to_ascii_lowercase, to_ascii_uppercase}
use Rattle.std.specs.List.{list_all}
use Rattle.std.specs.Option.{option_and_then, option_or}
use Rattle.symbol_name.specs.Texts.{behind, before, ends_with, is_word_byte, begins_upper, begins_lower}

-- whether there is a text that begins with an upper-case letter
abbrev pub upper_follows : Option (List ℕ) → Bool
upper_follows None = false
upper_follows (Some rest) = begins_upper rest

-- whether a name goes on with one behind this beginning
abbrev pub upper_behind : List ℕ → List ℕ → Bool
upper_behind start name = upper_follows (behind start name)

-- `PMPI_X` and `PMPIX_X`, which profilers may call in place of `MPI_X` and `MPIX_X`
abbrev pub is_profiled : List ℕ → Bool
is_profiled name = upper_behind (codes "PMPI_") name || upper_behind (codes "PMPIX_") name

-- `MPI_X` and `MPIX_X` for those
abbrev pub without_profiling : List ℕ → List ℕ
without_profiling name = cond (is_profiled name) (drop 1 name) name

-- a function as Fortran's compilers write it: letters, digits and `_`, from a lower-case letter on and not up to a `_`
abbrev pub is_lower_word : List ℕ → Bool
is_lower_word word = begins_lower word && list_all is_word_byte word && not (ends_with (codes "_") word)

-- upper-case letters, digits and `_`
abbrev pub is_upper_byte : ℕ → Bool
is_upper_byte b = is_ascii_uppercase b || is_ascii_digit b || nat_eq b 95

-- whether a text begins with two upper-case letters
abbrev pub begins_upper_twice : List ℕ → Bool
begins_upper_twice [] = false
begins_upper_twice (b ∷ rest) = is_ascii_uppercase b && begins_upper rest

-- the same in upper case alone, from two letters on
abbrev pub is_upper_word : List ℕ → Bool
is_upper_word word = begins_upper_twice word && list_all is_upper_byte word && not (ends_with (codes "_") word)

-- a word, if it passes
abbrev pub kept : (List ℕ → Bool) → List ℕ → Option (List ℕ)
kept passes word = cond (passes word) (Some word) None

-- what is left of a name before the mark of the module `mpi_f08` at its end
abbrev pub before_f08 : List ℕ → Option (List ℕ)
before_f08 name = option_or (before (codes "_f08") name) (option_or (before (codes "_f08_") name)
    (option_or (before (codes "_f08ts") name) (before (codes "_f08ts_") name)))

-- a name without that mark
abbrev pub without_f08 : List ℕ → List ℕ
without_f08 name = unwrap_or (before_f08 name) name

-- a name without up to two `_` at its end
abbrev pub without_underscores : List ℕ → List ℕ
without_underscores name = unwrap_or (option_or (before (codes "__") name) (before (codes "_") name)) name

-- the x of `mpi_x`, `mpi_x_`, `mpi_x__`, and the same with `pmpi_`
abbrev pub mangled_word : List ℕ → Option (List ℕ)
mangled_word name = option_and_then (λ rest. kept is_lower_word (without_underscores rest))
    (option_or (behind (codes "mpi_") name) (behind (codes "pmpi_") name))

-- the x of `ompi_mpi_x`, the function of Open MPI to which `MPI_X` jumps at its end
abbrev pub tail_word : List ℕ → Option (List ℕ)
tail_word name = option_and_then (kept is_lower_word) (behind (codes "ompi_mpi_") name)

-- the x of `ompi_x_f`
abbrev pub open_mpi_word : List ℕ → Option (List ℕ)
open_mpi_word name = option_and_then (kept is_lower_word) (option_and_then (before (codes "_f")) (behind (codes "ompi_") name))

-- the X of `MPI_X` in upper case alone
abbrev pub capital_word : List ℕ → Option (List ℕ)
capital_word name = option_and_then (kept is_upper_word) (behind (codes "MPI_") name)

-- which function of MPI a name without that mark says, other than in C
abbrev pub plain_word : List ℕ → Option (List ℕ)
plain_word name = option_or (mangled_word name) (option_or (tail_word name) (option_or (open_mpi_word name) (capital_word name)))

-- the same with the mark
abbrev pub fortran_word : List ℕ → Option (List ℕ)
fortran_word name = plain_word (without_f08 name)

-- a word with its first letter upper case, all others lower case
abbrev pub capitalized : List ℕ → List ℕ
capitalized [] = []
capitalized (b ∷ rest) = to_ascii_uppercase b ∷ map to_ascii_lowercase rest

-- a function's name in C, or the name where it says no such function
abbrev pub in_c : List ℕ → Option (List ℕ) → List ℕ
in_c name None = name
in_c name (Some word) = codes "MPI_" ++ capitalized word

-- the name in C of a name in MPI's own libraries
abbrev pub c_name : List ℕ → List ℕ
c_name name = in_c name (fortran_word name)

-- one name for the names of MPI's functions
abbrev pub mpi_name : Bool → List ℕ → List ℕ
mpi_name in_mpi name = cond in_mpi (c_name (without_profiling name)) (without_profiling name)
