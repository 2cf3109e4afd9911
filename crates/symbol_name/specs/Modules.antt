-- Functions in modules of Fortran.
use Rattle.std.specs.Prelude.{ℕ, Bool, ◌&&◌, ◌||◌, ◌++◌, not, nat_eq, cond, List, length, Option, None, Some, codes}
use Rattle.std.specs.Char.{is_ascii_digit, is_ascii_lowercase}
use Rattle.std.specs.List.{list_all}
use Rattle.std.specs.Option.{option_and_then, option_or}
use Rattle.symbol_name.specs.Texts.{behind, before, is_word, cut_at}

-- lower-case letters, digits and `_`
abbrev pub is_lower_byte : ℕ → Bool
is_lower_byte b = is_ascii_lowercase b || is_ascii_digit b || nat_eq b 95

-- one or more of them
abbrev pub is_lower : List ℕ → Bool
is_lower text = not (nat_eq (length text) 0) && list_all is_lower_byte text

-- a module and a function, if both pass
abbrev pub both_pass : (List ℕ → Bool) → List ℕ × List ℕ → Option (List ℕ × List ℕ)
both_pass passes cut = cond (passes cut.0 && passes cut.1) (Some cut) None

-- gfortran's `__m_MOD_f`
abbrev pub gfortran_parts : List ℕ → Option (List ℕ × List ℕ)
gfortran_parts name = option_and_then (both_pass is_word) (option_and_then (cut_at (codes "_MOD_")) (behind (codes "__") name))

-- ifort's `m_mp_f_`
abbrev pub ifort_parts : List ℕ → Option (List ℕ × List ℕ)
ifort_parts name = option_and_then (both_pass is_word) (option_and_then (cut_at (codes "_mp_")) (before (codes "_") name))

-- flang's `_QMmPf`
abbrev pub flang_parts : List ℕ → Option (List ℕ × List ℕ)
flang_parts name = option_and_then (both_pass is_lower) (option_and_then (cut_at (codes "P")) (behind (codes "_QM") name))

-- the module and the function that a name says
abbrev pub module_parts : List ℕ → Option (List ℕ × List ℕ)
module_parts name = option_or (gfortran_parts name) (option_or (ifort_parts name) (flang_parts name))

-- `m::f`, or the name where it says no module
abbrev pub in_module : List ℕ → Option (List ℕ × List ℕ) → List ℕ
in_module name None = name
in_module name (Some parts) = parts.0 ++ codes "::" ++ parts.1

abbrev pub module_name : List ℕ → List ℕ
module_name name = in_module name (module_parts name)
