-- The executable or the shared library that a function is in.
use Rattle.std.specs.Prelude.{ℕ, Bool, ◌&&◌, ◌||◌, not, nat_eq, nat_lt, cond, List, ◌++◌, length, take, codes}
use Rattle.std.specs.Char.{is_ascii_digit}
use Rattle.std.specs.List.{prefix_len}
use Rattle.frame_name.specs.Texts.{begins_with, closes_with, last_bytes, before_last_bytes, base_name}
use Rattle.frame_name.specs.Tables.{in_system, is_mpi_name, is_other_waiting_name}

-- digits and dots
abbrev pub is_version : ℕ → Bool
is_version b = is_ascii_digit b || nat_eq b 46

-- a shared library's name without its version: `.so`, a dot, and digits and dots to the end
unfoldable pub without_version : List ℕ → List ℕ
without_version name =
    let stem = before_last_bytes is_version name in
    cond (closes_with (codes ".so") stem && begins_with (codes ".") (last_bytes is_version name)) stem name

-- the name that a file is called by
unfoldable pub file_name : List ℕ → List ℕ
file_name binary = without_version (base_name binary)

-- what is no file has a name in brackets, and perhaps a process's number in it
abbrev pub is_bracketed : List ℕ → Bool
is_bracketed binary = begins_with (codes "[") binary

abbrev pub before_colon : List ℕ → List ℕ
before_colon name = take (prefix_len (λ b. not (nat_eq b 58)) name) name

unfoldable pub without_number : List ℕ → List ℕ
without_number name = cond (nat_lt (length (before_colon name)) (length name)) (before_colon name ++ codes "]") name

-- the name that an executable, a shared library or what is no file is called by
unfoldable pub binary_name : List ℕ → List ℕ
binary_name binary = cond (is_bracketed binary) (without_number binary) (file_name binary)

-- whether it is lent by the kernel
abbrev pub is_lent : List ℕ → Bool
is_lent binary = is_bracketed binary || begins_with (codes "linux-vdso") (base_name binary)

-- whether it is known, and a file
unfoldable pub is_file : List ℕ → Bool
is_file binary = nat_lt 0 (length binary) && not (is_lent binary)

unfoldable pub is_shared : List ℕ → Bool
is_shared binary = is_file binary && closes_with (codes ".so") (file_name binary)

-- whether it is the program
unfoldable pub is_program : List ℕ → Bool
is_program binary = is_file binary && not (is_shared binary || in_system binary)

-- whether it is a library of MPI; and whether it is one in which a rank waits for others
unfoldable pub is_mpi : List ℕ → Bool
is_mpi binary = is_shared binary && is_mpi_name (base_name binary)

unfoldable pub waits : List ℕ → Bool
waits binary = is_mpi binary || (is_shared binary && is_other_waiting_name (base_name binary))

-- whether it is a library that came with the program or that the program loaded, so that names in it are its own
unfoldable pub is_plugin : List ℕ → Bool
is_plugin binary = is_shared binary && not (in_system binary || waits binary)
