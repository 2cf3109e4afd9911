-- The tables of directories and libraries.
use Rattle.std.specs.Prelude.{ℕ, Bool, List, [], ◌∷◌, codes}
use Rattle.std.specs.List.{list_any}
use Rattle.frame_name.specs.Texts.{begins_with}

-- whether a text begins with one of these
unfoldable pub begins_with_one : List (List ℕ) → List ℕ → Bool
begins_with_one beginnings text = list_any (λ beginning. begins_with beginning text) beginnings

-- the directories of the system's libraries
abbrev pub system_directories : List (List ℕ)
system_directories =
    codes "/lib/" ∷ codes "/lib32/" ∷ codes "/lib64/" ∷ codes "/libx32/"
    ∷ codes "/usr/lib/" ∷ codes "/usr/lib32/" ∷ codes "/usr/lib64/" ∷ codes "/usr/libx32/" ∷ []

unfoldable pub in_system : List ℕ → Bool
in_system path = begins_with_one system_directories path

-- what the names of MPI's libraries begin with
abbrev pub mpi_libraries : List (List ℕ)
mpi_libraries = codes "libmpi" ∷ codes "libpmpi" ∷ codes "libfmpi" ∷ []

unfoldable pub is_mpi_name : List ℕ → Bool
is_mpi_name name = begins_with_one mpi_libraries name

-- what the names of the other libraries begin with in which a rank waits for others
abbrev pub other_waiting_libraries : List (List ℕ)
other_waiting_libraries =
    codes "liboshmem" ∷ codes "libsma" ∷ codes "libnccl" ∷ codes "libgomp" ∷ codes "libomp" ∷ codes "libiomp5" ∷ []

unfoldable pub is_other_waiting_name : List ℕ → Bool
is_other_waiting_name name = begins_with_one other_waiting_libraries name
