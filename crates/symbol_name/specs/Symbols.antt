-- One name for a function that compilers, linkers and MPI libraries call by several; and what names alone tell.
use Rattle.std.specs.Prelude.{ℕ, Bool, true, false, ◌||◌, not, cond, List, [], ◌∷◌, Option, None, Some, codes}
use Rattle.std.specs.Str.{bytes_eq}
use Rattle.symbol_name.specs.Copies.{without_copies}
use Rattle.symbol_name.specs.Modules.{module_name}
use Rattle.symbol_name.specs.Mpi.{mpi_name}
use Rattle.symbol_name.specs.Texts.{behind, is_word_byte, is_one_of}

-- the mark of a signal in a stack: the function to which its handler returns
abbrev pub signal_mark : List ℕ
signal_mark = codes "<signal handler called>"

abbrev pub is_signal : List ℕ → Bool
is_signal name = is_one_of (codes "__restore_rt __kernel_rt_sigreturn") name || bytes_eq name signal_mark

-- one name for a function's names without the marks of copies
abbrev pub original_symbol : Bool → List ℕ → List ℕ
original_symbol in_mpi name = cond (is_signal name) signal_mark (mpi_name in_mpi (module_name name))

-- one name for a function's names; `in_mpi` says whether it is in a library of MPI's own
abbrev pub symbol : Bool → List ℕ → List ℕ
symbol in_mpi name = original_symbol in_mpi (without_copies name)

-- whether a function stands below a program's own beginning
abbrev pub is_program_start : List ℕ → Bool
is_program_start name =
    is_one_of (codes "_start _dl_start generic_start_main") name
    || is_one_of (codes "__libc_start_main __libc_start_call_main __libc_start_main_impl") name

-- or below that of a thread
abbrev pub is_start : List ℕ → Bool
is_start name = is_program_start name || is_one_of (codes "start_thread clone __clone clone3 __clone3") name

-- whether there is a text that doesn't go on with a letter, a digit or `_`
abbrev pub word_ends : Option (List ℕ) → Bool
word_ends None = false
word_ends (Some []) = true
word_ends (Some (b ∷ rest)) = not (is_word_byte b)

-- whether a name begins with some words
abbrev pub begins_with_words : List ℕ → List ℕ → Bool
begins_with_words words name = word_ends (behind words name)

-- whether a function gives memory, or takes it back
abbrev pub is_allocator : List ℕ → Bool
is_allocator name =
    is_one_of (codes "malloc free calloc realloc aligned_alloc posix_memalign") name
    || begins_with_words (codes "operator new") name || begins_with_words (codes "operator delete") name
