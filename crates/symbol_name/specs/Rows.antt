-- Names as debuggers print them, and what is made of them.
use Rattle.std.specs.Prelude.{◌≡◌, refl, [], true, false, codes}
use Rattle.symbol_name.specs.Repeats.{repeat, settled}
use Rattle.symbol_name.specs.Texts.{offset_of}
use Rattle.symbol_name.specs.Copies.{without_copies}
use Rattle.symbol_name.specs.Modules.{module_name}
use Rattle.symbol_name.specs.Standard.{is_standard}
use Rattle.symbol_name.specs.Symbols.{symbol, is_signal, is_start, is_allocator}

-- a copy of a function
isra : without_copies (codes "app::Grid<double, 5>::relax(unsigned long) [clone .isra.0]") ≡ codes "app::Grid<double, 5>::relax(unsigned long)"
unfolding repeat settled
isra = refl

-- a copy of a copy
two_brackets : without_copies (codes "constp(int, int) [clone .constprop.0] [clone .isra.0]") ≡ codes "constp(int, int)"
unfolding repeat settled
two_brackets = refl

template : without_copies (codes "void app::each<main::{lambda(int)#1}>(int, main::{lambda(int)#1}&&) [clone .constprop.0] [clone .isra.0]") ≡ codes "void app::each<main::{lambda(int)#1}>(int, main::{lambda(int)#1}&&)"
unfolding repeat settled
template = refl

lambda : without_copies (codes "auto main::{lambda(auto:1)#2}::operator()<int>(int) const [clone .constprop.0]") ≡ codes "auto main::{lambda(auto:1)#2}::operator()<int>(int) const"
unfolding repeat settled
lambda = refl

-- the part that is seldom run
cold : without_copies (codes "hot(int) [clone .cold]") ≡ codes "hot(int)"
unfolding repeat settled
cold = refl

-- a copy for a processor
processor : without_copies (codes "kernel(int) [clone .avx512f]") ≡ codes "kernel(int)"
unfolding repeat settled
processor = refl

architecture : without_copies (codes "kernel.arch_haswell") ≡ codes "kernel"
unfolding repeat settled
architecture = refl

part : without_copies (codes "msort_with_tmp.part.0") ≡ codes "msort_with_tmp"
unfolding repeat settled
part = refl

-- several, with their numbers
parts : without_copies (codes "f.part.0.isra.3") ≡ codes "f"
unfolding repeat settled
parts = refl

in_one_bracket : without_copies (codes "f(int) [clone .part.0.isra.3]") ≡ codes "f(int)"
unfolding repeat settled
in_one_bracket = refl

llvm : without_copies (codes "f.llvm.123") ≡ codes "f"
unfolding repeat settled
llvm = refl

default : without_copies (codes "f.default") ≡ codes "f"
unfolding repeat settled
default = refl

linked : without_copies (codes "f.lto_priv.0.cold") ≡ codes "f"
unfolding repeat settled
linked = refl

-- each parallel region is a function of its own
region : without_copies (codes "void run<double>(double) [clone ._omp_fn.0]") ≡ codes "void run<double>(double) [clone ._omp_fn.0]"
unfolding repeat settled
region = refl

plain_region : without_copies (codes "run._omp_fn.1") ≡ codes "run._omp_fn.1"
unfolding repeat settled
plain_region = refl

copy_of_region : without_copies (codes "run._omp_fn.1.constprop.0") ≡ codes "run._omp_fn.1"
unfolding repeat settled
copy_of_region = refl

-- hashes of Rust and names of Go stay
hash : without_copies (codes "rs::each::hfdc3e9ba69a56a03") ≡ codes "rs::each::hfdc3e9ba69a56a03"
unfolding repeat settled
hash = refl

go : without_copies (codes "main.each[go.shape.int_0]") ≡ codes "main.each[go.shape.int_0]"
unfolding repeat settled
go = refl

go_function : without_copies (codes "main.main.func1") ≡ codes "main.main.func1"
unfolding repeat settled
go_function = refl

go_assembly : without_copies (codes "runtime.goexit.abi0") ≡ codes "runtime.goexit.abi0"
unfolding repeat settled
go_assembly = refl

-- a number belongs to the word before it
number_alone : without_copies (codes "f.0") ≡ codes "f.0"
unfolding repeat settled
number_alone = refl

begins_with_word : without_copies (codes "f.island") ≡ codes "f.island"
unfolding repeat settled
begins_with_word = refl

-- versions
default_version : without_copies (codes "__libc_start_main@@GLIBC_2.34") ≡ codes "__libc_start_main"
unfolding repeat settled
default_version = refl

version : without_copies (codes "clock_nanosleep@GLIBC_2.2.5") ≡ codes "clock_nanosleep"
unfolding repeat settled
version = refl

plt : without_copies (codes "memcpy@plt") ≡ codes "memcpy"
unfolding repeat settled
plt = refl

plt_of_version : without_copies (codes "memcpy@GLIBC_2.14@plt") ≡ codes "memcpy"
unfolding repeat settled
plt_of_version = refl

copy_of_version : without_copies (codes "f.isra.0@@VERS_1") ≡ codes "f"
unfolding repeat settled
copy_of_version = refl

-- neither a version nor `plt`
no_version : without_copies (codes "f@12") ≡ codes "f@12"
unfolding repeat settled
no_version = refl

-- a mark is never all of a name
all_of_it : without_copies (codes ".cold") ≡ codes ".cold"
unfolding repeat settled
all_of_it = refl

all_but_one : without_copies (codes ".cold.cold") ≡ codes ".cold"
unfolding repeat settled
all_but_one = refl

-- functions in modules of Fortran
gfortran : module_name (codes "__work_MOD_wait_all") ≡ codes "work::wait_all"
unfolding offset_of
gfortran = refl

ifort : module_name (codes "m_mp_f_") ≡ codes "m::f"
unfolding offset_of
ifort = refl

flang : module_name (codes "_QMmPf") ≡ codes "m::f"
unfolding offset_of
flang = refl

no_function : module_name (codes "__work_MOD_") ≡ codes "__work_MOD_"
unfolding offset_of
no_function = refl

no_module : module_name (codes "_mp_f_") ≡ codes "_mp_f_"
unfolding offset_of
no_module = refl

no_fortran : module_name (codes "_QMmPF") ≡ codes "_QMmPF"
unfolding offset_of
no_fortran = refl

main : module_name (codes "MAIN__") ≡ codes "MAIN__"
unfolding offset_of
main = refl

-- what a handler returns to
signal : symbol false (codes "__restore_rt") ≡ codes "<signal handler called>"
unfolding repeat settled offset_of
signal = refl

kernel_signal : symbol false (codes "__kernel_rt_sigreturn") ≡ codes "<signal handler called>"
unfolding repeat settled offset_of
kernel_signal = refl

gdb_signal : symbol false (codes "<signal handler called>") ≡ codes "<signal handler called>"
unfolding repeat settled offset_of
gdb_signal = refl

no_signal : is_signal (codes "on_alarm") ≡ false
no_signal = refl

-- MPI by its other names
profiled : symbol false (codes "PMPI_Recv") ≡ codes "MPI_Recv"
unfolding repeat settled offset_of
profiled = refl

extension : symbol false (codes "PMPIX_Comm_shrink") ≡ codes "MPIX_Comm_shrink"
unfolding repeat settled offset_of
extension = refl

no_call : symbol false (codes "PMPI_") ≡ codes "PMPI_"
unfolding repeat settled offset_of
no_call = refl

two_lows : symbol true (codes "pmpi_allreduce__") ≡ codes "MPI_Allreduce"
unfolding repeat settled offset_of
two_lows = refl

one_low : symbol true (codes "mpi_comm_rank_") ≡ codes "MPI_Comm_rank"
unfolding repeat settled offset_of
one_low = refl

no_low : symbol true (codes "mpi_send") ≡ codes "MPI_Send"
unfolding repeat settled offset_of
no_low = refl

open_mpi : symbol true (codes "ompi_wait_f") ≡ codes "MPI_Wait"
unfolding repeat settled offset_of
open_mpi = refl

open_mpi_recv : symbol true (codes "ompi_recv_f") ≡ codes "MPI_Recv"
unfolding repeat settled offset_of
open_mpi_recv = refl

mpich : symbol true (codes "pmpi_recv_") ≡ codes "MPI_Recv"
unfolding repeat settled offset_of
mpich = refl

capitals : symbol true (codes "MPI_BARRIER") ≡ codes "MPI_Barrier"
unfolding repeat settled offset_of
capitals = refl

profiled_capitals : symbol true (codes "PMPI_BARRIER") ≡ codes "MPI_Barrier"
unfolding repeat settled offset_of
profiled_capitals = refl

f08 : symbol true (codes "mpi_wait_f08_") ≡ codes "MPI_Wait"
unfolding repeat settled offset_of
f08 = refl

f08ts : symbol true (codes "mpi_wait_f08ts") ≡ codes "MPI_Wait"
unfolding repeat settled offset_of
f08ts = refl

tail : symbol true (codes "ompi_mpi_finalize") ≡ codes "MPI_Finalize"
unfolding repeat settled offset_of
tail = refl

in_c : symbol true (codes "MPI_Send") ≡ codes "MPI_Send"
unfolding repeat settled offset_of
in_c = refl

tool : symbol true (codes "MPI_T_init_thread") ≡ codes "MPI_T_init_thread"
unfolding repeat settled offset_of
tool = refl

internal : symbol true (codes "ompi_request_wait") ≡ codes "ompi_request_wait"
unfolding repeat settled offset_of
internal = refl

one_capital : symbol true (codes "MPI_A") ≡ codes "MPI_A"
unfolding repeat settled offset_of
one_capital = refl

-- a function of the program's own
own : symbol false (codes "mpi_exchange_halo_") ≡ codes "mpi_exchange_halo_"
unfolding repeat settled offset_of
own = refl

own_capitals : symbol false (codes "MPI_BARRIER") ≡ codes "MPI_BARRIER"
unfolding repeat settled offset_of
own_capitals = refl

own_tail : symbol false (codes "ompi_mpi_finalize") ≡ codes "ompi_mpi_finalize"
unfolding repeat settled offset_of
own_tail = refl

subroutine : symbol false (codes "pack_cells_") ≡ codes "pack_cells_"
unfolding repeat settled offset_of
subroutine = refl

vdso : symbol false (codes "__vdso_gettimeofday") ≡ codes "__vdso_gettimeofday"
unfolding repeat settled offset_of
vdso = refl

-- marks are taken off first
first_the_copy : symbol true (codes "pmpi_recv_.part.0") ≡ codes "MPI_Recv"
unfolding repeat settled offset_of
first_the_copy = refl

module_copy : symbol false (codes "__work_MOD_relax.constprop.0") ≡ codes "work::relax"
unfolding repeat settled offset_of
module_copy = refl

-- where programs and threads begin
started : is_start (codes "__libc_start_call_main") ≡ true
started = refl

started_thread : is_start (codes "start_thread") ≡ true
started_thread = refl

cloned : is_start (codes "__clone3") ≡ true
cloned = refl

own_start : is_start (codes "solver_start") ≡ false
own_start = refl

own_halo : is_start (codes "halo_start") ≡ false
own_halo = refl

no_name : is_start [] ≡ false
no_name = refl

main_program : is_start (codes "main") ≡ false
main_program = refl

-- what gives memory
malloc : is_allocator (codes "malloc") ≡ true
malloc = refl

new_of : is_allocator (codes "operator new(unsigned long)") ≡ true
new_of = refl

new_array : is_allocator (codes "operator new[](unsigned long)") ≡ true
new_array = refl

new_alone : is_allocator (codes "operator new") ≡ true
new_alone = refl

delete_of : is_allocator (codes "operator delete(void*, unsigned long)") ≡ true
delete_of = refl

own_malloc : is_allocator (codes "mallocate") ≡ false
own_malloc = refl

own_operator : is_allocator (codes "operator newer()") ≡ false
own_operator = refl

-- the functions of the standard
standard : is_standard (codes "MPI_Send") ≡ true
unfolding is_standard
standard = refl

first_function : is_standard (codes "MPI_Abort") ≡ true
unfolding is_standard
first_function = refl

last_function : is_standard (codes "MPI_Wtime") ≡ true
unfolding is_standard
last_function = refl

large_count : is_standard (codes "MPI_Send_c") ≡ true
unfolding is_standard
large_count = refl

tools : is_standard (codes "MPI_T_pvar_read") ≡ true
unfolding is_standard
tools = refl

since_4_1 : is_standard (codes "MPI_Request_get_status_any") ≡ true
unfolding is_standard
since_4_1 = refl

own_step : is_standard (codes "MPI_Solver_step") ≡ false
unfolding is_standard
own_step = refl

beginning : is_standard (codes "MPI_Sen") ≡ false
unfolding is_standard
beginning = refl

longer : is_standard (codes "MPI_Sendx") ≡ false
unfolding is_standard
longer = refl

arguments : is_standard (codes "MPI_Send(int)") ≡ false
unfolding is_standard
arguments = refl

two_names : is_standard (codes "MPI_Scan MPI_Scan_c") ≡ false
unfolding is_standard
two_names = refl

empty : is_standard [] ≡ false
unfolding is_standard
empty = refl
