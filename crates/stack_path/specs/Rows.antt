-- Examples: stacks as a debugger prints them, outermost frame first, and their paths.
use Rattle.std.specs.Prelude.{◌≡◌, ℕ, refl, false, List, [], ◌∷◌, ◌++◌, replicate, codes, None, Some, option_map}
use Rattle.std.specs.Fmt.{digits}
use Rattle.std.specs.Str.{is_utf8, chars}
use Rattle.std.specs.Str.Lossy.{utf8_lossy, utf8_valid_len}
use Rattle.std.proofs.Math.Utf8.{encode}
use Rattle.symbol_name.specs.Repeats.{repeat, settled}
use Rattle.symbol_name.specs.Texts.{offset_of}
use Rattle.symbol_name.specs.Standard.{is_standard}
use Rattle.call_path.specs.Path.{Path}
use Rattle.frame_name.specs.Calls.{CallView}
use Rattle.frame_name.specs.Plain.{plain}
use Rattle.frame_name.specs.Fitted.{within, shortened}
use Rattle.frame_name.specs.Tables.{begins_with_one, in_system, is_mpi_name, is_other_waiting_name}
use Rattle.frame_name.specs.Binaries.{without_version, file_name, without_number, binary_name, is_file, is_shared, is_program, is_mpi, waits, is_plugin}
use Rattle.frame_name.specs.Names.{function_of, name_of}
use Rattle.frame_name.specs.SourceLines.{file_text, line_of}
use Rattle.frame_name.specs.FrameRules.{RulesView, is_own_function, is_plumbing_file}
use Rattle.stack_path.specs.Stacks.{stack_of}
use Rattle.stack_path.specs.Recursion.{Cycles, Loops, Each, cycle_from, cycle_len}
use Rattle.stack_path.specs.Ends.{both_ends, with_remark, cut_to, left_out}
use Rattle.stack_path.specs.Choices.{Calls, Whole, ChoiceView}
use Rattle.stack_path.specs.Paths.{first_path, other_path}

-- what frames and paths are made by
unfoldable computing : Unit {0}
unfolding digits utf8_lossy utf8_valid_len is_utf8 chars encode plain within shortened begins_with_one in_system is_mpi_name is_other_waiting_name without_version file_name without_number binary_name is_file is_shared is_program is_mpi waits is_plugin repeat settled offset_of is_standard function_of name_of file_text line_of is_own_function is_plumbing_file stack_of cycle_from cycle_len both_ends cut_to first_path other_path
computing = tt

abbrev call : List ℕ → List ℕ → CallView
call name binary = record { name = name; binary = binary; is_deleted = false; offset = codes "1"; file = []; line = 0 }

abbrev nameless : List ℕ → List ℕ → CallView
nameless binary offset = record { name = []; binary = binary; is_deleted = false; offset = offset; file = []; line = 0 }

abbrev app : List ℕ
app = codes "/home/me/app"

abbrev libc : List ℕ
libc = codes "/usr/lib/x86_64-linux-gnu/libc.so.6"

abbrev libmpi : List ℕ
libmpi = codes "/usr/lib/x86_64-linux-gnu/libmpi.so.40.30.4"

abbrev libmpi_fortran : List ℕ
libmpi_fortran = codes "/usr/lib/x86_64-linux-gnu/libmpi_mpifh.so.40.30.0"

abbrev libpal : List ℕ
libpal = codes "/usr/lib/x86_64-linux-gnu/libopen-pal.so.40.30.2"

abbrev libgomp : List ℕ
libgomp = codes "/usr/lib/x86_64-linux-gnu/libgomp.so.1.0.0"

abbrev libstdcpp : List ℕ
libstdcpp = codes "/usr/lib/x86_64-linux-gnu/libstdc++.so.6.0.30"

abbrev libhalo : List ℕ
libhalo = codes "/home/me/lib/libhalo.so"

abbrev vdso : List ℕ
vdso = codes "[vdso: 24329]"

abbrev zoos : List ℕ
zoos = codes "/home/me/zoos"

-- what a program's own `main` stands on
abbrev from_main : List CallView → List CallView
from_main calls = call (codes "_start") app ∷ call (codes "__libc_start_main@@GLIBC_2.34") libc ∷ call (codes "__libc_start_call_main") libc ∷ call (codes "main") app ∷ calls

abbrev rules : RulesView
rules = record { own = []; keeps_lines = false }

abbrev usual : ChoiceView
usual = record { end = Calls []; recursion = Cycles }

abbrev path : ChoiceView → List CallView → Path
path choice calls = (first_path choice (stack_of rules calls)).path

-- copies of templates
copies : path usual (from_main ((call (codes "void app::each<main::{lambda(int)#1}>(int, main::{lambda(int)#1}&&) [clone .constprop.0] [clone .isra.0]") app) ∷ (call (codes "app::Grid<double, 5>::relax(unsigned long) [clone .isra.0]") app) ∷ (call (codes "stop()") app) ∷ (call (codes "__poll") libc) ∷ []))
    ≡ codes "main" ∷ codes "void app::each<main::{lambda(int)#1}>(int, main::{lambda(int)#1}&&)" ∷ codes "app::Grid<double, 5>::relax(unsigned long)" ∷ codes "stop()" ∷ codes "__poll" ∷ []
unfolding computing
copies = refl

-- a copy for one kind of processor
processor : path usual (from_main ((call (codes "kernel(int) [clone .avx512f]") app) ∷ (call (codes "stop()") app) ∷ (call (codes "__poll") libc) ∷ []))
    ≡ codes "main" ∷ codes "kernel(int)" ∷ codes "stop()" ∷ codes "__poll" ∷ []
unfolding computing
processor = refl

-- a rank that waits in MPI
receives : path usual (from_main ((call (codes "PMPI_Recv") libmpi) ∷ (call (codes "mca_pml_ob1_recv") libmpi) ∷ (call (codes "opal_progress") libpal) ∷ (nameless libpal (codes "365dc")) ∷ []))
    ≡ codes "main" ∷ codes "MPI_Recv" ∷ []
unfolding computing
receives = refl

-- the same called from Fortran
receives_in_fortran : path usual (from_main ((call (codes "MAIN__") app) ∷ (call (codes "__work_MOD_wait_all") app) ∷ (call (codes "ompi_recv_f") libmpi_fortran) ∷ (call (codes "PMPI_Recv") libmpi) ∷ (call (codes "mca_pml_ob1_recv") libmpi) ∷ (call (codes "opal_progress") libpal) ∷ []))
    ≡ codes "main" ∷ codes "MAIN__" ∷ codes "work::wait_all" ∷ codes "MPI_Recv" ∷ []
unfolding computing
receives_in_fortran = refl

-- a call of MPI's that is told by its library: a tail call has the place of MPI_Finalize
finalizes : path usual (from_main ((call (codes "ompi_mpi_finalize") libmpi) ∷ (call (codes "opal_progress") libpal) ∷ []))
    ≡ codes "main" ∷ codes "MPI_Finalize" ∷ []
unfolding computing
finalizes = refl

-- the program's own code that MPI calls
own_operation : path usual (from_main ((call (codes "PMPI_Allreduce") libmpi) ∷ (call (codes "ompi_coll_base_allreduce") libmpi) ∷ (call (codes "my_op") app) ∷ (call (codes "burn") app) ∷ []))
    ≡ codes "main" ∷ codes "MPI_Allreduce" ∷ codes "my_op" ∷ codes "burn" ∷ []
unfolding computing
own_operation = refl

-- a signal's handler on top of a call of MPI's
own_handler : path usual (from_main ((call (codes "PMPI_Barrier") libmpi) ∷ (call (codes "opal_progress") libpal) ∷ (call (codes "__restore_rt") libc) ∷ (call (codes "on_alarm") app) ∷ (call (codes "burn") app) ∷ []))
    ≡ codes "main" ∷ codes "MPI_Barrier" ∷ codes "<signal handler called>" ∷ codes "on_alarm" ∷ codes "burn" ∷ []
unfolding computing
own_handler = refl

-- a function of the program's that is called as MPI's are
own_name : path usual (from_main ((call (codes "MPI_Solver_step(int)") app) ∷ (call (codes "burn") app) ∷ []))
    ≡ codes "main" ∷ codes "MPI_Solver_step(int)" ∷ codes "burn" ∷ []
unfolding computing
own_name = refl

-- a shared library of the user's
packs : path usual (from_main ((call (codes "mpi_exchange_halo_") libhalo) ∷ (call (codes "pack_cells_") libhalo) ∷ (call (codes "sleep") libc) ∷ (call (codes "__nanosleep") libc) ∷ (call (codes "clock_nanosleep@GLIBC_2.2.5") libc) ∷ []))
    ≡ codes "main" ∷ codes "mpi_exchange_halo_ (libhalo.so)" ∷ codes "pack_cells_ (libhalo.so)" ∷ codes "sleep" ∷ codes "__nanosleep" ∷ codes "clock_nanosleep" ∷ []
unfolding computing
packs = refl

-- MPI in the program itself: its calls are told by their names
static : path usual (from_main ((call (codes "MPI_Recv") app) ∷ (call (codes "MPID_Progress_wait") app) ∷ (call (codes "poll_all") app) ∷ []))
    ≡ codes "main" ∷ codes "MPI_Recv" ∷ []
unfolding computing
static = refl

-- a profiler's wrapper in the program
wrapper : path usual (from_main ((call (codes "MPI_Send") app) ∷ (call (codes "PMPI_Send") libmpi) ∷ (call (codes "opal_progress") libpal) ∷ []))
    ≡ codes "main" ∷ codes "MPI_Send" ∷ []
unfolding computing
wrapper = refl

-- a function that calls itself
recursion : path usual (from_main ((call (codes "fib(int)") app) ∷ (call (codes "fib(int)") app) ∷ (call (codes "fib(int)") app) ∷ (call (codes "stop()") app) ∷ (call (codes "__poll") libc) ∷ []))
    ≡ codes "main" ∷ codes "fib(int)" ∷ codes "stop()" ∷ codes "__poll" ∷ []
unfolding computing
recursion = refl

-- two functions that call each other, caught in either
two_in_turn : path usual (from_main ((call (codes "odd(int)") app) ∷ (call (codes "even(int)") app) ∷ (call (codes "odd(int)") app) ∷ (call (codes "even(int)") app) ∷ (call (codes "odd(int)") app) ∷ (call (codes "even(int)") app) ∷ (call (codes "stop()") app) ∷ (call (codes "__poll") libc) ∷ []))
    ≡ codes "main" ∷ codes "odd(int)" ∷ codes "even(int)" ∷ codes "stop()" ∷ codes "__poll" ∷ []
unfolding computing
two_in_turn = refl

two_in_turn_and_one : path usual (from_main ((call (codes "odd(int)") app) ∷ (call (codes "even(int)") app) ∷ (call (codes "odd(int)") app) ∷ (call (codes "even(int)") app) ∷ (call (codes "odd(int)") app) ∷ (call (codes "stop()") app) ∷ (call (codes "__poll") libc) ∷ []))
    ≡ codes "main" ∷ codes "odd(int)" ∷ codes "even(int)" ∷ codes "odd(int)" ∷ codes "stop()" ∷ codes "__poll" ∷ []
unfolding computing
two_in_turn_and_one = refl

merge_sort : path usual (from_main ((call (codes "qsort_r") libc) ∷ (call (codes "msort_with_tmp.part.0") libc) ∷ (call (codes "msort_with_tmp.part.0") libc) ∷ (call (codes "cmp(void const*, void const*)") app) ∷ (call (codes "stop()") app) ∷ (call (codes "__poll") libc) ∷ []))
    ≡ codes "main" ∷ codes "qsort_r" ∷ codes "msort_with_tmp" ∷ codes "cmp(void const*, void const*)" ∷ codes "stop()" ∷ codes "__poll" ∷ []
unfolding computing
merge_sort = refl

-- a function that the kernel gives the process
of_the_kernel : path usual (from_main ((call (codes "__vdso_gettimeofday") vdso) ∷ []))
    ≡ codes "main" ∷ codes "__vdso_gettimeofday" ∷ []
unfolding computing
of_the_kernel = refl

-- a program without symbols
stripped : path usual ((call (codes "__libc_start_main@@GLIBC_2.34") libc) ∷ (call (codes "__libc_start_call_main") libc) ∷ (nameless zoos (codes "2325")) ∷ (nameless zoos (codes "2cad")) ∷ (nameless zoos (codes "2c92")) ∷ (nameless zoos (codes "2abd")) ∷ (call (codes "__poll") libc) ∷ [])
    ≡ codes "zoos+0x2325" ∷ codes "zoos+0x2cad" ∷ codes "zoos+0x2c92" ∷ codes "zoos+0x2abd" ∷ codes "__poll" ∷ []
unfolding computing
stripped = refl

-- a program of Go's
go : path usual ((call (codes "runtime.goexit.abi0") app) ∷ (call (codes "runtime.main") app) ∷ (call (codes "main.main") app) ∷ (call (codes "main.each[go.shape.int_0]") app) ∷ (call (codes "main.main.func1") app) ∷ [])
    ≡ codes "runtime.goexit.abi0" ∷ codes "runtime.main" ∷ codes "main.main" ∷ codes "main.each[go.shape.int_0]" ∷ codes "main.main.func1" ∷ []
unfolding computing
go = refl

-- a thread that waits for its team
team_waits : path usual (from_main ((nameless libgomp (codes "1e2fc")) ∷ (nameless libgomp (codes "1d001")) ∷ []))
    ≡ codes "main" ∷ codes "libgomp.so+0x1e2fc" ∷ []
unfolding computing
team_waits = refl

-- a parallel region's own code
team_works : path usual (from_main ((call (codes "void run<double>(double)") app) ∷ (call (codes "GOMP_parallel") libgomp) ∷ (call (codes "void run<double>(double) [clone ._omp_fn.0]") app) ∷ (call (codes "stop()") app) ∷ (call (codes "__poll") libc) ∷ []))
    ≡ codes "main" ∷ codes "void run<double>(double)" ∷ codes "GOMP_parallel" ∷ codes "void run<double>(double) [clone ._omp_fn.0]" ∷ codes "stop()" ∷ codes "__poll" ∷ []
unfolding computing
team_works = refl

-- the user's words
words : path (record usual { end = Calls (codes "Comm::wait*" ∷ []) }) (from_main ((call (codes "Comm::wait_all()") app) ∷ (call (codes "PMPI_Test") libmpi) ∷ []))
    ≡ codes "main" ∷ codes "Comm::wait_all()" ∷ []
unfolding computing
words = refl

-- whole stacks
whole : path (record usual { end = Whole }) (from_main ((call (codes "PMPI_Recv") libmpi) ∷ (call (codes "opal_progress") libpal) ∷ []))
    ≡ codes "main" ∷ codes "MPI_Recv" ∷ codes "opal_progress" ∷ []
unfolding computing
whole = refl

-- recursion that goes as the data say
goes_back : path (record usual { recursion = Loops }) (from_main ((call (codes "walk") app) ∷ (call (codes "left") app) ∷ (call (codes "walk") app) ∷ (call (codes "right") app) ∷ (call (codes "walk") app) ∷ []))
    ≡ codes "main" ∷ codes "walk" ∷ []
unfolding computing
goes_back = refl

each_call : path (record usual { recursion = Each }) (from_main ((call (codes "fib(int)") app) ∷ (call (codes "fib(int)") app) ∷ []))
    ≡ codes "main" ∷ codes "fib(int)" ∷ codes "fib(int)" ∷ []
unfolding computing
each_call = refl

-- no stack
nothing : path usual [] ≡ codes "(no stack)" ∷ []
unfolding computing
nothing = refl

-- another thread, from the program's own code on; and one that runs none
thread : option_map (λ p. p.path) (other_path usual (stack_of rules (call (codes "__clone3") libc ∷ call (codes "start_thread") libc ∷ nameless libstdcpp (codes "d44a3") ∷ call (codes "app::Grid<float, 3>::relax(unsigned long) [clone .isra.0]") app ∷ call (codes "__poll") libc ∷ [])))
    ≡ Some (codes "app::Grid<float, 3>::relax(unsigned long)" ∷ codes "__poll" ∷ [])
unfolding computing
thread = refl

others_thread : option_map (λ p. p.path) (other_path usual (stack_of rules (call (codes "__clone3") libc ∷ call (codes "start_thread") libc ∷ call (codes "opal_progress") libpal ∷ [])))
    ≡ None
unfolding computing
others_thread = refl

-- remarks: at a path's end, and where it is cut
remark : with_remark (codes "main" ∷ []) (codes "(odd line)") ≡ codes "main" ∷ codes "(odd line)" ∷ []
unfolding computing
remark = refl

remark_stays : cut_to 2 (codes "main" ∷ codes "f" ∷ codes "g" ∷ codes "(odd line)" ∷ []) ≡ codes "main" ∷ codes "(odd line)" ∷ []
unfolding computing
remark_stays = refl

outer_frames : cut_to 2 (codes "main" ∷ codes "f" ∷ codes "g" ∷ []) ≡ codes "main" ∷ codes "f" ∷ []
unfolding computing
outer_frames = refl

-- of 129 frames the first 63 and the last 64
long_path : both_ends (replicate 129 (codes "f")) ≡ replicate 63 (codes "f") ++ left_out ∷ replicate 64 (codes "f")
unfolding computing
long_path = refl
