-- Examples: words, names and files as debuggers print them, and what frames show of them.
use Rattle.std.specs.Prelude.{◌≡◌, ℕ, refl, true, false, List, [], ◌∷◌, ◌++◌, length, replicate, codes}
use Rattle.std.specs.Fmt.{digits}
use Rattle.std.specs.Str.{is_utf8, chars}
use Rattle.std.specs.Str.Lossy.{utf8_lossy, utf8_valid_len, utf8_error_len}
use Rattle.std.proofs.Math.Utf8.{encode}
use Rattle.symbol_name.specs.Repeats.{repeat, settled}
use Rattle.symbol_name.specs.Texts.{offset_of}
use Rattle.symbol_name.specs.Standard.{is_standard}
use Rattle.frame_name.specs.Calls.{CallView}
use Rattle.frame_name.specs.Frames.{frame_text}
use Rattle.frame_name.specs.Words.{word_fits, any_fits}
use Rattle.frame_name.specs.Plain.{plain}
use Rattle.frame_name.specs.Fitted.{fitted, within, shortened, whole_front, whole_back}
use Rattle.frame_name.specs.Tables.{begins_with_one, in_system, is_mpi_name, is_other_waiting_name}
use Rattle.frame_name.specs.Binaries.{without_version, file_name, without_number, binary_name, is_file, is_shared, is_program, is_mpi, waits, is_plugin}
use Rattle.frame_name.specs.Names.{function_of, name_of}
use Rattle.frame_name.specs.SourceLines.{file_text, line_of}
use Rattle.frame_name.specs.FrameRules.{RulesView, is_own_function, is_plumbing_file, frame_of}

-- a `*` behind, before, on both sides, and alone
star_behind : word_fits (codes "Comm::wait*") (codes "Comm::wait_all()") ≡ true
star_behind = refl

star_for_nothing : word_fits (codes "Comm::wait*") (codes "Comm::wait") ≡ true
star_for_nothing = refl

no_star : word_fits (codes "Comm::wait") (codes "Comm::wait_all()") ≡ false
no_star = refl

star_before : word_fits (codes "*::relax") (codes "Grid::relax") ≡ true
star_before = refl

-- a template's name has its type in front
both_stars : word_fits (codes "*app::each<*") (codes "void app::each<int>(int)") ≡ true
both_stars = refl

not_in_front : word_fits (codes "app::each<*") (codes "void app::each<int>(int)") ≡ false
not_in_front = refl

star_alone : word_fits (codes "*") [] ≡ true
star_alone = refl

-- a `*` inside stands for itself
star_inside : word_fits (codes "a*b") (codes "axb") ≡ false
star_inside = refl

same_star : word_fits (codes "a*b") (codes "a*b") ≡ true
same_star = refl

second_word : any_fits (codes "libhalo*" ∷ codes "libplug_*" ∷ []) (codes "libplug_b.so") ≡ true
second_word = refl

-- what texts, binaries and frames are made by
unfoldable computing : Unit {0}
unfolding digits utf8_lossy utf8_valid_len is_utf8 chars encode plain within shortened begins_with_one in_system is_mpi_name is_other_waiting_name without_version file_name without_number binary_name is_file is_shared is_program is_mpi waits is_plugin repeat settled offset_of is_standard function_of name_of file_text line_of is_own_function is_plumbing_file
computing = tt

semicolon : plain (codes " f(a; b)" ++ 9 ∷ []) ≡ codes "f(a: b)"
unfolding computing
semicolon = refl

only_blanks : plain (codes "  ") ≡ codes "??"
unfolding computing
only_blanks = refl

-- a byte that is no UTF-8
no_utf8 : plain (102 ∷ 255 ∷ []) ≡ 102 ∷ 239 ∷ 191 ∷ 189 ∷ []
unfolding computing utf8_error_len
no_utf8 = refl

-- no function is taken for a remark
as_remark : plain (codes "(frames left out)") ≡ codes "??(frames left out)"
unfolding computing
as_remark = refl

anonymous : plain (codes "(anonymous namespace)::f(int)") ≡ codes "(anonymous namespace)::f(int)"
unfolding computing
anonymous = refl

-- a name of 740 bytes stays
longest : fitted (replicate 740 97) ≡ replicate 740 97
unfolding computing
longest = refl

-- of a longer one whole characters stay at both ends: here the 320th byte begins one of two bytes
cut_front : length (whole_front 320 (replicate 319 97 ++ 195 ∷ 169 ∷ replicate 421 97)) ≡ 319
cut_front = refl

cut_back : length (whole_back 320 (replicate 421 97 ++ 195 ∷ 169 ∷ replicate 319 97)) ≡ 319
cut_back = refl

whole_ends : length (whole_front 320 (replicate 741 97)) ≡ 320
whole_ends = refl

-- what files are called by
versioned : binary_name (codes "/opt/app/libx.so.1.2") ≡ codes "libx.so"
unfolding computing
versioned = refl

no_library : binary_name (codes "/usr/bin/python3.11") ≡ codes "python3.11"
unfolding computing
no_library = refl

-- what is no file, with the number of a process
lent : binary_name (codes "[vdso: 24329]") ≡ codes "[vdso]"
unfolding computing
lent = refl

lent_bare : binary_name (codes "[vdso]") ≡ codes "[vdso]"
unfolding computing
lent_bare = refl

-- a directory, and not a prefix of a name
libapps : is_program (codes "/libapps/solver") ≡ true
unfolding computing
libapps = refl

system_program : is_program (codes "/usr/lib/jvm/bin/java") ≡ false
unfolding computing
system_program = refl

library : is_program (codes "/opt/app/libsolver.so") ≡ false
unfolding computing
library = refl

kernel_library : is_shared (codes "linux-vdso.so.1") ≡ false
unfolding computing
kernel_library = refl

not_known : is_program [] ≡ false
unfolding computing
not_known = refl

fortran_library : is_mpi (codes "/usr/lib/x86_64-linux-gnu/libmpi_mpifh.so.40.30.0") ≡ true
unfolding computing
fortran_library = refl

over_mpi : is_mpi (codes "/opt/lib/libhdf5_mpi.so.103") ≡ false
unfolding computing
over_mpi = refl

team : waits (codes "/usr/lib/x86_64-linux-gnu/libgomp.so.1.0.0") ≡ true
unfolding computing
team = refl

-- calls of a function in a binary, and of one without a name at an offset
called : List ℕ → List ℕ → CallView
called name binary = record { name = name; binary = binary; is_deleted = false; offset = codes "1f"; file = []; line = 0 }

nameless : List ℕ → List ℕ → CallView
nameless binary offset = record { name = []; binary = binary; is_deleted = false; offset = offset; file = []; line = 0 }

copies : name_of false (called (codes "constp(int, int) [clone .constprop.0] [clone .isra.0]") (codes "/x/zoo")) ≡ codes "constp(int, int)"
unfolding computing called
copies = refl

profiled : name_of false (called (codes "PMPI_Recv") (codes "/usr/lib/x86_64-linux-gnu/libmpi.so.40.30.4")) ≡ codes "MPI_Recv"
unfolding computing called
profiled = refl

-- the program's own library, with a name that looks like one of MPI
halo : name_of false (called (codes "mpi_exchange_halo_") (codes "/x/libhalo.so")) ≡ codes "mpi_exchange_halo_ (libhalo.so)"
unfolding computing called
halo = refl

plugin : name_of false (called (codes "helper") (codes "/x/libplug_b.so.2")) ≡ codes "helper (libplug_b.so)"
unfolding computing called
plugin = refl

vdso : name_of false (called (codes "__vdso_gettimeofday") (codes "[vdso: 24329]")) ≡ codes "__vdso_gettimeofday"
unfolding computing called
vdso = refl

at_offset : name_of false (nameless (codes "/x/zoos") (codes "2abd")) ≡ codes "zoos+0x2abd"
unfolding computing nameless
at_offset = refl

innermost : name_of true (nameless (codes "/x/zoos") (codes "2abd")) ≡ codes "zoos+?"
unfolding computing nameless
innermost = refl

no_offset : name_of false (nameless (codes "/x/zoos") []) ≡ codes "zoos+?"
unfolding computing nameless
no_offset = refl

made_at_run_time : name_of false (nameless (codes "/usr/lib/x86_64-linux-gnu/libgcc_s.so.1") (codes "2b005")) ≡ codes "libgcc_s.so+0x2b005"
unfolding computing nameless
made_at_run_time = refl

in_no_file : name_of false (nameless [] []) ≡ codes "??"
unfolding computing nameless
in_no_file = refl

-- a call at a source file's line
at_line : List ℕ → List ℕ → ℕ → CallView
at_line name file line = record { name = name; binary = codes "/x/zoo"; is_deleted = false; offset = []; file = file; line = line }

source_line : line_of (at_line (codes "main") (codes "/home/me/zoo.cpp") 50) ≡ codes " (zoo.cpp)@50"
unfolding computing at_line
source_line = refl

odd_file : line_of (at_line (codes "main") (codes "/home/me/a b;c.cpp") 7) ≡ codes " (a_b:c.cpp)@7"
unfolding computing at_line
odd_file = refl

no_line : line_of (at_line (codes "main") (codes "zoo.cpp") 0) ≡ []
unfolding computing at_line
no_line = refl

no_source : line_of (at_line (codes "main") [] 50) ≡ []
unfolding computing at_line
no_source = refl

-- frames, with and without lines
lined : RulesView
lined = record { own = codes "libhalo*" ∷ []; keeps_lines = true }

unlined : RulesView
unlined = record { own = []; keeps_lines = false }

with_line : frame_text (frame_of lined false (at_line (codes "operator()") (codes "zoo.cpp") 50)) ≡ codes "operator() (zoo.cpp)@50"
unfolding computing at_line lined
with_line = refl

without_line : frame_text (frame_of unlined false (at_line (codes "operator()") (codes "zoo.cpp") 50)) ≡ codes "operator()"
unfolding computing at_line unlined
without_line = refl

-- the program's own code, and a library that the user names
own_program : (frame_of unlined false (called (codes "work") (codes "/x/zoo"))).is_own ≡ true
unfolding computing called unlined
own_program = refl

own_library : (frame_of lined false (called (codes "pack_cells_") (codes "/x/libhalo.so.1"))).is_own ≡ true
unfolding computing called lined
own_library = refl

other_library : (frame_of unlined false (called (codes "pack_cells_") (codes "/x/libhalo.so.1"))).is_own ≡ false
unfolding computing called unlined
other_library = refl

own_allocator : (frame_of unlined false (called (codes "malloc") (codes "/x/zoo"))).is_own ≡ false
unfolding computing called unlined
own_allocator = refl

signal : (frame_of unlined false (called (codes "__restore_rt") (codes "/lib/x86_64-linux-gnu/libc.so.6"))).is_own ≡ true
unfolding computing called unlined
signal = refl

main_program : (frame_of unlined false (called (codes "main") (codes "/x/zoo"))).is_main ≡ true
unfolding computing called unlined
main_program = refl

program_start : (frame_of unlined false (called (codes "__libc_start_main@@GLIBC_2.34") (codes "/lib/x86_64-linux-gnu/libc.so.6"))).is_start ≡ true
unfolding computing called unlined
program_start = refl

plumbing : (frame_of unlined false (at_line (codes "std::sort") (codes "/opt/gcc/include/c++/13/bits/stl_algo.h") 1)).is_plumbing ≡ true
unfolding computing at_line unlined
plumbing = refl
