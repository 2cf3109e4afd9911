-- Lines and what they say, and what lines print.
use Rattle.std.specs.Prelude.{◌≡◌, refl, codes, List, ℕ, [], ◌∷◌, ◌++◌, true, false}
use Rattle.frame_name.specs.Calls.{CallView}
use Rattle.text_lines.specs.Lines.{lines, pieces, words}
use Rattle.stack_text.specs.Bare.{bare, bare_of}
use Rattle.stack_text.specs.Lines.{read_line, Nothing, Process, Thread, Call, Place, Source, Odd}
use Rattle.stack_text.specs.Processes.{process_of, parted}
use Rattle.stack_text.specs.Texts.{first_where}
use Rattle.stack_text.specs.Threads.{thread_of, with_lines}

-- the usual call
usual : read_line (codes "#0  0x00007f97fe90c017 __sched_yield - /usr/lib/x86_64-linux-gnu/libc.so.6")
    ≡ Call 0 (codes "__sched_yield") (codes "/usr/lib/x86_64-linux-gnu/libc.so.6") false
unfolding read_line bare_of first_where words
usual = refl

-- a number of two digits
two_digits : read_line (codes "#10 0x01 f(int) - /a/b") ≡ Call 10 (codes "f(int)") (codes "/a/b") false
unfolding read_line bare_of first_where words
two_digits = refl

-- a function without a name, in a file whose path has ` - [` in it
nameless : read_line (codes "#10 0x0000562ba9561c91 - /home/me/a - [x]") ≡ Call 10 [] (codes "/home/me/a - [x]") false
unfolding read_line bare_of first_where words
nameless = refl

-- a function whose name has blanks, and a file that was deleted
deleted : read_line (codes "#2  0x01 app::(anonymous namespace)::f(int, char) [clone .isra.0] - /home/me/a b (deleted)")
    ≡ Call 2 (codes "app::(anonymous namespace)::f(int, char) [clone .isra.0]") (codes "/home/me/a b") true
unfolding read_line bare_of first_where words
deleted = refl

-- a function whose name ends with ` (deleted)`, in no file
deleted_name : read_line (codes "#2  0x01 f (deleted)") ≡ Call 2 (codes "f (deleted)") [] false
unfolding read_line bare_of first_where words
deleted_name = refl

-- a function whose name has ` - [` in it
dash_in_name : read_line (codes "#0  0x01 f(a - [b] - c) - /x/app") ≡ Call 0 (codes "f(a - [b] - c)") (codes "/x/app") false
unfolding read_line bare_of first_where words
dash_in_name = refl

-- what the kernel maps into the process 24329
kernel : read_line (codes "#0  0x00007fdef72648bd __vdso_gettimeofday - [vdso: 24329]")
    ≡ Call 0 (codes "__vdso_gettimeofday") (codes "[vdso: 24329]") false
unfolding read_line bare_of first_where words
kernel = refl

-- the same with ` - [` in the function's name, and deleted
two_brackets : read_line (codes "#0  0x01 f - [a] - [b c] (deleted)") ≡ Call 0 (codes "f - [a]") (codes "[b c]") true
unfolding read_line bare_of first_where words
two_brackets = refl

-- a library of a core file, and its program
of_core : read_line (codes "#0  0x00007f61b5ef1df2 pause - libc.so.6") ≡ Call 0 (codes "pause") (codes "libc.so.6") false
unfolding read_line bare_of first_where words
of_core = refl

program_of_core : read_line (codes "#2  0x0000561b5ef1df20 main - t3") ≡ Call 2 (codes "main") (codes "t3") false
unfolding read_line bare_of first_where words
program_of_core = refl

nameless_of_core : read_line (codes "#3  0x0000561b5ef1df21 - t3") ≡ Call 3 [] (codes "t3") false
unfolding read_line bare_of first_where words
nameless_of_core = refl

-- code that is in no file
in_no_file : read_line (codes "#0  0x00007fe18c38c000") ≡ Call 0 [] [] false
unfolding read_line bare_of first_where words
in_no_file = refl

-- a name of bytes that are no text
no_text : read_line (codes "#0  0x01 " ++ 255 ∷ 0 ∷ codes " - /a") ≡ Call 0 (255 ∷ 0 ∷ []) (codes "/a") false
unfolding read_line bare_of first_where words
no_text = refl

-- a call whose number is 2^64
long_number : read_line (codes "#18446744073709551616 0x01 f") ≡ Odd
unfolding read_line bare_of first_where words
long_number = refl

-- where a call stands in its file, also in a file without a build id
place : read_line (codes "    [93ac61ec]@0x7f97fe81e000+0xee017") ≡ Place (codes "ee017")
unfolding read_line bare_of first_where words
place = refl

no_build_id : read_line (codes "    []@0x7f97fe81e000+0xee017") ≡ Place (codes "ee017")
unfolding read_line bare_of first_where words
no_build_id = refl

-- a source file with a line and a column, and one without
source : read_line (codes "    /usr/include/c++/12/bits/invoke.h:61:36")
    ≡ Source (codes "/usr/include/c++/12/bits/invoke.h") 61
unfolding read_line bare_of first_where words
source = refl

source_alone : read_line (codes "    ../csu/libc-start.c") ≡ Source (codes "../csu/libc-start.c") 0
unfolding read_line bare_of first_where words
source_alone = refl

-- a colon in the name of a source file
colon_in_name : read_line (codes "    a:1:b.c:7") ≡ Source (codes "a:1:b.c") 7
unfolding read_line bare_of first_where words
colon_in_name = refl

-- what begins a process, and a thread
process : read_line (codes "PID 27 - process") ≡ Process 27
unfolding read_line bare_of first_where words
process = refl

core : read_line (codes "PID 27 - core") ≡ Process 27
unfolding read_line bare_of first_where words
core = refl

thread : read_line (codes "TID 29:") ≡ Thread 29
unfolding read_line bare_of first_where words
thread = refl

-- lines of no printed stack
blank : read_line (codes "  ") ≡ Nothing
unfolding read_line bare_of first_where words
blank = refl

error : read_line (codes "eu-stack: tid 30114: shown max number of frames (2, use -n 0 for unlimited)") ≡ Odd
unfolding read_line bare_of first_where words
error = refl

cut_call : read_line (codes "#3  0x") ≡ Odd
unfolding read_line bare_of first_where words
cut_call = refl

cut_thread : read_line (codes "TID 2") ≡ Odd
unfolding read_line bare_of first_where words
cut_thread = refl

-- two lines that differ in their addresses alone
bare_one : bare (codes "#1  0x0000562ba9561c91 f(int) - /a/0x12") ≡ codes "#1  0x0 f(int) - /a/0x12"
unfolding bare bare_of
bare_one = refl

bare_two : bare (codes "#1  0x7f61 f(int) - /a/0x12") ≡ bare (codes "#1  0x0000562ba9561c91 f(int) - /a/0x12")
unfolding bare bare_of
bare_two = refl

-- of a place the offset alone counts
bare_place : bare (codes "    [93ac61ec]@0x7f97fe81e000+0xee017") ≡ codes "    []@0x0+0xee017"
unfolding bare bare_of
bare_place = refl

-- a line that has no address
bare_odd : bare (codes "#3  0x") ≡ codes "#3  0x"
unfolding bare bare_of
bare_odd = refl

-- a call of which nothing but its name and its file is known
abbrev call_of : List ℕ → List ℕ → CallView
call_of name binary =
    record { name = name; binary = binary; is_deleted = false; offset = []; file = []; line = 0 }

-- a thread of two calls, outermost first
two_calls : thread_of (codes "#0  0x01 poll - /l/libc.so.6" ∷ codes "    [93ac61ec]@0x7f97fe81e000+0xee017"
    ∷ codes "#1  0x02 main - /x/app" ∷ codes "    a.c:7:3" ∷ [])
    ≡ record {
      calls = record (call_of (codes "main") (codes "/x/app")) { file = codes "a.c"; line = 7 }
          ∷ record (call_of (codes "poll") (codes "/l/libc.so.6")) { offset = codes "ee017" } ∷ [];
      is_odd = false;
    }
unfolding thread_of with_lines read_line bare_of first_where words
two_calls = refl

-- a call is missing
call_missing : (thread_of (codes "#0  0x01 poll" ∷ codes "#2  0x02 main" ∷ [])).is_odd ≡ true
unfolding thread_of with_lines read_line bare_of first_where words
call_missing = refl

-- a second offset of a call is odd, and the first stays
second_offset : thread_of (codes "#0  0x01 f" ∷ codes "    []@0x1+0x2" ∷ codes "    []@0x1+0x3" ∷ [])
    ≡ record { calls = record (call_of (codes "f") []) { offset = codes "2" } ∷ []; is_odd = true }
unfolding thread_of with_lines read_line bare_of first_where words
second_offset = refl

-- an offset without a call
offset_alone : thread_of (codes "    []@0x1+0x2" ∷ []) ≡ record { calls = []; is_odd = true }
unfolding thread_of with_lines read_line bare_of first_where words
offset_alone = refl

-- a text whose lines end with a carriage return and a line feed, and an empty line
two_threads : process_of 7 (lines (codes "PID 7 - process" ++ 13 ∷ 10 ∷ codes "TID 7:" ++ 13 ∷ 10 ∷ codes "#0  0x01 f"
    ++ 13 ∷ 10 ∷ 13 ∷ 10 ∷ codes "TID 9:" ++ 13 ∷ 10 ∷ codes "#0  0x02 g" ++ 13 ∷ 10 ∷ []))
    ≡ record {
      threads = (7, record { calls = call_of (codes "f") [] ∷ []; is_odd = false })
          ∷ (9, record { calls = call_of (codes "g") [] ∷ []; is_odd = false }) ∷ [];
      is_odd = false;
    }
unfolding process_of parted pieces thread_of with_lines read_line bare_of first_where words
two_threads = refl

-- the lines of another process
other_process : (process_of 8 (codes "PID 7 - process" ∷ codes "TID 7:" ∷ [])).is_odd ≡ true
unfolding process_of parted thread_of with_lines read_line bare_of first_where words
other_process = refl

-- a call above the first thread is odd, and of no thread
call_above : process_of 7 (codes "#0  0x01 f" ∷ []) ≡ record { threads = []; is_odd = true }
unfolding process_of parted thread_of with_lines read_line bare_of first_where words
call_above = refl
