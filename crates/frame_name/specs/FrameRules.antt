-- The frame of a call, by rules that the user chooses.
use Rattle.std.specs.Prelude.{ℕ, Bool, ◌&&◌, ◌||◌, not, cond, List, [], codes}
use Rattle.std.specs.Str.{bytes_eq}
use Rattle.symbol_name.specs.Symbols.{is_signal, is_allocator, is_start}
use Rattle.symbol_name.specs.Standard.{is_standard}
use Rattle.frame_name.specs.Calls.{CallView}
use Rattle.frame_name.specs.Frames.{FrameView}
use Rattle.frame_name.specs.Texts.{contains}
use Rattle.frame_name.specs.Words.{any_fits}
use Rattle.frame_name.specs.Binaries.{file_name, is_program, is_shared, is_mpi, waits}
use Rattle.frame_name.specs.Names.{function_of, name_of}
use Rattle.frame_name.specs.SourceLines.{line_of}

pub record RulesView : Type 0 where
  -- words for the names of the shared libraries that are the program's own
  pub own : List (List ℕ)
  -- whether frames show the source file and the line
  pub keeps_lines : Bool

-- whether a binary is the program, or a shared library of its own
abbrev pub is_own_binary : List (List ℕ) → List ℕ → Bool
is_own_binary own binary = is_program binary || (is_shared binary && any_fits own (file_name binary))

-- whether a function of a binary is the program's own code. An allocator is not, wherever it lies, since libraries call
-- it at any time; a signal's mark is.
unfoldable pub is_own_function : List (List ℕ) → List ℕ → List ℕ → Bool
is_own_function own binary function = is_signal function || (is_own_binary own binary && not (is_allocator function))

-- whether a source file is one of the C++ library's
unfoldable pub is_plumbing_file : List ℕ → Bool
is_plumbing_file file = contains (codes "/include/c++/") file

-- the frame of a call
abbrev pub frame_of : RulesView → Bool → CallView → FrameView
frame_of rules is_innermost call = record {
  name = name_of is_innermost call;
  line = cond rules.keeps_lines (line_of call) [];
  is_main = bytes_eq (function_of call) (codes "main");
  is_start = is_start (function_of call);
  is_own = is_own_function rules.own call.binary (function_of call);
  waits = waits call.binary;
  is_mpi = is_mpi call.binary;
  is_standard = is_standard (function_of call);
  is_plumbing = is_plumbing_file call.file;
  is_deleted = call.is_deleted;
}
