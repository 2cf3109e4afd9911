-- The files that a call reads.
use Rattle.std.specs.Prelude.{ℕ, List, [], ◌∷◌, ◌++◌, map}
use Rattle.stat_words.specs.Words.{Asked, Names}
use Rattle.stat_words.specs.Words.{Run, Sim, Replay, Direct, Gen, Cast, Sums, View, Frames}
use Rattle.job_files.specs.declared.status.FileRole.{FileRole}
use Rattle.job_files.specs.declared.status.FileRole.TheVariants.{Topology, Samples, Script, Journal, Capture, Values}

-- what a file says, and its name
abbrev pub NamedFile : Type 0
NamedFile = FileRole × List ℕ

-- the files of a plan
abbrev pub plan_files : Names → List NamedFile
plan_files names = (Topology, names.topology) ∷ (Samples, names.samples) ∷ (Script, names.script) ∷ []

-- the files that the words name, in the order in which they are read
abbrev pub files_of : Asked → List NamedFile
files_of (Run names workers wanted) = plan_files names
files_of (Sim names seed wanted) = plan_files names
files_of (Replay names journal wanted) = plan_files names ++ (Journal, journal) ∷ []
files_of (Direct names workers form) = plan_files names
files_of (Gen size seed) = []
files_of (Cast names seed commands) = plan_files names
files_of (Sums names seed wanted) = plan_files names ++ (Values, wanted.values) ∷ []
files_of (View names seed wanted) = plan_files names
files_of (Frames capture) = (Capture, capture) ∷ []

-- their names
abbrev pub names_in : List NamedFile → List (List ℕ)
names_in files = map (λ f. f.1) files

-- the most bytes of a file
abbrev pub limit_of : FileRole → ℕ
limit_of Topology = 33554432
limit_of Samples = 33554432
limit_of Script = 33554432
limit_of Journal = 1073741824
limit_of Capture = 1073741824
limit_of Values = 33554432
