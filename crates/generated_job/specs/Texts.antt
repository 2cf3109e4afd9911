-- The three texts of the generated job with a seed and a size, line by line.
use Rattle.std.specs.Prelude.{ℕ, ◌+◌, ◌-◌, ◌*◌, ◌/◌, ◌%◌, min, List, [], ◌∷◌, ◌++◌, map, codes}
use Rattle.std.specs.Fmt.{decimal}
use Rattle.std.specs.List.{range_with_len, flat_map, join_with_byte}
use Rattle.call_path.specs.Path.{Path, path_text}

-- the numbers 0 to n - 1
abbrev pub numbers : ℕ → List ℕ
numbers n = range_with_len 0 n

-- ---- lines

-- lines as a text, each with its line feed
abbrev pub text_of : List (List ℕ) → List ℕ
text_of lines = flat_map (λ line. line ++ 10 ∷ []) lines

-- words with one space between two of them
abbrev pub line_of : List (List ℕ) → List ℕ
line_of words = join_with_byte 32 words

-- a statement: a parent and its children
abbrev pub statement : List ℕ → List (List ℕ) → List ℕ
statement parent children = parent ++ (codes " =>" ++ (flat_map (λ child. 32 ∷ child) children ++ codes " ;"))

-- ---- nodes: the front end, a middle node for each 16 daemons, the last for the rest, and as many daemons as the size

abbrev pub front_name : List ℕ
front_name = codes "fe:0"

abbrev pub middle_name : ℕ → List ℕ
middle_name i = codes "m:" ++ decimal i

abbrev pub daemon_name : ℕ → List ℕ
daemon_name j = codes "d:" ++ decimal j

-- how many middle nodes there are: a sixteenth of the size, rounded up
abbrev pub middle_count : ℕ → ℕ
middle_count size = (size + 15) / 16

-- the daemons under middle node i: 16, or what is left
abbrev pub daemons_under : ℕ → ℕ → List ℕ
daemons_under size i = range_with_len (16 * i) (min 16 (size - 16 * i))

-- ---- the topology

-- the statement of middle node i
abbrev pub middle_line : ℕ → ℕ → List ℕ
middle_line size i = statement (middle_name i) (map daemon_name (daemons_under size i))

-- the statements, where there are this many middle nodes
abbrev pub node_lines : ℕ → ℕ → List (List ℕ)
node_lines size count = statement front_name (map middle_name (numbers count)) ∷ map (middle_line size) (numbers count)

-- the topology's text
abbrev pub topology_text : ℕ → List ℕ
topology_text size = text_of (node_lines size (middle_count size))

-- ---- the samples

-- the line of daemon j, which has the ranks 64 * j to 64 * j + 63
abbrev pub daemon_line : ℕ → List ℕ
daemon_line j = line_of (codes "daemon" ∷ daemon_name j ∷ (decimal (64 * j) ++ 45 ∷ decimal (64 * j + 63)) ∷ [])

-- the path main;fA;gB
abbrev pub path_with : ℕ → ℕ → Path
path_with a b = codes "main" ∷ (102 ∷ decimal a) ∷ (103 ∷ decimal b) ∷ []

-- the path of rank r at time t
abbrev pub sampled_path : ℕ → ℕ → ℕ → Path
sampled_path seed t r = path_with (r / 16 % 4) ((r + t + seed % 3) % 3)

-- the line of rank r at time t
abbrev pub stack_line : ℕ → ℕ → ℕ → List ℕ
stack_line seed t r = line_of (codes "stack" ∷ decimal t ∷ decimal r ∷ path_text (sampled_path seed t r) ∷ [])

-- the lines of all ranks at a time
abbrev pub stack_lines : ℕ → ℕ → ℕ → List (List ℕ)
stack_lines seed size t = map (stack_line seed t) (numbers (64 * size))

-- all lines of the samples: the daemons, then each rank at time 0, then each at time 1
abbrev pub sample_lines : ℕ → ℕ → List (List ℕ)
sample_lines seed size = map daemon_line (numbers size) ++ (stack_lines seed size 0 ++ stack_lines seed size 1)

-- the samples' text
abbrev pub samples_text : ℕ → ℕ → List ℕ
samples_text seed size = text_of (sample_lines seed size)

-- ---- the script

-- the two streams
abbrev pub stream_lines : List (List ℕ)
stream_lines =
    codes "stream 0 wait-for-all waves 1 samples 2 on all" ∷ codes "stream 1 dont-wait waves 1 samples 1 on all" ∷ []

-- the line that loses middle node 2 * k + 1
abbrev pub lose_line : ℕ → List ℕ
lose_line k =
    line_of (codes "lose" ∷ middle_name (2 * k + 1) ∷ codes "after" ∷ codes "20" ∷ codes "keep" ∷ codes "1" ∷ [])

-- the two streams, and the loss of each middle node with an odd number
abbrev pub script_lines : ℕ → List (List ℕ)
script_lines size = stream_lines ++ map lose_line (numbers (middle_count size / 2))

-- the script's text
abbrev pub script_text : ℕ → List ℕ
script_text size = text_of (script_lines size)
