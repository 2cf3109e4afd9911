-- The one spelling of a message in each version.
use Rattle.std.specs.Prelude.{ℕ, List, [], ◌∷◌, ◌++◌, length, cond}
use Rattle.std.specs.List.{flat_map}
use Rattle.std.specs.Int.{w8, w16, w32, w64, to_be_bytes}
use Rattle.rank_set.specs.Ranks.{Ranks, in_order}
use Rattle.rank_set.specs.Runs.{runs_of}
use Rattle.rank_set.specs.Words.{offset_of}
use Rattle.rank_set.specs.WordLists.{words_of}
use Rattle.rank_places.specs.Places.{to_places}
use Rattle.prefix_tree.specs.Tree.{frame_of}
use Rattle.packet_frame.specs.declared.packet.Packet.TheVariants.{Up, Done, Attach, Down}
use Rattle.packet_frame.specs.Frame.{Row, Sent, Message, is_first}

-- a set: where its words begin, how many there are, and the words
abbrev pub set_bytes : Ranks → List ℕ
set_bytes s = to_be_bytes w16 (offset_of s) ++ (to_be_bytes w16 (length (words_of s)) ++ flat_map (to_be_bytes w64) (words_of s))

abbrev pub run_bytes : ℕ × ℕ → List ℕ
run_bytes r = to_be_bytes w32 r.0 ++ to_be_bytes w32 r.1

-- how many runs, and each run's first and last rank
abbrev pub runs_bytes : List (ℕ × ℕ) → List ℕ
runs_bytes runs = to_be_bytes w32 (length runs) ++ flat_map run_bytes runs

abbrev pub coverage_bytes : ℕ → Ranks → List ℕ
coverage_bytes version cover = cond (is_first version) (set_bytes cover) (runs_bytes (runs_of (in_order cover)))

-- what stands for ranks of the coverage: themselves, or their places in it
abbrev pub numbers_of : ℕ → Ranks → Ranks → Ranks
numbers_of version cover ranks = cond (is_first version) ranks (to_places cover ranks)

-- depth, the name's length, the name, and the ends
abbrev pub row_bytes : ℕ → Ranks → Row → List ℕ
row_bytes version cover r = to_be_bytes w8 (length r.path) ++ (to_be_bytes w16 (length (frame_of r.path)) ++ (frame_of r.path ++ set_bytes (numbers_of version cover r.ends)))

abbrev pub sent_bytes : ℕ → Sent → List ℕ
sent_bytes version s = coverage_bytes version s.coverage ++ (to_be_bytes w16 (length s.rows) ++ flat_map (row_bytes version s.coverage) s.rows)

-- version, kind, stream and wave, and the tree
abbrev pub spelling : ℕ → Message → List ℕ
spelling version (Up stream wave sent) = version ∷ 1 ∷ stream ∷ wave ∷ sent_bytes version sent
spelling version (Done stream wave) = version ∷ 2 ∷ stream ∷ wave ∷ []
spelling version Attach = version ∷ 3 ∷ []
spelling version Down = version ∷ 4 ∷ []
