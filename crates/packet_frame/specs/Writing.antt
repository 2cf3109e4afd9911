-- What is written of a tree's rows in version 2.
use Rattle.std.specs.Prelude.{◌≡◌, ℕ, suc, true, All, List, [], ◌∷◌, ◌++◌, length}
use Rattle.std.specs.List.{flat_map}
use Rattle.std.specs.FinMap as finmap
use Rattle.std.specs.Int.{w8, w16, to_be_bytes}
use Rattle.std.specs.Str.{is_utf8}
use Rattle.rank_set.specs.Ranks.{Ranks}
use Rattle.rank_places.specs.Places.{to_places}
use Rattle.call_path.specs.Path.{Path}
use Rattle.prefix_tree.specs.declared.Chain.{Chain}
use Rattle.prefix_tree.specs.Tree.{Tree, Marks}
use Rattle.prefix_tree.specs.Chains.{chain_rows}
use Rattle.packet_frame.specs.Frame.{row_of}
use Rattle.packet_frame.specs.Spelling.{set_bytes, row_bytes}

-- of a row without its ends: its depth, the length of its last frame, and that frame
abbrev pub name_bytes : ℕ → List ℕ → List ℕ
name_bytes d f = to_be_bytes w8 d ++ (to_be_bytes w16 (length f) ++ f)

-- of ends that are none
abbrev pub no_ends : List ℕ
no_ends = 0 ∷ 0 ∷ 0 ∷ 0 ∷ []

-- of rows one below the other, the first at a depth: each behind the ends of the row above it, which has none; those of the last are left out
abbrev pub below_bytes : ℕ → Path → List ℕ
below_bytes d [] = []
below_bytes d (f ∷ fs) = no_ends ++ (name_bytes d f ++ below_bytes (suc d) fs)

-- of a row as a reader sees it
abbrev pub seen_bytes : Ranks → ℕ × List ℕ × Marks → List ℕ
seen_bytes cover x = name_bytes x.0 x.1 ++ set_bytes (to_places cover x.2.1)

-- of the rows of a chain
abbrev pub chain_bytes : Ranks → Chain → List ℕ
chain_bytes cover chain = flat_map (seen_bytes cover) (chain_rows chain)

-- each frame is text
abbrev pub AreText : Path → Type 0
AreText fs = All (λ f. is_utf8 f ≡ true) fs

-- of a row of a tree
abbrev pub entry_bytes : Ranks → Path × Marks → List ℕ
entry_bytes cover e = row_bytes 2 cover (row_of e.0 e.1.1)

-- of all rows besides the root
abbrev pub rows_bytes : Tree → List ℕ
rows_bytes t = flat_map (entry_bytes t.coverage) (finmap.entries t.below)
