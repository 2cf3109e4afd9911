-- The blocks of ranks, one for each state that has ranks. No public clause cites these definitions.
use Rattle.std.specs.Prelude.{ℕ, suc, ◌<◌, ◌-◌, nat_eq, cond, List, [], ◌∷◌, ◌++◌, length, get_or, map, set}
use Rattle.std.specs.List.{AllByRecursion}
use Rattle.rank_set.specs.Ranks.{Ranks, none, union}
use Rattle.rank_set.specs.Runs.{ranks_between}
use Rattle.call_path.specs.Path.{Path}
use Rattle.equiv_class.specs.Origins.{origin_of, paths_before}
use Rattle.equiv_class.specs.declared.rank_blocks.Block.{Block}
use Rattle.equiv_class.specs.declared.rank_blocks.Blocks.{Blocks}
use Rattle.equiv_class.specs.declared.states.Origin.{Origin}

-- the ranks of a block, and the paths that led to its state
abbrev pub block_view : List (Path × Ranks) → List Origin → Block → Ranks × List Path
block_view es origins block = (block.ranks, paths_before es origins block.state)

-- those of each block
abbrev pub blocks_view : List (Path × Ranks) → Blocks → List (Ranks × List Path)
blocks_view es blocks = map (block_view es blocks.origins.items) blocks.all.items

-- the state of each block has an origin, and each but 0 comes from a lesser one
pub record HasStates (blocks : Blocks) : Type 0 where
  pub in_origins : AllByRecursion (λ (block : Block). block.state < length blocks.origins.items) blocks.all.items
  pub backward : (k : ℕ) → 0 < k → (origin_of blocks.origins.items k).from < k

-- a block without ranks
abbrev pub empty_block : ℕ → Block
empty_block state = record { state = state; ranks = none }

-- the block that has a number, from 1
abbrev pub block_of : List Block → ℕ → Block
block_of blocks number = get_or blocks (number - 1) (empty_block 0)

-- the number of a state's block, which may be the next one
abbrev pub number_of : ℕ → List ℕ → List Block → ℕ
number_of state numbers blocks = cond (nat_eq (get_or numbers state 0) 0) (suc (length blocks)) (get_or numbers state 0)

-- the numbers with that of this state
abbrev pub with_number : ℕ → List ℕ → List Block → List ℕ
with_number state numbers blocks = cond (nat_eq (get_or numbers state 0) 0) (set numbers state (suc (length blocks))) numbers

-- the blocks with one of this state
abbrev pub with_block : ℕ → List ℕ → List Block → List Block
with_block state numbers blocks = cond (nat_eq (get_or numbers state 0) 0) (blocks ++ empty_block state ∷ []) blocks

-- a block with more ranks
abbrev pub more_ranks : ℕ → ℕ → Block → Block
more_ranks first last block = record { state = block.state; ranks = union block.ranks (ranks_between first last) }

-- the blocks with more ranks in the one that has a number
abbrev pub with_run : ℕ → ℕ → ℕ → List Block → List Block
with_run number first last blocks = set blocks (number - 1) (more_ranks first last (block_of blocks number))
