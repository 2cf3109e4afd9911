-- What an arena and a chunk are when a `&mut` to one of their values ends.
use Rattle.std.specs.Prelude.{ℕ}
use Rattle.std.specs.Borrow.{Lends, Fml, RattleType, MutBor}
use Rattle.node_arena.specs.Arena.{Arena, Chunk, with_value, with_item}
use Rattle.node_arena.specs.contracts.Arena.{the_row as arena_row}
use Rattle.node_arena.specs.contracts.chunk.Chunk.{the_row as chunk_row}

module _ (T : RattleType) where
  -- the arena has at the place what was written through r
  abbrev pub lends_value : MutBor (Arena T.Denot) → ℕ → MutBor T.Denot → Fml
  lends_value s place r = Lends (arena_row T) T s r (with_value s.now place)

  -- the chunk has for its i-th value what was written through r
  abbrev pub lends_item : MutBor (Chunk T.Denot) → ℕ → MutBor T.Denot → Fml
  lends_item s i r = Lends (chunk_row T) T s r (with_item s.now i)
