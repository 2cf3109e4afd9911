-- How the values of an arena lie in its chunks.
use Rattle.std.specs.Prelude.{◌≡◌, ℕ, ◌+◌, ◌-◌, ◌*◌, ◌^◌, ◌<◌, ◌≤◌, List, [], ◌∷◌, ◌++◌, length, min, slice_index_or}
use Rattle.node_arena.specs.declared.TheConstants.{CHUNK_CAPACITY}
use Rattle.node_arena.specs.Arena.{Chunk}

module _ {T : Type 0} where
  -- the values of all chunks
  abbrev pub chunks_view : List (Chunk T) → List T
  chunks_view [] = []
  chunks_view (c ∷ cs) = c.items ++ chunks_view cs

  -- n values fill the chunks from the first on, and each chunk has room for as many as any other
  abbrev pub IsPacked : ℕ → List (Chunk T) → Type 0
  IsPacked n [] = n ≡ 0
  IsPacked n (c ∷ cs) =
      (c.capacity ≡ CHUNK_CAPACITY) × (length c.items ≡ min n CHUNK_CAPACITY) × IsPacked (n - CHUNK_CAPACITY) cs

  -- the chunks hold n values, and have room for the spare
  pub record IsArena (cs : List (Chunk T)) (n spare : ℕ) : Type 0 where
    pub packed : IsPacked n cs
    pub fits : n + spare ≤ length cs * CHUNK_CAPACITY
    pub in_range : n + spare < 2 ^ 32

  -- each chunk is where it was, and those after them are empty
  abbrev pub IsGrown : List (Chunk T) → List (Chunk T) → Type 0
  IsGrown [] [] = Unit {0}
  IsGrown [] (d ∷ ds) = (d.items ≡ []) × (d.capacity ≡ CHUNK_CAPACITY) × IsGrown [] ds
  IsGrown (c ∷ cs) [] = ⊥
  IsGrown (c ∷ cs) (d ∷ ds) = (d ≡ c) × IsGrown cs ds

  -- each chunk has lost its values, and nothing else
  pub record IsCleared (cs ds : List (Chunk T)) : Type 0 where
    pub count : length ds ≡ length cs
    pub empty : (k : ℕ) (d : Chunk T) → k < length ds → (slice_index_or ds k d).items ≡ []
    pub capacity : (k : ℕ) (d : Chunk T) → k < length ds
        → (slice_index_or ds k d).capacity ≡ (slice_index_or cs k d).capacity
