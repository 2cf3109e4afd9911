-- What contracts see of an arena and of a chunk.
use Rattle.std.specs.Prelude.{ℕ, List, refl, slice_set}
use Rattle.std.specs.Coded.{Coded, code_by, coded×, coded_ℕ, coded_list}

-- the values in the order of their places, and how many puts have room
pub record Arena (T : Type 0) : Type 0 where
  pub items : List T
  pub spare : ℕ

abbrev pub arena_code : {T : Type 0} → Coded T → Coded (Arena T)
arena_code {T} code =
    code_by (List T × ℕ) (coded× (coded_list code) coded_ℕ) (λ a. (a.items, a.spare))
    (λ p. record { items = p.0; spare = p.1 }) (λ _. refl)

-- the values of a chunk, and how many it has room for
pub record Chunk (T : Type 0) : Type 0 where
  pub items : List T
  pub capacity : ℕ

abbrev pub chunk_code : {T : Type 0} → Coded T → Coded (Chunk T)
chunk_code {T} code =
    code_by (List T × ℕ) (coded× (coded_list code) coded_ℕ) (λ c. (c.items, c.capacity))
    (λ p. record { items = p.0; capacity = p.1 }) (λ _. refl)

module _ {T : Type 0} where
  -- the arena with w at a place
  abbrev pub with_value : Arena T → ℕ → T → Arena T
  with_value a place w = record a { items = slice_set a.items place w }

  -- the chunk with w for its i-th value
  abbrev pub with_item : Chunk T → ℕ → T → Chunk T
  with_item c i w = record c { items = slice_set c.items i w }
