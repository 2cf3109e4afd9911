-- How the values of a chunk lie in its slots.
use Rattle.std.specs.Prelude.{◌≡◌, ℕ, ◌-◌, ◌<◌, List, [], ◌∷◌, Option, Some, None}
use Rattle.std.specs.declared.alloc.Global.{Global}
use Rattle.node_arena.specs.declared.slots.Slots.{Slots}
use Rattle.node_arena.specs.declared.slots.Block.{Block}
use Rattle.node_arena.specs.SlotWrites.{IsBlockOf}

module _ {X : Type 0} where
  -- the values, in the order of their slots
  abbrev pub slots_view : List (Option X) → List X
  slots_view [] = []
  slots_view (None ∷ ss) = slots_view ss
  slots_view (Some x ∷ ss) = x ∷ slots_view ss

  -- the first n slots have a value, and the others are empty
  abbrev pub IsFilledTo : ℕ → List (Option X) → Type 0
  IsFilledTo n [] = n ≡ 0
  IsFilledTo n (None ∷ ss) = (n ≡ 0) × IsFilledTo 0 ss
  IsFilledTo n (Some x ∷ ss) = (0 < n) × IsFilledTo (n - 1) ss

  -- the chunk's slots are those of its block, and its first `len` slots have the values
  pub record IsChunk (slots : Slots X) (block : Block X Global) (alloc : Global) (len : ℕ) : Type 0 where
    pub filled : IsFilledTo len slots.contents
    pub same : IsBlockOf block slots alloc
