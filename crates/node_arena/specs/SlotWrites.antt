-- Words on `Slots` and `Block`.
use Rattle.std.specs.Prelude.{◌≡◌, ℕ, Some, slice_set}
use Rattle.std.proofs.Common.{sym, ◌∙◌, length-set}
use Rattle.std.specs.Borrow.{Lends, Fml, RattleType, MutBor}
use Rattle.node_arena.specs.declared.slots.Slots.{Slots}
use Rattle.node_arena.specs.declared.slots.Block.{Block}
use Rattle.node_arena.specs.contracts.slots.Slots.{the_row}

module _ {X : Type 0} where
  -- the slots with w in slot i
  abbrev pub with_slot : Slots X → ℕ → X → Slots X
  with_slot s i w = record {
    start = s.start;
    capacity = s.capacity;
    contents = slice_set s.contents i (Some w);
    counted = s.counted ∙ sym (length-set s.contents i (Some w));
    in_range = s.in_range;
  }

  -- both are slots of the same memory
  pub record IsSameBlock (a b : Slots X) : Type 0 where
    pub start : b.start ≡ a.start
    pub capacity : b.capacity ≡ a.capacity

  -- the block is the memory of the slots, and the allocator is the one that gave it
  pub record IsBlockOf {A : Type 0} (block : Block X A) (slots : Slots X) (alloc : A) : Type 0 where
    pub start : block.start ≡ slots.start
    pub capacity : block.capacity ≡ slots.capacity
    pub allocator : block.alloc ≡ alloc

-- when the borrow r ends, slot i has what was written through r
abbrev pub lends_slot : (R : RattleType) → MutBor (Slots R.Denot) → ℕ → MutBor R.Denot → Fml
lends_slot R s i r = Lends (the_row R) R s r (with_slot s.now i)
