-- Slots and a block may go to another thread where their values and their allocator may.
use Rattle.std.specs.Prelude.{ℕ, ◌+◌, List, [], ◌∷◌, Option, Some, None}
use base.Shift.{Keyless}
use denote.RattleType.{RattleType}
use denote.RawPtr.{Ptr, block_ptr, null_ptr, in_block}
use denote.Struct.Struct.{exits_of}
use denote.Struct.Owning.{shape, fields, to}
use denote.Param.Send.{IsSend, AllSend, owning_send, struct_send, sendable}
use Rattle.core.specs.declared.alloc.Allocator.{Ghosts}
use Rattle.core.specs.Mem.Slots.Ownership.{bytes_of}
use Rattle.std_alloc.proofs.SendSync.{FreesAnywhere, quiet, lies}
use Rattle.node_arena.specs.Ownership.{slots}
use Rattle.node_arena.specs.contracts.slots.Slots as Slots
use Rattle.node_arena.specs.contracts.slots.Block as Block

module _ (R : RattleType) where
  slots-Keyless : IsSend R → (b o : ℕ) (ss : List (Option R.Denot)) → Keyless (slots R (block_ptr b o) ss)
  slots-Keyless s b o [] = tt
  slots-Keyless s b o (Some x ∷ ss) = (lies R s (block_ptr b o) x, slots-Keyless s b (o + bytes_of R) ss)
  slots-Keyless s b o (None ∷ ss) = (tt, slots-Keyless s b (o + bytes_of R) ss)

  block-Keyless : IsSend R → (p : Ptr) (ss : List (Option R.Denot)) → Keyless (in_block p (slots R p ss))
  block-Keyless s (block_ptr b o) ss = slots-Keyless s b o ss
  block-Keyless s null_ptr ss = tt

  pub Slots-send : IsSend R → IsSend (Slots.the_row R)
  Slots-send s =
      let O = Slots.the_type R in let all : AllSend (fields O) = (search sendable, (search sendable, tt)) in
      owning_send O all (λ d. (tt, block-Keyless s d.start d.contents)) (λ k. quiet (to O) (exits_of k (fields O)) ((struct_send (shape O) all).leaving k))

  module _ (A : RattleType) (g : Ghosts A.Denot) where
    pub Block-send : FreesAnywhere A.Denot g → IsSend (Block.the_row R A g)
    Block-send f =
        let O = Block.the_type R A g in
        let all : AllSend (fields O) = (search sendable, (search sendable, (search sendable, tt))) in
        owning_send O all (λ d. f.frees d.alloc _ d.start) (λ k. quiet (to O) (exits_of k (fields O)) ((struct_send (shape O) all).leaving k))
