-- A `&` to a `Slots` is made as one to each of its values is. It lends the bound on its size and those values.
use mathlib.Core.List.{List, [], ◌∷◌, ◌++◌}
use Prim.Native.Nat.{◌*◌, ◌^◌}
use seplogic.Ra.Ura.{Ura}
use base.Fml.{Lft, ftrue, flt, Incl-trans}
use types.Logic.{Logic}
use contract.BorrowLft.{meet_⊑_left}
use denote.RattleType.{RattleType, RowLaws}
use denote.Sharing.{ShrLaws, said}
use denote.SharingLaws.{nothing_shr_laws, said_shr_laws, beside_shr_laws}
use denote.RawPtr.{Ptr, block_ptr, null_ptr, in_block, ◌+ₚ◌}
use denote.Shares.{Shares, Shares-less}
use denote.Param.Laws.{Laws}
use denote.Param.Shared.{copy_shared}
use denote.Struct.Field.{RawPtr-field, usize-field}
use denote.Struct.Laws.{RawPtr-copy, usize-copy}
use denote.Struct.Lending.{lent_at_shr_laws, Lends, Lends-false, Lends-lies, Lends-said, Lends-nothing, Lends-both, of_Lends}
use Rattle.std.specs.Prelude.{Option, Some, None}
use Rattle.core.specs.Mem.Slots.Ownership.{bytes_of}
use Rattle.node_arena.specs.Ownership.{slot, slots, slot_lent, slots_lent}
use Rattle.node_arena.specs.contracts.slots.Slots as C
use Rattle.node_arena.proofs.slots.Slots.TheLaw.Statement.{statement}

module _ (R : RattleType) (L : RowLaws R) where
  slot_laws : (s : Option R.Denot) (p : Ptr) → ShrLaws (slot_lent R s p)
  slot_laws (Some x) p = lent_at_shr_laws R L p x
  slot_laws None p = nothing_shr_laws

  slots_laws : (p : Ptr) (ss : List (Option R.Denot)) → ShrLaws (slots_lent R p ss)
  slots_laws p [] = nothing_shr_laws
  slots_laws p (s ∷ ss) = beside_shr_laws (slot_lent R s p) (slots_lent R (p +ₚ bytes_of R) ss) (slot_laws s p) (slots_laws (p +ₚ bytes_of R) ss)

module _ {M : Type 1} {𝓤 : Ura M} (𝓛 : Logic 𝓤) (R : RattleType) (l : Lft) (sh : Shares 𝓛 R l) where
  Lends-slot : (s : Option R.Denot) (p : Ptr) → Lends 𝓛 (slot R s p) (slot_lent R s p) l
  Lends-slot (Some x) p = Lends-lies 𝓛 R l p x (sh x)
  Lends-slot None p = Lends-nothing 𝓛 (slot R None p) l

  Lends-slots : (p : Ptr) (ss : List (Option R.Denot)) → Lends 𝓛 (slots R p ss) (slots_lent R p ss) l
  Lends-slots p [] = Lends-nothing 𝓛 ftrue l
  Lends-slots p (s ∷ ss) =
      Lends-both 𝓛 (slot R s p) (slots R (p +ₚ bytes_of R) ss) (slot_lent R s p) (slots_lent R (p +ₚ bytes_of R) ss) l (Lends-slot s p) (Lends-slots (p +ₚ bytes_of R) ss)

  Lends-all : (p : Ptr) (ss : List (Option R.Denot)) → Lends 𝓛 (in_block p (slots R p ss)) (slots_lent R p ss) l
  Lends-all (block_ptr b o) ss = Lends-slots (block_ptr b o) ss
  Lends-all null_ptr ss = Lends-false 𝓛 (slots_lent R null_ptr ss) l

pub shares : (R : RattleType) (L : Laws R) → statement R L
shares R L = of_Lends (C.struct R) (C.the_codes R.Denot R.coded) (C.the_heap R) (C.the_lent R)
    (λ d p. let small = flt (d.capacity * bytes_of R) (2 ^ 63) in beside_shr_laws (said small) (slots_lent R d.start d.contents) (said_shr_laws small tt) (slots_laws R L.shr_laws d.start d.contents))
    (copy_shared RawPtr-field RawPtr-copy, (copy_shared usize-field usize-copy, tt))
    (λ M 𝓤 𝓛 d p.
    let l = (C.the_row R).lives in
    let small = flt (d.capacity * bytes_of R) (2 ^ 63) in
    Lends-both 𝓛 small (in_block d.start (slots R d.start d.contents)) (said small) (slots_lent R d.start d.contents) l (Lends-said 𝓛 small tt l)
    (Lends-all 𝓛 R l (Shares-less 𝓛 R R.lives l (Incl-trans (meet_⊑_left (R.lives ++ []) _) (meet_⊑_left R.lives [])) (L.shares 𝓛)) d.start d.contents))
