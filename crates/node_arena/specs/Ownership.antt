-- What a `Slots` and a `Block` own, at any type R of values.
use Rattle.std.specs.Prelude.{ℕ, ◌*◌, ◌^◌, List, [], ◌∷◌, Option, Some, None}
use base.Fraction.{full_share}
use base.Fml.{Lft, Fml, ftrue, fsep, flt}
use mir.Syntax.{Ty, ty_array}
use mir.Raw.{raw}
use denote.RattleType.{RattleType}
use denote.Memory.{lone}
use denote.RawPtr.{Ptr, lies_at, room_for, in_block, ◌+ₚ◌}
use denote.Sharing.{nothing, said, beside}
use denote.Struct.Lending.{lent_at}
use Rattle.core.specs.Mem.Slots.Ownership.{bytes_of}

-- a slot with its value, or room for one
abbrev pub slot : (R : RattleType) → Option R.Denot → Ptr → Fml
slot R (Some x) p = lies_at R full_share p x
slot R None p = room_for (raw (lone R.mir)) p

-- slots side by side from p on
abbrev pub slots : (R : RattleType) → Ptr → List (Option R.Denot) → Fml
slots R p [] = ftrue
slots R p (s ∷ ss) = fsep (slot R s p) (slots R (p +ₚ bytes_of R) ss)

-- n slots at p, in one block
abbrev pub owned : (R : RattleType) → Ptr → ℕ → List (Option R.Denot) → Fml
owned R p n ss = fsep (flt (n * bytes_of R) (2 ^ 63)) (in_block p (slots R p ss))

-- what a `&` to the slots shows of one
abbrev pub slot_lent : (R : RattleType) → Option R.Denot → Ptr → Lft → Fml
slot_lent R (Some x) p = lent_at R p x
slot_lent R None p = nothing

abbrev pub slots_lent : (R : RattleType) → Ptr → List (Option R.Denot) → Lft → Fml
slots_lent R p [] = nothing
slots_lent R p (s ∷ ss) = beside (slot_lent R s p) (slots_lent R (p +ₚ bytes_of R) ss)

-- what a `&` to the slots shows
abbrev pub lent : (R : RattleType) → Ptr → ℕ → List (Option R.Denot) → Lft → Fml
lent R p n ss = beside (said (flt (n * bytes_of R) (2 ^ 63))) (slots_lent R p ss)

-- the allocator's token for the block of n slots at p: the right to give it back
abbrev pub block_owned : (Ty → Ptr → Fml) → RattleType → Ptr → ℕ → Fml
block_owned token R p n = token (raw (ty_array (lone R.mir) n)) p

-- no slot has a value
abbrev pub IsEmpty : {X : Type 0} → List (Option X) → Type 0
IsEmpty [] = Unit {0}
IsEmpty (None ∷ ss) = IsEmpty ss
IsEmpty (Some x ∷ ss) = ⊥
