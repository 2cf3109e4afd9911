-- What a `&` to a `Slots` shows: its two fields, and a `&` to each value. Assumes `Logic`.
use mathlib.Core.Path.{◌≡◌, refl}
use Prim.Native.Nat.{ℕ, zero, suc, ◌+◌, ◌*◌, ◌<◌, ◌^◌}
use native.Mathlib.Nat.{not-suc-le-zero, le_of_suc-le-suc}
use mathlib.Core.List.{List, [], ◌∷◌}
use lib.ListN.{length, get_or}
use seplogic.Ra.Ura.{Ura}
use base.Logic.{ent, sep, never}
use base.Fml.{Lft, flt, fhide}
use types.Logic.{Logic, sem}
use types.Kit.{‵, ◌⊛◌, ◌$◌, ◌∵◌, !, qed, by, move, keep, drop, use1, split, rewrite, fsplit, done}
use denote.Builtin.{usize}
use denote.Memory.{hidden_shr}
use denote.RawPtr.{RawPtr, block_ptr, null_ptr}
use denote.Index.{place, place_is}
use denote.Struct.Lending.{lent_out}
use denote.Opens.{unhide}
use Rattle.core.proofs.mem.Param.{El, R, el_x}
use Rattle.std.specs.Prelude.{Option, Some, None}
use Rattle.node_arena.specs.Ownership.{slot_lent, slots_lent}
use Rattle.node_arena.specs.contracts.slots.Slots as C
use Rattle.node_arena.proofs.SlotLemmas.{slot_size}
use Rattle.node_arena.proofs.MutBorrow.{SlotsType, SlotsOf, Fields}

module _ (E : El) {M : Type 1} {𝓤 : Ura M} (𝓛 : Logic 𝓤) (κ : Lft) where
  pub fields_lent : (d : SlotsOf E) (b o : ℕ)
      → ent 𝓤 (sem 𝓛 (hidden_shr (SlotsType E) κ d b o)) (sep 𝓤 (sem 𝓛 (hidden_shr RawPtr κ d.start b (o + 0))) (sep 𝓤 (sem 𝓛 (hidden_shr usize κ d.capacity b (o + 8)))
      (sep 𝓤 (sem 𝓛 (flt (d.capacity * slot_size E) (2 ^ 63))) (sem 𝓛 (slots_lent (R E) d.start d.contents κ)))))
  fields_lent d b o = qed 𝓛 (‵ (hidden_shr (SlotsType E) κ d b o) ∷ []) ∵
      use1 𝓛 (‵ (hidden_shr (Fields E) κ (d.start, (d.capacity, tt)) b o) ⊛ ‵ (fhide (C.the_lent (R E) d d.start κ))) (lent_out 𝓛 (C.struct (R E)) (C.the_codes (el_x E) (R E).coded) (C.the_heap (R E)) (C.the_lent (R E)) κ d b o) $ split ! $
      unhide ! $ fsplit ! $ fsplit ! $ move ! (1 ∷ []) $ fsplit ! $ keep ! (2 ∷ 0 ∷ 4 ∷ []) $ done !

  pub no_value_at_null : (ss : List (Option (el_x E))) (i : ℕ) (x : el_x E) → i < length ss → get_or ss i None ≡ Some x
      → ent 𝓤 (sem 𝓛 (slots_lent (R E) null_ptr ss κ)) (never 𝓤)
  no_value_at_null [] i x l full = absurd (not-suc-le-zero l)
  no_value_at_null (f ∷ ss) zero x l full =
      qed 𝓛 (‵ (slot_lent (R E) f null_ptr κ) ∷ ‵ (slots_lent (R E) null_ptr ss κ) ∷ []) ∵
      rewrite ! 0 (λ (g : Option (el_x E)). ‵ (slot_lent (R E) g null_ptr κ)) full refl $ fsplit ! $ keep ! (0 ∷ []) $
      done !
  no_value_at_null (f ∷ ss) (suc i) x l full =
      qed 𝓛 (‵ (slot_lent (R E) f null_ptr κ) ∷ ‵ (slots_lent (R E) null_ptr ss κ) ∷ []) ∵
      drop ! $ by ! (no_value_at_null ss i x (le_of_suc-le-suc l) full)

  one_lent : (b o : ℕ) (ss : List (Option (el_x E))) (i : ℕ) (x : el_x E) → i < length ss → get_or ss i None ≡ Some x
      → ent 𝓤 (sem 𝓛 (slots_lent (R E) (block_ptr b o) ss κ)) (sem 𝓛 (hidden_shr (R E) κ x b (place (slot_size E) o i)))
  one_lent b o [] i x l full = absurd (not-suc-le-zero l)
  one_lent b o (f ∷ ss) zero x l full =
      qed 𝓛 (‵ (slot_lent (R E) f (block_ptr b o) κ) ∷ ‵ (slots_lent (R E) (block_ptr b (o + slot_size E)) ss κ) ∷ []) ∵
      rewrite ! 0 (λ (g : Option (el_x E)). ‵ (slot_lent (R E) g (block_ptr b o) κ)) full refl $ fsplit ! $
      keep ! (1 ∷ []) $ done !
  one_lent b o (f ∷ ss) (suc i) x l full =
      qed 𝓛 (‵ (slot_lent (R E) f (block_ptr b o) κ) ∷ ‵ (slots_lent (R E) (block_ptr b (o + slot_size E)) ss κ) ∷ []) ∵
      drop ! $ by ! (one_lent b (o + slot_size E) ss i x (le_of_suc-le-suc l) full)

  pub value_lent : (b o : ℕ) (ss : List (Option (el_x E))) (i : ℕ) (x : el_x E) → i < length ss
      → get_or ss i None ≡ Some x
      → ent 𝓤 (sem 𝓛 (slots_lent (R E) (block_ptr b o) ss κ)) (sem 𝓛 (hidden_shr (R E) κ x b (i * slot_size E + o)))
  value_lent b o ss i x l full = qed 𝓛 (‵ (slots_lent (R E) (block_ptr b o) ss κ) ∷ []) ∵
      use1 𝓛 (‵ (hidden_shr (R E) κ x b (place (slot_size E) o i))) (one_lent b o ss i x l full) $
      rewrite ! 0 (λ (k : ℕ). ‵ (hidden_shr (R E) κ x b k)) (place_is (slot_size E) o i) refl $ done !
