-- What a `Slots` owns is taken apart and put together, and a `&mut` to one is opened and closed. Assumes `Logic`.
use mathlib.Core.Path.{◌≡◌, refl, sym, ap, ◌∙◌}
use Prim.Native.Nat.{ℕ, ◌*◌, ◌<◌, ◌^◌}
use mathlib.Core.List.{List, [], ◌∷◌, ◌++◌}
use seplogic.Ra.Ura.{Ura}
use base.Fraction.{full_share}
use mir.Syntax.{w64}
use mir.Val.{Val, vint, vptr, vstruct, vcons, vnil, of_list}
use base.Logic.{id⊢, never}
use base.Stored.{Gv}
use base.Fml.{Lft, GName, Share, Fml, fsep, flt, flft, fobs, fauth, fbor, fobor}
use types.Logic.{Logic}
use types.Kit.{Goal, Soaks, Step, step, Seq, Item, ‵, ◌$◌, move, drop, rewrite, fsplit, fjoin, fpick, fpack, feq_l, feq_i, flt_l, flt_i}
use types.SemTy.{Body}
use denote.RattleType.{RattleType, Valss}
use denote.Memory.{cell_at, mem}
use denote.RawPtr.{Ptr, block_ptr, ptr_val, in_block, in_a_block}
use denote.Steps.{opens, closes, nothing}
use denote.Struct.Struct.{Struct, within}
use denote.Struct.Owning.{Owning, shape}
use Rattle.core.proofs.mem.Param.{El, R, el_x}
use Rattle.node_arena.specs.Ownership.{slots}
use Rattle.node_arena.specs.declared.slots.Slots.{Slots}
use Rattle.node_arena.specs.contracts.slots.Slots as C
use Rattle.node_arena.proofs.SlotLemmas.{slot_size}

abbrev pub fields_val : Ptr → ℕ → Val
fields_val p n = vstruct (vcons (ptr_val p) (vcons (vint w64 n) vnil))

abbrev pub slots_val : ℕ → ℕ → ℕ → Val
slots_val b o n = fields_val (block_ptr b o) n

module _ (E : El) where
  abbrev pub owning : Owning
  owning = C.the_type (R E)

  abbrev pub SlotsType : RattleType
  SlotsType = C.the_row (R E)

  abbrev pub SlotsOf : Type 0
  SlotsOf = Slots (el_x E)

  -- the two fields of data, as a plain struct
  abbrev pub Fields : RattleType
  Fields = Struct (shape owning)

  abbrev pub all_slots : SlotsOf → ℕ → ℕ → Fml
  all_slots d b o = slots (R E) (block_ptr b o) d.contents

module _ (E : El) {M : Type 1} {𝓤 : Ura M} {𝓛 : Logic 𝓤} {K : Type 0} {Γ : List (Item 𝓤)} {G : Goal 𝓤 𝓛.H} where
  pub slots_unpack : K → (d : SlotsOf E) (vs : List Val)
      → ((b o : ℕ) → d.start ≡ block_ptr b o → vs ≡ slots_val b o d.capacity ∷ [] → d.capacity < 2 ^ 64 → d.capacity * slot_size E < 2 ^ 63 → Seq K 𝓛 (‵ (all_slots E d b o) ∷ Γ) G)
      → Seq K 𝓛 (‵ ((SlotsType E).own_val d vs) ∷ Γ) G
  slots_unpack t d vs k =
      fsplit t $ fpick t (λ vss. fsplit t $ feq_l t (λ all. fsplit t $ feq_l t (λ e₀. fsplit t $ fsplit t $ feq_l t (λ e₁. flt_l t (λ fn. drop t $ fsplit t $ flt_l t (λ fit.
      in_a_block t d.start (λ p. in_block p (slots (R E) p d.contents)) (id⊢ 𝓤 (never 𝓤)) (λ b o e.
      k b o e (all ∙ ((λ i. vstruct (of_list (e₀ i ++ (e₁ i ++ []))) ∷ []) ∙ ap (λ (p : Ptr). fields_val p d.capacity ∷ []) e)) fn fit)))))))

  pub slots_pack : K → (d : SlotsOf E) (b o : ℕ) → d.start ≡ block_ptr b o → d.capacity < 2 ^ 64 → d.capacity * slot_size E < 2 ^ 63
      → Step K 𝓛 (‵ ((SlotsType E).own_val d (slots_val b o d.capacity ∷ [])) ∷ Γ) G (‵ (all_slots E d b o) ∷ Γ) G
  slots_pack t d b o at fn fit = step (λ s.
      flt_i t (d.capacity * slot_size E) (2 ^ 63) fit $ fjoin t $
      nothing t $ flt_i t d.capacity (2 ^ 64) fn $ feq_i t (List Val) (vint w64 d.capacity ∷ []) (vint w64 d.capacity ∷ []) refl $ fjoin t $ fjoin t $
      feq_i t (List Val) (vptr b o ∷ []) (vptr b o ∷ []) refl $ fjoin t $ feq_i t (List Val) (slots_val b o d.capacity ∷ []) (slots_val b o d.capacity ∷ []) refl $ fjoin t $
      fpack t (Valss (shape (owning E)).fields) (within (shape (owning E)) (block_ptr b o, (d.capacity, tt)) (slots_val b o d.capacity ∷ [])) (vptr b o ∷ [], (vint w64 d.capacity ∷ [], tt)) $ fjoin t $
      rewrite t 0 (λ (p : Ptr). ‵ (fsep ((Fields E).own_val (p, (d.capacity, tt)) (slots_val b o d.capacity ∷ [])) (fsep (flt (d.capacity * slot_size E) (2 ^ 63)) (in_block p (slots (R E) p d.contents))))) (sym at) refl $ s)

module _ (E : El) {M : Type 1} {𝓤 : Ura M} {𝓛 : Logic 𝓤} {K : Type 0} {Γ : List (Item 𝓤)} {G : Goal 𝓤 𝓛.H} where
  -- [the slots; the two words; the open borrow; obs; auth]
  pub borrow_open : K → Soaks G → {κ : Lft} {q : Share} {γ : GName} (d : SlotsOf E) (rb ro : ℕ)
      → ((b o : ℕ) → d.start ≡ block_ptr b o → d.capacity < 2 ^ 64 → d.capacity * slot_size E < 2 ^ 63
      → Seq K 𝓛 (‵ (all_slots E d b o) ∷ ‵ (cell_at full_share (SlotsType E).mir (slots_val b o d.capacity ∷ []) rb ro) ∷ ‵ (fobor κ q (Body (mem (SlotsType E)) rb ro γ)) ∷ ‵ (fobs γ ((SlotsType E).coded.code d)) ∷ ‵ (fauth γ ((SlotsType E).coded.code d)) ∷ Γ) G)
      → Seq K 𝓛 (‵ (fobs γ ((SlotsType E).coded.code d)) ∷ ‵ (fbor κ (Body (mem (SlotsType E)) rb ro γ)) ∷ ‵ (flft κ q) ∷ Γ) G
  borrow_open t z d rb ro k =
      opens t z (SlotsType E) {h = d} rb ro (λ vs. move t (1 ∷ []) $ slots_unpack E t d vs (λ b o e is fn fit.
      rewrite t 1 (λ (ws : List Val). ‵ (cell_at full_share (SlotsType E).mir ws rb ro)) is refl $ k b o e fn fit))

  pub borrow_close : K → Soaks G → {κ : Lft} {q : Share} {u v : Gv} {γ : GName} (d : SlotsOf E) (b o rb ro : ℕ) → d.start ≡ block_ptr b o → d.capacity < 2 ^ 64 → d.capacity * slot_size E < 2 ^ 63
      → Step K 𝓛 (‵ (fobs γ ((SlotsType E).coded.code d)) ∷ ‵ (fbor κ (Body (mem (SlotsType E)) rb ro γ)) ∷ ‵ (flft κ q) ∷ Γ) G
      (‵ (all_slots E d b o) ∷ ‵ (cell_at full_share (SlotsType E).mir (slots_val b o d.capacity ∷ []) rb ro) ∷ ‵ (fobor κ q (Body (mem (SlotsType E)) rb ro γ)) ∷ ‵ (fobs γ u) ∷ ‵ (fauth γ v) ∷ Γ) G
  borrow_close t z d b o rb ro at fn fit = step (λ s. slots_pack E t d b o at fn fit $ move t (1 ∷ 0 ∷ []) $ closes t z (SlotsType E) d (slots_val b o d.capacity ∷ []) rb ro $ s)
