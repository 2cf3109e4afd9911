-- What a `Block` owns is taken apart and put together.
use mathlib.Core.Path.{◌≡◌, refl, ◌∙◌}
use Prim.Native.Nat.{ℕ, ◌<◌, ◌^◌}
use mathlib.Core.List.{List, [], ◌∷◌, ◌++◌}
use seplogic.Ra.Ura.{Ura}
use mir.Syntax.{Args, w64, a_type, dcons, dnil}
use mir.Val.{Val, vint, vptr, vstruct, vnil, of_list}
use types.Logic.{Logic}
use types.Kit.{Goal, Step, step, Seq, Item, ‵, ◌$◌, drop, fsplit, fjoin, fpick, feq_l}
use denote.RattleType.{RattleType}
use denote.Param.{param, bounded}
use denote.RawPtr.{block_ptr}
use denote.Shadow.{pure_i}
use denote.Struct.Struct.{Struct}
use denote.Struct.Owning.{shape}
use Rattle.core.proofs.mem.Param.{El, R}
use Rattle.core.proofs.alloc.Calls.{Al, token}
use Rattle.core.proofs.slots.Leases.{lease_val as block_val, block_ty}
use Rattle.node_arena.specs.contracts.slots.Block as L

module _ (E : El) (Z : Al) where
  abbrev pub args : Args
  args = bounded (a_type ∷ a_type ∷ []) (E.row, (Z.row, tt)) (dcons Z.d (dcons Z.drops dnil))

  abbrev pub AllocType : RattleType
  AllocType = param 1 Z.row

  abbrev pub BlockType : RattleType
  BlockType = L.the_row (R E) AllocType Z.g

  abbrev pub made : Z.row.Denot → ℕ → ℕ → ℕ → BlockType.Denot
  made a b o n = record { start = block_ptr b o; capacity = n; marker = record {}; alloc = a }

module _ (E : El) (Z : Al) {M : Type 1} {𝓤 : Ura M} {𝓛 : Logic 𝓤} {K : Type 0} {Γ : List (Item 𝓤)} {G : Goal 𝓤 𝓛.H} where
  pub block_unpack : K → (d : (BlockType E Z).Denot) (vs : List Val)
      → (vs ≡ block_val d.start d.capacity ∷ [] → Seq K 𝓛 (‵ (token Z d.alloc (block_ty E d.capacity) d.start) ∷ Γ) G)
      → Seq K 𝓛 (‵ ((BlockType E Z).own_val d vs) ∷ Γ) G
  block_unpack t d vs k =
      fsplit t $ fpick t (λ vss. fsplit t $ feq_l t (λ all. fsplit t $ feq_l t (λ e₀. fsplit t $ fsplit t $
      feq_l t (λ e₁. drop t $ fsplit t $ fpick t (λ none. fsplit t $ feq_l t (λ e₂. drop t $ drop t $
      k (all ∙ (λ i. vstruct (of_list (e₀ i ++ (e₁ i ++ (e₂ i ++ [])))) ∷ []))))))))

  pub block_pack : K → (a : Z.row.Denot) (b o n : ℕ) → n < 2 ^ 64
      → Step K 𝓛 (‵ ((BlockType E Z).own_val (made E Z a b o n) (block_val (block_ptr b o) n ∷ [])) ∷ Γ) G (‵ (token Z a (block_ty E n) (block_ptr b o)) ∷ Γ) G
  block_pack t a b o n fn = step (λ s.
      pure_i t ((Struct (shape (L.the_type (R E) (AllocType E Z) Z.g))).own_val (block_ptr b o, (n, (tt, tt))) (block_val (block_ptr b o) n ∷ [])) (λ vss. (tt, (tt, ((tt, tt), ((λ uss. (tt, tt)), tt)))))
      ((vptr b o ∷ [], (vint w64 n ∷ [], (vstruct vnil ∷ [], tt))), (refl, (refl, ((refl, fn), ((tt, (refl, tt)), tt))))) $ fjoin t $ s)
