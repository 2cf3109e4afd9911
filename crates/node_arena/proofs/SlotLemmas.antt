-- One slot comes out of many and goes back, with its value or empty; room for an array is empty slots. Assumes `Logic`.
use Rattle.std.proofs.Common.{◌≡◌, refl, sym, ℕ, zero, suc, ◌+◌, ◌*◌, ◌<◌, List, [], ◌∷◌, length, get_or, set}
use native.Mathlib.Nat.{not-suc-le-zero, le_of_suc-le-suc}
use lib.ListN.{replicate}
use seplogic.Ra.Ura.{Ura}
use base.Fraction.{full_share}
use mir.Syntax.{ty_array}
use mir.Val.{Val}
use base.Logic.{SProp, ent, sep, ex, guard}
use base.Fml.{Fml, ftrue, fsep, fat, froom}
use types.Logic.{Logic, sem}
use types.Kit.{‵, ◌⊛◌, some, given, ◌$◌, ◌∵◌, !, qed, by, move, keep, show, use1, use2, split, pick, learn, rewrite, fsplit, check, frame, done}
use denote.Memory.{part_at}
use denote.RawPtr.{block_ptr}
use denote.Index.{place, place_is}
use Rattle.std.specs.Prelude.{Option, Some, None}
use Rattle.core.proofs.mem.Param.{El, R, el_x, elτ, Good}
use Rattle.core.proofs.slice.Rows.{el_out, el_in}
use Rattle.core.specs.Mem.Slots.Ownership.{bytes_of}
use Rattle.node_arena.specs.Ownership.{slot, slots}

module _ (E : El) where
  abbrev pub slot_size : ℕ
  slot_size = bytes_of (R E)

  abbrev pub Contents : Type 0
  Contents = List (Option (el_x E))

  -- the slots without slot i
  abbrev pub other_slots : ℕ → ℕ → Contents → ℕ → Fml
  other_slots b o [] i = ftrue
  other_slots b o (s ∷ ss) zero = slots (R E) (block_ptr b (o + slot_size)) ss
  other_slots b o (s ∷ ss) (suc i) = fsep (slot (R E) s (block_ptr b o)) (other_slots b (o + slot_size) ss i)

module _ (E : El) {M : Type 1} {𝓤 : Ura M} (𝓛 : Logic 𝓤) (b : ℕ) where
  open 𝓛 use {H}

  abbrev ◌⊢◌ : SProp 𝓤 → SProp 𝓤 → Type 1
  P ⊢ Q = ent 𝓤 P Q

  abbrev ◌∗◌ : SProp 𝓤 → SProp 𝓤 → SProp 𝓤
  P ∗ Q = sep 𝓤 P Q

  abbrev ⟦◌⟧ : Fml → SProp 𝓤
  ⟦ P ⟧ = sem 𝓛 P

  infix 26 ◌⊢◌
  infixr 35 ◌∗◌
  abbrev s : ℕ
  s = slot_size E

  abbrev one : Option (el_x E) → ℕ → Fml
  one f o = slot (R E) f (block_ptr b o)

  abbrev all : ℕ → Contents E → Fml
  all o ss = slots (R E) (block_ptr b o) ss

  slot_out : (ss : Contents E) (i o : ℕ) → i < length ss
      → ⟦ all o ss ⟧ ⊢ ⟦ one (get_or ss i None) (place s o i) ⟧ ∗ ⟦ other_slots E b o ss i ⟧
  slot_out [] i o l = absurd (not-suc-le-zero l)
  slot_out (f ∷ ss) zero o l = qed 𝓛 (‵ (all o (f ∷ ss)) ∷ []) ∵ fsplit ! $ done !
  slot_out (f ∷ ss) (suc i) o l =
      qed 𝓛 (‵ (all o (f ∷ ss)) ∷ []) ∵ fsplit ! $ move ! (1 ∷ []) $
      use1 𝓛 (‵ (one (get_or ss i None) (place s (o + s) i)) ⊛ ‵ (other_slots E b (o + s) ss i)) (slot_out ss i (o + s) (le_of_suc-le-suc l)) $ split ! $ frame ! $ move ! (1 ∷ 0 ∷ []) $ done !

  slot_in : (ss : Contents E) (i : ℕ) (y : Option (el_x E)) (o : ℕ) → i < length ss
      → ⟦ one y (place s o i) ⟧ ∗ ⟦ other_slots E b o ss i ⟧ ⊢ ⟦ all o (set ss i y) ⟧
  slot_in [] i y o l = absurd (not-suc-le-zero l)
  slot_in (f ∷ ss) zero y o l = qed 𝓛 (‵ (one y o) ∷ ‵ (all (o + s) ss) ∷ []) ∵ done !
  slot_in (f ∷ ss) (suc i) y o l =
      qed 𝓛 (‵ (one y (place s (o + s) i)) ∷ ‵ (other_slots E b o (f ∷ ss) (suc i)) ∷ []) ∵ move ! (1 ∷ []) $ fsplit ! $
      move ! (2 ∷ 1 ∷ []) $
      use2 𝓛 (‵ (all (o + s) (set ss i y))) (slot_in ss i y (o + s) (le_of_suc-le-suc l)) $ move ! (1 ∷ 0 ∷ []) $ done !

  -- a slot is room, whether or not it has a value
  slot_to_room : (f : Option (el_x E)) (o : ℕ) → ⟦ one f o ⟧ ⊢ H.room (elτ E) b o
  slot_to_room None o = 𝓛.laws.raw-room (elτ E) b o
  slot_to_room (Some x) o = qed 𝓛 (‵ (part_at (R E) full_share x b o) ∷ []) ∵
      use1 𝓛 (some (λ (v : Val). given (Good E v) (‵ (fat full_share (elτ E) b o v) ⊛ ‵ (E.row.own_val x (v ∷ []))))) (el_out E 𝓛 b x o) $ pick ! (λ v. learn ! (λ tv. split ! $
      keep ! (0 ∷ []) $ by ! (𝓛.laws.at_room (elτ E) b o v)))

  module _ (o : ℕ) (ss : Contents E) (i : ℕ) (l : i < length ss) where
    pub room_out : ⟦ all o ss ⟧ ⊢ H.room (elτ E) b (i * s + o) ∗ ⟦ other_slots E b o ss i ⟧
    room_out =
        qed 𝓛 (‵ (all o ss) ∷ []) ∵
        use1 𝓛 (‵ (one (get_or ss i None) (place s o i)) ⊛ ‵ (other_slots E b o ss i)) (slot_out ss i o l) $ split ! $
        use1 𝓛 (‵ (froom (elτ E) b (place s o i))) (slot_to_room (get_or ss i None) (place s o i)) $
        rewrite ! 0 (λ (k : ℕ). ‵ (froom (elτ E) b k)) (place_is s o i) refl $ done !

    pub room_in : H.room (elτ E) b (i * s + o) ∗ ⟦ other_slots E b o ss i ⟧ ⊢ ⟦ all o (set ss i None) ⟧
    room_in =
        qed 𝓛 (‵ (froom (elτ E) b (i * s + o)) ∷ ‵ (other_slots E b o ss i) ∷ []) ∵
        rewrite ! 0 (λ (k : ℕ). ‵ (froom (elτ E) b k)) (sym (place_is s o i)) refl $
        use1 𝓛 (‵ (one None (place s o i))) (𝓛.laws.room-raw (elτ E) b (place s o i)) $
        by ! (slot_in ss i None o l)

    pub value_in : (y : el_x E) (v : Val)
        → H.at full_share (elτ E) b (i * s + o) v ∗ ⟦ E.row.own_val y (v ∷ []) ⟧ ∗ ⟦ other_slots E b o ss i ⟧ ⊢ ⟦ all o (set ss i (Some y)) ⟧
    value_in y v =
        qed 𝓛 (‵ (fat full_share (elτ E) b (i * s + o) v) ∷ ‵ (E.row.own_val y (v ∷ [])) ∷ ‵ (other_slots E b o ss i) ∷ []) ∵
        use2 𝓛 (‵ (part_at (R E) full_share y b (i * s + o))) (el_in E 𝓛 b y (i * s + o) v) $
        rewrite ! 0 (λ (k : ℕ). ‵ (part_at (R E) full_share y b k)) (sym (place_is s o i)) refl $
        by ! (slot_in ss i (Some y) o l)

    module _ (x : el_x E) (full : get_or ss i None ≡ Some x) where
      pub item_out : ⟦ all o ss ⟧ ⊢ ⟦ part_at (R E) full_share x b (i * s + o) ⟧ ∗ ⟦ other_slots E b o ss i ⟧
      item_out =
          qed 𝓛 (‵ (all o ss) ∷ []) ∵
          use1 𝓛 (‵ (one (get_or ss i None) (place s o i)) ⊛ ‵ (other_slots E b o ss i)) (slot_out ss i o l) $ split ! $
          rewrite ! 0 (λ (g : Option (el_x E)). ‵ (one g (place s o i))) full refl $
          rewrite ! 0 (λ (k : ℕ). ‵ (part_at (R E) full_share x b k)) (place_is s o i) refl $ done !

      pub value_out : ⟦ all o ss ⟧ ⊢ ex 𝓤 (λ (v : Val). guard 𝓤 (Good E v) (H.at full_share (elτ E) b (i * s + o) v ∗ ⟦ E.row.own_val x (v ∷ []) ⟧ ∗ ⟦ other_slots E b o ss i ⟧))
      value_out =
          qed 𝓛 (‵ (all o ss) ∷ []) ∵
          use1 𝓛 (‵ (part_at (R E) full_share x b (i * s + o)) ⊛ ‵ (other_slots E b o ss i)) item_out $ split ! $
          use1 𝓛 (some (λ (v : Val). given (Good E v) (‵ (fat full_share (elτ E) b (i * s + o) v) ⊛ ‵ (E.row.own_val x (v ∷ []))))) (el_out E 𝓛 b x (i * s + o)) $ pick ! (λ v. learn ! (λ tv. split ! $
          show ! (λ (w : Val). guard 𝓤 (Good E w) (H.at full_share (elτ E) b (i * s + o) w ∗ ⟦ E.row.own_val x (w ∷ []) ⟧ ∗ ⟦ other_slots E b o ss i ⟧)) v $ check ! tv $ done !))

    pub item_in : (y : el_x E)
        → ⟦ part_at (R E) full_share y b (i * s + o) ⟧ ∗ ⟦ other_slots E b o ss i ⟧ ⊢ ⟦ all o (set ss i (Some y)) ⟧
    item_in y =
        qed 𝓛 (‵ (part_at (R E) full_share y b (i * s + o)) ∷ ‵ (other_slots E b o ss i) ∷ []) ∵
        rewrite ! 0 (λ (k : ℕ). ‵ (part_at (R E) full_share y b k)) (sym (place_is s o i)) refl $
        by ! (slot_in ss i (Some y) o l)

  -- room for an array is empty slots side by side, and any slots are room
  pub of_room : (n o : ℕ) → H.room (ty_array (elτ E) n) b o ⊢ ⟦ all o (replicate n None) ⟧
  of_room zero o = qed 𝓛 (‵ (froom (ty_array (elτ E) 0) b o) ∷ []) ∵ keep ! [] $ done !
  of_room (suc n) o = qed 𝓛 (‵ (froom (ty_array (elτ E) (suc n)) b o) ∷ []) ∵
      use1 𝓛 (‵ (froom (elτ E) b o) ⊛ ‵ (froom (ty_array (elτ E) n) b (o + s))) (𝓛.laws.room_uncons (elτ E) n b o) $
      split ! $
      use1 𝓛 (‵ (one None o)) (𝓛.laws.room-raw (elτ E) b o) $ frame ! $ by ! (of_room n (o + s))

  pub to_room : (ss : Contents E) (o : ℕ) → ⟦ all o ss ⟧ ⊢ H.room (ty_array (elτ E) (length ss)) b o
  to_room [] o = 𝓛.laws.room_nil (elτ E) b o
  to_room (f ∷ ss) o =
      qed 𝓛 (‵ (one f o) ∷ ‵ (all (o + s) ss) ∷ []) ∵
      use1 𝓛 (‵ (froom (elτ E) b o)) (slot_to_room f o) $ move ! (1 ∷ []) $
      use1 𝓛 (‵ (froom (ty_array (elτ E) (length ss)) b (o + s))) (to_room ss (o + s)) $ move ! (1 ∷ []) $
      by ! (𝓛.laws.room_cons (elτ E) (length ss) b o)
