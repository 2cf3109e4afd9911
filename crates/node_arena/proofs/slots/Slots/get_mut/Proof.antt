-- `get_mut` lends the value in slot i, and the slots follow it, for every type of values. Assumes `Logic`.
use mathlib.Core.Path.{◌≡◌, refl}
use Rattle.std.specs.Prelude.{Some, None, IsSome}
use Rattle.node_arena.proofs.Occupied.{Occupied, occupied_at}
use Prim.Native.Nat.{ℕ, ◌+◌, ◌*◌, ◌<◌, ◌^◌}
use native.Mathlib.Omega.{arith}
use mathlib.Core.List.{List, [], ◌∷◌}
use lib.ListN.{length, get_or}
use base.Fraction.{full_share}
use mir.Syntax.{Fn, w64, named}
use mir.Val.{Val, vint, vptr}
use base.Fml.{GName, Fml, ftrue, fsep, flft}
use seplogic.Ra.Ura.{Ura}
use mir.MapTy.{inst_fn}
use base.Logic.{SProp, ent, sep}
use prog.Memory.{Memory}
use prog.Routine.{Routine}
use prog.Wp.{Env, WpFn, Tables}
use types.Logic.{Logic, sem}
use contract.BorrowLft.{◌⊑◌}
use contract.Monad.{Fun, fact}
use contract.Running.{tables, tables_of}
use denote.RattleType.{owns}
use denote.Signature.{plain, types_at}
use denote.Steps.{heard, nothing}
use denote.Triple.Clauses.{Clauses, Ended, closing}
use denote.Triple.Spec.{Meets, triple_of}
use denote.Triple.Table.{entered}
use sound.WpLaws.{WpFn-mono}
use types.Kit.{‵, raw, ◌⊛◌, some, later, at_ret, ◌$◌, ◌∵◌, !, qed, move, keep, use1, use2, drop, split, split3, join, pick, fsplit, fsplit3, fjoin, fpack, suffices, frame, await, group, done}
use types.Part.{whole, sub, look_in}
use types.Run.{stop, fld, load, addr, size_lit, of_opd, bin, first, blocks, exec, returns, enter}
use types.ByLocal.{alloc_all, pass_all, free_all, look_at, get, through, sets, sets_last, env}
use denote.Exit.{yes, no}
use denote.Builtin.{usize, RefMutOf}
use denote.Memory.{cell_at, part_at, part_of, mem}
use denote.Plain.{uint_vals, uint_Tells}
use denote.RawPtr.{block_ptr}
use denote.Ref.{MutRef, mut_vals, mut_Tells}
use denote.Follow.{follows, lends_Part}
use denote.Triple.Walked.{says, Stays, stay_dropped, walk_of, ends_at, walked, Goes-dropped, Goes-spent_ref, walk_Meets}
use Rattle.node_arena.specs.SlotWrites.{with_slot}
use Rattle.core.proofs.mem.Param.{El, R, args, el_x}
use Rattle.core.proofs.ptr.Rows.{times_below, one_below}
use Rattle.core.proofs.slots.Bodies.{after}
use Rattle.node_arena.proofs.SlotLemmas.{slot_size, other_slots, item_out, item_in}
use Rattle.node_arena.proofs.MutBorrow.{SlotsType, SlotsOf, all_slots, slots_val, borrow_open, slots_pack}
use Rattle.node_arena.specs.contracts.slots.Slots.get_mut as F
use Rattle.node_arena.specs.contracts.slots.Slots.get_mut.Key.{name as #self}
use Rattle.node_arena.proofs.slots.Slots.get_mut.Statement as stated
use Rattle.node_arena.proofs.slots.Slots.get_mut.Code as code

module _ (E : El) {M : Type 1} {𝓤 : Ura M} (𝓛 : Logic 𝓤) (rb ro b o : ℕ) (h : SlotsOf E) (i : ℕ) where
  -- all of the slots but the value in slot i
  abbrev Rest : Fml
  Rest = fsep (other_slots E b o h.contents i) (cell_at full_share (SlotsType E).mir (slots_val b o h.capacity ∷ []) rb ro)

  back : h.start ≡ block_ptr b o → h.capacity * slot_size E < 2 ^ 63 → i < length h.contents → (w : el_x E)
      → ent 𝓤 (sep 𝓤 (sem 𝓛 ((mem (R E)).own_at w b (i * slot_size E + o))) (sem 𝓛 Rest)) (sem 𝓛 ((mem (SlotsType E)).own_at (with_slot h i w) rb ro))
  unfolding part_of
  back at_b fit ix w =
      qed 𝓛 (‵ (part_at (R E) full_share w b (i * slot_size E + o)) ∷ ‵ Rest ∷ []) ∵ move ! (1 ∷ []) $ fsplit ! $ move ! (2 ∷ 0 ∷ []) $
      use2 𝓛 (‵ (all_slots E (with_slot h i w) b o)) (item_in E 𝓛 b o h.contents i ix w) $ slots_pack E ! (with_slot h i w) b o at_b h.in_range fit $ move ! (1 ∷ 0 ∷ []) $ fjoin ! $
      fpack ! (List Val) (λ us. fsep (cell_at full_share (SlotsType E).mir us rb ro) ((SlotsType E).own_val (with_slot h i w) us)) (slots_val b o h.capacity ∷ []) $ done !

module _ (E : El) where
  abbrev here : Fn
  here = inst_fn (args E) code.function

  abbrev ended : Ended
  ended = F.ended E.row

  abbrev stayed : Stays ended.signature.params ended.kept
  stayed = (stay_dropped (RefMutOf (0 ∷ []) tt (plain (λ _. SlotsType E)) (λ _. tt)) no, (stay_dropped (plain (λ _. usize)) yes, tt))

  module _ {M : Type 1} {𝓤 : Ura M} (𝓛 : Logic 𝓤) (at_mem : Memory → SProp 𝓤) (run : Routine → Fun 𝓤) (𝓣 : Tables 𝓤 𝓛.H) where
    open 𝓛 use {H}

    abbrev clauses : Clauses 𝓤 ended
    clauses = F.clauses E.row 𝓛 at_mem run

    abbrev Bound : Type 0
    Bound = (walk_of 𝓛 ended stayed clauses).Ghost

    abbrev Goes : Bound → Type 1
    Goes y = ent 𝓤 ((walk_of 𝓛 ended stayed clauses).pre y) (WpFn 𝓤 H 𝓣.C 𝓣.Λ here ((walk_of 𝓛 ended stayed clauses).args y) ((walk_of 𝓛 ended stayed clauses).post y))

    abbrev spelled : Bound → Bound
    spelled z = ((z.0.0, z.0.1, z.0.2, z.0.3, (mut_vals z.0.3.0, (uint_vals w64 z.0.3.1.0, tt))), z.1)

    walk : (z : Bound) → z.0.3.1.0 < 2 ^ 64 → Goes (spelled z)
    walk z fi =
        let κ = z.0.0.0 in let κ₁ = z.0.0.1.0 in let q = z.0.1.0 in let q₁ = z.0.1.1.0 in
        let rb : ℕ = z.0.3.0.ref_ptr.0 in let ro : ℕ = z.0.3.0.ref_ptr.1 in let γ : GName = z.0.3.0.ghost_name in let h : SlotsOf E = z.0.3.0.now in let i : ℕ = z.0.3.1.0 in
        let Post : Val → SProp 𝓤 = (walk_of 𝓛 ended stayed clauses).post (spelled z) in
        let Asked : Type 0 = IsSome (get_or h.contents i None) in
        let s : ℕ = slot_size E in
        qed 𝓛 (((‵ (flft κ q) ⊛ ‵ (flft κ₁ q₁) ⊛ ‵ ftrue) ⊛ ‵ (owns (types_at ended.signature.params z.0.0) z.0.3 (spelled z).0.4)) ∷ (raw (fact 𝓤 (κ₁ ⊑ E.row.lives)) ⊛ raw (fact 𝓤 Asked)) ∷ []) ∵
        move ! (1 ∷ []) $ split ! $ drop ! $ heard ! Asked (λ asked.
        let found : Occupied h.contents i = occupied_at h.contents i asked in let x : el_x E = found.value in let full : get_or h.contents i None ≡ Some x = found.is in
        let ix : i < length h.contents = found.within in let li : i < h.capacity = omega (arith, h.counted) in
        split ! $ split ! $ move ! (2 ∷ []) $ fsplit ! $ fsplit3 ! $ keep ! (1 ∷ 2 ∷ 4 ∷ 5 ∷ []) $
        enter ! 𝓣.C 𝓣.Λ here (vptr rb ro ∷ vint w64 i ∷ []) _ $ alloc_all ! (λ l. pass_all ! refl ((tt, tt), ((tt, record { fits = fi }), tt)) $
        let En : Env 𝓤 H = env here.locals l in
        borrow_open E ! tt h rb ro (λ b o at_b fl fit.
        let small : s < 2 ^ 63 = one_below h.capacity s (2 ^ 63) (omega arith) fit in let tiny : s < 2 ^ 64 = omega arith in
        let part : i * s < 2 ^ 63 = times_below i h.capacity s (2 ^ 63) (omega arith) fit in let fm : i * s < 2 ^ 64 = omega arith in
        first ! $ blocks ! $
        sets ! (of_opd ! (load ! (through ! refl (fld ! refl (stop !))) (look_in ! 1 (sub ! 0 refl (whole !))))) refl (tt, tt) $
        sets ! (bin ! (get ! refl) (size_lit ! (record { fits = tiny })) (record { fits = fm })) refl (tt, record { fits = fm }) $
        sets ! (bin ! (get ! refl) (get ! refl) tt) refl (tt, tt) $ sets_last ! (addr ! (through ! refl (stop !))) refl (tt, tt) $
        exec ! 𝓣.C 𝓣.Λ En (after 1 here.body) (at_ret En Post) $ sets ! (of_opd ! (get ! refl)) refl (tt, tt) $
        use1 𝓛 (‵ (part_at (R E) full_share x b (i * s + o)) ⊛ ‵ (other_slots E b o h.contents i)) (item_out E 𝓛 b o h.contents i ix x full) $ split ! $
        move ! (1 ∷ 2 ∷ []) $ fjoin ! $ move ! (2 ∷ 3 ∷ 4 ∷ 1 ∷ 0 ∷ []) $ group ! 5 $
        use1 𝓛 (later (some (λ (γ' : GName). ‵ ((MutRef (named 0) κ (R E)).own_val (record { ref_ptr = (b, i * s + o); ghost_name = γ'; now = x }) (vptr b (i * s + o) ∷ [])) ⊛ ‵ (flft κ q) ⊛ ‵ (follows (SlotsType E) (R E) γ γ' (with_slot h i)))))
        (lends_Part 𝓛 (SlotsType E) (R E) (with_slot h i) (named 0) κ q rb ro b (i * s + o) γ (sem 𝓛 (Rest E 𝓛 rb ro b o h i)) (back E 𝓛 rb ro b o h i at_b fit ix) ((SlotsType E).coded.code h) ((SlotsType E).coded.code h) x) $
        await ! tt $ pick ! (λ γ'. split3 ! $ returns ! (look_at ! 0 refl) $ free_all ! refl $
        suffices ! _ (ends_at 𝓛 ended stayed clauses (spelled z) (vptr b (i * s + o)) (record { ref_ptr = (b, i * s + o); ghost_name = γ'; now = x }) (tt, (tt, tt)) (tt, (tt, tt))) $
        nothing ! $ nothing ! $ fjoin ! $ nothing ! $ fjoin ! $ join ! $ move ! (1 ∷ 3 ∷ []) $ join ! $ join ! $ frame ! $ says ! full $ keep ! (0 ∷ []) $ done !))))

    meets : Meets 𝓛 ended.signature (WpFn 𝓤 H 𝓣.C 𝓣.Λ here) (closing 𝓛 ended clauses)
    meets =
        walk_Meets 𝓛 ended stayed (Goes-spent_ref 𝓛 2 (0 ∷ []) tt (plain (λ _. SlotsType E)), (Goes-dropped 𝓛 2 (plain (λ _. usize)) yes (λ κs x f. refl), tt)) clauses (WpFn 𝓤 H 𝓣.C 𝓣.Λ here) (WpFn-mono 𝓤 H 𝓛.laws 𝓣 here)
        (walked 𝓛 ended stayed clauses (WpFn 𝓤 H 𝓣.C 𝓣.Λ here) (λ κs. (mut_vals, (uint_vals w64, tt))) (λ κs. (mut_Tells (named 0) κs.0 (SlotsType E), (uint_Tells w64, tt)))
        (λ κs qs bounds a g are. walk ((κs, qs, bounds, a, (mut_vals a.0, (uint_vals w64 a.1.0, tt))), g) are.1.0.1))

pub get_mut_spec : {M : Type 1} → stated.statement M
unfolding tables_of
get_mut_spec 𝓤 𝓛 𝓜 𝓡 wired X L =
    let E : El = record { row = X; laws = L } in
    let 𝓣 : Tables 𝓤 𝓛.H = tables_of 𝓤 𝓛.H 𝓜 (tables 𝓤 𝓛.H 𝓜 𝓡 𝓡.env) in
    entered 𝓤 𝓛.H (triple_of 𝓛 (F.signature X) (F.spec X 𝓛 𝓜.mem 𝓡.returns)) 𝓣.C 𝓣.Λ (#self (args E)) (here E) (code.unfolded 𝓤 𝓛.H 𝓜 𝓡 wired (X, tt))
    (meets E 𝓛 𝓜.mem 𝓡.returns 𝓣)
