-- Where no event may come, each living node has obeyed all commands.
use Rattle.std.proofs.Common.{◌≡◌, ◌≤◌, ◌<◌, ◌+◌, inl, inr, ℕ, suc, zero, true, false, not, nat_lt, List, [], ◌∷◌, ◌++◌, length, refl, sym, ap, subst, ◌∙◌, arith, le_refl, length-append, Some}
use Rattle.std.proofs.lemmas.Bool.{cases_Bool, and_from, true≢false, ltb-false}
use Rattle.overlay_setup.specs.NodeSets.{member}
use Rattle.stat_plan.specs.Plans.{Plan, IsUnder, ancestors, front}
use Rattle.stat_plan.proofs.KinLemmas.{nearest_some, nearest_split}
use Rattle.stat_plan.proofs.PlanFacts.{HasPlanFacts}
use Rattle.stat_plan.proofs.InLists.{in_from_member}
use Rattle.control_cast.specs.declared.event.CastEvent.{CastEvent}
use Rattle.control_cast.specs.declared.event.CastEvent.TheVariants.{Issue, Recv, Lose}
use Rattle.stat_plan.specs.Machine.Overlays.{is_active, is_doomed, is_pending}
use Rattle.stat_plan.proofs.Overlays.{none_pending}
use Rattle.control_cast.specs.Machine.{Attach, Down, State, seen, numbers_after, after, IsLegal, IsQuiet}
use Rattle.control_cast.specs.CastInvariant.{cmds, CastInvariant}
use Rattle.control_cast.proofs.Sound.{legal_is_sound}

-- a living node whose loss isn't due can do something else
quiet_active : (p : Plan) (commands : ℕ) (st : State) (n : ℕ) → IsQuiet p commands st → st.net.alive n ≡ true → is_active p st.net n ≡ true
quiet_active p commands st n quiet up = elim (cases_Bool (is_doomed p st.net n)) [
  | inl t ↦ absurd (true≢false (sym (and_from _ _ up t) ∙ quiet (Lose n)))
  | inr f ↦ and_from _ _ up (subst (λ b. not b ≡ true) (sym f) refl)
]

quiet_links : (p : Plan) (commands : ℕ) (st : State) (m n : ℕ) → IsQuiet p commands st → st.net.alive n ≡ true → st.net.link m n ≡ []
quiet_links p commands st m n quiet up = elim (cases_Bool (is_pending (st.net.link m n))) [
  | inl t ↦ absurd (true≢false (sym (and_from _ _ (quiet_active p commands st n quiet up) t) ∙ quiet (Recv n m)))
  | inr f ↦ none_pending (st.net.link m n) f
]

quiet_front : (p : Plan) (commands : ℕ) (st : State) → CastInvariant p commands st → IsQuiet p commands st → seen st (front p) ≡ commands
quiet_front p commands st h quiet =
    let le : seen st (front p) ≤ commands = h.within_limit (front p) in
    elim (cases_Bool (nat_lt (seen st (front p)) commands)) [
      | inl t ↦ absurd (true≢false (sym (and_from _ _ (quiet_active p commands st (front p) quiet h.base.front) t) ∙ quiet Issue))
      | inr f ↦ let ge : commands ≤ seen st (front p) = ltb-false (seen st (front p)) commands f in omega arith
    ]

no_orphan : (k r : ℕ) → [] ≡ cmds k r ++ Down ∷ [] → ⊥
no_orphan k zero e = cc
no_orphan k (suc r) e = cc

none_left : (k r : ℕ) → [] ≡ cmds k r → r ≡ 0
none_left k zero e = refl
none_left k (suc r) e = absurd (cc)

-- a living node has obeyed what its parent has, which lives
quiet_parent : (p : Plan) (commands : ℕ) (st : State) (n q : ℕ) → CastInvariant p commands st → IsQuiet p commands st → st.net.alive n ≡ true → (st.net.kin n).parent ≡ Some q → (st.net.alive q ≡ true) × (seen st n ≡ seen st q)
quiet_parent p commands st n q h quiet up par =
    let j = h.joined n q up par in
    let empty : st.net.link q n ≡ [] = quiet_links p commands st q n quiet up in
    elim (cases_Bool (st.net.alive q)) [
      | inl u ↦ (
        u,
        elim (j.living u) [
          | inl k ↦ let z : k.rest ≡ 0 = none_left (seen st n) k.rest (sym empty ∙ k.coming) in let s = k.sum in omega arith
          | inr k ↦ absurd (some (sym (quiet_links p commands st n q quiet u) ∙ k.attach))
        ],
      )
      | inr d ↦ let k = j.lost d in absurd (no_orphan (seen st n) k.rest (sym empty ∙ k.coming))
    ]
  where
    some : [] ≡ Attach (seen st n) ∷ [] → ⊥
    some e = cc

-- a living node under the front end has a parent
parent_some : (p : Plan) (commands : ℕ) (st : State) (n : ℕ) → CastInvariant p commands st → IsUnder p n (front p) → (q : ℕ) × ((st.net.kin n).parent ≡ Some q)
parent_some p commands st n h u =
    let front_lives : member (front p) (st.net.kin n).lost ≡ false = elim (cases_Bool (member (front p) (st.net.kin n).lost)) [ inl t ↦ absurd (true≢false (sym h.base.front ∙ (h.base.kin n).lost (front p) (in_from_member (front p) (st.net.kin n).lost t))) | inr f ↦ f ] in
    let r = nearest_some (ancestors p n) (st.net.kin n).lost (front p) u front_lives in
    (r.0, (h.base.kin n).parent ∙ r.1)

-- the parent has fewer ancestors
parent_nearer : (p : Plan) (commands : ℕ) (st : State) (n q : ℕ) → HasPlanFacts p → CastInvariant p commands st → (st.net.kin n).parent ≡ Some q → length (ancestors p q) < length (ancestors p n)
parent_nearer p commands st n q plan h par =
    let r = nearest_split (ancestors p n) (st.net.kin n).lost q (sym (h.base.kin n).parent ∙ par) in
    let a : length (ancestors p n) ≡ length (r.0 ++ q ∷ r.1) = ap length r.2 in
    let b : length (ancestors p q) ≡ length r.1 = ap length (plan.rest n q r.0 r.1 r.2) in
    let c : length (r.0 ++ q ∷ r.1) ≡ length r.0 + length (q ∷ r.1) = length-append r.0 (q ∷ r.1) in
    omega arith

all_obeyed : (p : Plan) (commands : ℕ) (st : State) (links n : ℕ) → HasPlanFacts p → CastInvariant p commands st → IsQuiet p commands st → length (ancestors p n) ≤ links → st.net.alive n ≡ true → seen st n ≡ commands
all_obeyed p commands st zero n plan h quiet le up = elim (plan.all_under n (h.base.nodes n up)) [
  | inl e ↦ ap (seen st) e ∙ quiet_front p commands st h quiet
  | inr u ↦ let q = parent_some p commands st n h u in absurd (let k = parent_nearer p commands st n q.0 plan h q.1 in omega arith)
]
all_obeyed p commands st (suc links) n plan h quiet le up = elim (plan.all_under n (h.base.nodes n up)) [
  | inl e ↦ ap (seen st) e ∙ quiet_front p commands st h quiet
  | inr u ↦
      let q = parent_some p commands st n h u in
      let r = quiet_parent p commands st n q.0 h quiet up q.1 in
      r.1 ∙ all_obeyed p commands st links q.0 plan h quiet (let k = parent_nearer p commands st n q.0 plan h q.1 in omega arith) r.0
]

pub whole_is_obeyed : (p : Plan) (commands : ℕ) (journal : List CastEvent) → HasPlanFacts p → IsLegal p commands journal → IsQuiet p commands (after p journal) → (n : ℕ) → (after p journal).net.alive n ≡ true → (after p journal).obeyed n ≡ numbers_after 0 commands
whole_is_obeyed p commands journal plan l quiet n up =
    let h = legal_is_sound p commands journal plan l in
    h.order n ∙ ap (numbers_after 0) (all_obeyed p commands (after p journal) (length (ancestors p n)) n plan h quiet (le_refl _) up)
