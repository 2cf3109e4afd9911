-- Whether a node is out with its loss, by the sum of those that are.
use Rattle.std.proofs.Common.{◌≡◌, ◌∙◌, ◌+◌, ◌≤◌, ℕ, zero, suc, Bool, true, false, nat_lt, cond, List, [], ◌∷◌, length, slice_get, Some, refl, sym, ap, inl, inr, arith}
use Rattle.std.specs.List.{sum}
use Rattle.std.proofs.lemmas.Bool.{cases_lt, ltb-false}
use Rattle.std.proofs.lemmas.List.Sums.{sum_by-cons}
use Rattle.std.proofs.lemmas.Option.{none-some}
use Rattle.stat_plan.specs.Plans.{Plan, nodes}
use Rattle.event_claims.specs.Claims.{is_loss_of}
use Rattle.overlay_net.specs.Places.{events_out}
use Rattle.overlay_net.specs.Events.{AreLosing, NoneIsLosing}
use Rattle.overlay_net.specs.States.{AreLossesCounted, IsNetStateBut}
use Rattle.overlay_net.specs.declared.place.Place.{Place}
use Rattle.overlay_net.specs.declared.state.NetState.{NetState}
use Rattle.prefix_tree.specs.Tree.{Tree}
use Rattle.overlay_net.proofs.ReadPlaces.{out_past, place_count}

-- each of some numbers whose sum is 0 is 0
zero_item : (xs : List ℕ) (n k : ℕ) → sum xs ≡ 0 → slice_get xs n ≡ Some k → k ≡ 0
zero_item [] n k none at = absurd (none-some k at)
zero_item (x ∷ xs) zero k none at = let s : Some x ≡ Some k = at in let e : x ≡ k = cc in let z : x + sum xs ≡ 0 = sym (sum_by-cons (λ y. y) x xs) ∙ none in omega (arith, e, z)
zero_item (x ∷ xs) (suc n) k none at = let z : x + sum xs ≡ 0 = sym (sum_by-cons (λ y. y) x xs) ∙ none in zero_item xs n k (omega (arith, z)) at

-- where none is counted, no node is out with its loss
pub none_losing : {X : Type 0} (p : Plan) (places : List (Place X)) (losing : List ℕ) → length places ≡ nodes p → AreLosing p (events_out places) losing → nat_lt 0 (sum losing) ≡ false → NoneIsLosing (events_out places)
none_losing p places losing count are none n = elim (cases_lt n (nodes p)) [
  | inl lt ↦ go (is_loss_of (events_out places n) n) refl (are.each n lt)
  | inr past ↦ ap (λ o. is_loss_of o n) (out_past places n (omega (arith, past, count)))
]
  where
    zero_sum : sum losing ≡ 0
    zero_sum = let le : sum losing ≤ 0 = ltb-false 0 (sum losing) none in omega (arith, le)

    go : (b : Bool) → is_loss_of (events_out places n) n ≡ b → slice_get losing n ≡ Some (cond (is_loss_of (events_out places n) n) 1 0) → is_loss_of (events_out places n) n ≡ false
    go true e at = absurd (let one : 1 ≡ 0 = zero_item losing n 1 zero_sum (at ∙ ap (λ b. Some (cond b 1 0)) e) in omega (arith, one))
    go false e at = e

-- the losses of a net are counted
pub losses_counted : {X : Type 0} (rest : List ℕ) (tree : X → Tree) (p : Plan) (st : NetState X) → IsNetStateBut rest tree p st → AreLossesCounted st.nodes
losses_counted rest tree p st net = none_losing p st.nodes.places.items st.nodes.losing (place_count p st.nodes net.net.parts) net.losing
