-- The counts of the events that may come next, node by node.
use Rattle.std.proofs.Common.{◌≡◌, ◌∙◌, ◌<◌, ◌+◌, ℕ, zero, suc, Bool, true, false, ◌==◌, ◌&&◌, not, nat_lt, cond, filter, map, List, [], ◌∷◌, ◌++◌, drop, length, get_or, slice_set, Some, None, refl, sym, ap, subst, inl, inr, eqb-true}
use Rattle.std.specs.Prelude.{slice_get}
use Rattle.std.specs.List.{flat_map, sum}
use Rattle.std.proofs.lemmas.List.{append-nil, drop_more}
use Rattle.std.proofs.lemmas.List.Elements.{filter-append}
use Rattle.std.proofs.lemmas.Grind.{flat_map-append}
use Rattle.overlay_setup.specs.NodeSets.{In, member, up_to}
use Rattle.stat_plan.specs.Plans.{AreNodes, Plan, nodes, fault, front, is_front}
use Rattle.stat_plan.specs.Machine.Overlays.{is_pending, is_spent}
use Rattle.stat_plan.proofs.Filters.{filter_same}
use Rattle.stat_plan.proofs.FirstOver.{node_below}
use Rattle.stat_plan.proofs.InLists.{in_append, in_from_map, in_member, up_to_in}
use Rattle.overlay_setup.proofs.UpTo.{length-up_to, up_to_at}
use Rattle.count_tree.specs.Places.{place_of}
use Rattle.count_tree.proofs.Counted.{all_stale, counted_all, counted_more, found_thing, no_thing, place_below}
use Rattle.control_cast.specs.declared.event.CastEvent.{CastEvent}
use Rattle.control_cast.specs.declared.event.CastEvent.TheVariants.{Issue, Recv, Lose}
use Rattle.control_cast.specs.Machine.{State, seen, is_enabled, events_of, events_below, enabled_events}
use Rattle.control_cast.specs.CastNets.{IsSameAt}
use Rattle.control_cast.specs.CastEvents.{AreCounted, AreCountedBut, events_at}

-- ---- a node that is as before has the same events

module _ (p : Plan) (commands : ℕ) (old new : State) (n : ℕ) (same : IsSameAt n old new) where
  issue_stays : (b : Bool) → (n == front p) ≡ b → (e : CastEvent) → In e (cond b (Issue ∷ []) []) → is_enabled p commands new e ≡ is_enabled p commands old e
  issue_stays true t e (inl k) =
      let at : n ≡ front p = eqb-true n (front p) t in
      subst (λ x. is_enabled p commands new x ≡ is_enabled p commands old x) (sym k)
      (subst (λ m. ((new.net.alive m && not (is_spent (fault p m) (new.net.count m))) && nat_lt (seen new m) commands) ≡ ((old.net.alive m && not (is_spent (fault p m) (old.net.count m))) && nat_lt (seen old m) commands)) at
      (λ i. (same.alive i && not (is_spent (fault p n) (same.count i))) && nat_lt (length (same.obeyed i)) commands))
  issue_stays true t e (inr k) = absurd k
  issue_stays false t e k = absurd k

  recv_stays : (m : ℕ) → is_enabled p commands new (Recv n m) ≡ is_enabled p commands old (Recv n m)
  recv_stays m = λ i. (same.alive i && not (is_spent (fault p n) (same.count i))) && is_pending (same.link m i)

  lose_stays : is_enabled p commands new (Lose n) ≡ is_enabled p commands old (Lose n)
  lose_stays = λ i. same.alive i && is_spent (fault p n) (same.count i)

  event_stays : (e : CastEvent) → In e (events_of p n) → is_enabled p commands new e ≡ is_enabled p commands old e
  unfolding is_front
  event_stays e (inl k) = subst (λ x. is_enabled p commands new x ≡ is_enabled p commands old x) (sym k) lose_stays
  event_stays e (inr j) = elim (in_append e (cond (n == front p) (Issue ∷ []) []) (map (λ m. Recv n m) (up_to (nodes p))) j) [
    | inl k ↦ issue_stays (n == front p) refl e k
    | inr k ↦ let r = in_from_map (λ m. Recv n m) (up_to (nodes p)) e k in subst (λ x. is_enabled p commands new x ≡ is_enabled p commands old x) (sym r.1.1) (recv_stays r.0)
  ]

  events_stay : events_at p commands new n ≡ events_at p commands old n
  events_stay = filter_same (is_enabled p commands new) (is_enabled p commands old) (events_of p n) event_stays

-- the counts of all but the changed nodes are still right
pub counts_stay : (p : Plan) (commands : ℕ) (old new : State) (changed counts : List ℕ) → ((n : ℕ) → n < nodes p → member n changed ≡ false → IsSameAt n old new) → AreCounted p commands old counts → AreCountedBut p commands new changed counts
counts_stay p commands old new changed counts same h = record {
  place_count = h.place_count;
  things = λ n lt other. h.things n lt refl ∙ ap (λ l. Some (length l)) (sym (events_stay p commands old new n (same n lt other)));
}

-- ---- nodes are counted

-- where all nodes are still to be counted, any counts will do
pub nothing_counted : (p : Plan) (commands : ℕ) (st : State) (counts : List ℕ) → length counts ≡ nodes p → AreCountedBut p commands st (up_to (nodes p)) counts
nothing_counted p commands st counts count = all_stale (events_at p commands st) (nodes p) (λ n. member n (up_to (nodes p))) counts count (λ n lt. in_member n (up_to (nodes p)) (up_to_in (nodes p) n lt))

-- the next of the nodes is counted
pub next_counted : (p : Plan) (commands : ℕ) (st : State) (counts numbers : List ℕ) (k count : ℕ) → AreNodes p numbers → k < length numbers → count ≡ length (events_at p commands st (get_or numbers k 0)) → AreCountedBut p commands st (drop k numbers) counts
    → AreCountedBut p commands st (drop (k + 1) numbers) (slice_set counts (get_or numbers k 0) count)
next_counted p commands st counts numbers k count all lt counted h =
    counted_more (events_at p commands st) (nodes p) (λ n. member n (drop (k + 1) numbers)) counts (get_or numbers k 0) count (node_below p numbers k all lt) counted
    (subst (λ ns. AreCountedBut p commands st ns counts) (drop_more numbers k 0 lt) h)

-- ---- events are found by the counts

module _ (p : Plan) (commands : ℕ) (st : State) where
  -- the events that may come next are those of the nodes, node by node
  by_node : (k : ℕ) → filter (is_enabled p commands st) (events_below p k) ≡ flat_map (events_at p commands st) (up_to k)
  by_node zero = refl
  by_node (suc k) =
      filter-append (is_enabled p commands st) (events_below p k) (events_of p k)
      ∙ ap (λ l. l ++ events_at p commands st k) (by_node k)
      ∙ ap (λ l. flat_map (events_at p commands st) (up_to k) ++ l) (sym (append-nil (events_at p commands st k)))
      ∙ sym (flat_map-append (events_at p commands st) (up_to k) (k ∷ []))

  module _ (counts : List ℕ) (counted : AreCounted p commands st counts) where
    -- as many events may come next as are counted
    pub all_counted : sum counts ≡ length (enabled_events p commands st)
    all_counted = counted_all (events_at p commands st) (nodes p) (up_to (nodes p)) (length-up_to (nodes p)) (up_to_at (nodes p)) counts counted ∙ ap length (sym (by_node (nodes p)))

    module _ (i : ℕ) where
      -- what the counts find is a node of the plan
      pub found_below : (n j : ℕ) → place_of counts i ≡ Some (n, j) → n < nodes p
      found_below n j e = place_below (events_at p commands st) (nodes p) (up_to (nodes p)) (length-up_to (nodes p)) (up_to_at (nodes p)) counts counted i n j e

      -- and the j-th event of the node is the i-th of all
      pub found_event : (n j : ℕ) → place_of counts i ≡ Some (n, j) → slice_get (events_at p commands st n) j ≡ slice_get (enabled_events p commands st) i
      found_event n j e = sym (ap (λ es. slice_get es i) (by_node (nodes p)) ∙ found_thing (events_at p commands st) (nodes p) (up_to (nodes p)) (length-up_to (nodes p)) (up_to_at (nodes p)) counts counted i n j e)

      -- where the counts find nothing, there is no i-th event
      pub found_none : None ≡ place_of counts i → None ≡ slice_get (enabled_events p commands st) i
      found_none e = sym (ap (λ es. slice_get es i) (by_node (nodes p)) ∙ no_thing (events_at p commands st) (nodes p) (up_to (nodes p)) (length-up_to (nodes p)) (up_to_at (nodes p)) counts counted i (sym e))
