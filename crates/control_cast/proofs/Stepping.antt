-- The state of a net at the start, and after an event.
use Rattle.std.proofs.Common.{◌≡◌, ℕ, true, Bool, List, [], length, sym, subst, ◌∙◌}
use Rattle.std.specs.Prelude.{replicate}
use Rattle.std.proofs.lemmas.List.{length-replicate}
use Rattle.overlay_setup.specs.NodeSets.{up_to}
use Rattle.stat_plan.specs.Plans.{AreNodes, Plan, nodes}
use Rattle.stat_plan.proofs.InLists.{all_below}
use Rattle.node_inbox.specs.Inboxes.{InboxView}
use Rattle.control_cast.specs.declared.event.CastEvent.{CastEvent}
use Rattle.control_cast.specs.Machine.{Packet, State, is_enabled}
use Rattle.control_cast.specs.CastNodes.{NodeView}
use Rattle.control_cast.specs.CastNets.{AreInitial, HasDone, IsNet, state_with}
use Rattle.control_cast.specs.CastEvents.{AreCounted, AreCountedBut}
use Rattle.control_cast.proofs.Counting.{counts_stay, nothing_counted}
use Rattle.control_cast.proofs.Reached.{reached_more}

-- no event leads to the start
pub start_net : (p : Plan) (commands : ℕ) (alive : List Bool) (xs : List NodeView) (boxes : List (InboxView Packet)) → AreInitial p alive xs boxes → IsNet p commands alive xs boxes
start_net p commands alive xs boxes h = record { parts = h.parts; reached = record { journal = []; legal = tt; state = h.state } }

pub all_nodes_below : (p : Plan) (numbers : List ℕ) → numbers ≡ up_to (nodes p) → AreNodes p numbers
all_nodes_below p numbers is = subst (AreNodes p) (sym is) (all_below (nodes p))

-- nothing is counted yet
pub start_counts : (p : Plan) (commands : ℕ) (st : State) (numbers counts : List ℕ) (places : ℕ) → numbers ≡ up_to (nodes p) → counts ≡ replicate places 0 → places ≡ nodes p → AreCountedBut p commands st numbers counts
start_counts p commands st numbers counts places is ec ep =
    subst (λ ns. AreCountedBut p commands st ns counts) (sym is) (nothing_counted p commands st counts (subst (λ cs. length cs ≡ nodes p) (sym ec) (length-replicate places 0 ∙ ep)))

-- an event leads on
pub done_net : (p : Plan) (commands : ℕ) (e : CastEvent) (changed : List ℕ) (alive more : List Bool) (xs ys : List NodeView) (boxes others : List (InboxView Packet)) → IsNet p commands alive xs boxes → is_enabled p commands (state_with p alive xs boxes) e ≡ true
    → HasDone p e changed (state_with p alive xs boxes) more ys others → IsNet p commands more ys others
done_net p commands e changed alive more xs ys boxes others h en d = record { parts = d.parts; reached = reached_more p commands (state_with p alive xs boxes) (state_with p more ys others) e h.reached en d.step }

-- and the counts of the others stay
pub done_counts : (p : Plan) (commands : ℕ) (e : CastEvent) (changed counts : List ℕ) (old : State) (more : List Bool) (ys : List NodeView) (others : List (InboxView Packet)) → AreCounted p commands old counts → HasDone p e changed old more ys others
    → AreCountedBut p commands (state_with p more ys others) changed counts
done_counts p commands e changed counts old more ys others h d = counts_stay p commands old (state_with p more ys others) changed counts d.same h
