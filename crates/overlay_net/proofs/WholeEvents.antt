-- An event of a net, as a whole.
use Rattle.std.proofs.Common.{◌≡◌, ◌≢◌, ◌∙◌, ◌<◌, ◌^◌, ℕ, Bool, true, false, List, [], ◌∷◌, ◌++◌, map, length, slice_get, Some, sym, ap, subst}
use Rattle.std.specs.Prelude.{Result, Ok, Err, OnOk}
use Rattle.std.proofs.lemmas.List.{length-set}
use Rattle.stat_plan.specs.Invariants.{IsPlan}
use Rattle.stat_plan.specs.Plans.{Plan, nodes, front, AreNodes}
use Rattle.overlay_event.specs.declared.event.Event.{Event}
use Rattle.overlay_event.specs.Events.{event_node}
use Rattle.overlay_core.specs.Nodes.{Node}
use Rattle.overlay_core.specs.Machine.{State, is_enabled, step}
use Rattle.overlay_core.specs.Runs.{after}
use Rattle.overlay_core.specs.LinkInvariant.{LinkInvariant}
use Rattle.overlay_core.specs.TreeReleases.{TreeRelease}
use Rattle.stat_plan.proofs.PlanFacts.{plan_facts}
use Rattle.overlay_core.proofs.Journals.{after_more, legal_more}
use Rattle.overlay_core.proofs.Steps.{legal_sound}
use Rattle.overlay_node.specs.NodeViews.{NodeView, node_of}
use Rattle.overlay_net.specs.Inboxes.{FrameInbox}
use Rattle.overlay_net.specs.Nets.{net_view_of, state_with}
use Rattle.node_inbox.specs.Sends.{AreSent, GoBelow}
use Rattle.overlay_net.specs.Events.{AreParts, FrontCounts, IsNet, IsOrdinary}
use Rattle.overlay_net.specs.Handled.{ExtendsBy}
use Rattle.overlay_net.proofs.Handed.{IsHandedOver}
use Rattle.overlay_net.proofs.NextEvents.{go_below, only_front, stepped}
use Rattle.overlay_net.proofs.EventInvariant.{counts_kept, numbers_kept, parts_kept, trees_kept}
use Rattle.overlay_net.proofs.PartsInvariant.{receivers_below, taken_all}
use Rattle.overlay_net.proofs.Offers.{node_there}
use Rattle.overlay_net.proofs.SmallCounts.{small_count}

module _ (p : Plan) (plan : IsPlan p) (al : List Bool) (xs : List NodeView) (ib : List FrameInbox) (rs : List TreeRelease) (net : IsNet (net_view_of p al xs ib rs false)) (e : Event) (en : is_enabled p (state_with p al xs ib rs) e ≡ true) (ord : IsOrdinary e) where
  abbrev st : State
  st = state_with p al xs ib rs

  sound : LinkInvariant p st
  sound = subst (LinkInvariant p) (sym net.reached.state) (legal_sound p net.journal (plan_facts p plan) net.reached.legal)

  few : (x : NodeView) → slice_get xs (event_node e) ≡ Some x → x.count < 2 ^ 62
  few x at =
      let same : (after p net.journal).node (event_node e) ≡ node_of x = ap (λ (s : State). s.node (event_node e)) (sym net.reached.state) ∙ node_there p xs (event_node e) x at in
      subst (λ (y : Node). y.count < 2 ^ 62) same (small_count p net.journal e (event_node e) plan net.reached.legal (subst (λ (s : State). is_enabled p s e ≡ true) net.reached.state en))

  module _ (ys : List NodeView) (ic : List FrameInbox) (sends : List (ℕ × (List ℕ))) (more : List TreeRelease) (over : IsHandedOver p e xs ys ib ic sends more) where
    pub all_go_below : GoBelow (nodes p) sends
    all_go_below = go_below p plan al xs ib rs net.parts sound ic e over.before over.after over.packet sends more en ord over.taken over.node_before over.handled

    -- what was sent can be put where it goes, also where room was made
    pub can_deliver : (im : List FrameInbox) → length im ≡ length ic → GoBelow (length im) sends
    can_deliver im len = subst (λ k. GoBelow k sends) (sym (len ∙ taken_all ib ic e over.packet over.taken ∙ net.parts.inbox_count)) all_go_below

    -- there are as many nodes
    pub same_nodes : length ys ≡ length xs
    same_nodes = ap length over.nodes_after ∙ length-set xs (event_node e) over.after

    front_alone : event_node e ≢ front p → more ≡ []
    front_alone = only_front p plan al xs ib rs net.parts sound e over.before over.after over.packet sends more en ord over.node_before over.handled

    -- who is counted anew are nodes
    pub receivers_are_nodes : AreNodes p (map (λ v. v.0) sends)
    receivers_are_nodes = receivers_below (nodes p) sends all_go_below

    module _ (id : List FrameInbox) (sent : AreSent al (event_node e) sends ic id) where
      -- if a journal led to the net, that journal with the event appended leads to it now
      pub extends_by : ExtendsBy e (net_view_of p al xs ib rs false) (net_view_of p al ys id (rs ++ more) false)
      extends_by journal h =
          let here = subst (λ (s : State). is_enabled p s e ≡ true) h.state en in
          record {
            legal = legal_more p journal e h.legal here;
            state = (λ i. state_with p al (over.nodes_after i) id (rs ++ more)) ∙ stepped p plan al xs ib rs net.parts sound ic id e over.before over.after over.packet sends more en ord over.taken over.node_before over.handled sent ∙ ap (λ (s : State). step p s e) h.state ∙ sym (after_more p journal e);
            numbered = numbers_kept p al e over.before over.after over.packet sends more over.handled xs over.node_before rs front_alone net.front h.numbered;
            trees = trees_kept p al e over.before over.after over.packet sends more over.handled xs over.node_before rs h.trees;
          }

      -- its parts are those of the plan
      pub parts_then : AreParts p al ys id
      parts_then = subst (λ zs. AreParts p al zs id) (sym over.nodes_after) (parts_kept p al e over.before over.after over.packet sends more over.handled xs over.node_before ib ic id net.parts over.taken sent all_go_below)

      -- then it is a net again
      pub is_net : IsNet (net_view_of p al ys id (rs ++ more) false)
      is_net = record {
        journal = net.journal ++ e ∷ [];
        reached = extends_by net.journal net.reached;
        parts = parts_then;
        front = subst (λ zs. FrontCounts p zs (rs ++ more)) (sym over.nodes_after) (counts_kept p al e over.before over.after over.packet sends more over.handled xs over.node_before rs front_alone net.front);
      }

      -- there are as many inboxes
      pub same_inboxes : length id ≡ length ib
      same_inboxes = sent.inbox_count ∙ taken_all ib ic e over.packet over.taken

-- what follows from a clause of a call
pub ok_then : {T E A B : Type 0} (r : Result T E) → OnOk r A → (A → B) → OnOk r B
ok_then (Ok x) a f = f a
ok_then (Err e) a f = tt
