use Rattle.std.proofs.Common.{inl, inr, ◌≡◌, ◌∙◌, List, ◌∷◌, ℕ, Option, None, slice_set, sym, ap, subst}
use Rattle.stat_plan.specs.Plans.{Plan, AreNodes}
use Rattle.overlay_event.specs.declared.event.Event.{Event}
use Rattle.overlay_event.specs.declared.event.Event.TheVariants.{Sample, Recv, Tick}
use Rattle.overlay_event.specs.Events.{event_node}
use Rattle.overlay_net.specs.Places.{events_out, nodes_in, places_view, whole_inboxes}
use Rattle.overlay_net.specs.Sends.{changed, if_lost, with_first}
use Rattle.overlay_net.specs.States.{AreClaimsCountedBut}
use Rattle.overlay_net.proofs.EventCounts.{node_counted}
use Rattle.overlay_net.proofs.nodes.NetNodes.recount.Goals as goal
use Rattle.overlay_net.proofs.nodes.NetNodes.recount.Goals.{in-Recv, in-Sample}

recv_changed : (p : Plan) (e : Event) (n m own : ℕ) (sender : Option ℕ) (rest : List ℕ) → e ≡ Recv n m → own ≡ event_node e → sender ≡ if_lost p m → changed p e rest ≡ own ∷ with_first sender rest
recv_changed p e n m own sender rest is here there = ap (λ f. changed p f rest) is ∙ (λ i. sym (here ∙ ap event_node is) i ∷ with_first (sym there i) rest)

sample_changed : (p : Plan) (e : Event) (n s w own : ℕ) (sender : Option ℕ) (rest : List ℕ) → e ≡ Sample n s w → own ≡ event_node e → sender ≡ None → changed p e rest ≡ own ∷ with_first sender rest
sample_changed p e n s w own sender rest is here there = ap (λ f. changed p f rest) is ∙ (λ i. sym (here ∙ ap event_node is) i ∷ with_first (sym there i) rest)

tick_changed : (p : Plan) (e : Event) (n own : ℕ) (sender : Option ℕ) (rest : List ℕ) → e ≡ Tick n → own ≡ event_node e → sender ≡ None → changed p e rest ≡ own ∷ with_first sender rest
tick_changed p e n own sender rest is here there = ap (λ f. changed p f rest) is ∙ (λ i. sym (here ∙ ap event_node is) i ∷ with_first (sym there i) rest)

pub count_nodes-requires-clause-counted : goal.count_nodes-requires-clause-counted
count_nodes-requires-clause-counted g c κs within =
    let p = c.args.plan.now in
    let al = c.args.self.now.alive.items in
    let xs = nodes_in (places_view c.args.self.now.places.items) in
    let ib = whole_inboxes (places_view c.args.self.now.places.items) c.args.self.now.inboxes.items in
    let out = events_out c.args.self.now.places.items in
    let own = c.node-own.result in
    let sender = c.match-event.sender in
    let n = c.in-Some.n in
    let rest = c.args.receivers.now in
    let same : changed p c.args.event rest ≡ own ∷ with_first sender rest = elim c.match-event.branch [
      | in-Recv w ↦ recv_changed p c.args.event w.in-Recv.node w.in-Recv.from own sender rest w.in-Recv.is c.node-own.ensures (w.sender-is ∙ w.if_lost-sender.ensures)
      | in-Sample w ↦ elim w.in-Sample.is [
        | inl a ↦ sample_changed p c.args.event a.0 a.1 a.2 own sender rest a.3 c.node-own.ensures w.sender-is
        | inr b ↦ tick_changed p c.args.event b.0 own sender rest b.1 c.node-own.ensures w.sender-is
      ]
    ] in
    let all : changed p c.args.event rest ≡ own ∷ n ∷ rest = same ∙ ap (λ o. own ∷ with_first o rest) c.in-Some.is in
    let nodes_all : AreNodes p (own ∷ n ∷ rest) = subst (AreNodes p) all c.requires.below in
    let first = node_counted p al xs ib out c.args.counts.now own (n ∷ rest) c.event_count.result nodes_all.0 c.event_count.ensures (subst (λ ns. AreClaimsCountedBut p c.args.self.now ns c.args.counts.now) all c.requires.counted) in
    let second = node_counted p al xs ib out (slice_set c.args.counts.now own c.event_count.result) n rest c.event_count-in-Some.result nodes_all.1.0 c.event_count-in-Some.ensures first in
    subst (AreClaimsCountedBut p c.args.self.now rest) (sym (c.set-in-Some.ensures ∙ ap (λ cs. slice_set cs n c.event_count-in-Some.result) c.set.ensures)) second

pub count_nodes-requires-in-None-clause-counted : goal.count_nodes-requires-in-None-clause-counted
count_nodes-requires-in-None-clause-counted g c κs within =
    let p = c.args.plan.now in
    let al = c.args.self.now.alive.items in
    let xs = nodes_in (places_view c.args.self.now.places.items) in
    let ib = whole_inboxes (places_view c.args.self.now.places.items) c.args.self.now.inboxes.items in
    let out = events_out c.args.self.now.places.items in
    let own = c.node-own.result in
    let sender = c.match-event.sender in
    let rest = c.args.receivers.now in
    let same : changed p c.args.event rest ≡ own ∷ with_first sender rest = elim c.match-event.branch [
      | in-Recv w ↦ recv_changed p c.args.event w.in-Recv.node w.in-Recv.from own sender rest w.in-Recv.is c.node-own.ensures (w.sender-is ∙ w.if_lost-sender.ensures)
      | in-Sample w ↦ elim w.in-Sample.is [
        | inl a ↦ sample_changed p c.args.event a.0 a.1 a.2 own sender rest a.3 c.node-own.ensures w.sender-is
        | inr b ↦ tick_changed p c.args.event b.0 own sender rest b.1 c.node-own.ensures w.sender-is
      ]
    ] in
    let all : changed p c.args.event rest ≡ own ∷ rest = same ∙ ap (λ o. own ∷ with_first o rest) c.in-None.is in
    let nodes_all : AreNodes p (own ∷ rest) = subst (AreNodes p) all c.requires.below in
    let first = node_counted p al xs ib out c.args.counts.now own rest c.event_count.result nodes_all.0 c.event_count.ensures (subst (λ ns. AreClaimsCountedBut p c.args.self.now ns c.args.counts.now) all c.requires.counted) in
    subst (AreClaimsCountedBut p c.args.self.now rest) (sym c.set.ensures) first
