-- The events of a node that is never lost: no loss is one of them.
use Rattle.std.proofs.Common.{◌≡◌, ◌∙◌, ℕ, Bool, true, false, cond, List, [], ◌∷◌, ◌++◌, map, slice_get, Option, Some, None, refl, sym, ap, subst, inl, inr}
use Rattle.std.proofs.lemmas.Bool.{true≢false}
use Rattle.std.specs.List.{flat_map}
use Rattle.overlay_setup.specs.NodeSets.{In, member}
use Rattle.overlay_setup.specs.Scripts.{Stream}
use Rattle.stat_plan.specs.Plans.{Plan, fault}
use Rattle.stat_plan.proofs.InLists.{in_append}
use Rattle.overlay_event.specs.declared.event.Event.{Event}
use Rattle.overlay_event.specs.declared.event.Event.TheVariants.{Sample, Recv, Tick, Lose}
use Rattle.overlay_core.specs.Machine.{next_sample}
use Rattle.stat_plan.specs.Machine.Overlays.{is_spent}
use Rattle.overlay_node.specs.NodeViews.{NodeView, has_running, node_of}
use Rattle.node_inbox.specs.Inboxes.{senders_of}
use Rattle.node_inbox.specs.Sends.{inbox_at, is_alive}
use Rattle.overlay_net.specs.Inboxes.{FrameInbox, WaitingFrames}
use Rattle.overlay_net.specs.Events.{AreParts, IsOrdinary}
use Rattle.overlay_net.specs.Nets.{active_events, events_at, is_doomed_node, node_events, sample_of, tick_of}

-- no sample is a loss
ordinary_sample : (p : Plan) (x : NodeView) (s : Stream) (e : Event) → In e (sample_of p x s) → IsOrdinary e
ordinary_sample p x s e i = go (member x.number s.daemons) (next_sample p (node_of x) s.number) i
  where
    go : (b : Bool) (q : Option (ℕ × ℕ)) → In e (cond b (elim q as (λ _. List Event) [ None ↦ [] | (Some v) ↦ Sample x.number s.number v.1 ∷ [] ]) []) → IsOrdinary e
    go true (Some v) (inl k) = subst IsOrdinary (sym k) tt
    go true (Some v) (inr j) = absurd j
    go true None j = absurd j
    go false q j = absurd j

ordinary_samples : (p : Plan) (x : NodeView) (ss : List Stream) (e : Event) → In e (flat_map (sample_of p x) ss) → IsOrdinary e
ordinary_samples p x [] e i = absurd i
ordinary_samples p x (s ∷ ss) e i = elim (in_append e (sample_of p x s) (flat_map (sample_of p x) ss) i) [
  | inl a ↦ ordinary_sample p x s e a
  | inr b ↦ ordinary_samples p x ss e b
]

ordinary_receipts : (n : ℕ) (ms : List ℕ) (e : Event) → In e (map (λ m. Recv n m) ms) → IsOrdinary e
ordinary_receipts n [] e i = absurd i
ordinary_receipts n (m ∷ ms) e (inl k) = subst IsOrdinary (sym k) tt
ordinary_receipts n (m ∷ ms) e (inr i) = ordinary_receipts n ms e i

ordinary_tick : (p : Plan) (x : NodeView) (e : Event) → In e (tick_of p x) → IsOrdinary e
ordinary_tick p x e i = go (has_running p x) i
  where
    go : (b : Bool) → In e (cond b (Tick x.number ∷ []) []) → IsOrdinary e
    go true (inl k) = subst IsOrdinary (sym k) tt
    go true (inr j) = absurd j
    go false j = absurd j

-- nothing that a node does besides being lost is a loss
active_ordinary : (p : Plan) (x : NodeView) (box : WaitingFrames) (e : Event) → In e (active_events p x box) → IsOrdinary e
active_ordinary p x box e i = elim (in_append e (flat_map (sample_of p x) p.streams ++ map (λ m. Recv x.number m) (senders_of box)) (tick_of p x) i) [
  | inl a ↦ elim (in_append e (flat_map (sample_of p x) p.streams) (map (λ m. Recv x.number m) (senders_of box)) a) [
    | inl b ↦ ordinary_samples p x p.streams e b
    | inr c ↦ ordinary_receipts x.number (senders_of box) e c
  ]
  | inr d ↦ ordinary_tick p x e d
]

-- no event of a node that is never lost is a loss
pub faultless_ordinary : (p : Plan) (al : List Bool) (xs : List NodeView) (ib : List FrameInbox) (n : ℕ) (e : Event) → AreParts p al xs ib → fault p n ≡ None → In e (events_at p al xs ib n) → IsOrdinary e
faultless_ordinary p al xs ib n e parts none i = go (slice_get xs n) refl i
  where
    by_node : (x : NodeView) (u d : Bool) → d ≡ false → In e (cond u (cond d (Lose x.number ∷ []) (active_events p x (inbox_at ib n))) []) → IsOrdinary e
    by_node x true true t j = absurd (true≢false t)
    by_node x true false t j = active_ordinary p x (inbox_at ib n) e j
    by_node x false d t j = absurd j

    go : (o : Option NodeView) → slice_get xs n ≡ o → In e (elim o as (λ _. List Event) [ None ↦ [] | (Some x) ↦ node_events p (is_alive al n) x (inbox_at ib n) ]) → IsOrdinary e
    go None at j = absurd j
    go (Some x) at j = by_node x (is_alive al n) (is_doomed_node p x) (ap (λ k. is_spent (fault p k) x.count) (parts.node n x at).0 ∙ ap (λ f. is_spent f x.count) none) j
