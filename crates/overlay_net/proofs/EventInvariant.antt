-- An event keeps the invariant of the parts of a net.
use Rattle.std.proofs.Common.{◌≡◌, ◌≢◌, ◌∙◌, ◌<◌, ℕ, Bool, true, false, ◌==◌, ◌&&◌, cond, List, [], ◌++◌, map, length, slice_get, slice_set, Option, Some, refl, sym, ap, subst, inl, inr, eqb-true, append-nil}
use Rattle.std.proofs.lemmas.Bool.{and_parts, cases_Bool, eqb-false}
use Rattle.std.proofs.lemmas.List.{length-set, map-append}
use Rattle.std.proofs.lemmas.Option.{slice_get_within}
use Rattle.std.specs.List.{AllByRecursion}
use Rattle.stat_plan.specs.Plans.{Plan, nodes, front}
use Rattle.count_tree.proofs.Counted.{set_else, set_here}
use Rattle.overlay_event.specs.declared.event.Event.{Event}
use Rattle.overlay_event.specs.Events.{event_node}
use Rattle.overlay_core.specs.Nodes.{Release}
use Rattle.overlay_core.specs.TreeReleases.{TreeRelease, AreNumberedInOrder, bare_release, bare_releases, numbers_after}
use Rattle.overlay_node.specs.Frames.{IsFrame}
use Rattle.overlay_node.specs.Outputs.{ReleaseFits}
use Rattle.overlay_node.specs.NodeViews.{NodeView, Counts, IsNodeOf}
use Rattle.overlay_net.specs.Inboxes.{FrameInbox}
use Rattle.node_inbox.specs.Inboxes.{IsInbox, is_waiting, queue_of}
use Rattle.node_inbox.specs.Sends.{inbox_at, is_alive, AreSent, GoBelow, packets_to}
use Rattle.overlay_net.specs.Events.{AreParts, FrontCounts}
use Rattle.overlay_net.specs.Sends.{IsTaken}
use Rattle.overlay_net.specs.Handled.{HasHandled}
use Rattle.overlay_net.proofs.PartsInvariant.{all_append, none_where_quiet, numbers_of_both, sent_fit, some_where_waiting, taken_all, taken_kept, taken_left, taken_none}

-- what is found twice is the same
found_once : {X : Type 0} (o : Option X) (x y : X) → o ≡ Some x → o ≡ Some y → x ≡ y
found_once o x y h k = cc

module _ (p : Plan) (al : List Bool) (e : Event) (x y : NodeView) (packet : Option (List ℕ)) (sends : List (ℕ × (List ℕ))) (more : List TreeRelease) (done : HasHandled p x y e packet sends more) (xs : List NodeView) (at : slice_get xs (event_node e) ≡ Some x) where
  -- the event's node is one of the nodes
  place : event_node e < length xs
  place = slice_get_within xs (event_node e) x at

  -- the new node is found at the event's node
  stands : slice_get (slice_set xs (event_node e) y) (event_node e) ≡ Some y
  stands = set_here xs (event_node e) y place

  -- what is found at the event's node is the new node
  here_is : (n : ℕ) (z : NodeView) → n ≡ event_node e → slice_get (slice_set xs (event_node e) y) n ≡ Some z → z ≡ y
  here_is n z en h = found_once (slice_get (slice_set xs (event_node e) y) (event_node e)) z y (subst (λ k. slice_get (slice_set xs (event_node e) y) k ≡ Some z) en h) stands

  -- the other nodes are unchanged
  else_is : (n : ℕ) (z : NodeView) → (n == event_node e) ≡ false → slice_get (slice_set xs (event_node e) y) n ≡ Some z → slice_get xs n ≡ Some z
  else_is n z en h = sym (set_else xs (event_node e) n y (eqb-false n (event_node e) en)) ∙ h

  -- the inboxes after the event
  inboxes_kept : (ia ib ic : List FrameInbox) → AreParts p al xs ia → IsTaken ia e packet ib → AreSent al (event_node e) sends ib ic → (b : ℕ) → IsInbox (inbox_at ic b)
  inboxes_kept ia ib ic parts taken sent = sent.inboxes (taken_kept ia ib e packet taken (λ b. record { sent = parts.sent b; increasing = parts.increasing b }))

  -- each node has its number, and fits the plan
  nodes_kept : (ia : List FrameInbox) → AreParts p al xs ia → (n : ℕ) (z : NodeView) → slice_get (slice_set xs (event_node e) y) n ≡ Some z → (z.number ≡ n) × IsNodeOf p z
  nodes_kept ia parts n z h = go (n == event_node e) refl
    where
      go : (t : Bool) → (n == event_node e) ≡ t → (z.number ≡ n) × IsNodeOf p z
      go true t =
          let en : n ≡ event_node e = eqb-true n (event_node e) t in
          let is : z ≡ y = here_is n z en h in
          (ap (λ (v : NodeView). v.number) is ∙ done.number ∙ (parts.node (event_node e) x at).0 ∙ sym en, subst (λ (v : NodeView). IsNodeOf p v) (sym is) done.fits)
      go false t = parts.node n z (else_is n z t h)

  -- the packets that wait are partial merges of the plan
  packets_kept : (ia ib ic : List FrameInbox) → AreParts p al xs ia → IsTaken ia e packet ib → AreSent al (event_node e) sends ib ic → (m n : ℕ) → AllByRecursion (IsFrame p) (queue_of (inbox_at ic n) m)
  packets_kept ia ib ic parts taken sent m n = subst (λ (l : List (List ℕ)). AllByRecursion (IsFrame p) l) (sym (sent.queues m n)) (go ((m == event_node e) && is_alive al n))
    where
      old : AllByRecursion (IsFrame p) (queue_of (inbox_at ib n) m)
      old = taken_left (λ (l : List (List ℕ)). AllByRecursion (IsFrame p) l) (λ q rest h. h.1) ia ib e packet taken m n (parts.packets m n)

      go : (t : Bool) → AllByRecursion (IsFrame p) (cond t (queue_of (inbox_at ib n) m ++ packets_to n sends) (queue_of (inbox_at ib n) m))
      go true = all_append (IsFrame p) (queue_of (inbox_at ib n) m) (packets_to n sends) old (sent_fit (IsFrame p) n sends done.packets)
      go false = old

  -- the senders are nodes
  senders_kept : (ia ib ic : List FrameInbox) → AreParts p al xs ia → IsTaken ia e packet ib → AreSent al (event_node e) sends ib ic → (m n : ℕ) → is_waiting (inbox_at ic n) m ≡ true → m < nodes p
  senders_kept ia ib ic parts taken sent m n waits = go ((m == event_node e) && is_alive al n) refl
    where
      some : queue_of (inbox_at ic n) m ≢ []
      some = some_where_waiting (inbox_at ic n) m (inboxes_kept ia ib ic parts taken sent n).sent waits

      go : (t : Bool) → ((m == event_node e) && is_alive al n) ≡ t → m < nodes p
      go true t = subst (λ k. k < nodes p) (sym (eqb-true m (event_node e) (and_parts _ _ t).0)) (subst (λ k. event_node e < k) parts.node_count place)
      go false t = elim (cases_Bool (is_waiting (inbox_at ia n) m)) [
        | inl w ↦ parts.senders m n w
        | inr f ↦ absurd (some (
            sent.queues m n
            ∙ ap (λ (u : Bool). cond u (queue_of (inbox_at ib n) m ++ packets_to n sends) (queue_of (inbox_at ib n) m)) t
            ∙ taken_none ia ib e packet taken m n (none_where_quiet (inbox_at ia n) m f)))
      ]

  -- the nodes and inboxes are still those of the plan
  pub parts_kept : (ia ib ic : List FrameInbox) → AreParts p al xs ia → IsTaken ia e packet ib → AreSent al (event_node e) sends ib ic → GoBelow (nodes p) sends → AreParts p al (slice_set xs (event_node e) y) ic
  parts_kept ia ib ic parts taken sent below = record {
    node_count = length-set xs (event_node e) y ∙ parts.node_count;
    inbox_count = sent.inbox_count ∙ taken_all ia ib e packet taken ∙ parts.inbox_count;
    alive_count = parts.alive_count;
    node = nodes_kept ia parts;
    packets = packets_kept ia ib ic parts taken sent;
    senders = senders_kept ia ib ic parts taken sent;
    sent = λ n. (inboxes_kept ia ib ic parts taken sent n).sent;
    increasing = λ n. (inboxes_kept ia ib ic parts taken sent n).increasing;
  }

  -- the front end has counted its releases
  pub counts_kept : (rs : List TreeRelease) → (event_node e ≢ front p → more ≡ []) → FrontCounts p xs rs → FrontCounts p (slice_set xs (event_node e) y) (rs ++ more)
  counts_kept rs none counts z h = go (front p == event_node e) refl
    where
      go : (t : Bool) → (front p == event_node e) ≡ t → Counts z.held (bare_releases (rs ++ more))
      go true t =
          let en : front p ≡ event_node e = eqb-true (front p) (event_node e) t in
          let is : z ≡ y = here_is (front p) z en h in
          let old : Counts x.held (bare_releases rs) = counts x (subst (λ k. slice_get xs k ≡ Some x) (sym en) at) in
          subst (λ (v : NodeView). Counts v.held (bare_releases (rs ++ more))) (sym is)
          (subst (λ (l : List Release). Counts y.held l) (sym (map-append bare_release rs more)) (done.counts (bare_releases rs) old))
      go false t =
          let rest : more ≡ [] = none (λ en. eqb-false (front p) (event_node e) t (sym en)) in
          let same : rs ++ more ≡ rs = ap (λ (l : List TreeRelease). rs ++ l) rest ∙ append-nil rs in
          subst (λ (l : List TreeRelease). Counts z.held (bare_releases l)) (sym same) (counts z (else_is (front p) z t h))

  -- each release has its number
  pub numbers_kept : (rs : List TreeRelease) → (event_node e ≢ front p → more ≡ []) → FrontCounts p xs rs → AreNumberedInOrder [] rs → AreNumberedInOrder [] (rs ++ more)
  numbers_kept rs none counts numbered = go (front p == event_node e) refl
    where
      go : (t : Bool) → (front p == event_node e) ≡ t → AreNumberedInOrder [] (rs ++ more)
      go true t =
          let en : front p ≡ event_node e = eqb-true (front p) (event_node e) t in
          let old : Counts x.held (bare_releases rs) = counts x (subst (λ k. slice_get xs k ≡ Some x) (sym en) at) in
          map-append (λ (r : TreeRelease). r.number) rs more
          ∙ ap (λ (l : List ℕ). l ++ map (λ (r : TreeRelease). r.number) more) numbered
          ∙ ap (λ (l : List ℕ). numbers_after [] (bare_releases rs) ++ l) (done.numbers (bare_releases rs) old)
          ∙ sym (numbers_of_both [] (bare_releases rs) (bare_releases more))
          ∙ ap (λ (l : List Release). numbers_after [] l) (sym (map-append bare_release rs more))
      go false t =
          let rest : more ≡ [] = none (λ en. eqb-false (front p) (event_node e) t (sym en)) in
          let same : rs ++ more ≡ rs = ap (λ (l : List TreeRelease). rs ++ l) rest ∙ append-nil rs in
          subst (λ (l : List TreeRelease). AreNumberedInOrder [] l) (sym same) numbered

  -- each release is a partial merge of the plan
  pub trees_kept : (rs : List TreeRelease) → AllByRecursion (ReleaseFits p) rs → AllByRecursion (ReleaseFits p) (rs ++ more)
  trees_kept rs trees = all_append (ReleaseFits p) rs more trees done.trees
