-- Places by number, and what a node that is at home may do.
use Rattle.std.proofs.Common.{◌≡◌, ◌∙◌, ◌+◌, ◌-◌, ◌<◌, ◌≤◌, ◌||◌, ℕ, zero, suc, Bool, true, false, not, cond, List, [], ◌∷◌, ◌++◌, map, filter, length, get_or, drop, slice_get, Option, Some, None, refl, sym, ap, subst, arith}
use Rattle.std.specs.List.{flat_map, list_any}
use Rattle.std.proofs.lemmas.List.{length-append, length-map, drop_more, get_or_read}
use Rattle.std.proofs.lemmas.List.Folds.{list_any-append}
use Rattle.std.proofs.lemmas.List.Elements.{filter-append}
use Rattle.std.proofs.lemmas.Option.{none-some, slice_get-get_or, slice_get_past}
use Rattle.overlay_setup.specs.NodeSets.{member, up_to}
use Rattle.overlay_setup.specs.Scripts.{Stream}
use Rattle.stat_plan.specs.Plans.{Plan, nodes}
use Rattle.overlay_event.specs.declared.event.Event.{Event}
use Rattle.overlay_event.specs.declared.event.Event.TheVariants.{Sample, Recv, Tick, Lose}
use Rattle.overlay_core.specs.Machine.{next_sample}
use Rattle.stat_plan.proofs.InLists.{any_from_in, up_to_in}
use Rattle.stat_plan.proofs.Filters.{filter_mapped}
use Rattle.overlay_node.specs.NodeViews.{IsNodeOf, NodeView, has_running, node_of}
use Rattle.event_claims.specs.Claims.{Outs, is_free, is_home, is_loss_of, receives_from}
use Rattle.node_inbox.specs.Inboxes.{senders_of}
use Rattle.node_inbox.specs.Sends.{inbox_at, is_alive, no_inbox}
use Rattle.overlay_net.specs.Inboxes.{FrameInbox, WaitingFrames}
use Rattle.overlay_net.specs.Places.{PlaceView, at_home, events_out, nodes_in, place_view, places_view, whole_inboxes}
use Rattle.overlay_net.specs.declared.nodes.NetNodes.{NetNodes}
use Rattle.overlay_net.specs.declared.place.Place.{Place}
use Rattle.overlay_net.specs.declared.place.Place.TheVariants.{Home}
use Rattle.overlay_net.specs.Nets.{active_events, claims_at, events_at, is_doomed_node, node_events, sample_of, tick_of}
use Rattle.overlay_net.specs.Events.{IsNth, NoneIsLosing, free_senders}
use Rattle.overlay_net.specs.declared.events.Nth.{Nth}
use Rattle.overlay_net.specs.declared.events.Nth.TheVariants.{Found, Beyond}
use Rattle.overlay_net.specs.States.{ArePartsOf, claims_of}
use Rattle.overlay_net.proofs.Listed.{get_before, nth_past}
use Rattle.overlay_net.proofs.Offers.{events_read}
use Rattle.overlay_net.proofs.Whole.{home_inbox, node_at_place, none_past, out_at_place}

-- ---- places by number

module _ {X : Type 0} where
  -- the place that was read
  pub place_read : (places : List (Place X)) (n : ℕ) (x : Place X) → n < length places → x ≡ get_or places n x → slice_get (places_view places) n ≡ Some (place_view x)
  place_read [] n x lt is = absurd (omega (arith, lt))
  place_read (y ∷ ys) zero x lt is = ap (λ (z : Place X). Some (place_view z)) (sym is)
  place_read (y ∷ ys) (suc n) x lt is = place_read ys n x (omega (arith, lt)) is

  -- the event of a place that was read
  pub out_read : (places : List (Place X)) (n : ℕ) (x : Place X) → n < length places → x ≡ get_or places n x → events_out places n ≡ (place_view x).out
  out_read places n x lt is = out_at_place (places_view places) n (place_view x) (place_read places n x lt is)

  -- past the places nobody is out
  pub out_past : (places : List (Place X)) (n : ℕ) → length places ≤ n → events_out places n ≡ None
  out_past places n past = none_past (places_view places) n (slice_get_past (places_view places) n (subst (λ k. k ≤ n) (sym (length-map places (λ (x : Place X). place_view x))) past))

-- a test that no number below this one passes, and not this one either
pub none_more : (test : ℕ → Bool) (k : ℕ) → list_any test (up_to k) ≡ false → test k ≡ false → list_any test (up_to (k + 1)) ≡ false
none_more test k before here = let same : k + 1 ≡ suc k = omega arith in ap (λ j. list_any test (up_to j)) same ∙ list_any-append test (up_to k) (k ∷ []) ∙ (λ i. before i || (here i || false))

-- a place that passes a test is one of all
pub some_place : (test : ℕ → Bool) (n k : ℕ) → k < n → test k ≡ true → list_any test (up_to n) ≡ true
some_place test n k lt here = any_from_in test k (up_to n) (up_to_in n k lt) here

-- ---- the events of a node that are free

-- no sender is being lost
pub all_free : (out : Outs) (ms : List ℕ) → NoneIsLosing out → free_senders out ms ≡ ms
all_free out [] none = refl
all_free out (m ∷ ms) none = λ i. cond (not (none m i)) (m ∷ all_free out ms none i) (all_free out ms none i)

-- what is found in a mapped list
pub get_mapped : {X Y : Type 0} (f : X → Y) (xs : List X) (i : ℕ) (x : X) → slice_get xs i ≡ Some x → slice_get (map f xs) i ≡ Some (f x)
get_mapped f [] i x at = absurd (none-some x at)
get_mapped {X} {Y} f (z ∷ zs) zero x at = ap (λ (o : Option X). elim o as (λ _. Option Y) [ None ↦ None | (Some y) ↦ Some (f y) ]) at
get_mapped f (z ∷ zs) (suc i) x at = get_mapped f zs i x at

-- the free senders from one on
pub free_from : (out : Outs) (ms : List ℕ) (k m : ℕ) → k < length ms → Some m ≡ slice_get ms k → free_senders out (drop k ms) ≡ cond (not (is_loss_of (out m) m)) (m ∷ free_senders out (drop (k + 1) ms)) (free_senders out (drop (k + 1) ms))
free_from out ms k m lt at =
    let found : Some m ≡ Some (get_or ms k m) = at ∙ slice_get-get_or ms k m lt in
    let is : m ≡ get_or ms k m = cc in
    ap (free_senders out) (drop_more ms k m lt)
    ∙ ap (λ z. cond (not (is_loss_of (out z) z)) (z ∷ free_senders out (drop (k + 1) ms)) (free_senders out (drop (k + 1) ms))) (sym is)

pub next_free : (out : Outs) (ms : List ℕ) (k m : ℕ) → k < length ms → Some m ≡ slice_get ms k → is_loss_of (out m) m ≡ false → free_senders out (drop k ms) ≡ m ∷ free_senders out (drop (k + 1) ms)
next_free out ms k m lt at free = free_from out ms k m lt at ∙ ap (λ b. cond (not b) (m ∷ free_senders out (drop (k + 1) ms)) (free_senders out (drop (k + 1) ms))) free

pub next_lost : (out : Outs) (ms : List ℕ) (k m : ℕ) → k < length ms → Some m ≡ slice_get ms k → is_loss_of (out m) m ≡ true → free_senders out (drop k ms) ≡ free_senders out (drop (k + 1) ms)
next_lost out ms k m lt at lost = free_from out ms k m lt at ∙ ap (λ b. cond (not b) (m ∷ free_senders out (drop (k + 1) ms)) (free_senders out (drop (k + 1) ms))) lost

module _ (p : Plan) (out : Outs) (x : NodeView) where
  free_sample : (s : Stream) → filter (is_free p out) (sample_of p x s) ≡ sample_of p x s
  free_sample s = go (member x.number s.daemons) (next_sample p (node_of x) s.number)
    where
      kept : Bool → Option (ℕ × ℕ) → List Event
      kept b q = cond b (elim q [ None ↦ [] | Some v ↦ Sample x.number s.number v.1 ∷ [] ]) []

      go : (b : Bool) (q : Option (ℕ × ℕ)) → filter (is_free p out) (kept b q) ≡ kept b q
      go true (Some v) = refl
      go true None = refl
      go false q = refl

  free_samples : (ss : List Stream) → filter (is_free p out) (flat_map (sample_of p x) ss) ≡ flat_map (sample_of p x) ss
  free_samples [] = refl
  free_samples (s ∷ ss) = filter-append (is_free p out) (sample_of p x s) (flat_map (sample_of p x) ss) ∙ (λ i. free_sample s i ++ free_samples ss i)

  free_tick : filter (is_free p out) (tick_of p x) ≡ tick_of p x
  free_tick = go (has_running p x)
    where
      go : (b : Bool) → filter (is_free p out) (cond b (Tick x.number ∷ []) []) ≡ cond b (Tick x.number ∷ []) []
      go true = refl
      go false = refl

  -- of the events of a node that isn't to be lost next, those are free whose sender is not being lost
  pub free_active : (box : WaitingFrames) → filter (is_free p out) (active_events p x box) ≡ flat_map (sample_of p x) p.streams ++ map (λ m. Recv x.number m) (free_senders out (senders_of box)) ++ tick_of p x
  free_active box =
      filter-append (is_free p out) (flat_map (sample_of p x) p.streams ++ map (λ m. Recv x.number m) (senders_of box)) (tick_of p x)
      ∙ ap (λ (es : List Event). es ++ filter (is_free p out) (tick_of p x)) (filter-append (is_free p out) (flat_map (sample_of p x) p.streams) (map (λ m. Recv x.number m) (senders_of box)))
      ∙ (λ i. (free_samples p.streams i ++ filter_mapped (is_free p out) (λ m. Recv x.number m) (senders_of box) i) ++ free_tick i)

  -- how many these are
  pub count_active : (box : WaitingFrames) → length (filter (is_free p out) (active_events p x box)) ≡ length (flat_map (sample_of p x) p.streams) + length (free_senders out (senders_of box)) + cond (has_running p x) 1 0
  count_active box =
      ap length (free_active box)
      ∙ length-append (flat_map (sample_of p x) p.streams ++ map (λ m. Recv x.number m) (free_senders out (senders_of box))) (tick_of p x)
      ∙ (λ i. length-append (flat_map (sample_of p x) p.streams) (map (λ m. Recv x.number m) (free_senders out (senders_of box))) i + one_tick (has_running p x) i)
      ∙ ap (λ k. length (flat_map (sample_of p x) p.streams) + k + cond (has_running p x) 1 0) (length-map (free_senders out (senders_of box)) (λ m. Recv x.number m))
    where
      one_tick : (b : Bool) → length (cond {A = List Event} b (Tick x.number ∷ []) []) ≡ cond b 1 0
      one_tick true = refl
      one_tick false = refl

  -- a free event of such a node by its number: a sample, what it receives, or what comes behind
  pub nth_sample : (box : WaitingFrames) (i : ℕ) (e : Event) → slice_get (flat_map (sample_of p x) p.streams) i ≡ Some e → slice_get (filter (is_free p out) (active_events p x box)) i ≡ Some e
  nth_sample box i e h =
      ap (λ (es : List Event). slice_get es i) (free_active box)
      ∙ get_before (flat_map (sample_of p x) p.streams ++ map (λ m. Recv x.number m) (free_senders out (senders_of box))) (tick_of p x) i e (get_before (flat_map (sample_of p x) p.streams) (map (λ m. Recv x.number m) (free_senders out (senders_of box))) i e h)

  pub nth_receipt : (box : WaitingFrames) (n i l : ℕ) (e : Event) → n ≡ x.number → i ≡ length (flat_map (sample_of p x) p.streams) + l → slice_get (map {A = ℕ} {B = Event} (λ m. Recv n m) (free_senders out (senders_of box))) l ≡ Some e
      → slice_get (filter (is_free p out) (active_events p x box)) i ≡ Some e
  nth_receipt box n i l e same past h =
      ap (λ (es : List Event). slice_get es i) (free_active box)
      ∙ get_before (flat_map (sample_of p x) p.streams ++ map (λ m. Recv x.number m) (free_senders out (senders_of box))) (tick_of p x) i e
      (nth_past (flat_map (sample_of p x) p.streams) (map (λ m. Recv x.number m) (free_senders out (senders_of box))) i l (Found e) past
      (subst (λ k. slice_get (map {A = ℕ} {B = Event} (λ m. Recv k m) (free_senders out (senders_of box))) l ≡ Some e) same h))

  pub nth_behind : (box : WaitingFrames) (n i l k : ℕ) (r : Nth) → n ≡ x.number → i ≡ length (flat_map (sample_of p x) p.streams) + l → l ≡ length (map {A = ℕ} {B = Event} (λ m. Recv n m) (free_senders out (senders_of box))) + k → IsNth (tick_of p x) k r
      → IsNth (filter (is_free p out) (active_events p x box)) i r
  nth_behind box n i l k r same past beyond h =
      subst (λ (es : List Event). IsNth es i r) (sym (free_active box))
      (nth_past (flat_map (sample_of p x) p.streams ++ map (λ m. Recv x.number m) (free_senders out (senders_of box))) (tick_of p x) i k r
      (nth_past (flat_map (sample_of p x) p.streams) (map (λ m. Recv x.number m) (free_senders out (senders_of box))) i l (Beyond k) past
      (subst (λ j. l ≡ length (map {A = ℕ} {B = Event} (λ m. Recv j m) (free_senders out (senders_of box))) + k) same beyond)) h)

  -- its tick, if a timer runs
  pub no_tick : (k : ℕ) → has_running p x ≡ false → IsNth (tick_of p x) k (Beyond k)
  no_tick k none = subst (λ b. IsNth (cond b (Tick x.number ∷ []) []) k (Beyond k)) (sym none) (omega arith)

  pub past_tick : (k : ℕ) → has_running p x ≡ true → 0 < k → IsNth (tick_of p x) k (Beyond (k - 1))
  past_tick k runs some = subst (λ b. IsNth (cond b (Tick x.number ∷ []) []) k (Beyond (k - 1))) (sym runs) (omega arith)

  pub first_tick : (k n : ℕ) → has_running p x ≡ true → k ≡ 0 → n ≡ x.number → IsNth (tick_of p x) k (Found (Tick n))
  first_tick k n runs none same =
      subst (λ b. IsNth (cond b (Tick x.number ∷ []) []) k (Found (Tick n))) (sym runs)
      (subst (λ j. slice_get (Tick x.number ∷ []) j ≡ Some (Tick n)) (sym none) (ap (λ j. Some (Tick j)) (sym same)))

-- ---- the events of a node that may be claimed

-- there are as many inboxes as places
pub inbox_count : (ps : List PlaceView) (boxes : List FrameInbox) → length (whole_inboxes ps boxes) ≡ length ps → length boxes ≡ length ps
inbox_count [] boxes len = len
inbox_count (x ∷ xs) [] len = len
inbox_count (x ∷ xs) (box ∷ boxes) len = ap suc (inbox_count xs boxes (omega (arith, len)))

-- a node that is out has none
pub claims_away : (p : Plan) (al : List Bool) (xs : List NodeView) (ib : List FrameInbox) (out : Outs) (n : ℕ) (e : Event) → out n ≡ Some e → claims_at p al xs ib out n ≡ []
claims_away p al xs ib out n e away = λ i. cond (is_home (away i)) (filter (is_free p out) (events_at p al xs ib n)) []

module _ {X : Type 0} (p : Plan) (v : NetNodes X) (parts : ArePartsOf p v) where
  -- the places are those of the nodes
  pub place_count : length v.places.items ≡ nodes p
  place_count = sym (length-map (places_view v.places.items) (λ (x : PlaceView). x.node) ∙ length-map v.places.items (λ (x : Place X). place_view x)) ∙ parts.node_count

  -- each node has an inbox
  pub box_count : length v.inboxes.items ≡ nodes p
  box_count = inbox_count (places_view v.places.items) v.inboxes.items (parts.inbox_count ∙ sym place_count ∙ sym (length-map v.places.items (λ (x : Place X). place_view x))) ∙ length-map v.places.items (λ (x : Place X). place_view x) ∙ place_count

  module _ (n : ℕ) (x : NodeView) (at : slice_get (places_view v.places.items) n ≡ Some (at_home x)) (lt : n < nodes p) where
    -- it is the node of this number
    pub home_node : slice_get (nodes_in (places_view v.places.items)) n ≡ Some x
    home_node = node_at_place (places_view v.places.items) n (at_home x) at

    pub home_fits : (x.number ≡ n) × IsNodeOf p x
    home_fits = parts.node n x home_node

    -- what waits for it
    pub home_box : inbox_at (whole_inboxes (places_view v.places.items) v.inboxes.items) n ≡ inbox_at v.inboxes.items n
    home_box = home_inbox (places_view v.places.items) v.inboxes.items n (at_home x) at refl (subst (λ k. n < k) (sym box_count) lt)

    -- its events, those that are free
    pub claims_home : (u : Bool) (w : WaitingFrames) → u ≡ is_alive v.alive.items n → w ≡ inbox_at v.inboxes.items n → claims_of p v n ≡ filter (is_free p (events_out v.places.items)) (node_events p u x w)
    claims_home u w up is =
        (λ i. cond (is_home (out_at_place (places_view v.places.items) n (at_home x) at i)) (filter (is_free p (events_out v.places.items)) (events_at p v.alive.items (nodes_in (places_view v.places.items)) (whole_inboxes (places_view v.places.items) v.inboxes.items) n)) [])
        ∙ ap (filter (is_free p (events_out v.places.items))) (events_read p v.alive.items (nodes_in (places_view v.places.items)) (whole_inboxes (places_view v.places.items) v.inboxes.items) n u x w up home_node (is ∙ sym home_box))

    -- where it isn't to be lost next
    pub claims_active : (w : WaitingFrames) → true ≡ is_alive v.alive.items n → w ≡ inbox_at v.inboxes.items n → is_doomed_node p x ≡ false → claims_of p v n ≡ filter (is_free p (events_out v.places.items)) (active_events p x w)
    claims_active w up is doomed =
        claims_home true w up is
        ∙ ap (λ b. filter (is_free p (events_out v.places.items)) (cond b (Lose x.number ∷ []) (active_events p x w))) doomed

    -- where it is to be lost next
    pub claims_doomed : true ≡ is_alive v.alive.items n → is_doomed_node p x ≡ true → claims_of p v n ≡ cond (not (list_any (λ k. receives_from (events_out v.places.items k) n) (up_to (length v.places.items)))) (Lose n ∷ []) []
    claims_doomed up doomed =
        claims_home true (inbox_at v.inboxes.items n) up refl
        ∙ ap (λ b. filter (is_free p (events_out v.places.items)) (cond b (Lose x.number ∷ []) (active_events p x (inbox_at v.inboxes.items n)))) doomed
        ∙ (λ i. cond (not (list_any (λ k. receives_from (events_out v.places.items k) (home_fits.0 i)) (up_to (sym place_count i)))) (Lose (home_fits.0 i) ∷ []) [])

  module _ (n : ℕ) (lt : n < nodes p) where
    -- its place and its inbox
    pub place_below : n < length v.places.items
    place_below = subst (λ k. n < k) (sym place_count) lt

    pub box_below : n < length v.inboxes.items
    box_below = subst (λ k. n < k) (sym box_count) lt

    pub box_read : (box : FrameInbox) → box ≡ get_or v.inboxes.items n box → box.waiting ≡ inbox_at v.inboxes.items n
    box_read box is = ap (λ (b : FrameInbox). b.waiting) (get_or_read v.inboxes.items n box box_below is no_inbox)

    module _ (y : Place X) (is : y ≡ get_or v.places.items n y) where
      pub read_home : (x : NodeView) → y ≡ Home x → slice_get (places_view v.places.items) n ≡ Some (at_home x)
      read_home x home = place_read v.places.items n y place_below is ∙ ap (λ (z : Place X). Some (place_view z)) home

      pub read_away : (e : Event) → (place_view y).out ≡ Some e → claims_of p v n ≡ []
      read_away e away = claims_away p v.alive.items (nodes_in (places_view v.places.items)) (whole_inboxes (places_view v.places.items) v.inboxes.items) (events_out v.places.items) n e (out_read v.places.items n y place_below is ∙ away)
