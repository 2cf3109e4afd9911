-- The start of a net, node by node.
use Rattle.std.proofs.Common.{replicate, cond, ◌≡◌, ◌⊎◌, ◌≢◌, ◌∙◌, ◌<◌, ◌≤◌, ◌+◌, ℕ, zero, suc, Bool, true, false, ◌==◌, nat_lt, List, [], ◌∷◌, ◌++◌, map, length, slice_get, Option, Some, None, refl, sym, ap, subst, inl, inr, eqb-true, arith}
use Rattle.std.proofs.lemmas.Bool.{cases_Bool, true≢false, eqb-false, ltb-true, ltb-false}
use Rattle.std.specs.List.{AllByRecursion}
use Rattle.std.specs.List.Sorted.{IsStrictlySortedBy}
use Rattle.std.specs.Ordering.{nat_cmp}
use Rattle.overlay_node.specs.Frames.{IsFrame, packet_of}
use Rattle.stat_plan.specs.Plans.{Plan, nodes, front}
use Rattle.stat_plan.proofs.Elements.{all_append}
use Rattle.overlay_core.specs.Nodes.{Node}
use Rattle.overlay_core.specs.Machine.{State, start, start_node}
use Rattle.overlay_core.specs.TreeReleases.{AreNumberedInOrder, TreeRelease, bare_releases, releases_view}
use Rattle.overlay_node.specs.NodeViews.{Counts, IsNodeOf, NodeView, node_of}
use Rattle.node_inbox.specs.Inboxes.{HaveSent, IsInbox, is_waiting, queue_of, senders_of}
use Rattle.overlay_net.specs.Inboxes.{FrameInbox}
use Rattle.overlay_net.specs.Nets.{AllHome, IsReachedBy, state_of, state_with}
use Rattle.node_inbox.specs.Sends.{inbox_at, is_alive}
use Rattle.overlay_net.specs.Events.{AreParts, IsNet, NoneIsLosing}
use Rattle.overlay_net.specs.States.{AreClaimsCounted, AreInitial, ArePartsOf, IsNetState, net_view}
use Rattle.overlay_net.specs.Places.{HasFrame, HaveFrames, PlaceView, at_home, events_out, nodes_in, out_at, outs_in, place_view, places_view, whole_inbox, whole_inboxes}
use Rattle.overlay_net.specs.declared.place.Place.{Place}
use Rattle.overlay_net.specs.declared.place.Place.TheVariants.{Home}
use Rattle.overlay_net.specs.declared.nodes.NetNodes.{NetNodes}
use Rattle.overlay_net.specs.declared.state.NetState.{NetState}
use Rattle.std.proofs.lemmas.List.{length-replicate, map-append}
use Rattle.std.proofs.lemmas.Option.{none-some}
use Rattle.prefix_tree.specs.Tree.{Tree}
use Rattle.overlay_event.specs.declared.event.Event.{Event}
use Rattle.event_claims.specs.Claims.{MayBeOut, Outs, all_home, is_loss_of}
use Rattle.event_claims.proofs.Claims.{nothing_out}
use Rattle.overlay_node.specs.Outputs.{ReleaseFits}

-- the elements behind other ones
last_here : {X : Type 0} (xs : List X) (y : X) → slice_get (xs ++ y ∷ []) (length xs) ≡ Some y
last_here [] y = refl
last_here (x ∷ xs) y = last_here xs y

last_else : {X : Type 0} (xs : List X) (y : X) (n : ℕ) → n ≢ length xs → slice_get (xs ++ y ∷ []) n ≡ slice_get xs n
last_else [] y zero other = absurd (other refl)
last_else [] y (suc n) other = refl
last_else (x ∷ xs) y zero other = refl
last_else (x ∷ xs) y (suc n) other = last_else xs y n (λ e. other (ap suc e))

length-last : {X : Type 0} (xs : List X) (y : X) → length (xs ++ y ∷ []) ≡ length xs + 1
length-last [] y = refl
length-last (x ∷ xs) y = ap suc (length-last xs y) ∙ (let e : suc (length xs + 1) ≡ suc (length xs) + 1 = omega arith in e)

empty_last : (ib : List FrameInbox) (box : FrameInbox) → box.waiting ≡ [] → ((n : ℕ) → inbox_at ib n ≡ []) → (n : ℕ) → inbox_at (ib ++ box ∷ []) n ≡ []
empty_last [] box none h zero = none
empty_last [] box none h (suc n) = refl
empty_last (w ∷ ib) box none h zero = h zero
empty_last (w ∷ ib) box none h (suc n) = empty_last ib box none (λ k. h (suc k)) n

some_same : {X : Type 0} (x y : X) → Some x ≡ Some y → x ≡ y
some_same x y e = ap (λ o. elim o [ None ↦ x | Some z ↦ z ]) e

no_sender : IsStrictlySortedBy nat_cmp []
unfolding IsStrictlySortedBy
no_sender = tt

-- each of nodes that live lives
alive_within : (al : List Bool) (n : ℕ) → AllByRecursion (λ t. t ≡ true) al → n < length al → is_alive al n ≡ true
alive_within [] n all lt = absurd (omega arith)
alive_within (b ∷ al) zero all lt = all.0
alive_within (b ∷ al) (suc n) all lt = alive_within al n all.1 (omega arith)

-- a loop that has come to its end
pub at_end : (n e k : ℕ) → e ≤ n → n ≤ e → e ≡ k → n ≡ k
at_end n e k from to is = omega arith

-- past the nodes none lives
alive_past : (al : List Bool) (n : ℕ) → length al ≤ n → is_alive al n ≡ false
alive_past [] zero past = refl
alive_past [] (suc n) past = refl
alive_past (b ∷ al) zero past = absurd (omega (arith, past))
alive_past (b ∷ al) (suc n) past = alive_past al n (omega (arith, past))

module _ (p : Plan) where
  -- a node that has done nothing yet, behind others
  pub initial_more : (k : ℕ) (al am : List Bool) (xs ys : List NodeView) (ib ic : List FrameInbox) (x : NodeView) (box : FrameInbox) → AreInitial p k al xs ib → am ≡ al ++ true ∷ [] → ys ≡ xs ++ x ∷ [] → ic ≡ ib ++ box ∷ [] → box.waiting ≡ []
      → x.number ≡ k → IsNodeOf p x → ◌≡◌ {A = Node} (node_of x) (start_node p k) → Counts x.held []
      → AreInitial p (k + 1) am ys ic
  initial_more k al am xs ys ib ic x box h eam eys eic none number fits begins counts =
      subst (λ an. AreInitial p (k + 1) an ys ic) (sym eam) (subst (λ zs. AreInitial p (k + 1) (al ++ true ∷ []) zs ic) (sym eys) (subst (λ id. AreInitial p (k + 1) (al ++ true ∷ []) (xs ++ x ∷ []) id) (sym eic) (record {
        node_count = length-last xs x ∙ ap (λ n. n + 1) h.node_count;
        inbox_count = length-last ib box ∙ ap (λ n. n + 1) h.inbox_count;
        alive_count = length-last al true ∙ ap (λ n. n + 1) h.alive_count;
        all_alive = all_append (λ (t : Bool). t ≡ true) al (true ∷ []) h.all_alive (refl, tt);
        numbers = λ n. each n (λ y. (y.number ≡ n) × IsNodeOf p y) (h.numbers n) (λ e. (number ∙ e, fits));
        start = λ n. each n (λ y. ◌≡◌ {A = Node} (node_of y) (start_node p n)) (h.start n) (λ e. begins ∙ ap (start_node p) e);
        counts = λ n. each n (λ y. Counts y.held []) (h.counts n) (λ e. counts);
        empty = empty_last ib box none h.empty;
      })))
    where
      here : slice_get (xs ++ x ∷ []) k ≡ Some x
      here = subst (λ n. slice_get (xs ++ x ∷ []) n ≡ Some x) h.node_count (last_here xs x)

      each : (n : ℕ) (P : NodeView → Type 0) → ((y : NodeView) → slice_get xs n ≡ Some y → P y) → (k ≡ n → P x) → (y : NodeView) → slice_get (xs ++ x ∷ []) n ≡ Some y → P y
      each n P old new y at = elim (cases_Bool (n == k)) [
        | (inl t) ↦ let e : n ≡ k = eqb-true n k t in subst P (some_same x y (sym here ∙ ap (slice_get (xs ++ x ∷ [])) (sym e) ∙ at)) (new (sym e))
        | (inr f) ↦ old y (sym (last_else xs x n (λ e. eqb-false n k f (e ∙ h.node_count))) ∙ at)
      ]

      nothing : (n : ℕ) → inbox_at {X = List ℕ} [] n ≡ []
      nothing zero = refl
      nothing (suc n) = refl

  -- their parts are those of the plan
  pub initial_parts : (al : List Bool) (xs : List NodeView) (ib : List FrameInbox) → AreInitial p (nodes p) al xs ib → AreParts p al xs ib
  initial_parts al xs ib h = record {
    node_count = h.node_count;
    inbox_count = h.inbox_count;
    alive_count = h.alive_count;
    node = h.numbers;
    packets = λ m n. subst (λ w. AllByRecursion (IsFrame p) (queue_of w m)) (sym (h.empty n)) tt;
    senders = λ m n t. absurd (true≢false (sym t ∙ ap (λ w. is_waiting w m) (h.empty n)));
    sent = λ n. subst HaveSent (sym (h.empty n)) tt;
    increasing = λ n. subst (λ w. IsStrictlySortedBy nat_cmp (senders_of w)) (sym (h.empty n)) no_sender;
  }

  module _ (al : List Bool) (xs : List NodeView) (ib : List FrameInbox) (rs : List TreeRelease) (h : AreInitial p (nodes p) al xs ib) (none : rs ≡ []) where
    -- the state is the start
    state_starts : ◌≡◌ {A = State} (state_with p al xs ib []) (start p)
    unfolding start
    state_starts = λ i. record {
      alive = λ n. alive_starts n (cases_Bool (nat_lt n (nodes p))) i;
      node = λ n. node_starts n (slice_get xs n) refl i;
      link = λ m n. link_starts m n i;
      releases = [];
    }
      where
        alive_starts : (n : ℕ) → (nat_lt n (nodes p) ≡ true) ⊎ (nat_lt n (nodes p) ≡ false) → is_alive al n ≡ nat_lt n (nodes p)
        alive_starts n (inl t) = alive_within al n h.all_alive (let lt = ltb-true n (nodes p) t in let l = h.alive_count in omega (arith, lt, l)) ∙ sym t
        alive_starts n (inr f) = alive_past al n (let le = ltb-false n (nodes p) f in let l = h.alive_count in omega (arith, le, l)) ∙ sym f

        node_starts : (n : ℕ) (o : Option NodeView) → slice_get xs n ≡ o → (elim o [ None ↦ start_node p n | Some x ↦ node_of x ]) ≡ start_node p n
        node_starts n None at = refl
        node_starts n (Some x) at = h.start n x at

        link_starts : (m n : ℕ) → map packet_of (queue_of (inbox_at ib n) m) ≡ []
        link_starts m n = ap (λ w. map packet_of (queue_of w m)) (h.empty n)

    -- the empty journal leads to it
    pub initial_reached : (outs : List (Option Event)) (room : ℕ) → IsReachedBy (record { plan = p; alive = al; nodes = xs; inboxes = ib; releases = rs; failed = false; outs = outs; room = room }) []
    initial_reached outs room = record {
      legal = tt;
      state = (λ i. state_with p al xs ib (none i)) ∙ state_starts;
      numbered = subst (AreNumberedInOrder []) (sym none) refl;
      trees = subst (AllByRecursion (ReleaseFits p)) (sym none) tt;
    }

    -- all nodes that have done nothing yet are a net
    pub initial_net : (outs : List (Option Event)) (room : ℕ) → IsNet (record { plan = p; alive = al; nodes = xs; inboxes = ib; releases = rs; failed = false; outs = outs; room = room })
    initial_net outs room = record {
      journal = [];
      reached = initial_reached outs room;
      parts = initial_parts al xs ib h;
      front = λ x at. subst (λ l. Counts x.held (bare_releases l)) (sym none) (h.counts (front p) x at);
    }

-- ---- all nodes are at home

abbrev pub AreHome : List PlaceView → Type 0
AreHome ps = AllByRecursion (λ (x : PlaceView). x ≡ at_home x.node) ps

-- one node more
pub nodes_more : {X : Type 0} (xs ys : List (Place X)) (x : NodeView) → ys ≡ xs ++ Home x ∷ [] → nodes_in (places_view ys) ≡ nodes_in (places_view xs) ++ x ∷ []
nodes_more {X} xs ys x is =
    ap (λ (l : List (Place X)). nodes_in (places_view l)) is
    ∙ ap nodes_in (map-append place_view xs (Home x ∷ []))
    ∙ map-append (λ (v : PlaceView). v.node) (places_view xs) (at_home x ∷ [])

pub home_more : {X : Type 0} (xs ys : List (Place X)) (x : NodeView) → ys ≡ xs ++ Home x ∷ [] → AreHome (places_view xs) → AreHome (places_view ys)
home_more {X} xs ys x is h =
    subst AreHome (sym (ap (λ (l : List (Place X)). places_view l) is ∙ map-append place_view xs (Home x ∷ [])))
    (all_append (λ (y : PlaceView). y ≡ at_home y.node) (places_view xs) (at_home x ∷ []) h (refl, tt))

-- none is out
pub none_out : (ps : List PlaceView) (n : ℕ) → AreHome ps → out_at (outs_in ps) n ≡ None
none_out [] zero h = refl
none_out [] (suc n) h = refl
none_out (x ∷ xs) zero h = ap (λ (y : PlaceView). y.out) h.0
none_out (x ∷ xs) (suc n) h = none_out xs n h.1

pub none_losing : (ps : List PlaceView) → AreHome ps → NoneIsLosing (out_at (outs_in ps))
none_losing ps h n = ap (λ (o : Option Event). is_loss_of o n) (none_out ps n h)

home_frames : (ps : List PlaceView) → AreHome ps → HaveFrames ps
home_frames [] h n x at = absurd (none-some x at)
home_frames (y ∷ ys) h zero x at = let e : Some y ≡ Some x = at in subst (λ (z : PlaceView). HasFrame z.out z.frame) (sym h.0 ∙ some_same y x e) refl
home_frames (y ∷ ys) h (suc n) x at = home_frames ys h.1 n x at

-- all inboxes are whole
whole_home : (ps : List PlaceView) (boxes : List FrameInbox) → AreHome ps → whole_inboxes ps boxes ≡ boxes
whole_home [] boxes h = refl
whole_home (x ∷ xs) [] h = refl
whole_home (x ∷ xs) (box ∷ boxes) h = λ i. whole_inbox (h.0 i) box ∷ whole_home xs boxes h.1 i

no_loss : (k n : ℕ) → n < k → slice_get {X = ℕ} (replicate k 0) n ≡ Some 0
no_loss zero n lt = absurd (omega (arith, lt))
no_loss (suc k) zero lt = refl
no_loss (suc k) (suc n) lt = no_loss k n (omega (arith, lt))

-- ---- the state of a net that begins

pub start_parts : {X : Type 0} (p : Plan) (v : NetNodes X) → AreInitial p (nodes p) v.alive.items (nodes_in (places_view v.places.items)) v.inboxes.items → AreHome (places_view v.places.items) → ArePartsOf p v
start_parts p v h home = subst (AreParts p v.alive.items (nodes_in (places_view v.places.items))) (sym (whole_home (places_view v.places.items) v.inboxes.items home)) (initial_parts p v.alive.items (nodes_in (places_view v.places.items)) v.inboxes.items h)

module _ {X : Type 0} (tree : X → Tree) (p : Plan) (st : NetState X) (h : AreInitial p (nodes p) st.nodes.alive.items (nodes_in (places_view st.nodes.places.items)) st.nodes.inboxes.items) (home : AreHome (places_view st.nodes.places.items)) (none : st.releases.items ≡ []) where
  whole : AreInitial p (nodes p) st.nodes.alive.items (nodes_in (places_view st.nodes.places.items)) (whole_inboxes (places_view st.nodes.places.items) st.nodes.inboxes.items)
  whole = subst (AreInitial p (nodes p) st.nodes.alive.items (nodes_in (places_view st.nodes.places.items))) (sym (whole_home (places_view st.nodes.places.items) st.nodes.inboxes.items home)) h

  pub start_reached : IsReachedBy (net_view tree p st false) []
  start_reached = initial_reached p st.nodes.alive.items (nodes_in (places_view st.nodes.places.items)) (whole_inboxes (places_view st.nodes.places.items) st.nodes.inboxes.items) (releases_view tree st.releases.items) whole (ap (releases_view tree) none) (outs_in (places_view st.nodes.places.items)) (net_view tree p st false).room

  pub start_home : AllHome (net_view tree p st false)
  start_home n = none_out (places_view st.nodes.places.items) n home

  pub start_net : (k : ℕ) → k ≡ nodes p → st.nodes.losing ≡ replicate k 0 → AreClaimsCounted p st.nodes st.counts → IsNetState tree p st
  start_net k is losing counted = record {
    net = initial_net p st.nodes.alive.items (nodes_in (places_view st.nodes.places.items)) (whole_inboxes (places_view st.nodes.places.items) st.nodes.inboxes.items) (releases_view tree st.releases.items) whole (ap (releases_view tree) none) [] 0;
    out = subst (MayBeOut p (state_of (net_view tree p st false))) none_is (nothing_out p (state_of (net_view tree p st false)));
    frames = home_frames (places_view st.nodes.places.items) home;
    inbox_count = h.inbox_count;
    inboxes = λ n. subst IsInbox (sym (h.empty n)) (record { sent = tt; increasing = no_sender });
    losing = record {
      node_count = ap length losing ∙ length-replicate k 0 ∙ is;
      each = λ n lt. ap (λ (l : List ℕ). slice_get l n) losing ∙ no_loss k n (subst (λ m. n < m) (sym is) lt) ∙ ap (λ b. Some (cond {A = ℕ} b 1 0)) (sym (none_losing (places_view st.nodes.places.items) home n));
    };
    counted = counted;
  }
    where
      none_is : ◌≡◌ {A = Outs} all_home (events_out st.nodes.places.items)
      none_is = λ i. λ n. sym (none_out (places_view st.nodes.places.items) n home) i
