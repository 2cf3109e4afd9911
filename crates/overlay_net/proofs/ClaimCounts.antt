-- Which nodes an event changes: of all others the same events may be claimed as before.
use Rattle.std.proofs.Common.{◌≡◌, ◌≢◌, ◌∙◌, ◌<◌, ℕ, Bool, false, ◌==◌, ◌||◌, not, cond, List, [], ◌∷◌, filter, length, slice_get, Option, Some, None, option_map, refl, sym, ap, subst, ◌⊎◌, inl, inr, eqb-true}
use Rattle.std.specs.Prelude.{⊤}
use Rattle.std.proofs.lemmas.Bool.{cases_Bool, eqb-false}
use Rattle.std.specs.List.{list_any}
use Rattle.overlay_setup.specs.NodeSets.{In, member, up_to}
use Rattle.overlay_setup.specs.declared.script.Fault.{Fault}
use Rattle.stat_plan.specs.Plans.{Plan, fault, nodes, AreNodes}
use Rattle.overlay_event.specs.declared.event.Event.{Event}
use Rattle.overlay_event.specs.declared.event.Event.TheVariants.{Sample, Recv, Tick, Lose}
use Rattle.overlay_event.specs.Events.{event_node}
use Rattle.stat_plan.proofs.InLists.{in_member, up_to_in}
use Rattle.stat_plan.proofs.Filters.{filter_same}
use Rattle.count_tree.proofs.Counted.{all_stale}
use Rattle.event_claims.specs.Claims.{Outs, is_free, is_home, is_loss_of, receives_from}
use Rattle.overlay_node.specs.NodeViews.{NodeView}
use Rattle.node_inbox.specs.Sends.{inbox_at, is_alive}
use Rattle.overlay_net.specs.Inboxes.{FrameInbox}
use Rattle.overlay_net.specs.Events.{AreCountedBut, AreParts, IsOrdinary}
use Rattle.overlay_net.specs.Nets.{claims_at, events_at, node_events}
use Rattle.overlay_net.specs.Sends.{changed, with_first}
use Rattle.overlay_net.proofs.Faultless.{faultless_ordinary}
use Rattle.overlay_net.proofs.Offers.{own_event}
use Rattle.overlay_net.proofs.PartsInvariant.{or_both_false}

-- the event is out at its node, or nothing is
abbrev pub IsOutOrHome : Event → Option Event → Type 0
IsOutOrHome e None = ⊤
IsOutOrHome e (Some f) = f ≡ e

-- the same nodes are out, but for an event's own
pub record DifferAt (e : Event) (old new : Outs) : Type 0 where
  pub was : IsOutOrHome e (old (event_node e))
  pub is : IsOutOrHome e (new (event_node e))
  pub others : (k : ℕ) → k ≢ event_node e → new k ≡ old k

no_loss : (e : Event) (o : Option Event) (j : ℕ) → IsOrdinary e → IsOutOrHome e o → is_loss_of o j ≡ false
no_loss e None j ord h = refl
no_loss e (Some f) j ord h = ap (λ g. is_loss_of (Some g) j) h ∙ go e ord
  where
    go : (g : Event) → IsOrdinary g → is_loss_of (Some g) j ≡ false
    go (Sample n s w) ord = refl
    go (Recv n m) ord = refl
    go (Tick n) ord = refl
    go (Lose n) ord = absurd ord

-- the event doesn't receive from b
abbrev pub IsNotFrom : Event → ℕ → Type 0
IsNotFrom (Sample n s w) b = ⊤
IsNotFrom (Recv n m) b = b ≢ m
IsNotFrom (Tick n) b = ⊤
IsNotFrom (Lose n) b = ⊤

no_frame : (e : Event) (o : Option Event) (b : ℕ) → IsNotFrom e b → IsOutOrHome e o → receives_from o b ≡ false
no_frame e None b from h = refl
no_frame e (Some f) b from h = ap (λ g. receives_from (Some g) b) h ∙ go e from
  where
    go : (g : Event) → IsNotFrom g b → receives_from (Some g) b ≡ false
    go (Sample n s w) other = refl
    go (Recv n m) other = elim (cases_Bool (m == b)) [ inl t ↦ absurd (other (sym (eqb-true m b t))) | inr f ↦ f ]
    go (Tick n) other = refl
    go (Lose n) other = refl

-- a fact on each node, by the event's own and the others
by_node : (n : ℕ) (P : ℕ → Type 0) → P n → ((k : ℕ) → k ≢ n → P k) → (k : ℕ) → P k
by_node n P here else k = elim (cases_Bool (k == n)) [
  | inl t ↦ subst P (sym (eqb-true k n t)) here
  | inr f ↦ else k (eqb-false k n f)
]

pub losses_stay : (e : Event) (old new : Outs) → IsOrdinary e → DifferAt e old new → (k j : ℕ) → is_loss_of (new k) j ≡ is_loss_of (old k) j
losses_stay e old new ord h k j = by_node (event_node e) (λ i. is_loss_of (new i) j ≡ is_loss_of (old i) j)
    (no_loss e (new (event_node e)) j ord h.is ∙ sym (no_loss e (old (event_node e)) j ord h.was))
    (λ i ne. ap (λ o. is_loss_of o j) (h.others i ne)) k

frames_stay : (e : Event) (old new : Outs) (b : ℕ) → IsNotFrom e b → DifferAt e old new → (k : ℕ) → receives_from (new k) b ≡ receives_from (old k) b
frames_stay e old new b from h k = by_node (event_node e) (λ i. receives_from (new i) b ≡ receives_from (old i) b)
    (no_frame e (new (event_node e)) b from h.is ∙ sym (no_frame e (old (event_node e)) b from h.was))
    (λ i ne. ap (λ o. receives_from o b) (h.others i ne)) k

any_same : (f g : ℕ → Bool) (ks : List ℕ) → ((k : ℕ) → f k ≡ g k) → list_any f ks ≡ list_any g ks
any_same f g [] h = refl
any_same f g (k ∷ ks) h = (λ i. h k i || any_same f g ks h i)

-- an event of a node that neither is the event's own nor its sender is as free as before
free_stays : (p : Plan) (e : Event) (old new : Outs) (b : ℕ) (g : Event) → IsOrdinary e → DifferAt e old new → IsNotFrom e b → event_node g ≡ b → is_free p new g ≡ is_free p old g
free_stays p e old new b (Sample n s w) ord h from own = refl
free_stays p e old new b (Recv n m) ord h from own = ap not (losses_stay e old new ord h m m)
free_stays p e old new b (Tick n) ord h from own = refl
free_stays p e old new b (Lose n) ord h from own =
    ap not (any_same (λ k. receives_from (new k) n) (λ k. receives_from (old k) n) (up_to (nodes p)) (λ k. subst (λ j. receives_from (new k) j ≡ receives_from (old k) j) (sym own) (frames_stay e old new b from h k)))

-- an event of a node that is never lost is as free as before
ordinary_stays : (p : Plan) (e : Event) (old new : Outs) (g : Event) → IsOrdinary e → DifferAt e old new → IsOrdinary g → is_free p new g ≡ is_free p old g
ordinary_stays p e old new (Sample n s w) ord h ordinary = refl
ordinary_stays p e old new (Recv n m) ord h ordinary = ap not (losses_stay e old new ord h m m)
ordinary_stays p e old new (Tick n) ord h ordinary = refl
ordinary_stays p e old new (Lose n) ord h ordinary = absurd ordinary

module _ (p : Plan) (al : List Bool) (xs ys : List NodeView) (ib ic : List FrameInbox) (e : Event) (old new : Outs) (parts : AreParts p al xs ib) (ord : IsOrdinary e) (differ : DifferAt e old new) where
  -- the event doesn't receive from a node, or the node is never lost
  abbrev IsUnmoved : ℕ → Type 0
  IsUnmoved b = IsNotFrom e b ⊎ (fault p b ≡ None)

  free_same : (b : ℕ) (g : Event) → IsUnmoved b → In g (events_at p al xs ib b) → is_free p new g ≡ is_free p old g
  free_same b g (inl from) i = free_stays p e old new b g ord differ from (own_event p al xs ib b g parts i)
  free_same b g (inr none) i = ordinary_stays p e old new g ord differ (faultless_ordinary p al xs ib b g parts none i)

  -- a node that the event didn't touch
  claims_stay : (b : ℕ) → b ≢ event_node e → IsUnmoved b → slice_get ys b ≡ slice_get xs b → inbox_at ic b ≡ inbox_at ib b → claims_at p al ys ic new b ≡ claims_at p al xs ib old b
  claims_stay b ne from node box =
      (λ i. cond (is_home (differ.others b ne i)) (filter (is_free p new) (events_same i)) [])
      ∙ ap (λ l. cond (is_home (old b)) l []) (filter_same (is_free p new) (is_free p old) (events_at p al xs ib b) (λ g i. free_same b g from i))
    where
      events_same : events_at p al ys ic b ≡ events_at p al xs ib b
      events_same = (λ i. elim (node i) as (λ _. List Event) [ None ↦ [] | (Some x) ↦ node_events p (is_alive al b) x (box i) ])

  -- who isn't among the changed
  apart : (receivers : List ℕ) (b : ℕ) → member b (changed p e receivers) ≡ false → ((b ≢ event_node e) × IsUnmoved b × (member b receivers ≡ false))
  apart receivers b h = go e ord h
    where
      one : (n : ℕ) → ((b == n) || member b receivers) ≡ false → ((b ≢ n) × (member b receivers ≡ false))
      one n k = let both = or_both_false (b == n) (member b receivers) k in (eqb-false b n both.0, both.1)

      not_from : (m : ℕ) → fault p m ≡ None → ((b ≢ m) ⊎ (fault p b ≡ None))
      not_from m none = elim (cases_Bool (b == m)) [ inl t ↦ inr (ap (fault p) (eqb-true b m t) ∙ none) | inr f ↦ inl (eqb-false b m f) ]

      sender : (n m : ℕ) (o : Option Fault) → fault p m ≡ o → ((b == n) || member b (with_first (option_map (λ f. m) o) receivers)) ≡ false → ((b ≢ n) × ((b ≢ m) ⊎ (fault p b ≡ None)) × (member b receivers ≡ false))
      sender n m None is k = let t = one n k in (t.0, not_from m is, t.1)
      sender n m (Some f) is k =
          let first = or_both_false (b == n) ((b == m) || member b receivers) k in
          let next = or_both_false (b == m) (member b receivers) first.1 in
          (eqb-false b n first.0, inl (eqb-false b m next.0), next.1)

      go : (g : Event) → IsOrdinary g → member b (changed p g receivers) ≡ false → ((b ≢ event_node g) × (IsNotFrom g b ⊎ (fault p b ≡ None)) × (member b receivers ≡ false))
      go (Sample n s w) ord k = let t = one n k in (t.0, inl tt, t.1)
      go (Recv n m) ord k = sender n m (fault p m) refl k
      go (Tick n) ord k = let t = one n k in (t.0, inl tt, t.1)
      go (Lose n) ord k = absurd ord

  -- the counts of all but the changed nodes are still right
  pub counts_stay : (receivers counts : List ℕ) → ((b : ℕ) → b ≢ event_node e → slice_get ys b ≡ slice_get xs b)
      → ((b : ℕ) → b ≢ event_node e → member b receivers ≡ false → inbox_at ic b ≡ inbox_at ib b)
      → AreCountedBut [] p al xs ib old counts → AreCountedBut (changed p e receivers) p al ys ic new counts
  counts_stay receivers counts node box h = record {
    place_count = h.place_count;
    things = λ b lt other.
        let t = apart receivers b other in
        h.things b lt refl ∙ ap (λ l. Some (length l)) (sym (claims_stay b t.0 t.1 (node b t.0) (box b t.0 t.2)));
  }

-- a node of the plan, if there is one, before nodes of the plan
pub first_below : (p : Plan) (o : Option Fault) (m : ℕ) (rest : List ℕ) → m < nodes p → AreNodes p rest → AreNodes p (with_first (option_map (λ f. m) o) rest)
first_below p None m rest lt all = all
first_below p (Some f) m rest lt all = (lt, all)

-- where all nodes are still to be counted, any counts will do
pub nothing_counted : (p : Plan) (al : List Bool) (xs : List NodeView) (ib : List FrameInbox) (out : Outs) (counts : List ℕ) → length counts ≡ nodes p → AreCountedBut (up_to (nodes p)) p al xs ib out counts
nothing_counted p al xs ib out counts count = all_stale (claims_at p al xs ib out) (nodes p) (λ b. member b (up_to (nodes p))) counts count (λ b lt. in_member b (up_to (nodes p)) (up_to_in (nodes p) b lt))
