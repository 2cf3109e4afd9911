-- What an event that may come next finds, and where it goes.
use Rattle.std.proofs.Common.{◌≡◌, ◌≢◌, ◌∙◌, ◌<◌, ℕ, Bool, true, false, ◌==◌, ◌&&◌, List, [], ◌∷◌, ◌++◌, map, filter, if◌then◌else◌, slice_get, slice_set, Option, Some, None, refl, sym, ap, subst, inl, inr, eqb-true, arith}
use Rattle.std.proofs.lemmas.Bool.{true≢false, and_parts}
use Rattle.std.proofs.lemmas.Bool.Decides.{nat_tests}
use Rattle.std.specs.List.{AllByRecursion}
use Rattle.stat_plan.specs.Invariants.{IsPlan}
use Rattle.stat_plan.specs.Machine.Waves.{Wave, Open, Closed, set_wave, covering, growing, ticked, is_fired, unsent}
use Rattle.stat_plan.specs.Machine.Kin.{is_parent, with_parent, without_child}
use Rattle.stat_plan.specs.Plans.{Plan, nodes, front, is_front, is_related, is_under, is_within, serves, daemons, ranks, waves_at, waves_of}
use Rattle.overlay_event.specs.declared.event.Event.{Event}
use Rattle.overlay_event.specs.declared.event.Event.TheVariants.{Sample, Recv, Tick, Lose}
use Rattle.overlay_event.specs.Events.{event_node}
use Rattle.overlay_core.specs.Nodes.{Node, Packet, Up, Done, Attach, Down, Outcome, Release, handled, begin, sampled, after_tick, act_each, received, received_up, received_done, received_attach, received_down, done_work}
use Rattle.stat_plan.specs.Machine.Overlays.{to_parent, is_pending}
use Rattle.overlay_core.specs.Machine.{State, is_enabled, is_wave, next_sample, commit, receive, step}
use Rattle.overlay_core.specs.LinkInvariant.{LinkInvariant}
use Rattle.overlay_core.proofs.Acts.{PacketIsSound, SendIsSound, SendsAreSound}
use Rattle.overlay_core.specs.TreeReleases.{TreeRelease, bare_release, bare_releases}
use Rattle.stat_plan.proofs.PlanFacts.{plan_facts}
use Rattle.stat_plan.proofs.InLists.{in_from_member, in_filter, any_from_in}
use Rattle.overlay_core.proofs.RankSets.{some_rank}
use Rattle.overlay_core.proofs.Outcomes.{next_is_named, next_is_empty, sampled_sound, tick_sound, received_sound}
use Rattle.overlay_core.proofs.Steps.{active_parts, first_sound}
use Rattle.overlay_core.proofs.History.{act_each_below}
use Rattle.overlay_core.proofs.ParentLinks.{waves_above, test_from_within}
use Rattle.overlay_node.specs.Frames.{IsFrame, packet_of}
use Rattle.overlay_node.specs.Outputs.{packets_of}
use Rattle.overlay_node.specs.NodeViews.{NodeView, MayHandle, MayReceive, received_with, outcome_at}
use Rattle.overlay_net.specs.Inboxes.{FrameInbox}
use Rattle.node_inbox.specs.Inboxes.{queue_of}
use Rattle.node_inbox.specs.Sends.{inbox_at, AreSent, GoBelow}
use Rattle.overlay_net.specs.Nets.{state_with}
use Rattle.overlay_net.specs.Events.{AreParts, IsOrdinary}
use Rattle.overlay_net.specs.Sends.{CanTake, IsTaken}
use Rattle.overlay_net.specs.Handled.{HasHandled}
use Rattle.overlay_net.proofs.Offers.{living_below, node_there}
use Rattle.overlay_net.proofs.States.{popped_state, commit_state}
use Rattle.stat_plan.proofs.Relatives.{test_from_related}
use Rattle.stat_plan.proofs.LookupLemmas.{daemon_lies}

none_bare : (more : List TreeRelease) → bare_releases more ≡ [] → more ≡ []
none_bare [] e = refl
none_bare (r ∷ rs) e = absurd (not_none (bare_release r) (bare_releases rs) e)
  where
    not_none : (x : Release) (l : List Release) → x ∷ l ≡ [] → ⊥
    not_none x l e = cc

eqb-false-from : (a b : ℕ) → a ≢ b → (a == b) ≡ false
eqb-false-from a b other = grind (arith, nat_tests)

module _ (p : Plan) (plan : IsPlan p) (al : List Bool) (xs : List NodeView) (ib : List FrameInbox) (rs : List TreeRelease) (parts : AreParts p al xs ib) (sound : LinkInvariant p (state_with p al xs ib rs)) where
  abbrev st : State
  st = state_with p al xs ib rs

  -- its node is one of the plan
  pub event_below : (e : Event) → is_enabled p st e ≡ true → event_node e < nodes p
  event_below (Sample n s w) en = living_below p al xs ib n parts (active_parts p st n (and_parts _ _ (and_parts _ _ en).0).0).0
  event_below (Recv n m) en = living_below p al xs ib n parts (active_parts p st n (and_parts _ _ en).0).0
  event_below (Tick n) en = living_below p al xs ib n parts (active_parts p st n (and_parts _ _ en).0).0
  event_below (Lose n) en = living_below p al xs ib n parts (and_parts _ _ en).0

  -- what it receives waits
  pub can_take : (e : Event) → is_enabled p st e ≡ true → CanTake ib e
  can_take (Sample n s w) en = tt
  can_take (Recv n m) en = (subst (λ k. n < k) (sym parts.inbox_count) (event_below (Recv n m) en), λ none. true≢false (sym (and_parts _ _ en).1 ∙ ap (λ q. is_pending (map packet_of q)) none))
  can_take (Tick n) en = tt
  can_take (Lose n) en = tt

  -- a packet that it receives is one that the node may have
  pub may_receive : (n m : ℕ) (q : Packet) → PacketIsSound p st.alive m n q → MayReceive p n m q
  unfolding waves_at serves is_related is_under
  may_receive n m (Up s w set) is =
      let some = some_rank set is.0.2 in
      let whole = is.0.1 some.0 some.1 in
      let sends : serves p m s ≡ true = any_from_in (λ d. is_within p d m) whole.daemon (daemons p s) whole.place.listed (test_from_within p whole.daemon m whole.place.within) in (
        (waves_above p m n s w (plan_facts p plan) is.0.0 (in_filter (λ v. serves p m v.0) (s, w) (waves_of p.streams) is.0.3 sends)).0,
        λ r there. let one = is.0.1 r there in daemon_lies p s one.daemon one.place.listed r one.holds,
      )
  may_receive n m (Done s w) is = in_filter (λ v. serves p n v.0) (s, w) (waves_of p.streams) is.0.2 is.0.1
  may_receive n m Attach is = is.0
  may_receive n m Down is = (
    test_from_related p n m is.0,
    λ top. true≢false (sym sound.net.front ∙ ap st.alive (sym top) ∙ is.1 refl),
  )

  may_sample : (n s w : ℕ) (x : NodeView) → is_enabled p st (Sample n s w) ≡ true → slice_get xs n ≡ Some x → MayHandle p x (Sample n s w) None
  may_sample n s w x en at =
      let t = and_parts _ _ en in
      (sym (parts.node n x at).0, in_from_member n (daemons p s) (and_parts _ _ t.0).1, ap (λ (y : Node). is_wave (next_sample p y s) w) (sym (node_there p xs n x at)) ∙ t.1)

  -- the packet that it receives is the first on the link
  pub first_waits : (ic : List FrameInbox) (n m : ℕ) (q : (List ℕ)) → IsTaken ib (Recv n m) (Some q) ic → st.link m n ≡ packet_of q ∷ map packet_of (queue_of (inbox_at ic n) m)
  first_waits ic n m q taken = ap (map packet_of) taken.first

  pub packet_sound : (ic : List FrameInbox) (n m : ℕ) (q : (List ℕ)) → IsTaken ib (Recv n m) (Some q) ic → PacketIsSound p st.alive m n (packet_of q)
  packet_sound ic n m q taken = first_sound p st m n (packet_of q) (map packet_of (queue_of (inbox_at ic n) m)) sound (first_waits ic n m q taken)

  -- the node may handle it
  pub may_handle : (ic : List FrameInbox) (e : Event) (x : NodeView) (packet : Option (List ℕ)) → is_enabled p st e ≡ true → IsOrdinary e → IsTaken ib e packet ic → slice_get xs (event_node e) ≡ Some x → MayHandle p x e packet
  may_handle ic (Sample n s w) x packet en ord taken at = subst (MayHandle p x (Sample n s w)) (sym taken.0) (may_sample n s w x en at)
  may_handle ic (Recv n m) x None en ord taken at = absurd taken
  may_handle ic (Recv n m) x (Some q) en ord taken at =
      let here = sym (parts.node n x at).0 in
      let fits : AllByRecursion (IsFrame p) (q ∷ queue_of (inbox_at ic n) m) = subst (AllByRecursion (IsFrame p)) taken.first (parts.packets m n) in
      (here, fits.0, subst (λ k. MayReceive p k m (packet_of q)) here (may_receive n m (packet_of q) (packet_sound ic n m q taken)))
  may_handle ic (Tick n) x packet en ord taken at = subst (MayHandle p x (Tick n)) (sym taken.0) (sym (parts.node n x at).0)
  may_handle ic (Lose n) x packet en ord taken at = absurd ord

  -- the node is sound afterwards
  sends_sound : (ic : List FrameInbox) (e : Event) (packet : Option (List ℕ)) → is_enabled p st e ≡ true → IsOrdinary e → IsTaken ib e packet ic → SendsAreSound p (event_node e) (handled p (event_node e) (st.node (event_node e)) e (received_with e packet)).work.sends
  sends_sound ic (Sample n s w) packet en ord taken =
      let t = and_parts _ _ en in
      let u = and_parts _ _ t.0 in
      (sampled_sound p st.alive n (st.node n) s w (plan_facts p plan) (sound.net.kin n) (sound.books n) (in_from_member n (daemons p s) u.1) (next_is_named p (st.node n) s w t.1) (next_is_empty p (st.node n) s w t.1)).work.sends
  sends_sound ic (Recv n m) None en ord taken = absurd taken
  sends_sound ic (Recv n m) (Some q) en ord taken = (received_sound p st.alive n (st.node n) m (packet_of q) (plan_facts p plan) (sound.net.kin n) (sound.books n) (packet_sound ic n m q taken)).work.sends
  sends_sound ic (Tick n) packet en ord taken = (tick_sound p st.alive n (st.node n) (sound.net.kin n) (sound.books n)).work.sends
  sends_sound ic (Lose n) packet en ord taken = absurd ord

  receiver_below : (n m : ℕ) (q : Packet) → SendIsSound p n m q → m < nodes p
  receiver_below n m (Up s w set) is = ((plan_facts p plan).under_nodes n m is.0.0).1
  receiver_below n m (Done s w) is = ((plan_facts p plan).under_nodes m n is.0.0).0
  receiver_below n m Attach is = ((plan_facts p plan).under_nodes n m is.0).1
  receiver_below n m Down is = absurd (is.1 refl)

  all_below : (n : ℕ) (sends : List (ℕ × (List ℕ))) → SendsAreSound p n (packets_of sends) → GoBelow (nodes p) sends
  all_below n [] sent = tt
  all_below n (v ∷ vs) sent = (receiver_below n v.0 (packet_of v.1) (sent v.0 (packet_of v.1) (inl refl)), all_below n vs (λ m q i. sent m q (inr i)))

  outcome_same : (e : Event) (x : NodeView) (packet : Option (List ℕ)) → slice_get xs (event_node e) ≡ Some x → ◌≡◌ {A = Outcome} (handled p (event_node e) (st.node (event_node e)) e (received_with e packet)) (outcome_at p x e packet)
  outcome_same e x packet at = (λ i. handled p (sym (parts.node (event_node e) x at).0 i) (node_there p xs (event_node e) x at i) e (received_with e packet))

  -- what is sent goes to nodes of the plan
  pub go_below : (ic : List FrameInbox) (e : Event) (x y : NodeView) (packet : Option (List ℕ)) (sends : List (ℕ × (List ℕ))) (more : List TreeRelease) → is_enabled p st e ≡ true → IsOrdinary e → IsTaken ib e packet ic → slice_get xs (event_node e) ≡ Some x → HasHandled p x y e packet sends more → GoBelow (nodes p) sends
  go_below ic e x y packet sends more en ord taken at done =
      all_below (event_node e) sends (subst (SendsAreSound p (event_node e)) (ap (λ (o : Outcome). o.work.sends) (outcome_same e x packet at) ∙ sym done.sent) (sends_sound ic e packet en ord taken))

  quiet_received : (n m : ℕ) (q : Packet) → is_front p n ≡ false → (received p n (st.node n) m q).work.releases ≡ []
  unfolding received_up received_done received_attach received_down
  quiet_received n m (Up s w set) low = (act_each_below p n (st.node n).kin ((s, w) ∷ []) (begin (set_wave (st.node n).book s w (growing set ((st.node n).book s w)))) low).0
  quiet_received n m (Done s w) low = ended ((st.node n).book s w)
    where
      ended : (v : Wave) → (done_work p (st.node n).kin s w (st.node n).book v).releases ≡ []
      ended Closed = refl
      ended (Open covered sent timer) = refl
  quiet_received n m Attach low = refl
  quiet_received n m Down low = by (is_parent (st.node n).kin.parent m)
    where
      by : (t : Bool) → (if t
          then (let o : Outcome = record { kin = with_parent p n (st.node n).kin m; work = act_each p n (with_parent p n (st.node n).kin m) (waves_at p n) (record { book = λ s w. unsent ((st.node n).book s w); sends = to_parent (with_parent p n (st.node n).kin m).parent Attach; releases = [] }) } in o)
          else (let o : Outcome = record { kin = without_child (st.node n).kin m; work = act_each p n (without_child (st.node n).kin m) (waves_at p n) (begin (st.node n).book) } in o)).work.releases ≡ []
      by true = (act_each_below p n (with_parent p n (st.node n).kin m) (waves_at p n) _ low).0
      by false = (act_each_below p n (without_child (st.node n).kin m) (waves_at p n) _ low).0

  quiet : (e : Event) (packet : Option (List ℕ)) → is_front p (event_node e) ≡ false → is_enabled p st e ≡ true → IsOrdinary e → (handled p (event_node e) (st.node (event_node e)) e (received_with e packet)).work.releases ≡ []
  unfolding sampled after_tick
  quiet (Sample n s w) packet low en ord = (act_each_below p n (st.node n).kin ((s, w) ∷ []) (begin (set_wave (st.node n).book s w (covering (ranks p n) ((st.node n).book s w)))) low).0
  quiet (Recv n m) None low en ord = refl
  quiet (Recv n m) (Some q) low en ord = quiet_received n m (packet_of q) low
  quiet (Tick n) packet low en ord = (act_each_below p n (st.node n).kin (filter (λ v. is_fired (ticked ((st.node n).book v.0 v.1))) (waves_at p n)) (begin (λ s w. ticked ((st.node n).book s w))) low).0
  quiet (Lose n) packet low en ord = absurd ord

  -- only the front end releases anything
  pub only_front : (e : Event) (x y : NodeView) (packet : Option (List ℕ)) (sends : List (ℕ × (List ℕ))) (more : List TreeRelease) → is_enabled p st e ≡ true → IsOrdinary e → slice_get xs (event_node e) ≡ Some x → HasHandled p x y e packet sends more → event_node e ≢ front p → more ≡ []
  unfolding is_front
  only_front e x y packet sends more en ord at done other = none_bare more (done.released ∙ ap (λ (o : Outcome). o.work.releases) (sym (outcome_same e x packet at)) ∙ quiet e packet (eqb-false-from (event_node e) (front p) other) en ord)

  else_same : (ic : List FrameInbox) (n m : ℕ) (q : (List ℕ)) → IsTaken ib (Recv n m) (Some q) ic → (a b : ℕ) → ((b == n) && (a == m)) ≡ false → queue_of (inbox_at ic b) a ≡ queue_of (inbox_at ib b) a
  else_same ic n m q taken a b other = go (b == n) (a == m) refl refl other
    where
      go : (t u : Bool) → (b == n) ≡ t → (a == m) ≡ u → (t && u) ≡ false → queue_of (inbox_at ic b) a ≡ queue_of (inbox_at ib b) a
      go true true et eu f = absurd (true≢false f)
      go true false et eu f = let eb : b ≡ n = eqb-true b n et in subst (λ k. queue_of (inbox_at ic k) a ≡ queue_of (inbox_at ib k) a) (sym eb) (taken.rest a eu)
      go false u et eu f = ap (λ box. queue_of box a) (taken.others b et)

  -- the step takes the packet, and then the outcome is committed
  step_is : (ic : List FrameInbox) (e : Event) (packet : Option (List ℕ)) → is_enabled p st e ≡ true → IsOrdinary e → IsTaken ib e packet ic
      → ◌≡◌ {A = State} (step p st e) (commit (state_with p al xs ic rs) (event_node e) (handled p (event_node e) (st.node (event_node e)) e (received_with e packet)))
  step_is ic (Sample n s w) packet en ord taken = λ i. commit (state_with p al xs (sym taken.1 i) rs) n (handled p n (st.node n) (Sample n s w) None)
  step_is ic (Recv n m) None en ord taken = absurd taken
  step_is ic (Recv n m) (Some q) en ord taken =
      (λ i. receive p st n m (first_waits ic n m q taken i))
      ∙ (λ i. commit (popped_state p al xs rs n ib ic m (queue_of (inbox_at ic n) m) refl (else_same ic n m q taken) i) n (handled p n (st.node n) (Recv n m) (Some (m, packet_of q))))
  step_is ic (Tick n) packet en ord taken = λ i. commit (state_with p al xs (sym taken.1 i) rs) n (handled p n (st.node n) (Tick n) None)
  step_is ic (Lose n) packet en ord taken = absurd ord

  -- the state after the event
  pub stepped : (ic id : List FrameInbox) (e : Event) (x y : NodeView) (packet : Option (List ℕ)) (sends : List (ℕ × (List ℕ))) (more : List TreeRelease) → is_enabled p st e ≡ true → IsOrdinary e → IsTaken ib e packet ic → slice_get xs (event_node e) ≡ Some x → HasHandled p x y e packet sends more → AreSent al (event_node e) sends ic id
      → ◌≡◌ {A = State} (state_with p al (slice_set xs (event_node e) y) id (rs ++ more)) (step p st e)
  stepped ic id e x y packet sends more en ord taken at done sent =
      let same = outcome_same e x packet at in
      sym (step_is ic e packet en ord taken
      ∙ commit_state p al xs rs (event_node e) ic id x y (handled p (event_node e) (st.node (event_node e)) e (received_with e packet)) sends more at (done.node _ same)
      (done.sent ∙ ap (λ (o : Outcome). o.work.sends) (sym same))
      (done.released ∙ ap (λ (o : Outcome). o.work.releases) (sym same))
      sent.queues)
