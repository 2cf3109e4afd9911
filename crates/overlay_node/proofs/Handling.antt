-- An event of a node is what the machine says.
use Rattle.std.proofs.Common.{◌≡◌, ℕ, suc, Bool, true, false, cond, ◌&&◌, ◌==◌, List, [], ◌∷◌, ◌++◌, filter, if◌then◌else◌, refl, sym, ap, subst, ◌∙◌, inl, inr, Option, Some, None, eqb-true}
use Rattle.std.specs.List.{AllByRecursion}
use Rattle.std.proofs.lemmas.Bool.{and_parts, cases_Bool}
use Rattle.std.proofs.lemmas.List.{append-nil}
use Rattle.prefix_tree.specs.Tree.{tree_of}
use Rattle.overlay_setup.specs.NodeSets.{In}
use Rattle.stat_plan.specs.Machine.Kin.{Kin, after_loss, is_parent, with_parent, without_child}
use Rattle.stat_plan.specs.Invariants.{IsPlan}
use Rattle.stat_plan.specs.Plans.{Plan, daemons, samples, waves_at}
use Rattle.stat_plan.specs.Machine.Waves.{Wave, Open, Closed, Book, is_fired, unsent, is_empty_open}
use Rattle.overlay_event.specs.declared.event.Event.{Event}
use Rattle.overlay_event.specs.declared.event.Event.TheVariants.{Sample, Recv, Tick, Lose}
use Rattle.loss_adoption.specs.NodeKins.{IsKinOf, NodeKin}
use Rattle.wave_resend.specs.Books.{WaveAt, book_of}
use Rattle.merge_filter.specs.Contributions.{HasWave}
use Rattle.merge_filter.proofs.Standing.{stands_from}
use Rattle.overlay_core.specs.Nodes.{Node, Outcome, Packet, Up, Done, Attach, Down, Release, Effects, act, act_each, begin, done_work, handled, received, received_attach, received_down, received_done, received_up, sampled, after_tick}
use Rattle.stat_plan.specs.Machine.Overlays.{to_parent}
use Rattle.overlay_core.specs.TreeReleases.{AreNumberedInOrder, bare_releases}
use Rattle.overlay_core.proofs.Settled.{act_else}
use Rattle.overlay_core.proofs.Outcomes.{next_is_empty, next_is_named, waves_at_named}
use Rattle.overlay_node.specs.Frames.{packet_of, tree_packet}
use Rattle.overlay_node.specs.Outputs.{AreFrames, Output, ReleaseFits, frames_of, packets_of}
use Rattle.overlay_node.specs.NodeViews.{AreHeldFits, Counts, HeldView, IsNodeOf, MayHandle, MayReceive, MayTake, NodeView, held_keys, node_kin, node_of, received_with}
use Rattle.overlay_node.specs.Acting.{AreDistinct, StepsHeld, act_fired, adopt, each_by, effects_of, end_as, kin_after, kin_from, no_output, receive_step, step_of, tick_all}
use Rattle.overlay_node.specs.Contexts.{node_with}
use Rattle.overlay_node.proofs.Distinct.{waves_at_distinct}
use Rattle.overlay_node.proofs.Frames.{spelled_as}
use Rattle.overlay_node.proofs.Waves.{own_wave}

-- ---- ticks

-- filters by tests that agree at each element
filter_same : (f g : ℕ × ℕ → Bool) (vs : List (ℕ × ℕ)) → ((v : ℕ × ℕ) → In v vs → f v ≡ g v) → filter f vs ≡ filter g vs
filter_same f g [] h = refl
filter_same f g (v ∷ vs) h =
    ap (λ c. cond c (v ∷ filter f vs) (filter f vs)) (h v (inl refl))
    ∙ ap (λ l. cond (g v) (v ∷ l) l) (filter_same f g vs (λ u i. h u (inr i)))

abbrev fired_in : Book → ℕ × ℕ → Bool
fired_in b v = is_fired (b v.0 v.1)

-- an act on a wave doesn't change the others
others : (p : Plan) (n : ℕ) (kin : Kin) (v : ℕ × ℕ) (vs : List (ℕ × ℕ)) (k : Effects) → (In v vs → ⊥) → (u : ℕ × ℕ) → In u vs → fired_in (act p n kin v.0 v.1 k).book u ≡ fired_in k.book u
others p n kin v vs k h u i = ap is_fired (act_else p n kin v.0 v.1 k u.0 u.1 other)
  where
    other : ((u.0 == v.0) && (u.1 == v.1)) ≡ false
    other = elim (cases_Bool ((u.0 == v.0) && (u.1 == v.1))) [
      | inl t ↦
          let w = and_parts (u.0 == v.0) (u.1 == v.1) t in
          let same : u ≡ v = (λ j. (eqb-true u.0 v.0 w.0 j, eqb-true u.1 v.1 w.1 j)) in
          absurd (h (subst (λ (x : ℕ × ℕ). In x vs) same i))
      | inr f ↦ f
    ]

-- whether each wave's timer has run out can be seen at its turn, or before the first
pub each_same : (p : Plan) (n : ℕ) (kin : Kin) (vs : List (ℕ × ℕ)) (k : Effects) → AreDistinct vs → each_by (act_fired p n kin) vs k ≡ act_each p n kin (filter (fired_in k.book) vs) k
each_same p n kin [] k distinct = refl
each_same p n kin (v ∷ vs) k distinct = by (each_same p n kin vs (act p n kin v.0 v.1 k) distinct.1) (each_same p n kin vs k distinct.1) (fired_in k.book v)
  where
    by : each_by (act_fired p n kin) vs (act p n kin v.0 v.1 k) ≡ act_each p n kin (filter (fired_in (act p n kin v.0 v.1 k).book) vs) (act p n kin v.0 v.1 k)
        → each_by (act_fired p n kin) vs k ≡ act_each p n kin (filter (fired_in k.book) vs) k
        → (c : Bool) → each_by (act_fired p n kin) vs (cond c (act p n kin v.0 v.1 k) k) ≡ act_each p n kin (cond c (v ∷ filter (fired_in k.book) vs) (filter (fired_in k.book) vs)) k
    by after idle true = after ∙ ap (λ l. act_each p n kin l (act p n kin v.0 v.1 k)) (filter_same (fired_in (act p n kin v.0 v.1 k).book) (fired_in k.book) vs (others p n kin v vs k distinct.0))
    by after idle false = idle

-- ---- events

ends : (p : Plan) (kin : Kin) (s w : ℕ) (b : Book) (v : Wave) → done_work p kin s w b v ≡ end_as p kin s w (begin b) v
ends p kin s w b (Open covered sent timer) = refl
ends p kin s w b Closed = refl

abbrev outcome_with : Kin → Effects → Outcome
outcome_with kin k = record { kin = kin; work = k }

lost_is : (p : Plan) (n : ℕ) (x : Node) (m : ℕ) → ◌≡◌ {A = Outcome} (received_down p n x m) (outcome_with (after_loss p n x.kin m) (receive_step p n x.kin (waves_at p n) m Down (begin x.book)))
unfolding received_down
lost_is p n x m = by (is_parent x.kin.parent m)
  where
    by : (t : Bool) → ◌≡◌ {A = Outcome}
        (if t
        then record {
          kin = with_parent p n x.kin m;
          work = act_each p n (with_parent p n x.kin m) (waves_at p n) (record { book = λ s w. unsent (x.book s w); sends = to_parent (with_parent p n x.kin m).parent Attach; releases = [] });
        }
        else record { kin = without_child x.kin m; work = act_each p n (without_child x.kin m) (waves_at p n) (begin x.book) })
        (outcome_with (if t then with_parent p n x.kin m else without_child x.kin m)
        (act_each p n (if t then with_parent p n x.kin m else without_child x.kin m) (waves_at p n) (adopt t (if t then with_parent p n x.kin m else without_child x.kin m) (begin x.book))))
    by true = refl
    by false = refl

received_is : (p : Plan) (n : ℕ) (x : Node) (m : ℕ) (q : Packet) → ◌≡◌ {A = Outcome} (received p n x m q) (outcome_with (kin_from p n x.kin m q) (receive_step p n x.kin (waves_at p n) m q (begin x.book)))
unfolding received_up received_done received_attach
received_is p n x m (Up s w set) = refl
received_is p n x m (Done s w) = ap (outcome_with x.kin) (ends p x.kin s w x.book (x.book s w))
received_is p n x m Attach = refl
received_is p n x m Down = lost_is p n x m

pub handled_is : (p : Plan) (n : ℕ) (x : Node) (event : Event) (frame : Option (List ℕ)) → IsPlan p → ◌≡◌ {A = Outcome} (handled p n x event (received_with event frame)) (outcome_with (kin_after p n x.kin event frame) (step_of p n x.kin (waves_at p n) event frame (begin x.book)))
unfolding sampled after_tick
handled_is p n x (Sample m s w) frame plan = refl
handled_is p n x (Recv m l) None plan = refl
handled_is p n x (Recv m l) (Some bytes) plan = received_is p n x l (packet_of bytes)
handled_is p n x (Tick m) frame plan = ap (outcome_with x.kin) (sym (each_same p n x.kin (waves_at p n) (tick_all (begin x.book)) (waves_at_distinct p n plan)))
handled_is p n x (Lose m) frame plan = refl

-- ---- what events may come

-- what a node must know of a sample
pub record MaySample (p : Plan) (n s w : ℕ) (hs : List HeldView) (b : List WaveAt) : Type 0 where
  pub known : In {X = ℕ × ℕ} (s, w) (held_keys hs)
  pub wave : HasWave p s w
  pub daemon : In n (daemons p s)
  pub empty : is_empty_open (book_of b s w) ≡ true

pub may_sample : (p : Plan) (kin : NodeKin) (b : List WaveAt) (hs : List HeldView) (m s w : ℕ) (frame : Option (List ℕ)) → held_keys hs ≡ waves_at p kin.node → MayHandle p (node_with kin b hs) (Sample m s w) frame → MaySample p kin.node s w hs b
may_sample p kin b hs m s w (Some bytes) keys h = absurd h
may_sample p kin b hs m s w None keys h =
    let wave = next_is_named p (node_of (node_with kin b hs)) s w h.2 in
    let daemon : In kin.node (daemons p s) = subst (λ x. In x (daemons p s)) h.0 h.1 in
    record {
      known = subst (In {X = ℕ × ℕ} (s, w)) (sym keys) (own_wave p kin.node s w daemon wave);
      wave = wave;
      daemon = daemon;
      empty = next_is_empty p (node_of (node_with kin b hs)) s w h.2;
    }

-- a packet that may come with its ranks may come with its tree
pub may_take : (p : Plan) (n m : ℕ) (q : Packet) → MayReceive p n m q → MayTake p n m (tree_packet p q)
may_take p n m (Up s w set) h = (h.0, stands_from p s w set (tree_of (samples p s w) set) refl h.1 (waves_at_named p n (s, w) h.0))
may_take p n m (Done s w) h = h
may_take p n m Attach h = h
may_take p n m Down h = h

-- ---- the whole event

-- the node and the output after an event, as the contract says it
pub record Handles (p : Plan) (v w : NodeView) (event : Event) (frame : Option (List ℕ)) (q : Output) : Type 0 where
  pub node : (o : Outcome) → o ≡ handled p v.number (node_of v) event (received_with event frame) → ◌≡◌ {A = Node} (node_of w) (record { kin = o.kin; book = o.work.book; count = suc v.count })
  pub sends : q.sends ≡ frames_of p (handled p v.number (node_of v) event (received_with event frame)).work.sends
  pub packets : packets_of q.sends ≡ (handled p v.number (node_of v) event (received_with event frame)).work.sends
  pub frames : AreFrames p q.sends
  pub releases : bare_releases q.releases ≡ (handled p v.number (node_of v) event (received_with event frame)).work.releases
  pub fits : IsNodeOf p w
  pub trees : AllByRecursion (ReleaseFits p) q.releases
  pub numbers : (earlier : List Release) → Counts v.held earlier → AreNumberedInOrder earlier q.releases
  pub counts : (earlier : List Release) → Counts v.held earlier → Counts w.held (earlier ++ bare_releases q.releases)

pub handles : (p : Plan) (v w : NodeView) (event : Event) (frame : Option (List ℕ)) (q : Output) → IsPlan p → IsNodeOf p v
    → node_kin w ≡ record { node = v.number; kin = kin_after p v.number v.kin event frame } → IsKinOf p (node_kin w) → w.count ≡ suc v.count
    → StepsHeld p v.number (step_of p v.number v.kin (held_keys v.held) event frame) v.held w.held v.book w.book no_output q → Handles p v w event frame q
handles p v w event frame q plan h ek kin ec g =
    let after : Kin = kin_after p v.number v.kin event frame in
    let is : ◌≡◌ {A = Outcome} (handled p v.number (node_of v) event (received_with event frame)) (outcome_with after (effects_of w.book q)) =
    handled_is p v.number (node_of v) event frame plan
    ∙ (λ i. outcome_with after (step_of p v.number v.kin (sym h.held_keys i) event frame (begin (book_of v.book))))
    ∙ ap (outcome_with after) (sym g.work) in
    let number : w.number ≡ v.number = ap (λ (k : NodeKin). k.node) ek in
    let output = g.output (record { frames = tt; trees = tt }) in
    record {
      node = λ o eo.
          let k : o ≡ outcome_with after (effects_of w.book q) = eo ∙ is in
          (λ i. record { kin = (ap (λ (x : NodeKin). x.kin) ek ∙ ap (λ (x : Outcome). x.kin) (sym k)) i; book = ap (λ (x : Outcome). x.work.book) (sym k) i; count = ec i });
      sends = spelled_as p q.sends _ output.frames (ap (λ (x : Outcome). x.work.sends) (sym is));
      packets = ap (λ (x : Outcome). x.work.sends) (sym is);
      frames = output.frames;
      releases = ap (λ (x : Outcome). x.work.releases) (sym is);
      fits = record {
        kin = kin;
        keys = g.keys ∙ h.keys ∙ ap (waves_at p) (sym number);
        held_keys = g.held_keys ∙ h.held_keys ∙ ap (waves_at p) (sym number);
        held = subst (λ n. AreHeldFits p n (book_of w.book) w.held) (sym number) g.fits;
      };
      trees = output.trees;
      numbers = λ earlier c. g.numbers earlier (subst (Counts v.held) (sym (append-nil earlier)) c) refl;
      counts = λ earlier c. g.counts earlier (subst (Counts v.held) (sym (append-nil earlier)) c);
    }

-- ---- by the node's parts

-- which events may come doesn't depend on how many came before
any_count : (p : Plan) (v : NodeView) (event : Event) (frame : Option (List ℕ)) → MayHandle p v event frame → MayHandle p (node_with (node_kin v) v.book v.held) event frame
any_count p v (Sample m s w) None h = h
any_count p v (Sample m s w) (Some q) h = h
any_count p v (Recv m l) None h = h
any_count p v (Recv m l) (Some q) h = h
any_count p v (Tick m) None h = h
any_count p v (Tick m) (Some q) h = h
any_count p v (Lose m) frame h = h

pub may_by : (p : Plan) (v : NodeView) (kin : NodeKin) (b : List WaveAt) (hs : List HeldView) (event : Event) (frame : Option (List ℕ)) → kin ≡ node_kin v → b ≡ v.book → hs ≡ v.held → MayHandle p v event frame → MayHandle p (node_with kin b hs) event frame
may_by p v kin b hs event frame ek eb eh h = subst (λ (x : NodeView). MayHandle p x event frame) (λ i. node_with (sym ek i) (sym eb i) (sym eh i)) (any_count p v event frame h)

pub handles_by : (p : Plan) (v w : NodeView) (event : Event) (frame : Option (List ℕ)) (kin : NodeKin) (b : List WaveAt) (hs new : List HeldView) (o q : Output) → IsPlan p → IsNodeOf p v
    → kin ≡ node_kin v → b ≡ v.book → hs ≡ v.held → new ≡ w.held → o ≡ no_output
    → node_kin w ≡ record { node = kin.node; kin = kin_after p kin.node kin.kin event frame } → IsKinOf p (node_kin w) → w.count ≡ suc v.count
    → StepsHeld p kin.node (step_of p kin.node kin.kin (held_keys hs) event frame) hs new b w.book o q → Handles p v w event frame q
handles_by p v w event frame kin b hs new o q plan h ek eb eh en eo kin_is fits ec g =
    handles p v w event frame q plan h (kin_is ∙ (λ i. record { node = (ek i).node; kin = kin_after p (ek i).node (ek i).kin event frame })) fits ec
    (subst (λ (k : NodeKin). StepsHeld p k.node (step_of p k.node k.kin (held_keys v.held) event frame) v.held w.held v.book w.book no_output q) ek
    (subst (λ (x : List WaveAt). StepsHeld p kin.node (step_of p kin.node kin.kin (held_keys v.held) event frame) v.held w.held x w.book no_output q) eb
    (subst (λ (x : List HeldView). StepsHeld p kin.node (step_of p kin.node kin.kin (held_keys x) event frame) x w.held b w.book no_output q) eh
    (subst (λ (x : List HeldView). StepsHeld p kin.node (step_of p kin.node kin.kin (held_keys hs) event frame) hs x b w.book no_output q) en
    (subst (λ (x : Output). StepsHeld p kin.node (step_of p kin.node kin.kin (held_keys hs) event frame) hs new b w.book x q) eo g)))))
