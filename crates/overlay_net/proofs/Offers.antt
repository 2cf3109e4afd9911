-- The events that may come next, by node.
use Rattle.std.proofs.Common.{◌≡◌, ◌⊎◌, inl, inr, ◌∙◌, ℕ, suc, zero, ◌+◌, ◌-◌, ◌<◌, ◌≤◌, Bool, true, false, ◌&&◌, not, nat_eq, ◌==◌, ◌||◌, cond, List, [], ◌∷◌, ◌++◌, map, filter, find, length, get_or, drop, Option, Some, None, option_map, refl, sym, ap, subst, arith, eqb-true, eq-eqb}
use Rattle.std.specs.Prelude.{slice_get}
use Rattle.std.specs.List.{AllByRecursion, flat_map, list_any, sum}
use Rattle.std.proofs.lemmas.Bool.{cases_Bool, true≢false}
use Rattle.std.specs.Option.{option_eq}
use Rattle.std.proofs.lemmas.List.{append-nil, drop_more}
use Rattle.std.proofs.lemmas.List.Elements.{filter-append}
use Rattle.std.proofs.lemmas.Grind.{flat_map-append}
use Rattle.overlay_setup.specs.NodeSets.{In, IsStrictlyIncreasing, member, up_to}
use Rattle.stat_plan.specs.Plans.{Plan, nodes, nodes_of, ancestors, is_within, daemons, stream_of, serves, waves_of, waves_at, fault}
use Rattle.overlay_setup.specs.Scripts.{Stream, IsDaemon}
use Rattle.overlay_setup.specs.Trees.{climb, is_daemon, parent_of}
use Rattle.stat_plan.specs.Invariants.{IsPlan}
use Rattle.stat_plan.specs.Machine.Waves.{is_running}
use Rattle.stat_plan.proofs.FirstOver.{all_in, found_in}
use Rattle.stat_plan.proofs.InLists.{in_append, in_at, in_map, any_from_in, in_from_any, in_member, in_from_member, up_to_below, eqb_self}
use Rattle.overlay_setup.proofs.Leaves.{daemon_is_leaf}
use Rattle.overlay_core.specs.Machine.{State, events_below, events_of, enabled_events, is_active, is_doomed, is_enabled, is_wave, next_sample, samples_of, start_node}
use Rattle.stat_plan.specs.Machine.Overlays.{is_pending, is_spent}
use Rattle.overlay_core.specs.TreeReleases.{TreeRelease}
use Rattle.overlay_core.proofs.Outcomes.{next_is_named, find_passes}
use Rattle.overlay_core.proofs.ParentLinks.{within_from_test, test_from_within}
use Rattle.overlay_node.specs.Frames.{packet_of}
use Rattle.overlay_node.specs.NodeViews.{NodeView, has_running, node_of}
use Rattle.overlay_event.specs.declared.event.Event.{Event}
use Rattle.overlay_event.specs.declared.event.Event.TheVariants.{Sample, Recv, Tick, Lose}
use Rattle.overlay_event.specs.Events.{event_node}
use Rattle.overlay_net.specs.Inboxes.{FrameInbox, WaitingFrames}
use Rattle.node_inbox.specs.Inboxes.{HaveSent, is_waiting, queue_of, senders_of}
use Rattle.event_claims.specs.Claims.{Outs, claimable_events, is_claimable, is_free, is_home}
use Rattle.overlay_net.specs.Nets.{active_events, claims_at, events_at, is_doomed_node, node_at, node_events, sample_of, state_with, tick_of}
use Rattle.node_inbox.specs.Sends.{inbox_at, is_alive}
use Rattle.overlay_net.specs.Events.{AreCounted, AreParts, IsNth, may_come, sample_at}
use Rattle.overlay_net.specs.declared.events.Nth.{Nth}
use Rattle.count_tree.specs.Places.{place_of}
use Rattle.count_tree.proofs.Counted.{counted_all, found_thing, no_thing, place_below, thing_within}
use Rattle.overlay_setup.proofs.UpTo.{length-up_to, up_to_at}
use Rattle.stat_plan.proofs.Filters.{filter_mapped, filter_none, filter_same, filter_up_to}
use Rattle.stat_plan.proofs.Ascending.{increasing_from_sorted}
use Rattle.stat_plan.proofs.LookupLemmas.{stream_of_wave, wave_is_of}
use Rattle.overlay_net.proofs.Listed.{nth_past, listed_waits, sender_listed}

-- ---- the daemons of a stream of the plan

-- a stream's number is among the numbers of the streams
number_in : (xs : List Stream) (x : Stream) → In x xs → In x.number (map (λ (y : Stream). y.number) xs)
number_in xs x i = in_map (λ (y : Stream). y.number) x xs i

-- each of ascending streams is the one that is found by its number
found_by_number : (xs : List Stream) (x : Stream) → IsStrictlyIncreasing (map (λ (y : Stream). y.number) xs) → In x xs → find (λ (y : Stream). y.number == x.number) xs ≡ Some x
found_by_number [] x h i = absurd i
found_by_number (y ∷ ys) x h (inl e) =
    ap (λ (b : Bool). cond b (Some y) (find (λ (z : Stream). z.number == x.number) ys)) (eq-eqb y.number x.number (ap (λ (z : Stream). z.number) (sym e))) ∙ ap Some (sym e)
found_by_number (y ∷ ys) x h (inr i) = go (found_by_number ys x h.1 i) (y.number == x.number) refl
  where
    go : find (λ (z : Stream). z.number == x.number) ys ≡ Some x → (b : Bool) → (y.number == x.number) ≡ b → cond b (Some y) (find (λ (z : Stream). z.number == x.number) ys) ≡ Some x
    go rest true e = absurd (let a : y.number < x.number = h.0 x.number (number_in ys x i) in let k : y.number ≡ x.number = eqb-true y.number x.number e in omega arith)
    go rest false e = rest

-- a stream of the plan is the one of its number
pub stream_is : (p : Plan) (x : Stream) → IsPlan p → In x p.streams → stream_of p x.number ≡ Some x
unfolding stream_of
stream_is p x plan i = found_by_number p.streams x plan.script.streams_increase i

-- the daemons of a found stream
daemons_found : (p : Plan) (s : ℕ) (x : Stream) → stream_of p s ≡ Some x → daemons p s ≡ x.daemons
unfolding daemons
daemons_found p s x is = ap (λ (o : Option Stream). elim o as (λ _. List ℕ) [ None ↦ [] | (Some x) ↦ x.daemons ]) is

-- the daemons of a stream of the plan
daemons_are : (p : Plan) (x : Stream) → IsPlan p → In x p.streams → daemons p x.number ≡ x.daemons
daemons_are p x plan i = daemons_found p x.number x (stream_is p x plan i)

-- a stream that the plan doesn't have has no daemons
pub no_daemons : (p : Plan) (s : ℕ) → stream_of p s ≡ None → daemons p s ≡ []
unfolding daemons
no_daemons p s is = ap (λ (o : Option Stream). elim o as (λ _. List ℕ) [ None ↦ [] | (Some x) ↦ x.daemons ]) is

-- a stream that is found has the number, and is one of the plan's
pub found_stream : (p : Plan) (s : ℕ) (x : Stream) → stream_of p s ≡ Some x → In x p.streams × (x.number ≡ s)
unfolding stream_of
found_stream p s x is = (found_in (λ (y : Stream). y.number == s) p.streams x is, eqb-true x.number s (find_passes (λ (y : Stream). y.number == s) p.streams x is))

-- ---- which nodes sample a stream

-- an ancestor is some node's parent
some_child : (parents : List (Option ℕ)) (links d n : ℕ) → In n (climb parents links d) → (m : ℕ) × (parent_of parents m ≡ Some n)
some_child parents zero d n i = absurd i
some_child parents (suc links) d n i = go (λ q. some_child parents links q n) (parent_of parents d) refl i
  where
    go : ((q : ℕ) → In n (climb parents links q) → (m : ℕ) × (parent_of parents m ≡ Some n)) → (o : Option ℕ) → parent_of parents d ≡ o → In n (elim o as (λ _. List ℕ) [ None ↦ [] | (Some q) ↦ q ∷ climb parents links q ]) → (m : ℕ) × (parent_of parents m ≡ Some n)
    go above None e j = absurd j
    go above (Some q) e (inl k) = (d, e ∙ ap Some (sym k))
    go above (Some q) e (inr j) = above q j

-- nothing is under a daemon
under_daemon : (p : Plan) (d n : ℕ) → is_daemon p.parents n ≡ true → In n (ancestors p d) → ⊥
unfolding ancestors
under_daemon p d n leaf i = let m = some_child p.parents (nodes p) d n i in daemon_is_leaf p.parents n leaf m.0 m.1

-- a daemon that serves a stream is one of its daemons
serving_daemon : (p : Plan) (n s : ℕ) → is_daemon p.parents n ≡ true → serves p n s ≡ true → member n (daemons p s) ≡ true
unfolding serves
serving_daemon p n s leaf there =
    let d = in_from_any (λ d. is_within p d n) (daemons p s) there in
    elim (within_from_test p d.0 n d.1.1) [
      | inl e ↦ in_member n (daemons p s) (subst (λ k. In k (daemons p s)) e d.1.0)
      | inr u ↦ absurd (under_daemon p d.0 n leaf u)
    ]

-- one of a stream's daemons serves it
daemon_serves : (p : Plan) (n s : ℕ) → member n (daemons p s) ≡ true → serves p n s ≡ true
unfolding serves
daemon_serves p n s there = any_from_in (λ d. is_within p d n) n (daemons p s) (in_from_member n (daemons p s) there) (test_from_within p n n (inl refl))

-- one of a stream's daemons is a daemon
daemon_is : (p : Plan) (x : Stream) (n : ℕ) → IsPlan p → In x p.streams → member n x.daemons ≡ true → is_daemon p.parents n ≡ true
daemon_is p x n plan i there =
    (all_in (IsDaemon (nodes_of p)) x.daemons n (all_in (λ (x : Stream). AllByRecursion (IsDaemon (nodes_of p)) x.daemons) p.streams x plan.script_fits.daemons i) (in_from_member n x.daemons there)).1

-- a daemon that serves a stream of the plan is one of its daemons
pub samples_it : (p : Plan) (x : Stream) (n : ℕ) → IsPlan p → In x p.streams → is_daemon p.parents n ≡ true → serves p n x.number ≡ true → member n x.daemons ≡ true
samples_it p x n plan i leaf there = subst (λ (ds : List ℕ). member n ds ≡ true) (daemons_are p x plan i) (serving_daemon p n x.number leaf there)

-- a node that is not a daemon is not a daemon of the stream
pub no_daemon : (p : Plan) (x : Stream) (n : ℕ) → IsPlan p → In x p.streams → is_daemon p.parents n ≡ false → member n x.daemons ≡ false
no_daemon p x n plan i not_leaf = elim (cases_Bool (member n x.daemons)) [
  | inl t ↦ absurd (true≢false (sym (daemon_is p x n plan i t) ∙ not_leaf))
  | inr f ↦ f
]

-- a node that doesn't serve a stream of the plan is not one of its daemons
pub serves_not : (p : Plan) (x : Stream) (n : ℕ) → IsPlan p → In x p.streams → serves p n x.number ≡ false → member n x.daemons ≡ false
serves_not p x n plan i not_there = elim (cases_Bool (member n x.daemons)) [
  | inl t ↦ absurd (true≢false (sym (daemon_serves p n x.number (subst (λ (ds : List ℕ). member n ds ≡ true) (sym (daemons_are p x plan i)) t)) ∙ not_there))
  | inr f ↦ f
]

-- a node that isn't among a stream's daemons has no sample of it
pub no_sample : (p : Plan) (x : NodeView) (s : Stream) → member x.number s.daemons ≡ false → sample_of p x s ≡ []
no_sample p x s is = ap (λ (b : Bool). cond b (elim (next_sample p (node_of x) s.number) as (λ _. List Event) [ None ↦ [] | (Some v) ↦ Sample x.number s.number v.1 ∷ [] ]) []) is

-- what a daemon of a stream samples next of it
pub next_is_sample : (p : Plan) (x : NodeView) (s : Stream) (o : Option ℕ) → member x.number s.daemons ≡ true → o ≡ option_map (λ (v : ℕ × ℕ). v.1) (next_sample p (node_of x) s.number) → sample_of p x s ≡ sample_at x.number s.number o
next_is_sample p x s o is e =
    ap (λ (b : Bool). cond b (elim (next_sample p (node_of x) s.number) as (λ _. List Event) [ None ↦ [] | (Some v) ↦ Sample x.number s.number v.1 ∷ [] ]) []) is
    ∙ go (next_sample p (node_of x) s.number)
    ∙ ap (sample_at x.number s.number) (sym e)
  where
    go : (q : Option (ℕ × ℕ)) → (elim q as (λ _. List Event) [ None ↦ [] | (Some v) ↦ Sample x.number s.number v.1 ∷ [] ]) ≡ sample_at x.number s.number (option_map (λ (v : ℕ × ℕ). v.1) q)
    go None = refl
    go (Some v) = refl

-- whether a wave is the one that a node samples next, by its sample
pub wave_test : (p : Plan) (x : NodeView) (s : Stream) (o : Option ℕ) (w : ℕ) → sample_of p x s ≡ sample_at x.number s.number o → option_eq nat_eq o (Some w) ≡ (member x.number s.daemons && is_wave (next_sample p (node_of x) s.number) w)
wave_test p x s o w e = go (member x.number s.daemons) (next_sample p (node_of x) s.number) o e
  where
    go : (b : Bool) (q : Option (ℕ × ℕ)) (o : Option ℕ) → cond b (elim q as (λ _. List Event) [ None ↦ [] | (Some v) ↦ Sample x.number s.number v.1 ∷ [] ]) [] ≡ sample_at x.number s.number o → option_eq nat_eq o (Some w) ≡ (b && is_wave q w)
    go true (Some v) (Some k) e = let same : v.1 ≡ k = cc in ap (λ j. nat_eq j w) (sym same)
    go true (Some v) None e = absurd (cc)
    go true None (Some k) e = absurd (cc)
    go true None None e = refl
    go false q (Some k) e = absurd (cc)
    go false q None e = refl

-- whether a wave is the one that a node samples next of the stream of a number, by its sample
pub found_test : (p : Plan) (x : NodeView) (s : ℕ) (t : Stream) (o : Option ℕ) (w : ℕ) → stream_of p s ≡ Some t → sample_of p x t ≡ sample_at x.number t.number o → option_eq nat_eq o (Some w) ≡ (member x.number (daemons p s) && is_wave (next_sample p (node_of x) s) w)
found_test p x s t o w is e =
    wave_test p x t o w e
    ∙ ap (λ (ds : List ℕ). member x.number ds && is_wave (next_sample p (node_of x) t.number) w) (sym (daemons_found p s t is))
    ∙ ap (λ k. member x.number (daemons p s) && is_wave (next_sample p (node_of x) k) w) (found_stream p s t is).1

-- ---- the samples of a node

-- a wave with the number of one of ascending streams is one of that stream's
own_wave : (xs : List Stream) (x : Stream) (w : ℕ) → IsStrictlyIncreasing (map (λ (y : Stream). y.number) xs) → In x xs → In {X = ℕ × ℕ} (x.number, w) (waves_of xs) → In w (up_to x.waves)
own_wave [] x w h i j = absurd i
own_wave (y ∷ ys) x w h i j = elim (in_append {X = ℕ × ℕ} (x.number, w) (map (λ w. (y.number, w)) (up_to y.waves)) (waves_of ys) j) [
  | inl a ↦ here (wave_is_of y.number (up_to y.waves) (x.number, w) a) i
  | inr b ↦ there (own_wave ys x w h.1) b i
]
  where
    here : (x.number ≡ y.number) × In w (up_to y.waves) → (x ≡ y) ⊎ In x ys → In w (up_to x.waves)
    here r (inl e) = subst (λ (z : Stream). In w (up_to z.waves)) (sym e) r.1
    here r (inr k) = absurd (let lt : y.number < x.number = h.0 x.number (number_in ys x k) in let e : x.number ≡ y.number = r.0 in omega arith)

    there : (In x ys → In {X = ℕ × ℕ} (x.number, w) (waves_of ys) → In w (up_to x.waves)) → In {X = ℕ × ℕ} (x.number, w) (waves_of ys) → (x ≡ y) ⊎ In x ys → In w (up_to x.waves)
    there ih b (inl e) = absurd (let lt : y.number < x.number = h.0 x.number (stream_of_wave ys (x.number, w) b) in let k : x.number ≡ y.number = ap (λ (z : Stream). z.number) e in omega arith)
    there ih b (inr k) = ih k b

-- exactly one of the numbers below n is this one
only_one : (k n : ℕ) → k < n → filter (λ w. k == w) (up_to n) ≡ k ∷ []
only_one k n lt = filter_up_to (λ w. k == w) n (k ∷ []) (λ y i. absurd i, tt)
    (λ m i. elim i [ inl e ↦ (subst (λ j. j < n) (sym e) lt, eq-eqb k m (sym e)) | inr j ↦ absurd j ])
    (λ m l h. inl (sym (eqb-true k m h)))

-- the events of a node's samples of one stream, and the rest
samples_block : (n s : ℕ) (ws : List ℕ) (vs : List (ℕ × ℕ)) → samples_of n (map (λ w. (s, w)) ws ++ vs) ≡ map (λ w. Sample n s w) ws ++ samples_of n vs
samples_block n s [] vs = refl
samples_block n s (w ∷ ws) vs = ap (λ (es : List Event). Sample n s w ∷ es) (samples_block n s ws vs)

-- a node's samples that pass a test, stream by stream
samples_kept : (test : Event → Bool) (n : ℕ) (f : Stream → List Event) (xs : List Stream) → ((x : Stream) → In x xs → filter test (map (λ w. Sample n x.number w) (up_to x.waves)) ≡ f x) → filter test (samples_of n (waves_of xs)) ≡ flat_map f xs
samples_kept test n f [] h = refl
samples_kept test n f (x ∷ xs) h =
    ap (filter test) (samples_block n x.number (up_to x.waves) (waves_of xs))
    ∙ filter-append test (map (λ w. Sample n x.number w) (up_to x.waves)) (samples_of n (waves_of xs))
    ∙ ap (λ (es : List Event). es ++ filter test (samples_of n (waves_of xs))) (h x (inl refl))
    ∙ ap (λ (es : List Event). f x ++ es) (samples_kept test n f xs (λ y i. h y (inr i)))

-- a node in a state: it is active, it is this node, and this is its inbox, with senders of the plan
pub record IsNodeIn (p : Plan) (st : State) (x : NodeView) (box : WaitingFrames) : Type 0 where
  pub active : is_active p st x.number ≡ true
  pub node : st.node x.number ≡ node_of x
  pub links : (m : ℕ) → is_pending (st.link m x.number) ≡ is_waiting box m
  pub stays : is_enabled p st (Lose x.number) ≡ false
  pub increasing : IsStrictlyIncreasing (senders_of box)
  pub senders : (m : ℕ) → is_waiting box m ≡ true → m < nodes p

-- whether a sample may come next
sample_test : (p : Plan) (st : State) (x : NodeView) (box : WaitingFrames) (s : Stream) (w : ℕ) → IsPlan p → In s p.streams → IsNodeIn p st x box → is_enabled p st (Sample x.number s.number w) ≡ (member x.number s.daemons && is_wave (next_sample p (node_of x) s.number) w)
sample_test p st x box s w plan i h =
    ap (λ (b : Bool). (b && member x.number (daemons p s.number)) && is_wave (next_sample p (st.node x.number) s.number) w) h.active
    ∙ ap (λ (ds : List ℕ). member x.number ds && is_wave (next_sample p (st.node x.number) s.number) w) (daemons_are p s plan i)
    ∙ ap (λ n. member x.number s.daemons && is_wave (next_sample p n s.number) w) h.node

-- the samples of one stream that may come next
stream_samples : (p : Plan) (st : State) (x : NodeView) (box : WaitingFrames) (s : Stream) → IsPlan p → In s p.streams → IsNodeIn p st x box → filter (is_enabled p st) (map (λ w. Sample x.number s.number w) (up_to s.waves)) ≡ sample_of p x s
stream_samples p st x box s plan i h =
    filter_mapped (is_enabled p st) (λ w. Sample x.number s.number w) (up_to s.waves)
    ∙ ap (map (λ w. Sample x.number s.number w)) (filter_same (λ w. is_enabled p st (Sample x.number s.number w)) (λ w. member x.number s.daemons && is_wave (next_sample p (node_of x) s.number) w) (up_to s.waves) (λ w j. sample_test p st x box s w plan i h))
    ∙ go (member x.number s.daemons)
  where
    named : (v : ℕ × ℕ) → next_sample p (node_of x) s.number ≡ Some v → v.1 < s.waves
    named v e = up_to_below s.waves v.1 (own_wave p.streams s v.1 plan.script.streams_increase i (next_is_named p (node_of x) s.number v.1 (ap (λ (o : Option (ℕ × ℕ)). is_wave o v.1) e ∙ eqb_self v.1)))

    by : (o : Option (ℕ × ℕ)) → next_sample p (node_of x) s.number ≡ o → map (λ w. Sample x.number s.number w) (filter (λ w. is_wave o w) (up_to s.waves)) ≡ (elim o as (λ _. List Event) [ None ↦ [] | (Some v) ↦ Sample x.number s.number v.1 ∷ [] ])
    by None e = ap (map (λ w. Sample x.number s.number w)) (filter_none (λ w. false) (up_to s.waves) (λ w j. refl))
    by (Some v) e = ap (map (λ w. Sample x.number s.number w)) (only_one v.1 s.waves (named v e))

    go : (b : Bool) → map (λ w. Sample x.number s.number w) (filter (λ w. b && is_wave (next_sample p (node_of x) s.number) w) (up_to s.waves)) ≡ cond b (elim (next_sample p (node_of x) s.number) as (λ _. List Event) [ None ↦ [] | (Some v) ↦ Sample x.number s.number v.1 ∷ [] ]) []
    go true = by (next_sample p (node_of x) s.number) refl
    go false = ap (map (λ w. Sample x.number s.number w)) (filter_none (λ w. false) (up_to s.waves) (λ w j. refl))

-- what a node may receive next
receives : (p : Plan) (st : State) (x : NodeView) (box : WaitingFrames) → IsNodeIn p st x box → filter (is_enabled p st) (map (λ m. Recv x.number m) (up_to (nodes p))) ≡ map (λ m. Recv x.number m) (senders_of box)
receives p st x box h =
    filter_mapped (is_enabled p st) (λ m. Recv x.number m) (up_to (nodes p))
    ∙ ap (map (λ m. Recv x.number m))
    (filter_same (λ m. is_enabled p st (Recv x.number m)) (is_waiting box) (up_to (nodes p)) (λ m j. ap (λ (b : Bool). b && is_pending (st.link m x.number)) h.active ∙ h.links m)
    ∙ filter_up_to (is_waiting box) (nodes p) (senders_of box) h.increasing (λ m i. (h.senders m (listed_waits box m i), listed_waits box m i)) (λ m lt w. sender_listed box m w))

-- a node's tick, where it may come next
ticks_next : (p : Plan) (st : State) (x : NodeView) (box : WaitingFrames) → IsNodeIn p st x box → filter (is_enabled p st) (Tick x.number ∷ []) ≡ tick_of p x
ticks_next p st x box h =
    ap (λ (b : Bool). cond (b && list_any (λ v. is_running ((st.node x.number).book v.0 v.1)) (waves_at p x.number)) (Tick x.number ∷ []) []) h.active
    ∙ ap (λ n. cond (list_any (λ v. is_running (n.book v.0 v.1)) (waves_at p x.number)) (Tick x.number ∷ []) []) h.node

-- the events of an active node that may come next, of all that can be named
pub node_offers : (p : Plan) (st : State) (x : NodeView) (box : WaitingFrames) → IsPlan p → IsNodeIn p st x box → filter (is_enabled p st) (events_of p x.number) ≡ active_events p x box
node_offers p st x box plan h =
    ap (λ (b : Bool). cond b (Lose x.number ∷ filter (is_enabled p st) later) (filter (is_enabled p st) later)) h.stays
    ∙ filter-append (is_enabled p st) (samples_of x.number (waves_of p.streams) ++ map (λ m. Recv x.number m) (up_to (nodes p))) (Tick x.number ∷ [])
    ∙ ap (λ (es : List Event). es ++ filter (is_enabled p st) (Tick x.number ∷ [])) (filter-append (is_enabled p st) (samples_of x.number (waves_of p.streams)) (map (λ m. Recv x.number m) (up_to (nodes p))))
    ∙ ap (λ (es : List Event). (es ++ filter (is_enabled p st) (map (λ m. Recv x.number m) (up_to (nodes p)))) ++ filter (is_enabled p st) (Tick x.number ∷ []))
    (samples_kept (is_enabled p st) x.number (sample_of p x) p.streams (λ s i. stream_samples p st x box s plan i h))
    ∙ ap (λ (es : List Event). (flat_map (sample_of p x) p.streams ++ es) ++ filter (is_enabled p st) (Tick x.number ∷ [])) (receives p st x box h)
    ∙ ap (λ (es : List Event). (flat_map (sample_of p x) p.streams ++ map (λ m. Recv x.number m) (senders_of box)) ++ es) (ticks_next p st x box h)
  where
    later : List Event
    later = samples_of x.number (waves_of p.streams) ++ map (λ m. Recv x.number m) (up_to (nodes p)) ++ Tick x.number ∷ []

-- ---- the rest of a list

-- what a list puts together from an index on
pub flat_from : {X : Type 0} (f : X → List Event) (xs : List X) (k : ℕ) (x : X) → k < length xs → x ≡ get_or xs k x → flat_map f (drop k xs) ≡ f x ++ flat_map f (drop (k + 1) xs)
flat_from f xs k x lt is = ap (flat_map f) (drop_more xs k x lt) ∙ ap (λ y. f y ++ flat_map f (drop (k + 1) xs)) (sym is)

-- what is read at an index is in the list
pub in_read : {X : Type 0} (xs : List X) (k : ℕ) (x : X) → k < length xs → x ≡ get_or xs k x → In x xs
in_read xs k x lt is = subst (λ y. In y xs) (sym is) (in_at xs k x lt)

-- ---- the events of all nodes

-- who lives is one of the nodes
pub alive_below : (al : List Bool) (n : ℕ) → is_alive al n ≡ true → n < length al
alive_below [] zero up = absurd (true≢false (sym up))
alive_below [] (suc n) up = absurd (true≢false (sym up))
alive_below (b ∷ al) zero up = omega arith
alive_below (b ∷ al) (suc n) up = let lt = alive_below al n up in omega (arith, lt)

-- a node beyond the others doesn't live
pub alive_past : (al : List Bool) (n : ℕ) → length al ≤ n → is_alive al n ≡ false
alive_past al n past = elim (cases_Bool (is_alive al n)) [ inl t ↦ absurd (let lt = alive_below al n t in omega (arith, lt)) | inr f ↦ f ]

-- whether something is on the way, by what waits
pub pending_is : (box : WaitingFrames) (m : ℕ) → HaveSent box → is_pending (map packet_of (queue_of box m)) ≡ is_waiting box m
pending_is [] m h = refl
pending_is (e ∷ es) m h = go (pending_is es m h.1) (e.0 == m)
  where
    some : (qs : List (List ℕ)) → (qs ≡ [] → ⊥) → is_pending (map packet_of qs) ≡ true
    some [] k = absurd (k refl)
    some (q ∷ qs) k = refl

    go : is_pending (map packet_of (queue_of es m)) ≡ is_waiting es m → (b : Bool) → is_pending (map packet_of (cond b e.1 (queue_of es m))) ≡ (b || is_waiting es m)
    go rest true = some e.1 h.0
    go rest false = rest

-- the state's node is the node of the list
pub node_there : (p : Plan) (xs : List NodeView) (n : ℕ) (x : NodeView) → slice_get xs n ≡ Some x → node_at p xs n ≡ node_of x
node_there p xs n x at = ap (λ (o : Option NodeView). elim o [ None ↦ start_node p n | Some x ↦ node_of x ]) at

-- ---- a node of the parts in their state

-- a node that can do nothing has no events but its loss
none_active : (p : Plan) (st : State) (n : ℕ) → is_active p st n ≡ false → filter (is_enabled p st) (samples_of n (waves_of p.streams) ++ map (λ m. Recv n m) (up_to (nodes p)) ++ Tick n ∷ []) ≡ []
none_active p st n idle =
    filter-append (is_enabled p st) (samples_of n (waves_of p.streams) ++ map (λ m. Recv n m) (up_to (nodes p))) (Tick n ∷ [])
    ∙ ap (λ (es : List Event). es ++ filter (is_enabled p st) (Tick n ∷ [])) (filter-append (is_enabled p st) (samples_of n (waves_of p.streams)) (map (λ m. Recv n m) (up_to (nodes p))))
    ∙ ap (λ (es : List Event). (es ++ filter (is_enabled p st) (map (λ m. Recv n m) (up_to (nodes p)))) ++ filter (is_enabled p st) (Tick n ∷ [])) (none (waves_of p.streams))
    ∙ ap (λ (es : List Event). es ++ filter (is_enabled p st) (Tick n ∷ [])) received
    ∙ ap (λ (b : Bool). cond {A = List Event} (b && list_any (λ v. is_running ((st.node n).book v.0 v.1)) (waves_at p n)) (Tick n ∷ []) []) idle
  where
    none : (vs : List (ℕ × ℕ)) → filter (is_enabled p st) (samples_of n vs) ≡ []
    none [] = refl
    none (v ∷ vs) =
        ap (λ (b : Bool). cond ((b && member n (daemons p v.0)) && is_wave (next_sample p (st.node n) v.0) v.1) (Sample n v.0 v.1 ∷ filter (is_enabled p st) (samples_of n vs)) (filter (is_enabled p st) (samples_of n vs))) idle
        ∙ none vs

    received : filter (is_enabled p st) (map (λ m. Recv n m) (up_to (nodes p))) ≡ []
    received =
        filter_mapped (is_enabled p st) (λ m. Recv n m) (up_to (nodes p))
        ∙ ap (map (λ m. Recv n m)) (filter_none (λ m. is_enabled p st (Recv n m)) (up_to (nodes p)) (λ m i. ap (λ (b : Bool). b && is_pending (st.link m n)) idle))

-- such a node may only be lost
idle_offers : (p : Plan) (st : State) (n : ℕ) → is_active p st n ≡ false → filter (is_enabled p st) (events_of p n) ≡ cond (is_enabled p st (Lose n)) (Lose n ∷ []) []
idle_offers p st n idle = ap (λ (es : List Event). cond (is_enabled p st (Lose n)) (Lose n ∷ es) es) (none_active p st n idle)

and_assoc : (a b c : Bool) → ((a && b) && c) ≡ (a && (b && c))
and_assoc true b c = refl
and_assoc false b c = refl

module _ (p : Plan) (al : List Bool) (xs : List NodeView) (inboxes : List FrameInbox) (releases : List TreeRelease) where
  abbrev st : State
  st = state_with p al xs inboxes releases

  -- whether a node is doomed
  doomed_is : (n : ℕ) (x : NodeView) → slice_get xs n ≡ Some x → x.number ≡ n → is_doomed p st n ≡ is_doomed_node p x
  unfolding is_doomed
  doomed_is n x at number = λ i. is_spent (fault p (sym number i)) (node_there p xs n x at i).count

  -- whether a node can do something
  active_is : (n : ℕ) (x : NodeView) → slice_get xs n ≡ Some x → x.number ≡ n → is_active p st n ≡ (is_alive al n && not (is_doomed_node p x))
  unfolding is_active
  active_is n x at number = ap (λ (b : Bool). is_alive al n && not b) (doomed_is n x at number)

  -- a node that is lost can do nothing
  dead_is : (n : ℕ) → is_alive al n ≡ false → is_active p st n ≡ false
  unfolding is_active
  dead_is n dead = ap (λ (b : Bool). b && not (is_doomed p st n)) dead

  -- whether an event of a living node may come next
  pub enabled_is : (e : Event) (x : NodeView) → AreParts p al xs inboxes → is_alive al (event_node e) ≡ true → slice_get xs (event_node e) ≡ Some x → is_enabled p st e ≡ may_come p x (inbox_at inboxes (event_node e)) e
  enabled_is (Sample n s w) x parts up at =
      let number = (parts.node n x at).0 in
      ap (λ (b : Bool). (b && member n (daemons p s)) && is_wave (next_sample p (node_at p xs n) s) w) (active_is n x at number ∙ ap (λ (b : Bool). b && not (is_doomed_node p x)) up)
      ∙ and_assoc (not (is_doomed_node p x)) (member n (daemons p s)) (is_wave (next_sample p (node_at p xs n) s) w)
      ∙ (λ i. not (is_doomed_node p x) && (member (sym number i) (daemons p s) && is_wave (next_sample p (node_there p xs n x at i) s) w))
  enabled_is (Recv n m) x parts up at =
      let number = (parts.node n x at).0 in
      ap (λ (b : Bool). b && is_pending (map packet_of (queue_of (inbox_at inboxes n) m))) (active_is n x at number ∙ ap (λ (b : Bool). b && not (is_doomed_node p x)) up)
      ∙ ap (λ (b : Bool). not (is_doomed_node p x) && b) (pending_is (inbox_at inboxes n) m (parts.sent n))
  enabled_is (Tick n) x parts up at =
      let number = (parts.node n x at).0 in
      ap (λ (b : Bool). b && list_any (λ v. is_running ((node_at p xs n).book v.0 v.1)) (waves_at p n)) (active_is n x at number ∙ ap (λ (b : Bool). b && not (is_doomed_node p x)) up)
      ∙ (λ i. not (is_doomed_node p x) && list_any (λ v. is_running ((node_there p xs n x at i).book v.0 v.1)) (waves_at p (sym number i)))
  enabled_is (Lose n) x parts up at = λ i. up i && doomed_is n x at (parts.node n x at).0 i

  -- no event of a lost node may come next
  pub none_of_dead : (e : Event) → is_alive al (event_node e) ≡ false → is_enabled p st e ≡ false
  none_of_dead (Sample n s w) dead = ap (λ (b : Bool). (b && member n (daemons p s)) && is_wave (next_sample p (node_at p xs n) s) w) (dead_is n dead)
  none_of_dead (Recv n m) dead = ap (λ (b : Bool). b && is_pending (map packet_of (queue_of (inbox_at inboxes n) m))) (dead_is n dead)
  none_of_dead (Tick n) dead = ap (λ (b : Bool). b && list_any (λ v. is_running ((node_at p xs n).book v.0 v.1)) (waves_at p n)) (dead_is n dead)
  none_of_dead (Lose n) dead = ap (λ (b : Bool). b && is_doomed p st n) dead

  -- the events of a node of the parts that may come next, of all that can be named
  pub part_offers : (x : NodeView) → IsPlan p → AreParts p al xs inboxes → slice_get xs x.number ≡ Some x → filter (is_enabled p st) (events_of p x.number) ≡ node_events p (is_alive al x.number) x (inbox_at inboxes x.number)
  part_offers x plan parts at = go (is_alive al x.number) (is_doomed_node p x) refl refl
    where
      go : (u d : Bool) → is_alive al x.number ≡ u → is_doomed_node p x ≡ d → filter (is_enabled p st) (events_of p x.number) ≡ cond u (cond d (Lose x.number ∷ []) (active_events p x (inbox_at inboxes x.number))) []
      go true true eu ed =
          idle_offers p st x.number (active_is x.number x at refl ∙ (λ i. eu i && not (ed i)))
          ∙ ap (λ (b : Bool). cond {A = List Event} b (Lose x.number ∷ []) []) (λ i. eu i && (doomed_is x.number x at refl ∙ ed) i)
      go true false eu ed = node_offers p st x (inbox_at inboxes x.number) plan (record {
        active = active_is x.number x at refl ∙ (λ i. eu i && not (ed i));
        node = node_there p xs x.number x at;
        links = λ m. pending_is (inbox_at inboxes x.number) m (parts.sent x.number);
        stays = λ i. eu i && (doomed_is x.number x at refl ∙ ed) i;
        increasing = increasing_from_sorted (senders_of (inbox_at inboxes x.number)) (parts.increasing x.number);
        senders = λ m w. parts.senders m x.number w;
      })
      go false d eu ed =
          idle_offers p st x.number (dead_is x.number eu)
          ∙ ap (λ (b : Bool). cond {A = List Event} (b && is_doomed p st x.number) (Lose x.number ∷ []) []) eu

-- who lives is a node of the plan
pub living_below : (p : Plan) (al : List Bool) (xs : List NodeView) (inboxes : List FrameInbox) (n : ℕ) → AreParts p al xs inboxes → is_alive al n ≡ true → n < nodes p
living_below p al xs inboxes n parts up = subst (λ k. n < k) parts.alive_count (alive_below al n up)

-- each index of a list has an element
some_at : (xs : List NodeView) (n : ℕ) → n < length xs → (x : NodeView) × (slice_get xs n ≡ Some x)
some_at [] n lt = absurd (omega arith)
some_at (x ∷ xs) zero lt = (x, refl)
some_at (x ∷ xs) (suc n) lt = some_at xs n (omega arith)

-- the node of each number
pub part_at : (p : Plan) (al : List Bool) (xs : List NodeView) (inboxes : List FrameInbox) (n : ℕ) → AreParts p al xs inboxes → n < nodes p → (x : NodeView) × (slice_get xs n ≡ Some x) × (x.number ≡ n)
part_at p al xs inboxes n parts lt = let s = some_at xs n (subst (λ k. n < k) (sym parts.node_count) lt) in (s.0, s.1, (parts.node n s.0 s.1).0)

-- the events of a node that may come next, of all that can be named, by its number
pub offers_at : (p : Plan) (al : List Bool) (xs : List NodeView) (inboxes : List FrameInbox) (releases : List TreeRelease) (n : ℕ) → IsPlan p → AreParts p al xs inboxes → n < nodes p → filter (is_enabled p (state_with p al xs inboxes releases)) (events_of p n) ≡ events_at p al xs inboxes n
offers_at p al xs inboxes releases n plan parts lt =
    let s = part_at p al xs inboxes n parts lt in
    let x = s.0 in
    let at : slice_get xs x.number ≡ Some x = subst (λ k. slice_get xs k ≡ Some x) (sym s.2) s.1 in
    subst (λ k. filter (is_enabled p (state_with p al xs inboxes releases)) (events_of p k) ≡ node_events p (is_alive al k) x (inbox_at inboxes k)) s.2 (part_offers p al xs inboxes releases x plan parts at)
    ∙ ap (λ (o : Option NodeView). elim o [ None ↦ [] | Some x ↦ node_events p (is_alive al n) x (inbox_at inboxes n) ]) (sym s.1)

-- the events of the first nodes that may come next, of all that can be named
offers_below : (p : Plan) (al : List Bool) (xs : List NodeView) (inboxes : List FrameInbox) (releases : List TreeRelease) (k : ℕ) → IsPlan p → AreParts p al xs inboxes → k ≤ nodes p → filter (is_enabled p (state_with p al xs inboxes releases)) (events_below p k) ≡ flat_map (events_at p al xs inboxes) (up_to k)
offers_below p al xs inboxes releases zero plan parts le = refl
offers_below p al xs inboxes releases (suc k) plan parts le =
    filter-append (is_enabled p (state_with p al xs inboxes releases)) (events_below p k) (events_of p k)
    ∙ ap (λ (es : List Event). es ++ filter (is_enabled p (state_with p al xs inboxes releases)) (events_of p k)) (offers_below p al xs inboxes releases k plan parts (omega arith))
    ∙ ap (λ (es : List Event). flat_map (events_at p al xs inboxes) (up_to k) ++ es) (offers_at p al xs inboxes releases k plan parts (omega arith) ∙ sym (append-nil (events_at p al xs inboxes k)))
    ∙ sym (flat_map-append (events_at p al xs inboxes) (up_to k) (k ∷ []))

-- the events that may come next are those of the nodes, node by node
pub all_offers : (p : Plan) (al : List Bool) (xs : List NodeView) (inboxes : List FrameInbox) (releases : List TreeRelease) → IsPlan p → AreParts p al xs inboxes → enabled_events p (state_with p al xs inboxes releases) ≡ flat_map (events_at p al xs inboxes) (up_to (nodes p))
unfolding enabled_events
all_offers p al xs inboxes releases plan parts = offers_below p al xs inboxes releases (nodes p) plan parts (omega arith)

-- ---- the events that may be claimed

-- a sample of a node is an event of it
sample_own : (p : Plan) (x : NodeView) (s : Stream) (e : Event) → In e (sample_of p x s) → event_node e ≡ x.number
sample_own p x s e i = go (member x.number s.daemons) (next_sample p (node_of x) s.number) i
  where
    go : (b : Bool) (q : Option (ℕ × ℕ)) → In e (cond b (elim q as (λ _. List Event) [ None ↦ [] | (Some v) ↦ Sample x.number s.number v.1 ∷ [] ]) []) → event_node e ≡ x.number
    go true (Some v) (inl k) = ap event_node k
    go true (Some v) (inr j) = absurd j
    go true None j = absurd j
    go false q j = absurd j

samples_own : (p : Plan) (x : NodeView) (ss : List Stream) (e : Event) → In e (flat_map (sample_of p x) ss) → event_node e ≡ x.number
samples_own p x [] e i = absurd i
samples_own p x (s ∷ ss) e i = elim (in_append e (sample_of p x s) (flat_map (sample_of p x) ss) i) [
  | inl a ↦ sample_own p x s e a
  | inr b ↦ samples_own p x ss e b
]

receipts_own : (n : ℕ) (ms : List ℕ) (e : Event) → In e (map (λ m. Recv n m) ms) → event_node e ≡ n
receipts_own n [] e i = absurd i
receipts_own n (m ∷ ms) e (inl k) = ap event_node k
receipts_own n (m ∷ ms) e (inr i) = receipts_own n ms e i

tick_own : (p : Plan) (x : NodeView) (e : Event) → In e (tick_of p x) → event_node e ≡ x.number
tick_own p x e i = go (has_running p x) i
  where
    go : (b : Bool) → In e (cond b (Tick x.number ∷ []) []) → event_node e ≡ x.number
    go true (inl k) = ap event_node k
    go true (inr j) = absurd j
    go false j = absurd j

-- an event that a node may do is its own
active_own : (p : Plan) (x : NodeView) (box : WaitingFrames) (e : Event) → In e (active_events p x box) → event_node e ≡ x.number
active_own p x box e i = elim (in_append e (flat_map (sample_of p x) p.streams ++ map (λ m. Recv x.number m) (senders_of box)) (tick_of p x) i) [
  | inl a ↦ elim (in_append e (flat_map (sample_of p x) p.streams) (map (λ m. Recv x.number m) (senders_of box)) a) [
    | inl b ↦ samples_own p x p.streams e b
    | inr c ↦ receipts_own x.number (senders_of box) e c
  ]
  | inr d ↦ tick_own p x e d
]

node_own : (p : Plan) (up : Bool) (x : NodeView) (box : WaitingFrames) (e : Event) → In e (node_events p up x box) → event_node e ≡ x.number
node_own p up x box e i = go up (is_doomed_node p x) i
  where
    go : (u d : Bool) → In e (cond u (cond d (Lose x.number ∷ []) (active_events p x box)) []) → event_node e ≡ x.number
    go true true (inl k) = ap event_node k
    go true true (inr j) = absurd j
    go true false j = active_own p x box e j
    go false d j = absurd j

-- an event of the node of a number is an event of this node
pub own_event : (p : Plan) (al : List Bool) (xs : List NodeView) (inboxes : List FrameInbox) (n : ℕ) (e : Event) → AreParts p al xs inboxes → In e (events_at p al xs inboxes n) → event_node e ≡ n
own_event p al xs inboxes n e parts i = go (slice_get xs n) refl i
  where
    go : (o : Option NodeView) → slice_get xs n ≡ o → In e (elim o as (λ _. List Event) [ None ↦ [] | (Some x) ↦ node_events p (is_alive al n) x (inbox_at inboxes n) ]) → event_node e ≡ n
    go None at j = absurd j
    go (Some x) at j = node_own p (is_alive al n) x (inbox_at inboxes n) e j ∙ (parts.node n x at).0

-- the events of the node of a number that may be claimed
node_claims : (p : Plan) (al : List Bool) (xs : List NodeView) (inboxes : List FrameInbox) (out : Outs) (n : ℕ) → AreParts p al xs inboxes → filter (is_claimable p out) (events_at p al xs inboxes n) ≡ claims_at p al xs inboxes out n
node_claims p al xs inboxes out n parts =
    filter_same (is_claimable p out) (λ e. is_home (out n) && is_free p out e) (events_at p al xs inboxes n) (λ e i. ap (λ k. is_home (out k) && is_free p out e) (own_event p al xs inboxes n e parts i))
    ∙ go (is_home (out n))
  where
    go : (b : Bool) → filter (λ e. b && is_free p out e) (events_at p al xs inboxes n) ≡ cond b (filter (is_free p out) (events_at p al xs inboxes n)) []
    go true = refl
    go false = filter_none (λ e. false) (events_at p al xs inboxes n) (λ e i. refl)

-- what passes a test of what a list puts together
filter_flat : (test : Event → Bool) (f g : ℕ → List Event) (ns : List ℕ) → ((n : ℕ) → filter test (f n) ≡ g n) → filter test (flat_map f ns) ≡ flat_map g ns
filter_flat test f g [] h = refl
filter_flat test f g (n ∷ ns) h = filter-append test (f n) (flat_map f ns) ∙ (λ i. h n i ++ filter_flat test f g ns h i)

-- the events that may be claimed are those of the nodes, node by node
pub all_claims : (p : Plan) (al : List Bool) (xs : List NodeView) (inboxes : List FrameInbox) (releases : List TreeRelease) (out : Outs) → IsPlan p → AreParts p al xs inboxes → claimable_events p (state_with p al xs inboxes releases) out ≡ flat_map (claims_at p al xs inboxes out) (up_to (nodes p))
unfolding claimable_events
all_claims p al xs inboxes releases out plan parts =
    ap (filter (is_claimable p out)) (all_offers p al xs inboxes releases plan parts)
    ∙ filter_flat (is_claimable p out) (events_at p al xs inboxes) (claims_at p al xs inboxes out) (up_to (nodes p)) (λ n. node_claims p al xs inboxes out n parts)

-- as many events may be claimed as are counted
pub all_counted : (p : Plan) (al : List Bool) (xs : List NodeView) (inboxes : List FrameInbox) (releases : List TreeRelease) (out : Outs) (counts : List ℕ) → IsPlan p → AreParts p al xs inboxes → AreCounted p al xs inboxes out counts → sum counts ≡ length (claimable_events p (state_with p al xs inboxes releases) out)
all_counted p al xs inboxes releases out counts plan parts counted =
    counted_all (claims_at p al xs inboxes out) (nodes p) (up_to (nodes p)) (length-up_to (nodes p)) (up_to_at (nodes p)) counts counted
    ∙ ap (λ (es : List Event). length es) (sym (all_claims p al xs inboxes releases out plan parts))

-- the events of a node that was read
pub events_read : (p : Plan) (al : List Bool) (xs : List NodeView) (inboxes : List FrameInbox) (n : ℕ) (u : Bool) (x : NodeView) (box : WaitingFrames) → u ≡ is_alive al n → slice_get xs n ≡ Some x → box ≡ inbox_at inboxes n → events_at p al xs inboxes n ≡ node_events p u x box
events_read p al xs inboxes n u x box up at is =
    ap (λ (o : Option NodeView). elim o [ None ↦ [] | Some x ↦ node_events p (is_alive al n) x (inbox_at inboxes n) ]) at ∙ (λ i. node_events p (sym up i) x (sym is i))

module _ (p : Plan) (al : List Bool) (xs : List NodeView) (inboxes : List FrameInbox) (out : Outs) (counts : List ℕ) (counted : AreCounted p al xs inboxes out counts) (i : ℕ) where
  -- what the counts find is a node of the plan
  pub found_below : (n j : ℕ) → place_of counts i ≡ Some (n, j) → n < nodes p
  found_below n j e = place_below (claims_at p al xs inboxes out) (nodes p) (up_to (nodes p)) (length-up_to (nodes p)) (up_to_at (nodes p)) counts counted i n j e

  -- it is one of that node's events
  pub found_within : (n j : ℕ) → place_of counts i ≡ Some (n, j) → j < length (claims_at p al xs inboxes out n)
  found_within n j e = thing_within (claims_at p al xs inboxes out) (nodes p) (up_to (nodes p)) (length-up_to (nodes p)) (up_to_at (nodes p)) counts counted i n j e

  module _ (releases : List TreeRelease) (plan : IsPlan p) (parts : AreParts p al xs inboxes) where
    -- and that event of the node is the i-th of all
    pub found_event : (n j : ℕ) → place_of counts i ≡ Some (n, j) → slice_get (claimable_events p (state_with p al xs inboxes releases) out) i ≡ slice_get (claims_at p al xs inboxes out n) j
    found_event n j e =
        ap (λ (es : List Event). slice_get es i) (all_claims p al xs inboxes releases out plan parts)
        ∙ found_thing (claims_at p al xs inboxes out) (nodes p) (up_to (nodes p)) (length-up_to (nodes p)) (up_to_at (nodes p)) counts counted i n j e

    -- where the counts find nothing, there is no i-th event
    pub found_none : place_of counts i ≡ None → slice_get (claimable_events p (state_with p al xs inboxes releases) out) i ≡ None
    found_none e =
        ap (λ (es : List Event). slice_get es i) (all_claims p al xs inboxes releases out plan parts)
        ∙ no_thing (claims_at p al xs inboxes out) (nodes p) (up_to (nodes p)) (length-up_to (nodes p)) (up_to_at (nodes p)) counts counted i e

-- where a list begins with one event, a number of 1 or more finds in it what one less finds in the rest
pub one_past : (e : Event) (es rest : List Event) (left : ℕ) (r : Nth) → es ≡ e ∷ rest → 0 < left → IsNth rest (left - 1) r → IsNth es left r
one_past e es rest left r split some h = subst (λ fs. IsNth fs left r) (sym split) (nth_past (e ∷ []) rest left (left - 1) r (omega arith) h)
