-- The state after an event, by its parts.
use Rattle.std.proofs.Common.{◌≡◌, ◌∙◌, ◌<◌, ℕ, suc, Bool, true, false, ◌==◌, ◌&&◌, cond, List, [], ◌∷◌, ◌++◌, map, length, slice_get, slice_set, Option, Some, None, refl, sym, ap, eqb-true}
use Rattle.std.proofs.lemmas.Bool.{eqb-false}
use Rattle.std.proofs.lemmas.List.{map-append}
use Rattle.std.proofs.lemmas.Option.{slice_get_within}
use Rattle.stat_plan.specs.Plans.{Plan}
use Rattle.stat_plan.specs.Machine.Waves.{put_at}
use Rattle.overlay_core.specs.Nodes.{Node, Outcome}
use Rattle.overlay_core.specs.Machine.{State, start_node, commit, with_link}
use Rattle.stat_plan.specs.Machine.Overlays.{to}
use Rattle.count_tree.proofs.Counted.{set_here, set_else}
use Rattle.overlay_core.specs.TreeReleases.{TreeRelease, bare_release, bare_releases}
use Rattle.overlay_node.specs.Frames.{packet_of}
use Rattle.overlay_node.specs.Outputs.{packets_of}
use Rattle.overlay_node.specs.NodeViews.{NodeView, node_of}
use Rattle.overlay_net.specs.Inboxes.{FrameInbox}
use Rattle.node_inbox.specs.Inboxes.{queue_of}
use Rattle.node_inbox.specs.Sends.{inbox_at, is_alive, packets_to}
use Rattle.overlay_net.specs.Nets.{node_at, state_with}

-- bare, what goes to b
pub bare_to : (b : ℕ) (sends : List (ℕ × (List ℕ))) → map packet_of (packets_to b sends) ≡ to b (packets_of sends)
bare_to b [] = refl
bare_to b (v ∷ vs) = go (v.0 == b) (bare_to b vs)
  where
    go : (t : Bool) → map packet_of (packets_to b vs) ≡ to b (packets_of vs) → map packet_of (cond t (v.1 ∷ packets_to b vs) (packets_to b vs)) ≡ cond t (packet_of v.1 ∷ to b (packets_of vs)) (to b (packets_of vs))
    go true rest = ap (λ l. packet_of v.1 ∷ l) rest
    go false rest = rest

-- a node that replaces another one
pub node_set : (p : Plan) (xs : List NodeView) (n : ℕ) (y : NodeView) (v : Node) → n < length xs → node_of y ≡ v → (b : ℕ) → node_at p (slice_set xs n y) b ≡ put_at (node_at p xs) n v b
node_set p xs n y v below is b = go (b == n) refl
  where
    shown : ℕ → Option NodeView → Node
    shown a o = elim o [ None ↦ start_node p a | Some x ↦ node_of x ]

    go : (t : Bool) → (b == n) ≡ t → node_at p (slice_set xs n y) b ≡ cond t v (node_at p xs b)
    go true t = let e : b ≡ n = eqb-true b n t in
        ap (λ a. node_at p (slice_set xs n y) a) e ∙ ap (shown n) (set_here xs n y below) ∙ is
    go false t = ap (shown b) (set_else xs n b y (eqb-false b n t))

pub and_false : (u : Bool) → (u && false) ≡ false
and_false true = refl
and_false false = refl

module _ (p : Plan) (al : List Bool) (xs : List NodeView) (rs : List TreeRelease) (n : ℕ) where
  -- The first packet of a link was taken.
  pub popped_state : (ib ic : List FrameInbox) (m : ℕ) (rest : List (List ℕ))
      → queue_of (inbox_at ic n) m ≡ rest
      → ((a b : ℕ) → ((b == n) && (a == m)) ≡ false → queue_of (inbox_at ic b) a ≡ queue_of (inbox_at ib b) a)
      → ◌≡◌ {A = State} (with_link (state_with p al xs ib rs) m n (map packet_of rest)) (state_with p al xs ic rs)
  unfolding with_link
  popped_state ib ic m rest here else = λ i. record {
    alive = is_alive al;
    node = node_at p xs;
    link = λ a b. links a b i;
    releases = bare_releases rs;
  }
    where
      links : (a b : ℕ) → cond ((a == m) && (b == n)) (map packet_of rest) (map packet_of (queue_of (inbox_at ib b) a)) ≡ map packet_of (queue_of (inbox_at ic b) a)
      links a b = go (a == m) (b == n) refl refl
        where
          go : (t u : Bool) → (a == m) ≡ t → (b == n) ≡ u → cond (t && u) (map packet_of rest) (map packet_of (queue_of (inbox_at ib b) a)) ≡ map packet_of (queue_of (inbox_at ic b) a)
          go true true et eu =
              let ea : a ≡ m = eqb-true a m et in
              let eb : b ≡ n = eqb-true b n eu in
              ap (map packet_of) (sym here ∙ (λ i. queue_of (inbox_at ic (sym eb i)) (sym ea i)))
          go true false et eu = ap (map packet_of) (sym (else a b (λ i. eu i && et i)))
          go false u et eu = ap (map packet_of) (sym (else a b ((λ i. eu i && et i) ∙ and_false u)))

  -- The event's node was replaced, and what it sent was added to the queues.
  pub commit_state : (ib ic : List FrameInbox) (x y : NodeView) (o : Outcome) (sends : List (ℕ × (List ℕ))) (more : List TreeRelease)
      → slice_get xs n ≡ Some x
      → ◌≡◌ {A = Node} (node_of y) (record { kin = o.kin; book = o.work.book; count = suc x.count })
      → packets_of sends ≡ o.work.sends
      → bare_releases more ≡ o.work.releases
      → ((a b : ℕ) → queue_of (inbox_at ic b) a ≡ cond ((a == n) && is_alive al b) (queue_of (inbox_at ib b) a ++ packets_to b sends) (queue_of (inbox_at ib b) a))
      → ◌≡◌ {A = State} (commit (state_with p al xs ib rs) n o) (state_with p al (slice_set xs n y) ic (rs ++ more))
  unfolding commit
  commit_state ib ic x y o sends more at after sent released queues = λ i. record {
    alive = is_alive al;
    node = λ a. node_now a i;
    link = λ a b. links a b i;
    releases = ((λ j. bare_releases rs ++ sym released j) ∙ sym (map-append bare_release rs more)) i;
  }
    where
      before : node_at p xs n ≡ node_of x
      before = ap (λ (w : Option NodeView). elim w [ None ↦ start_node p n | Some v ↦ node_of v ]) at

      leaves : ◌≡◌ {A = Node} (node_of y) (record { kin = o.kin; book = o.work.book; count = suc (node_at p xs n).count })
      leaves = after ∙ (λ i. record { kin = o.kin; book = o.work.book; count = suc (sym before i).count })

      node_now : (a : ℕ) → put_at (node_at p xs) n (record { kin = o.kin; book = o.work.book; count = suc (node_at p xs n).count }) a ≡ node_at p (slice_set xs n y) a
      node_now a = sym (node_set p xs n y _ (slice_get_within xs n x at) leaves a)

      links : (a b : ℕ) → cond ((a == n) && is_alive al b) (map packet_of (queue_of (inbox_at ib b) a) ++ to b o.work.sends) (map packet_of (queue_of (inbox_at ib b) a)) ≡ map packet_of (queue_of (inbox_at ic b) a)
      links a b = both ((a == n) && is_alive al b) ∙ sym (ap (map packet_of) (queues a b))
        where
          both : (t : Bool) → cond t (map packet_of (queue_of (inbox_at ib b) a) ++ to b o.work.sends) (map packet_of (queue_of (inbox_at ib b) a)) ≡ map packet_of (cond t (queue_of (inbox_at ib b) a ++ packets_to b sends) (queue_of (inbox_at ib b) a))
          both true = ap (λ l. map packet_of (queue_of (inbox_at ib b) a) ++ l) (sym (bare_to b sends ∙ ap (to b) sent)) ∙ sym (map-append packet_of (queue_of (inbox_at ib b) a) (packets_to b sends))
          both false = refl
