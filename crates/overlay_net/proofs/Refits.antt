-- A net as a whole, where a place or an inbox is another one that is seen as the same.
use Rattle.std.proofs.Common.{◌≡◌, ◌∙◌, ℕ, zero, suc, Bool, List, [], ◌∷◌, map, length, slice_get, slice_set, Some, refl, sym, ap, subst, inl, inr}
use Rattle.std.proofs.lemmas.Bool.{cases_Bool}
use Rattle.std.proofs.lemmas.Option.{none-some}
use Rattle.std.specs.List.{AllByRecursion}
use Rattle.stat_plan.specs.Plans.{Plan}
use Rattle.overlay_event.specs.declared.event.Event.{Event}
use Rattle.overlay_core.specs.Machine.{State}
use Rattle.overlay_core.specs.Runs.{IsLegal, after}
use Rattle.overlay_core.specs.TreeReleases.{AreNumberedInOrder, TreeRelease, bare_releases}
use Rattle.overlay_node.specs.Frames.{IsFrame, packet_of}
use Rattle.overlay_node.specs.NodeViews.{NodeView, IsNodeOf}
use Rattle.overlay_node.specs.Outputs.{ReleaseFits}
use Rattle.node_inbox.specs.Inboxes.{IsInbox, is_waiting, queue_of}
use Rattle.node_inbox.specs.Sends.{inbox_at, is_alive}
use Rattle.overlay_net.specs.Inboxes.{FrameInbox}
use Rattle.overlay_net.specs.Nets.{NetView, IsReachedBy, node_at, state_of, state_with}
use Rattle.overlay_net.specs.Places.{PlaceView, nodes_in, whole_inbox, whole_inboxes}
use Rattle.overlay_net.specs.Events.{AreParts}
use Rattle.overlay_net.proofs.PartsInvariant.{none_where_quiet, some_where_waiting}

-- ---- lists with a place set

-- the nodes, where a place is set
pub nodes_set : (ps : List PlaceView) (n : ℕ) (x : PlaceView) → nodes_in (slice_set ps n x) ≡ slice_set (nodes_in ps) n x.node
nodes_set [] n x = refl
nodes_set (y ∷ ys) zero x = refl
nodes_set (y ∷ ys) (suc n) x = ap (λ l. y.node ∷ l) (nodes_set ys n x)

-- an element that is set to what it is
pub set_same : {X : Type 0} (xs : List X) (n : ℕ) (x : X) → slice_get xs n ≡ Some x → slice_set xs n x ≡ xs
set_same [] n x at = absurd (none-some x at)
set_same (y ∷ ys) zero x at = let e : Some y ≡ Some x = at in let s : y ≡ x = cc in ap (λ z. z ∷ ys) (sym s)
set_same (y ∷ ys) (suc n) x at = ap (λ l. y ∷ l) (set_same ys n x at)

-- the last one counts
pub set_twice : {X : Type 0} (xs : List X) (n : ℕ) (x z : X) → slice_set (slice_set xs n x) n z ≡ slice_set xs n z
set_twice [] n x z = refl
set_twice (y ∷ ys) zero x z = refl
set_twice (y ∷ ys) (suc n) x z = ap (λ l. y ∷ l) (set_twice ys n x z)

-- the whole inboxes, where a place is set to one that leaves them alike
pub whole_set : (ps : List PlaceView) (boxes : List FrameInbox) (n : ℕ) (x y : PlaceView) → ((box : FrameInbox) → whole_inbox x box ≡ whole_inbox y box) → whole_inboxes (slice_set ps n x) boxes ≡ whole_inboxes (slice_set ps n y) boxes
whole_set [] boxes n x y same = refl
whole_set (z ∷ zs) [] zero x y same = refl
whole_set (z ∷ zs) [] (suc n) x y same = refl
whole_set (z ∷ zs) (box ∷ boxes) zero x y same = ap (λ b. b ∷ whole_inboxes zs boxes) (same box)
whole_set (z ∷ zs) (box ∷ boxes) (suc n) x y same = ap (λ l. whole_inbox z box ∷ l) (whole_set zs boxes n x y same)

-- ---- the state and the parts, queue by queue

-- the same packets wait on each link
abbrev pub AreLike : List FrameInbox → List FrameInbox → Type 0
AreLike ib ic = (b a : ℕ) → map packet_of (queue_of (inbox_at ic b) a) ≡ map packet_of (queue_of (inbox_at ib b) a)

-- the same nodes, as the machine sees them
abbrev pub AreNodesLike : Plan → List NodeView → List NodeView → Type 0
AreNodesLike p xs ys = (n : ℕ) → node_at p ys n ≡ node_at p xs n

pub state_like : (p : Plan) (al : List Bool) (xs ys : List NodeView) (ib ic : List FrameInbox) (rs : List TreeRelease) → AreNodesLike p xs ys → AreLike ib ic → ◌≡◌ {A = State} (state_with p al ys ic rs) (state_with p al xs ib rs)
state_like p al xs ys ib ic rs same like = λ i. record {
  alive = is_alive al;
  node = λ n. same n i;
  link = λ m n. like n m i;
  releases = bare_releases rs;
}

none_mapped : {X Y : Type 0} (f : X → Y) (xs : List X) → map f xs ≡ [] → xs ≡ []
none_mapped f [] e = refl
none_mapped f (x ∷ xs) e = absurd (cc)

-- the parts are those of the plan still
pub parts_like : (p : Plan) (al : List Bool) (xs ys : List NodeView) (ib ic : List FrameInbox) → AreParts p al xs ib → length ys ≡ length xs → length ic ≡ length ib
    → ((n : ℕ) (y : NodeView) → slice_get ys n ≡ Some y → (y.number ≡ n) × IsNodeOf p y)
    → AreLike ib ic → ((b a : ℕ) → AllByRecursion (IsFrame p) (queue_of (inbox_at ic b) a)) → ((b : ℕ) → IsInbox (inbox_at ic b)) → AreParts p al ys ic
parts_like p al xs ys ib ic parts len count each like frames inboxes = record {
  node_count = len ∙ parts.node_count;
  inbox_count = count ∙ parts.inbox_count;
  alive_count = parts.alive_count;
  node = each;
  packets = λ m n. frames n m;
  senders = λ m n waits. elim (cases_Bool (is_waiting (inbox_at ib n) m)) [
    | inl t ↦ parts.senders m n t
    | inr f ↦ absurd (some_where_waiting (inbox_at ic n) m (inboxes n).sent waits (none_mapped packet_of (queue_of (inbox_at ic n) m) (like n m ∙ ap (map packet_of) (none_where_quiet (inbox_at ib n) m f))))
  ];
  sent = λ n. (inboxes n).sent;
  increasing = λ n. (inboxes n).increasing;
}

-- a journal that leads to a net leads to one of the same state and releases
pub reached_like : (v w : NetView) (journal : List Event) → w.plan ≡ v.plan → ◌≡◌ {A = State} (state_of w) (state_of v) → w.releases ≡ v.releases → IsReachedBy v journal → IsReachedBy w journal
reached_like v w journal plan state releases h = record {
  legal = subst (λ p. IsLegal p journal) (sym plan) h.legal;
  state = state ∙ h.state ∙ ap (λ p. after p journal) (sym plan);
  numbered = subst (AreNumberedInOrder []) (sym releases) h.numbered;
  trees = subst (λ p. AllByRecursion (ReleaseFits p) w.releases) (sym plan) (subst (AllByRecursion (ReleaseFits v.plan)) (sym releases) h.trees);
}
