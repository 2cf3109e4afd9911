-- A node as a value: its kin, its book, and what it holds of each wave.
use Rattle.std.specs.Prelude.{◌≡◌, ◌≢◌, refl, ℕ, suc, ◌++◌, option_map, ⊤, ◌≤◌, Bool, true, false, ◌&&◌, ◌==◌, cond, List, [], ◌∷◌, map, length, Option, Some, None}
use Rattle.std.specs.List.{AllByRecursion, list_any}
use Rattle.std.specs.Coded.{Coded, code_by, coded×, coded_list, coded_option, coded_ℕ}
use Rattle.rank_set.specs.Ranks.{Ranks, IsSubset, size}
use Rattle.overlay_setup.specs.NodeSets.{In}
use Rattle.stat_plan.specs.Plans.{Plan, IsUnder, daemons, front, is_front, is_related, mode, stream_ranks, waves_at}
use Rattle.stat_plan.specs.Machine.Kin.{Kin}
use Rattle.stat_plan.specs.Machine.Waves.{Wave, Open, Closed, Book, is_running, ticks}
use Rattle.stat_plan.specs.declared.machine.Timer.{Timer}
use Rattle.stat_plan.specs.declared.machine.Timer.TheVariants.{Off, Running, Fired}
use Rattle.overlay_event.specs.declared.event.Event.{Event}
use Rattle.overlay_event.specs.declared.event.Event.TheVariants.{Sample, Recv, Tick, Lose}
use Rattle.loss_adoption.specs.NodeKins.{IsKinOf, NodeKin, coded_kin}
use Rattle.wave_resend.specs.Books.{WaveAt, book_of, keys_of}
use Rattle.wave_resend.specs.Codes.{coded_waves}
use Rattle.merge_filter.specs.Contributions.{Contrib, IsPartialMerge, coded_contrib, contrib, coverage_of}
use Rattle.prefix_tree.specs.Tree.{Tree}
use Rattle.packet_frame.specs.declared.packet.Packet.{Packet as FramePacket}
use Rattle.packet_frame.specs.declared.packet.Packet.TheVariants.{Up as FrameUp, Done as FrameDone, Attach as FrameAttach, Down as FrameDown}
use Rattle.overlay_core.specs.Nodes.{Node, Outcome, Packet, Up, Done, Attach, Down, Release, handled}
use Rattle.overlay_core.specs.TreeReleases.{AreNumberedInOrder, TreeRelease, bare_releases}
use Rattle.overlay_core.specs.Machine.{next_sample, is_wave}
use Rattle.overlay_core.specs.History.{of_wave}
use Rattle.overlay_node.specs.Frames.{IsFrame, packet_of}

-- What a node holds of a wave besides its book: what has come in, none if the wave has ended; and how many releases of the wave
-- there were at this node.
pub record HeldView : Type 0 where
  pub stream : ℕ
  pub wave : ℕ
  pub part : Option Contrib
  pub release_count : ℕ

-- a node: its number, its kin, its book, what it holds of each wave, and how many events it has done
pub record NodeView : Type 0 where
  pub number : ℕ
  pub kin : Kin
  pub book : List WaveAt
  pub held : List HeldView
  pub count : ℕ

-- its number with its kin
abbrev pub node_kin : NodeView → NodeKin
node_kin v = record { node = v.number; kin = v.kin }

-- the machine's node
abbrev pub node_of : NodeView → Node
node_of v = record { kin = v.kin; book = book_of v.book; count = v.count }

-- the wave of each thing held, by stream and wave
abbrev pub held_keys : List HeldView → List (ℕ × ℕ)
held_keys hs = map (λ h. (h.stream, h.wave)) hs

-- whether it is held of this wave
abbrev pub is_held_of : ℕ → ℕ → HeldView → Bool
is_held_of s w h = (h.stream == s) && (h.wave == w)

-- how many releases of a wave were counted
abbrev pub release_count_of : List HeldView → ℕ → ℕ → ℕ
release_count_of [] s w = 0
release_count_of (h ∷ hs) s w = cond (is_held_of s w h) h.release_count (release_count_of hs s w)

-- the releases of the waves were counted
abbrev pub Counts : List HeldView → List Release → Type 0
Counts hs rs = (s w : ℕ) → In {X = ℕ × ℕ} (s, w) (held_keys hs) → release_count_of hs s w ≡ length (of_wave s w rs)

-- ---- what holds of a node between its events

-- a timer runs only in streams with a timeout, at most as long as that
abbrev pub TimerFits : Plan → ℕ → Timer → Type 0
TimerFits p s Off = ⊤
TimerFits p s (Running t) = (1 ≤ t) × (t ≤ ticks (mode p s))
TimerFits p s Fired = 1 ≤ ticks (mode p s)

-- What has come in of an open wave is a partial merge of that wave over the ranks that the book covers, among them those that
-- were passed on. Each release so far passed on a new rank, so there are at most as many of them as ranks that were passed on;
-- only the front end releases anything.
pub record OpenFits (p : Plan) (n : ℕ) (h : HeldView) (covered sent : Ranks) (timer : Timer) : Type 0 where
  pub part : Contrib
  pub is : h.part ≡ Some part
  pub stream : part.stream ≡ h.stream
  pub wave : part.wave ≡ h.wave
  pub merge : IsPartialMerge p part
  pub covers : coverage_of part ≡ covered
  pub within : IsSubset sent covered
  pub within_limit : h.release_count ≤ size sent
  pub at_front : is_front p n ≡ false → h.release_count ≡ 0
  pub timer_fits : TimerFits p h.stream timer

-- of a wave that has ended nothing is held
abbrev pub HeldFits : Plan → ℕ → HeldView → Wave → Type 0
HeldFits p n h (Open covered sent timer) = OpenFits p n h covered sent timer
HeldFits p n h Closed = h.part ≡ None

-- what is held of each wave fits the book
abbrev pub AreHeldFits : Plan → ℕ → Book → List HeldView → Type 0
AreHeldFits p n book hs = AllByRecursion (λ h. HeldFits p n h (book h.stream h.wave)) hs

-- it is a node of the plan, and has each wave of the streams that it serves in its book and among what it holds
pub record IsNodeOf (p : Plan) (v : NodeView) : Type 0 where
  pub kin : IsKinOf p (node_kin v)
  pub keys : keys_of v.book ≡ waves_at p v.number
  pub held_keys : held_keys v.held ≡ waves_at p v.number
  pub held : AreHeldFits p v.number (book_of v.book) v.held

-- ---- which events a node may handle

-- A packet from m is of a wave that the node has; ranks that come up are ranks of the stream; a new child is a descendant; and a
-- lost node is an ancestor or a descendant, but not the front end.
abbrev pub MayReceive : Plan → ℕ → ℕ → Packet → Type 0
MayReceive p n m (Up s w set) = In {X = ℕ × ℕ} (s, w) (waves_at p n) × IsSubset set (stream_ranks p s)
MayReceive p n m (Done s w) = In {X = ℕ × ℕ} (s, w) (waves_at p n)
MayReceive p n m Attach = IsUnder p m n
MayReceive p n m Down = (is_related p n m ≡ true) × (m ≢ front p)

-- the same of a packet with its tree, which is a partial merge of the plan
abbrev pub MayTake : Plan → ℕ → ℕ → FramePacket Tree → Type 0
MayTake p n m (FrameUp s w t) = In {X = ℕ × ℕ} (s, w) (waves_at p n) × IsPartialMerge p (contrib s w t)
MayTake p n m (FrameDone s w) = In {X = ℕ × ℕ} (s, w) (waves_at p n)
MayTake p n m FrameAttach = IsUnder p m n
MayTake p n m FrameDown = (is_related p n m ≡ true) × (m ≢ front p)

-- The event is one of the node's that may come next there, and there is a frame exactly if one is received.
abbrev pub MayHandle : Plan → NodeView → Event → Option (List ℕ) → Type 0
MayHandle p v (Sample n s w) None = (n ≡ v.number) × In n (daemons p s) × (is_wave (next_sample p (node_of v) s) w ≡ true)
MayHandle p v (Sample n s w) (Some bytes) = ⊥
MayHandle p v (Recv n m) None = ⊥
MayHandle p v (Recv n m) (Some bytes) = (n ≡ v.number) × IsFrame p bytes × MayReceive p v.number m (packet_of bytes)
MayHandle p v (Tick n) None = n ≡ v.number
MayHandle p v (Tick n) (Some bytes) = ⊥
MayHandle p v (Lose n) frame = ⊥

-- the packet that an event takes off a link, with its sender
abbrev pub received_with : Event → Option (List ℕ) → Option (ℕ × Packet)
received_with (Sample n s w) frame = None
received_with (Recv n m) None = None
received_with (Recv n m) (Some bytes) = Some (m, packet_of bytes)
received_with (Tick n) frame = None
received_with (Lose n) frame = None

-- ---- what a node does with an event

-- the machine's outcome of an event of a node, with the packet that it receives
abbrev pub outcome_at : Plan → NodeView → Event → Option (List ℕ) → Outcome
outcome_at p v e frame = handled p v.number (node_of v) e (received_with e frame)

-- the new node is the machine's node after the event
abbrev pub IsNodeAfter : Plan → NodeView → NodeView → Event → Option (List ℕ) → Type 0
IsNodeAfter p old new e frame = (o : Outcome) → o ≡ outcome_at p old e frame
    → ◌≡◌ {A = Node} (node_of new) (record { kin = o.kin; book = o.work.book; count = suc old.count })

-- the releases go on with the numbers of those that were counted
abbrev pub ContinueNumbers : List HeldView → List TreeRelease → Type 0
ContinueNumbers hs more = (earlier : List Release) → Counts hs earlier → AreNumberedInOrder earlier more

-- the releases were counted in addition
abbrev pub CountMore : List HeldView → List HeldView → List TreeRelease → Type 0
CountMore old new more = (earlier : List Release) → Counts old earlier → Counts new (earlier ++ bare_releases more)

-- ---- what may come next at a node

-- the wave of a node's next sample of a stream
abbrev pub next_wave : Plan → NodeView → ℕ → Option ℕ
next_wave p v s = option_map (λ (u : ℕ × ℕ). u.1) (next_sample p (node_of v) s)

-- whether a timer of the node runs
abbrev pub has_running : Plan → NodeView → Bool
has_running p v = list_any (λ (u : ℕ × ℕ). is_running (book_of v.book u.0 u.1)) (waves_at p v.number)

-- ---- codes, by which a value is stored

abbrev pub coded_held : Coded HeldView
coded_held = code_by (ℕ × (ℕ × (Option Contrib × ℕ))) (coded× coded_ℕ (coded× coded_ℕ (coded× (coded_option coded_contrib) coded_ℕ)))
    (λ h. (h.stream, (h.wave, (h.part, h.release_count)))) (λ c. record { stream = c.0; wave = c.1.0; part = c.1.1.0; release_count = c.1.1.1 }) (λ _. refl)

abbrev pub coded_node : Coded NodeView
coded_node = code_by (ℕ × (Kin × (List WaveAt × (List HeldView × ℕ)))) (coded× coded_ℕ (coded× coded_kin (coded× coded_waves (coded× (coded_list coded_held) coded_ℕ))))
    (λ n. (n.number, (n.kin, (n.book, (n.held, n.count))))) (λ c. record { number = c.0; kin = c.1.0; book = c.1.1.0; held = c.1.1.1.0; count = c.1.1.1.1 }) (λ _. refl)
