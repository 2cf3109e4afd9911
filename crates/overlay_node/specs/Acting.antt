-- What a node's events do to its book, to what it holds, to what it sends and to what it releases.
use Rattle.std.specs.Prelude.{◌≡◌, ◌⊎◌, ⊤, ℕ, zero, suc, Bool, false, ◌&&◌, ◌==◌, cond, if◌then◌else◌, List, [], ◌∷◌, ◌++◌, map, filter, Option, Some, None}
use Rattle.rank_set.specs.Ranks.{Ranks}
use Rattle.prefix_tree.specs.Tree.{Tree, tree_of}
use Rattle.overlay_setup.specs.NodeSets.{In}
use Rattle.stat_plan.specs.Plans.{Plan, ranks, samples, serves}
use Rattle.stat_plan.specs.Machine.Kin.{Kin, after_loss, is_parent, with_child}
use Rattle.stat_plan.specs.Machine.Waves.{Wave, Open, Closed, Book, set_wave, is_closed, is_fired, ticked, covering, growing, unsent}
use Rattle.stat_plan.specs.declared.machine.Act.{Act}
use Rattle.stat_plan.specs.declared.machine.Act.TheVariants.{Hold}
use Rattle.overlay_event.specs.declared.event.Event.{Event}
use Rattle.overlay_event.specs.declared.event.Event.TheVariants.{Sample, Recv, Tick, Lose}
use Rattle.wave_resend.specs.Books.{WaveAt, book_of, keys_of}
use Rattle.merge_filter.specs.Contributions.{Contrib, contrib}
use Rattle.overlay_core.specs.declared.release.Kind.{Kind}
use Rattle.overlay_core.specs.Nodes.{Effects, Packet, Up, Done, Attach, Down, Release, act, act_each, dones, due_at}
use Rattle.stat_plan.specs.Machine.Overlays.{to_parent}
use Rattle.overlay_core.specs.TreeReleases.{AreNumberedInOrder, TreeRelease, bare_releases}
use Rattle.overlay_node.specs.Frames.{packet_of}
use Rattle.overlay_node.specs.Outputs.{Output, OutputFits, packets_of}
use Rattle.overlay_node.specs.NodeViews.{AreHeldFits, Counts, HeldFits, HeldView, held_keys, is_held_of}
use Rattle.overlay_node.specs.declared.work.NodeWork.{NodeWork}

-- nothing was sent or released yet
abbrev pub no_output : Output
no_output = record { sends = []; releases = [] }

-- the machine's effects, with this book and this output so far
abbrev pub effects_of : List WaveAt → Output → Effects
effects_of b o = record { book = book_of b; sends = packets_of o.sends; releases = bare_releases o.releases }

-- what is sent to a node about a wave that has ended: nothing if it doesn't serve the stream
abbrev pub done_to : Plan → ℕ → ℕ → ℕ → List (ℕ × Packet)
done_to p s w c = cond (serves p c s) ((c, Done s w) ∷ []) []

-- the next release of a wave, with this tree and these lost nodes
abbrev pub release_with : HeldView → Kind → Tree → List ℕ → TreeRelease
release_with h kind tree lost = record { stream = h.stream; wave = h.wave; number = suc h.release_count; kind = kind; tree = tree; lost = lost }

-- the contribution over these ranks that is a partial merge of a plan
abbrev pub partial_merge : Plan → ℕ → ℕ → Ranks → Contrib
partial_merge p s w set = contrib s w (tree_of (samples p s w) set)

-- the index of the first thing held of a wave, and the number of all if there is none
abbrev pub held_index : ℕ → ℕ → List HeldView → ℕ
held_index s w [] = zero
held_index s w (h ∷ hs) = cond (is_held_of s w h) zero (suc (held_index s w hs))

-- ---- the machine's steps, in the middle of an event

-- what is due for a wave in this state
abbrev pub due_as : Plan → ℕ → List ℕ → ℕ → Wave → Act
due_as p n lost s Closed = Hold
due_as p n lost s (Open covered sent timer) = due_at p n lost s covered sent timer

-- a wave is changed
abbrev pub change : ℕ → ℕ → (Wave → Wave) → Effects → Effects
change s w f k = record { book = set_wave k.book s w (f (k.book s w)); sends = k.sends; releases = k.releases }

-- a wave is changed, and then acted on
abbrev pub act_changed : Plan → ℕ → Kin → ℕ → ℕ → (Wave → Wave) → Effects → Effects
act_changed p n kin s w f k = act p n kin s w (change s w f k)

-- a wave in this state ends, which is sent to the children
abbrev pub end_as : Plan → Kin → ℕ → ℕ → Effects → Wave → Effects
end_as p kin s w k Closed = k
end_as p kin s w k (Open covered sent timer) = record { book = set_wave k.book s w Closed; sends = k.sends ++ dones p kin s w; releases = k.releases }

-- a wave ends, which is sent to the children
abbrev pub end : Plan → Kin → ℕ → ℕ → Effects → Effects
end p kin s w k = end_as p kin s w k (k.book s w)

-- a wave is acted on if its timer has run out
abbrev pub act_fired : Plan → ℕ → Kin → ℕ → ℕ → Effects → Effects
act_fired p n kin s w k = cond (is_fired (k.book s w)) (act p n kin s w k) k

-- a step for each of these waves, one after another
abbrev pub each_by : (ℕ → ℕ → Effects → Effects) → List (ℕ × ℕ) → Effects → Effects
each_by does [] k = k
each_by does (v ∷ vs) k = each_by does vs (does v.0 v.1 k)

-- the timers go on by one
abbrev pub tick_all : Effects → Effects
tick_all k = record { book = λ s w. ticked (k.book s w); sends = k.sends; releases = k.releases }

-- the timers go on by one, and the waves whose timers have run out are acted on
abbrev pub tick : Plan → ℕ → Kin → List (ℕ × ℕ) → Effects → Effects
tick p n kin vs k = each_by (act_fired p n kin) vs (tick_all k)

-- what a new child is told of these waves: which of those that it serves have ended
abbrev pub told : Plan → Book → ℕ → List (ℕ × ℕ) → List (ℕ × Packet)
told p book m vs = map (λ v. (m, Done v.0 v.1)) (filter (λ v. is_closed (book v.0 v.1) && serves p m v.0) vs)

-- a new child is told which of these waves have ended
abbrev pub tell : Plan → ℕ → List (ℕ × ℕ) → Effects → Effects
tell p m vs k = record { book = k.book; sends = k.sends ++ told p k.book m vs; releases = k.releases }

-- nothing counts as sent any more, and the new parent is asked to take the node as a child
abbrev pub begin_again : Kin → Effects → Effects
begin_again kin k = record { book = λ s w. unsent (k.book s w); sends = k.sends ++ to_parent kin.parent Attach; releases = k.releases }

-- where the parent was lost, the node begins again
abbrev pub adopt : Bool → Kin → Effects → Effects
adopt parent_lost kin k = if parent_lost then begin_again kin k else k

-- the kin of a node that has received a packet from l
abbrev pub kin_from : Plan → ℕ → Kin → ℕ → Packet → Kin
kin_from p n kin l (Up s w set) = kin
kin_from p n kin l (Done s w) = kin
kin_from p n kin l Attach = with_child kin l
kin_from p n kin l Down = after_loss p n kin l

-- the kin after an event of a node, with what is received
abbrev pub kin_after : Plan → ℕ → Kin → Event → Option (List ℕ) → Kin
kin_after p n kin (Sample m s w) frame = kin
kin_after p n kin (Recv m l) None = kin
kin_after p n kin (Recv m l) (Some bytes) = kin_from p n kin l (packet_of bytes)
kin_after p n kin (Tick m) frame = kin
kin_after p n kin (Lose m) frame = kin

-- the machine's step for what a node of these waves receives from l
abbrev pub receive_step : Plan → ℕ → Kin → List (ℕ × ℕ) → ℕ → Packet → Effects → Effects
receive_step p n kin vs l (Up s w set) k = act_changed p n kin s w (growing set) k
receive_step p n kin vs l (Done s w) k = end p kin s w k
receive_step p n kin vs l Attach k = tell p l vs k
receive_step p n kin vs l Down k = act_each p n (after_loss p n kin l) vs (adopt (is_parent kin.parent l) (after_loss p n kin l) k)

-- the machine's step for an event of a node of these waves, with what is received
abbrev pub step_of : Plan → ℕ → Kin → List (ℕ × ℕ) → Event → Option (List ℕ) → Effects → Effects
step_of p n kin vs (Sample m s w) frame k = act_changed p n kin s w (covering (ranks p n)) k
step_of p n kin vs (Recv m l) None k = k
step_of p n kin vs (Recv m l) (Some bytes) k = receive_step p n kin vs l (packet_of bytes) k
step_of p n kin vs (Tick m) frame k = tick p n kin vs k
step_of p n kin vs (Lose m) frame k = k

-- the pairs of the list are distinct
abbrev pub AreDistinct : List (ℕ × ℕ) → Type 0
AreDistinct [] = ⊤
AreDistinct (v ∷ vs) = (In v vs → ⊥) × AreDistinct vs

-- ---- what holds of each step

-- no release of the wave was added
pub record GivesNothing (h g : HeldView) (rs qs : List TreeRelease) : Type 0 where
  pub release_count : g.release_count ≡ h.release_count
  pub releases : qs ≡ rs

-- one release of the wave was added, with the next number, and was counted
pub record GivesNext (h g : HeldView) (rs qs : List TreeRelease) : Type 0 where
  pub next : TreeRelease
  pub stream : next.stream ≡ h.stream
  pub wave : next.wave ≡ h.wave
  pub number : next.number ≡ suc h.release_count
  pub release_count : g.release_count ≡ suc h.release_count
  pub releases : qs ≡ rs ++ next ∷ []

-- What a step does to what is held of one wave, to the book, and to the output so far. `does` is the machine's step. The book's
-- other waves are as before.
pub record StepsWave (p : Plan) (n : ℕ) (does : Effects → Effects) (h g : HeldView) (b c : List WaveAt) (o q : Output) : Type 0 where
  pub stream : g.stream ≡ h.stream
  pub wave : g.wave ≡ h.wave
  pub keys : keys_of c ≡ keys_of b
  pub others : (x y : ℕ) → ((x == h.stream) && (y == h.wave)) ≡ false → book_of c x y ≡ book_of b x y
  pub fits : HeldFits p n g (book_of c h.stream h.wave)
  pub output : OutputFits p o → OutputFits p q
  pub gives : GivesNothing h g o.releases q.releases ⊎ GivesNext h g o.releases q.releases
  pub work : effects_of c q ≡ does (effects_of b o)

-- What a step does to what is held of all waves, to the book, and to the output so far. `does` is the machine's step.
pub record StepsHeld (p : Plan) (n : ℕ) (does : Effects → Effects) (hs new : List HeldView) (b c : List WaveAt) (o q : Output) : Type 0 where
  pub held_keys : held_keys new ≡ held_keys hs
  pub keys : keys_of c ≡ keys_of b
  pub fits : AreHeldFits p n (book_of c) new
  pub output : OutputFits p o → OutputFits p q
  pub numbers : (earlier : List Release) → Counts hs (earlier ++ bare_releases o.releases) → AreNumberedInOrder earlier o.releases → AreNumberedInOrder earlier q.releases
  pub counts : (earlier : List Release) → Counts hs (earlier ++ bare_releases o.releases) → Counts new (earlier ++ bare_releases q.releases)
  pub work : effects_of c q ≡ does (effects_of b o)

-- What a step does to all that an event changes besides the node's kin. `does` is the machine's step.
abbrev pub Steps : {X : Type 0} → Plan → ℕ → (Effects → Effects) → NodeWork X → NodeWork X → Type 0
Steps p n does old new = StepsHeld p n does old.held.items new.held.items old.work.book new.work.book old.work.effects new.work.effects
