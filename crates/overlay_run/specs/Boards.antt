-- The board of a run: the net, the journal that leads to it, and who has each node out.
use Rattle.std.specs.Prelude.{◌≡◌, ◌≢◌, refl, ℕ, ◌≤◌, Bool, false, List, [], length, slice_get, Option, None, Some}
use Rattle.std.specs.List.{AllByRecursion}
use Rattle.std.specs.Coded.{Coded, code_by, coded×, coded_bool, coded_list, coded_option, coded_ℕ}
use Rattle.stat_plan.specs.Plans.{Plan, nodes}
use Rattle.stat_plan.specs.Codes.{coded_plan}
use Rattle.overlay_event.specs.declared.event.Event.{Event}
use Rattle.overlay_event.specs.declared.event.Event.TheVariants.{Recv, Lose}
use Rattle.board_turn.specs.declared.holding.Holding.{Holding}
use Rattle.overlay_core.specs.Runs.{IsWhole, after}
use Rattle.overlay_core.specs.TreeReleases.{TreeRelease, AreNumberedInOrder, bare_releases}
use Rattle.overlay_node.specs.Outputs.{ReleaseFits}
use Rattle.event_claims.specs.Claims.{MayBeOut, claimable_events}
use Rattle.overlay_net.specs.Codes.{coded_event, coded_net}
use Rattle.overlay_net.specs.Nets.{AllHome, IsReachedBy, NetView, outs_of, state_of}

-- the plan, the net, the committed events in order, who has each node out, and whether the run is stopped
pub record BoardView : Type 0 where
  pub plan : Plan
  pub net : NetView
  pub journal : List Event
  pub holders : List (Option Holding)
  pub stopped : Bool

abbrev pub board_view : Plan → NetView → List Event → List (Option Holding) → Bool → BoardView
board_view p net journal holders stopped = record { plan = p; net = net; journal = journal; holders = holders; stopped = stopped }

-- the events that may be claimed, in order
abbrev pub claimable_of : NetView → List Event
claimable_of v = claimable_events v.plan (state_of v) (outs_of v)

-- this seat has the event's node out with it; the number of the node is n
pub record IsHeldBy (holders : List (Option Holding)) (n seat : ℕ) (e : Event) : Type 0 where
  pub holding : Holding
  pub at : slice_get holders n ≡ Some (Some holding)
  pub seat_is : holding.seat ≡ seat
  pub event_is : holding.event ≡ e

-- The invariant of a board. The journal leads to the net. The events that are out may be out together after it: each is enabled,
-- and while a node is out with a packet, its sender is not out with its own loss. Exactly the nodes that have a holder are out, each
-- with its holder's event. And while a node is out with a packet, no loss of the packet's sender was committed since the claim.
pub record IsBoard (v : BoardView) : Type 0 where
  pub same_plan : v.net.plan ≡ v.plan
  pub usable : v.net.failed ≡ false
  pub reached : IsReachedBy v.net v.journal
  pub out_together : MayBeOut v.net.plan (after v.net.plan v.journal) (outs_of v.net)
  pub holder_count : length v.holders ≡ nodes v.plan
  pub out : (n : ℕ) (h : Holding) → slice_get v.holders n ≡ Some (Some h) → outs_of v.net n ≡ Some h.event
  pub home : (n : ℕ) → slice_get v.holders n ≡ Some None → outs_of v.net n ≡ None
  pub since : (n : ℕ) (h : Holding) → slice_get v.holders n ≡ Some (Some h) → h.since ≤ length v.journal
  pub senders_stay : (n m : ℕ) (h : Holding) → slice_get v.holders n ≡ Some (Some h) → h.event ≡ Recv n m → (i : ℕ) → h.since ≤ i → slice_get v.journal i ≢ Some (Lose m)

-- no node is out, and no event may be claimed
pub record IsDone (v : BoardView) : Type 0 where
  pub home : AllHome v.net
  pub quiet : claimable_of v.net ≡ []

-- a board that workers may leave: unless it is stopped, it is done
abbrev pub HasEnded : BoardView → Type 0
HasEnded v = v.stopped ≡ false → IsDone v

-- The journal is whole, and the releases are exactly those of the state after it. The releases of a wave are numbered in order, and
-- the tree of each is the direct merge of the wave's samples over the ranks that it covers.
pub record IsWholeRun (p : Plan) (journal : List Event) (releases : List TreeRelease) : Type 0 where
  pub whole : IsWhole p journal
  pub released : bare_releases releases ≡ (after p journal).releases
  pub numbered : AreNumberedInOrder [] releases
  pub trees : AllByRecursion (ReleaseFits p) releases

-- ---- codes, by which a value is stored

abbrev coded_holding : Coded Holding
coded_holding = code_by (ℕ × (Event × ℕ)) (coded× coded_ℕ (coded× coded_event coded_ℕ)) (λ h. (h.seat, (h.event, h.since))) (λ c. record { seat = c.0; event = c.1.0; since = c.1.1 }) (λ _. refl)

abbrev pub coded_board : Coded BoardView
coded_board = code_by (Plan × (NetView × (List Event × (List (Option Holding) × Bool)))) (coded× coded_plan (coded× coded_net (coded× (coded_list coded_event) (coded× (coded_list (coded_option coded_holding)) coded_bool))))
    (λ v. (v.plan, (v.net, (v.journal, (v.holders, v.stopped)))))
    (λ c. board_view c.0 c.1.0 c.1.1.0 c.1.1.1.0 c.1.1.1.1)
    (λ _. refl)
