-- The counts of the nodes' events that may be claimed, node by node.
use Rattle.std.proofs.Common.{◌≡◌, ◌<◌, ◌≤◌, ◌+◌, ℕ, Bool, List, ◌∷◌, drop, length, get_or, slice_get, slice_set, Some, subst, arith}
use Rattle.std.proofs.lemmas.List.{drop_more, length-map}
use Rattle.overlay_setup.specs.NodeSets.{member}
use Rattle.overlay_setup.specs.declared.topology.TheConstants.{NODE_LIMIT}
use Rattle.stat_plan.specs.Invariants.{IsPlan}
use Rattle.stat_plan.specs.Plans.{Plan, nodes, AreNodes}
use Rattle.stat_plan.proofs.FirstOver.{node_below}
use Rattle.stat_plan.proofs.Ascending.{increasing_from_sorted, ascending_within_limit}
use Rattle.count_tree.proofs.Counted.{counted_more}
use Rattle.overlay_node.specs.NodeViews.{NodeView}
use Rattle.event_claims.specs.Claims.{Outs}
use Rattle.node_inbox.specs.Inboxes.{senders_of}
use Rattle.node_inbox.specs.Sends.{inbox_at}
use Rattle.overlay_net.specs.Inboxes.{FrameInbox}
use Rattle.overlay_net.specs.Nets.{claims_at}
use Rattle.overlay_net.specs.Events.{AreCountedBut, AreParts}
use Rattle.overlay_net.proofs.Listed.{listed_waits}

-- the senders of whom something waits are nodes, so not many
pub senders_within_limit : (p : Plan) (al : List Bool) (xs : List NodeView) (ib : List FrameInbox) (n : ℕ) → IsPlan p → AreParts p al xs ib → length (inbox_at ib n) ≤ 512
senders_within_limit p al xs ib n plan parts =
    let limit : nodes p ≤ NODE_LIMIT = plan.topology.within_limit in
    let all : 0 + length (senders_of (inbox_at ib n)) ≤ nodes p =
    ascending_within_limit (senders_of (inbox_at ib n)) 0 (nodes p) (omega arith)
    (increasing_from_sorted (senders_of (inbox_at ib n)) (parts.increasing n))
    (λ m i. (omega arith, parts.senders m n (listed_waits (inbox_at ib n) m i))) in
    let same : length (senders_of (inbox_at ib n)) ≡ length (inbox_at ib n) = length-map (inbox_at ib n) (λ e. e.0) in
    omega (arith, limit, all, same)

module _ (p : Plan) (al : List Bool) (xs : List NodeView) (ib : List FrameInbox) (out : Outs) where
  -- one node more is counted
  pub node_counted : (counts : List ℕ) (n : ℕ) (rest : List ℕ) (count : ℕ) → n < nodes p → count ≡ length (claims_at p al xs ib out n) → AreCountedBut (n ∷ rest) p al xs ib out counts → AreCountedBut rest p al xs ib out (slice_set counts n count)
  node_counted counts n rest count lt is h = counted_more (claims_at p al xs ib out) (nodes p) (λ b. member b rest) counts n count lt is h

  -- the next of the nodes is counted
  pub next_counted : (counts numbers : List ℕ) (k count : ℕ) → AreNodes p numbers → k < length numbers → count ≡ length (claims_at p al xs ib out (get_or numbers k 0)) → AreCountedBut (drop k numbers) p al xs ib out counts
      → AreCountedBut (drop (k + 1) numbers) p al xs ib out (slice_set counts (get_or numbers k 0) count)
  next_counted counts numbers k count all lt counted h =
      node_counted counts (get_or numbers k 0) (drop (k + 1) numbers) count (node_below p numbers k all lt) counted
      (subst (λ ns. AreCountedBut ns p al xs ib out counts) (drop_more numbers k 0 lt) h)

  -- the counts of the first nodes are theirs
  pub record AreCountedBelow (counts : List ℕ) (k : ℕ) : Type 0 where
    pub node_count : length counts ≡ nodes p
    pub events : (b : ℕ) → b < k → slice_get counts b ≡ Some (length (claims_at p al xs ib out b))
