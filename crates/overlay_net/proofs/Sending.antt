-- A net and a claim may go to another thread, where their trees may.
use denote.RattleType.{RattleType}
use denote.Ref.{NamedLft}
use denote.Param.Send.{IsSend, recorded_send, sendable, struct_send, view_send}
use denote.Struct.Declared.{shape}
use Rattle.std.proofs.Crossing.{crosses}
use Rattle.prefix_tree.specs.declared.PrefixTree.{Ghosts}
use Rattle.count_tree.proofs.CountTree.TheSendSync as counts
use Rattle.node_inbox.proofs.inbox.Inbox.TheSendSync as inbox
use Rattle.overlay_core.proofs.release.Release.TheSendSync as release
use Rattle.overlay_node.proofs.node.Node.TheSendSync as node
use Rattle.packet_frame.proofs.frame.Frame.TheSendSync as frame
use Rattle.stat_plan.proofs.PlanSharing.{plan_sync}
use Rattle.overlay_net.proofs.claimed.Work.TheSendSync as work
use Rattle.overlay_net.specs.contracts.claimed.Claimed as Claimed
use Rattle.overlay_net.specs.contracts.net.Net as Net
use Rattle.overlay_net.specs.contracts.net.Net.TheInside as inside
use Rattle.overlay_net.specs.contracts.nodes.NetNodes as NetNodes
use Rattle.overlay_net.specs.contracts.place.Place as Place
use Rattle.overlay_net.specs.contracts.state.NetState as NetState

-- a place: a snapshot is nothing at all
place_send : (T : RattleType) (g : Ghosts T.Denot) → IsSend T → IsSend (Place.the_row T g)
place_send T g s = search (sendable, crosses, node.the_send) depth 40

pub claimed_send : (T : RattleType) (g : Ghosts T.Denot) → IsSend T → IsSend (Claimed.the_row T g)
claimed_send T g s = search (sendable, crosses, node.the_send, frame.the_send, work.the_send) depth 40

nodes_send : (T : RattleType) (g : Ghosts T.Denot) → IsSend T → IsSend (NetNodes.the_field T g).row
nodes_send T g s = search (sendable, crosses, place_send, inbox.the_send, frame.the_send, counts.the_send) depth 40

state_send : (T : RattleType) (g : Ghosts T.Denot) → IsSend T → IsSend (NetState.the_field T g).row
state_send T g s = search (sendable, crosses, nodes_send, release.the_send, counts.the_send) depth 40

pub net_send : (κ : NamedLft) (T : RattleType) (g : Ghosts T.Denot) → IsSend T → IsSend (Net.the_row κ T g)
net_send κ T g s =
    view_send (inside.the_row κ T g) _ _ _ _
    (recorded_send (inside.the_field κ T g).row _ _ (inside.the_type κ T g).to_one
    (struct_send (shape (inside.the_type κ T g)) (search (sendable, plan_sync) depth 20, (state_send T g s, (search sendable depth 20, tt)))))
