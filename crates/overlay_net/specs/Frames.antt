-- The bytes that go over the links of a net.
use Rattle.std.specs.Prelude.{ℕ, List}
use Rattle.stat_plan.specs.Plans.{Plan}
use Rattle.packet_frame.specs.Sending.{spelling_of}
use Rattle.overlay_core.specs.Nodes.{Packet}
use Rattle.overlay_node.specs.Frames.{tree_packet}

-- the bytes of a packet's frame: its spelling in version 2, with the tree of the wave's samples over the ranks that go up
abbrev pub frame_bytes : Plan → Packet → List ℕ
frame_bytes p q = spelling_of 2 (tree_packet p q)
