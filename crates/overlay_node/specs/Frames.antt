-- Packets as the bytes of their frames.
use Rattle.std.specs.Prelude.{◌≡◌, ℕ, List, length, Result, Ok, Err}
use Rattle.prefix_tree.specs.Tree.{Tree, tree_of}
use Rattle.stat_plan.specs.Plans.{Plan, samples}
use Rattle.packet_frame.specs.declared.packet.Packet.{Packet as FramePacket}
use Rattle.packet_frame.specs.declared.packet.Packet.TheVariants.{Up as FrameUp, Done as FrameDone, Attach as FrameAttach, Down as FrameDown}
use Rattle.packet_frame.specs.Fields.{Refusal}
use Rattle.packet_frame.specs.Reading.{first_of}
use Rattle.packet_frame.specs.Sending.{spelling_of}
use Rattle.packet_frame.specs.Sent.{as_packet, packet_map}
use Rattle.overlay_core.specs.Nodes.{Packet, Up, Done, Attach, Down}

-- a packet with what goes over the link: the tree of the wave's samples over the ranks that go up
abbrev pub tree_packet : Plan → Packet → FramePacket Tree
tree_packet p (Up s w set) = FrameUp s w (tree_of (samples p s w) set)
tree_packet p (Done s w) = FrameDone s w
tree_packet p Attach = FrameAttach
tree_packet p Down = FrameDown

-- the machine's packet: of the tree, the ranks that it covers
abbrev pub bare_packet : FramePacket Tree → Packet
bare_packet (FrameUp s w t) = Up s w t.coverage
bare_packet (FrameDone s w) = Done s w
bare_packet FrameAttach = Attach
bare_packet FrameDown = Down

-- the machine's packet of one that was read, where `tree` says what its tree is
abbrev pub packet_view : {X : Type 0} → (X → Tree) → FramePacket X → Packet
packet_view tree packet = bare_packet (packet_map tree packet)

-- the packet that was read, bare; where none was, it doesn't matter
abbrev pub packet_in : Result (FramePacket Tree × ℕ) Refusal → Packet
packet_in (Ok x) = bare_packet x.0
packet_in (Err e) = Down

-- the packet that a frame brings
unfoldable pub packet_of : List ℕ → Packet
packet_of bytes = packet_in (as_packet (first_of bytes))

-- The bytes are the one frame of the packet, with the tree of the wave's samples over the ranks that go up; and they are read as
-- that packet, to the last byte.
pub record IsFrameOf (p : Plan) (q : Packet) (bytes : List ℕ) : Type 0 where
  pub spelled : bytes ≡ spelling_of 2 (tree_packet p q)
  pub read : as_packet (first_of bytes) ≡ Ok (tree_packet p q, length bytes)

-- they are the frame of some packet
abbrev pub IsFrame : Plan → List ℕ → Type 0
IsFrame p bytes = IsFrameOf p (packet_of bytes) bytes
