-- The text of a capture: a line for each frame with the offset of its first byte, and below it the rows of its tree.
use Rattle.std.specs.Prelude.{ℕ, ◌+◌, List, [], ◌∷◌, ◌++◌, codes, length, map}
use Rattle.std.specs.Fmt.{decimal}
use Rattle.rank_set.specs.Text.{text_of}
use Rattle.prefix_tree.specs.Tree.{Tree, count_below}
use Rattle.packet_frame.specs.declared.packet.Packet.{Packet}
use Rattle.packet_frame.specs.declared.packet.Packet.TheVariants.{Up, Done, Attach, Down}
use Rattle.packet_frame.specs.Frame.{Message}
use Rattle.packet_frame.specs.Sent.{packet_map}
use Rattle.packet_frame.specs.Feeding.{packets_from}
use Rattle.tree_text.specs.TreeText.{rows_text}

abbrev pub wave_text : ℕ → ℕ → List ℕ
wave_text stream wave = codes " stream " ++ decimal stream ++ codes " wave " ++ decimal wave

-- the ranks that are covered, the number of rows besides the root, and these rows
abbrev pub contents_text : Tree → List ℕ
contents_text t = codes " covered " ++ text_of t.coverage ++ codes " rows " ++ decimal (count_below t) ++ 10 ∷ [] ++ rows_text t

abbrev pub packet_text : Packet Tree → List ℕ
packet_text (Up stream wave t) = codes " up" ++ wave_text stream wave ++ contents_text t
packet_text (Done stream wave) = codes " done" ++ wave_text stream wave ++ 10 ∷ []
packet_text Attach = codes " attach\n"
packet_text Down = codes " down\n"

-- the texts of packets, each with its frame's length, behind an offset
abbrev pub packets_text : ℕ → List (Packet Tree × ℕ) → List ℕ
packets_text at [] = []
packets_text at (p ∷ ps) = decimal at ++ packet_text p.0 ++ packets_text (at + p.1) ps

-- the text of all frames, and how many there are
unfoldable pub text_of_capture : List (Message × ℕ) → List ℕ
text_of_capture frames = packets_text 0 (packets_from frames) ++ codes "end " ++ decimal (length frames) ++ codes " frames\n"

-- packets by the views of their trees, each with its frame's length
abbrev pub packet_views : {X : Type 0} → (X → Tree) → List (Packet X × ℕ) → List (Packet Tree × ℕ)
packet_views view packets = map (λ p. (packet_map view p.0, p.1)) packets

-- how many bytes their frames take
abbrev pub bytes_of : List (Packet Tree × ℕ) → ℕ
bytes_of [] = 0
bytes_of (p ∷ ps) = p.1 + bytes_of ps
