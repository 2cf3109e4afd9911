-- What is sent of a tree, and which tree is sent.
use Rattle.std.specs.Prelude.{ℕ, List, map, Result, Ok, Err}
use Rattle.std.specs.List.{flat_map}
use Rattle.std.specs.FinMap as finmap
use Rattle.rank_set.specs.Ranks.{in_order}
use Rattle.call_path.specs.Pairs.{Pairs, pairs_at}
use Rattle.prefix_tree.specs.Tree.{Tree, tree_of}
use Rattle.packet_frame.specs.declared.packet.Packet.{Packet}
use Rattle.packet_frame.specs.declared.packet.Packet.TheVariants.{Up, Done, Attach, Down}
use Rattle.packet_frame.specs.Fields.{Refusal}
use Rattle.packet_frame.specs.Frame.{Row, row_of, Sent, sent_of, Message}

-- a tree's coverage, and its rows besides the root with their ends; labels are not sent
abbrev pub sent_from : Tree → Sent
sent_from t = sent_of t.coverage (map (λ e. row_of e.0 e.1.1) (finmap.entries t.below))

-- the pairs that the rows' ends give
abbrev pub pairs_of_rows : List Row → Pairs
pairs_of_rows rows = flat_map (λ row. pairs_at (in_order row.ends) row.path) rows

-- the tree of the rows over the coverage
abbrev pub tree_from : Sent → Tree
tree_from s = tree_of (pairs_of_rows s.rows) s.coverage

abbrev pub packet_map : {A B : Type 0} → (A → B) → Packet A → Packet B
packet_map f (Up stream wave tree) = Up stream wave (f tree)
packet_map f (Done stream wave) = Done stream wave
packet_map f Attach = Attach
packet_map f Down = Down

-- what is read, as packets with trees
abbrev pub as_packet : Result (Message × ℕ) Refusal → Result (Packet Tree × ℕ) Refusal
as_packet (Ok x) = Ok (packet_map tree_from x.0, x.1)
as_packet (Err e) = Err e
