use Rattle.std.specs.Prelude.{refl}
use Rattle.packet_frame.proofs.ReadTrees.{rows_back, tree_may, only_spelling}
use Rattle.packet_frame.proofs.SpelledRows.{is_spelled_out}
use Rattle.packet_frame.proofs.SentTrees.{tree_back, trees_sent}
use Rattle.packet_frame.proofs.laws.trees_are_sent.Goals as goal

pub returns : goal.returns
returns c = record {
  back = tree_back;
  first = trees_sent 1 (is_spelled_out 1 refl);
  second = trees_sent 2 (is_spelled_out 2 refl);
  rows = rows_back;
  trees = tree_may;
  packets = only_spelling;
}
