use Rattle.std.proofs.Common.{◌≡◌, ◌+◌}
use Rattle.rank_set.specs.Words.{offset_of}
use Rattle.rank_places.specs.Table.{cover_of, image, AreMoved}
use Rattle.rank_places.specs.Collected.{collected, IsCollected}
use Rattle.rank_places.proofs.WordByWord.{firsts}
use Rattle.rank_places.proofs.moving.moved_bits.Given as goal

abbrev pub invariant-loop-word : goal.invariant-loop-word
invariant-loop-word l = record {
  index : l.index ≡ offset_of l.set + l.word-index;
  moves : AreMoved l.way.back (cover_of l.way.runs.now) l.run.first l.run.last l.run.target;
  good : IsCollected l.out;
  numbers : collected l.out ≡ image l.way.back (cover_of l.way.runs.now) (firsts (offset_of l.set) l.words l.word-index);
}
