use Rattle.std.proofs.Common.{◌≡◌, ◌<◌, ◌++◌, List, length, map}
use Rattle.std.specs.List.{AllByRecursion}
use Rattle.rank_set.specs.Ranks.{Ranks}
use Rattle.call_path.specs.Path.{Path}
use Rattle.equiv_class.specs.ClassList.{HaveIndices, class_views}
use Rattle.equiv_class.specs.StateBlocks.{block_view, blocks_view}
use Rattle.equiv_class.specs.declared.rank_blocks.Block.{Block}
use Rattle.equiv_class.proofs.take_classes.Given as goal

abbrev pub invariant-loop-block : goal.invariant-loop-block
invariant-loop-block l = record {
  view : (es : List (Path × Ranks)) → length es ≡ l.count → class_views es l.all.items ++ map (block_view es l.fn.found.origins.items) l.block-iterator.rest.items ≡ blocks_view es l.fn.found;
  indices : HaveIndices l.count l.all.items;
  states : AllByRecursion (λ (b : Block). b.state < length l.fn.found.origins.items) l.block-iterator.rest.items;
}
