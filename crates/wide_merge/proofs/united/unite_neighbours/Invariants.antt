use Rattle.std.proofs.Common.{◌≡◌, []}
use Rattle.wide_merge.specs.Joining.{index_views, same_indices, with_blocks}
use Rattle.wide_merge.proofs.united.unite_neighbours.Given as goal

abbrev pub invariant-loop-class : goal.invariant-loop-class
invariant-loop-class l = with_blocks same_indices (index_views l.all.items) (index_views l.class-iterator.rest.items) ≡ with_blocks same_indices [] (index_views l.initial.class-iterator.rest.items)
