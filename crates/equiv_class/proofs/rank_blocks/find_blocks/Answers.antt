use Rattle.equiv_class.specs.SeenPaths.{entries_view}
use Rattle.equiv_class.specs.declared.rank_blocks.Blocks.{Blocks}
use Rattle.equiv_class.proofs.Filling.{tables_start}
use Rattle.equiv_class.proofs.LedPaths.{origins_start}
use Rattle.equiv_class.proofs.StateClasses.{classes_by_states, has_states}
use Rattle.equiv_class.proofs.rank_blocks.find_blocks.Goals as goal

pub part_by_paths-requires-clause-tables : goal.part_by_paths-requires-clause-tables
part_by_paths-requires-clause-tables c =
    tables_start c.in_ok-states.states c.in_ok-next.next.items c.in_ok-states.ensures.zero (c.in_ok-next.ensures.items_if_clones_equal (λ y same. same))

pub part_by_paths-requires-clause-origins : goal.part_by_paths-requires-clause-origins
part_by_paths-requires-clause-origins c =
    origins_start c.in_ok-next.next.items c.in_ok-origins.origins.items (c.in_ok-next.ensures.items_if_clones_equal (λ y same. same))
    (c.in_ok-origins.ensures.items_if_clones_equal (λ y same. same))

pub returns-clause-states : goal.returns-clause-states
returns-clause-states c =
    let blocks : Blocks = record { origins = c.part_by_paths.new.origins; all = c.in_ok-all.all } in
    has_states (entries_view c.args.seen.now) c.args.covered.now c.part_by_paths.new.states blocks c.in_ok-part_by_paths.ensures.paths c.in_ok-all.ensures.order

pub returns-clause-classes : goal.returns-clause-classes
returns-clause-classes c P lists =
    classes_by_states P (entries_view c.args.seen.now) c.args.covered.now c.part_by_paths.new.states c.part_by_paths.new.origins.items c.in_ok-all.all.items c.in_ok-part_by_paths.ensures.states
    c.in_ok-part_by_paths.ensures.paths c.in_ok-all.ensures.ranks c.in_ok-all.ensures.order lists
