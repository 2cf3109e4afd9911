use Rattle.std.proofs.Common.{◌<◌, map, reverse, subst, sym, arith, ap, ◌∙◌}
use Rattle.std.specs.List.{AllByRecursion}
use Rattle.std.proofs.lemmas.List.{with_items_is}
use Rattle.equiv_class.specs.ClassList.{path_of}
use Rattle.equiv_class.specs.Origins.{paths_before}
use Rattle.equiv_class.proofs.IndexPaths.{all_reverse, map-reverse}
use Rattle.equiv_class.proofs.LedPaths.{back_end, back_step}
use Rattle.equiv_class.proofs.state_paths.Goals as goal

pub loop-at-preserved : goal.loop-at-preserved
loop-at-preserved c =
    let less = c.requires.backward c.loop-at.at c.loop-at-test.true in
    record {
      known = omega (arith, less, c.loop-at.invariant.known);
      paths = λ es long. back_step es c.args.origins.now c.loop-at.at (map (path_of es) c.loop-at.paths.items) (map (path_of es) c.add_path.new.paths.items) (paths_before es c.args.origins.now c.args.state)
          c.requires.backward c.loop-at-test.true (c.in_ok-add_path.ensures.paths es long) (c.loop-at.invariant.paths es long);
      indices = c.in_ok-add_path.ensures.indices c.loop-at.invariant.indices;
    }

pub returns-clause-paths : goal.returns-clause-paths
returns-clause-paths c es long =
    ap (map (path_of es)) (with_items_is c.loop-at.paths c.reverse.new.self (c.reverse.ensures.len ∙ c.as_mut_slice.ensures.len) ∙ c.reverse.ensures.after ∙ ap reverse c.as_mut_slice.ensures.value)
    ∙ map-reverse (path_of es) c.loop-at.paths.items
    ∙ back_end es c.args.origins.now c.loop-at.at (map (path_of es) c.loop-at.paths.items) (paths_before es c.args.origins.now c.args.state) (omega (arith, c.loop-at-test.false)) (c.loop-at.invariant.paths es long)

pub returns-clause-indices : goal.returns-clause-indices
returns-clause-indices c =
    subst (AllByRecursion (λ i. i < c.args.count))
    (sym (with_items_is c.loop-at.paths c.reverse.new.self (c.reverse.ensures.len ∙ c.as_mut_slice.ensures.len) ∙ c.reverse.ensures.after ∙ ap reverse c.as_mut_slice.ensures.value))
    (all_reverse (λ i. i < c.args.count) c.loop-at.paths.items c.loop-at.invariant.indices)
