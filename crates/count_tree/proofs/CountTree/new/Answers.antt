use Rattle.std.proofs.Common.{◌≡◌, ◌*◌, ap, take, drop, subst, sym, ◌∙◌}
use Rattle.count_tree.specs.Sums.{IsTree}
use Rattle.count_tree.proofs.Changes.{zeros, new_tree, new_counts}
use Rattle.count_tree.proofs.CountTree.new.Goals as goal
use Rattle.count_tree.proofs.CountTree.new.Goals.{In_ok-vec}

all_zero : (c : In_ok-vec) → c.in_ok-vec.field-0.items ≡ zeros (2 * c.next_power_of_two-leaves.result)
all_zero c = c.in_ok-vec.ensures.items_if_clones_equal (λ y same. same)

pub invariant_of-result : goal.invariant_of-result
invariant_of-result c =
    let p = c.next_power_of_two-leaves in
    subst (λ s. IsTree s p.result c.args.places) (sym (all_zero c)) (new_tree p.result c.args.places p.ensures.power c.ranges.places.fits p.ensures.lower_bound p.ensures.upper_bound)

pub returns : goal.returns
returns c =
    let p = c.next_power_of_two-leaves in
    ap (λ s. take c.args.places (drop p.result s)) (all_zero c) ∙ new_counts p.result c.args.places p.ensures.lower_bound
