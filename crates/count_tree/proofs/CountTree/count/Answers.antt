use Rattle.std.proofs.Common.{◌+◌, ◌<◌, ℕ, ap, length, arith}
use Rattle.std.proofs.lemmas.Grind.{get_or_default_zero}
use Rattle.count_tree.proofs.Trees.{leaf_fits, length_of_counts}
use Rattle.count_tree.proofs.CountTree.count.Goals as goal

pub overflow_cast-result : goal.overflow_cast-result
overflow_cast-result c =
    let t = c.self.inside in
    let leaf : ℕ = t.leaves + c.args.place in
    let same = ap length c.self.view_is in
    let inside : leaf < length t.sums.items = omega (arith, c.requires, same, length_of_counts 0 t.sums.items t.leaves t.places c.self.invariant, c.self.invariant.enough, c.self.invariant.size) in
    omega (arith, c.index.ensures, get_or_default_zero t.sums.items leaf c.index.result.now inside, leaf_fits 0 t.sums.items t.leaves t.places c.self.invariant leaf (omega arith))
