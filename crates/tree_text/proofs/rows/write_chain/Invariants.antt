use Rattle.std.proofs.Common.{◌≡◌, ◌+◌, ◌-◌, ◌++◌, drop}
use Rattle.std.specs.List.{flat_map}
use Rattle.prefix_tree.specs.Chains.{chained}
use Rattle.tree_text.specs.TreeText.{chain_text, seen_text}
use Rattle.tree_text.proofs.rows.write_chain.Given as goal

abbrev pub invariant-loop-i : goal.invariant-loop-i
invariant-loop-i l = l.out.items ++ flat_map seen_text (chained (l.chain.depth + (l.i - l.chain.skip)) (drop l.i l.chain.frames.now) (l.chain.label.now, l.chain.ends.now)) ≡ l.fn.out.items ++ chain_text l.chain
