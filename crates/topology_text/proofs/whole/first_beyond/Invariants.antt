use Rattle.std.proofs.Common.{◌≡◌, ◌-◌, length}
use Rattle.topology_text.specs.Whole.{first_beyond}
use Rattle.topology_text.proofs.whole.first_beyond.Given as goal

abbrev pub invariant-loop-node : goal.invariant-loop-node
invariant-loop-node l = first_beyond l.parents l.links l.node (length l.parents - l.node) ≡ first_beyond l.parents l.links 0 (length l.parents)
