use Rattle.std.proofs.Common.{◌≡◌, ◌+◌, length}
use Rattle.std.specs.Prelude.{IfSome}
use Rattle.rank_set.specs.Runs.{IsRunInRange, with_pending}
use Rattle.rank_set.specs.RanksText.{ranks_at, items}
use Rattle.rank_set.proofs.read.read_items.Given as goal

abbrev pub invariant-loop-run : goal.invariant-loop-run
invariant-loop-run l = record {
  offset : l.offset + length l.rest ≡ length l.text;
  pending : IfSome l.pending (λ p. IsRunInRange p.first p.last);
  ranks : ranks_at l.offset (with_pending l.ranks l.pending) (items l.rest) ≡ ranks_at 0 l.fn.ranks (items l.text);
}

abbrev pub decreases-loop-run : goal.decreases-loop-run
decreases-loop-run l = length l.rest
