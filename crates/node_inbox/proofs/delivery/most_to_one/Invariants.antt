use Rattle.std.proofs.Common.{◌+◌, ◌<◌, ◌≤◌, ℕ, length, take}
use Rattle.node_inbox.specs.Sends.{packets_to}
use Rattle.node_inbox.proofs.delivery.most_to_one.Given as goal

abbrev pub invariant-loop-to : goal.invariant-loop-to
invariant-loop-to g l = record {
  enough : (b : ℕ) → length (packets_to b (take l.to-index l.sends)) ≤ l.runs;
  beyond : (b : ℕ) → l.next ≤ b → length (packets_to b (take l.to-index l.sends)) + 1 ≤ l.runs;
  started : 0 < l.to-index → 0 < l.next;
  at_least : 1 ≤ l.runs;
  at_most : l.runs ≤ l.to-index + 1;
  later : 0 < l.next → l.runs ≤ l.to-index;
}
