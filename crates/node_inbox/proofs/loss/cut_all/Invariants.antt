use Rattle.node_inbox.specs.Cuts.{AreCut}
use Rattle.node_inbox.proofs.loss.cut_all.Given as goal

abbrev pub invariant-loop-b : goal.invariant-loop-b
invariant-loop-b g l = record {
  cut : AreCut l.n l.keep l.b l.fn.inboxes l.inboxes;
}
