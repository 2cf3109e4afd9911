use Rattle.std.proofs.Common.{false}
use Rattle.overlay_core.proofs.Potential.{weight}
use Rattle.overlay_net.specs.Nets.{AllHome}
use Rattle.overlay_net.specs.States.{IsNetState, net_view, state_at}
use Rattle.overlay_net.proofs.Picks.{HasCome}
use Rattle.overlay_net.proofs.state.NetState.run_picked.Given as goal

abbrev pub invariant-loop-event : goal.invariant-loop-event
invariant-loop-event g l = record {
  net : IsNetState g.T.PrefixTree.tree l.plan l.self;
  home : AllHome (net_view g.T.PrefixTree.tree l.plan l.self false);
  come : HasCome (net_view g.T.PrefixTree.tree l.plan l.fn.self false) l.seed l.journal l.number (net_view g.T.PrefixTree.tree l.plan l.self false);
}

abbrev pub decreases-loop-event : goal.decreases-loop-event
decreases-loop-event g l = weight l.plan (state_at g.T.PrefixTree.tree l.plan l.self)
