use Rattle.std.proofs.Common.{◌∙◌, ◌&&◌, ℕ, List, sym, ap}
use Rattle.overlay_setup.specs.NodeSets.{member}
use Rattle.overlay_core.specs.Machine.{is_wave, next_sample}
use Rattle.overlay_node.specs.NodeViews.{node_of}
use Rattle.overlay_net.proofs.Offers.{found_stream, found_test, no_daemons}
use Rattle.overlay_net.proofs.events.is_next_wave.Goals as goal

pub next_wave-requires-clause-stream : goal.next_wave-requires-clause-stream
next_wave-requires-clause-stream g c κs within = (found_stream c.args.plan.now c.args.s c.in-Some.stream.now c.in-Some.ensures).0

pub returns-in-Some : goal.returns-in-Some
returns-in-Some g c = c.eq.ensures ∙ found_test c.args.plan.now c.args.node.now c.args.s c.in-Some.stream.now c.next_wave.result c.args.wave c.in-Some.ensures c.next_wave.ensures

pub returns-in-None : goal.returns-in-None
returns-in-None g c = ap (λ (ds : List ℕ). member c.args.node.now.number ds && is_wave (next_sample c.args.plan.now (node_of c.args.node.now) c.args.s) c.args.wave) (sym (no_daemons c.args.plan.now c.args.s c.in-None.ensures))
