use Rattle.std.proofs.Common.{◌≡◌, ◌∙◌, ap, filter, length, arith}
use Rattle.overlay_setup.specs.NodeSets.{up_to}
use Rattle.overlay_setup.specs.Trees.{is_daemon}
use Rattle.script_text.specs.Streams.{all_daemons}
use Rattle.script_text.proofs.stream_line.all_daemons.Goals as goal

pub returns : goal.returns
unfolding all_daemons
returns c =
    let e : c.loop-n.n ≡ length c.args.topology.now.parents = omega arith in
    c.loop-n.invariant ∙ ap (λ k. filter (is_daemon c.args.topology.now.parents) (up_to k)) e
