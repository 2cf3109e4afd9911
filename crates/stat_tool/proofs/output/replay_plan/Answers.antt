use Rattle.std.proofs.Common.{◌∙◌}
use Rattle.journal_text.specs.Reading.{read_view}
use Rattle.stat_tool.specs.Views.{output_view}
use Rattle.stat_tool.proofs.Outputs.{net_accepted, no_bad_line, replay_bad, replay_made}
use Rattle.stat_tool.proofs.output.replay_plan.Goals as goal

pub returns-in-Some-clause-err : goal.returns-in-Some-clause-err
returns-in-Some-clause-err g c =
    replay_bad c.args.plan.now c.args.wanted (read_view c.args.read) c.in-Some.number
    (net_accepted c.redo.new.net c.args.plan.now c.args.read.events (c.redo.ensures.plan ∙ c.in-Ok.ensures.plan) c.in-Ok-redo.ensures.reached) c.in-Some.is

pub returns-in-Ok-replayed-clause-ok : goal.returns-in-Ok-replayed-clause-ok
returns-in-Ok-replayed-clause-ok g c =
    replay_made c.args.plan.now c.args.wanted (read_view c.args.read) (output_view c.in-Ok-replayed.output)
    (net_accepted c.redo.new.net c.args.plan.now c.args.read.events (c.redo.ensures.plan ∙ c.in-Ok.ensures.plan) c.in-Ok-redo.ensures.reached)
    (no_bad_line c.args.read.bad c.in_default-bad.not-Some) c.in-Ok-replayed.ensures.journal c.in-Ok-replayed.ensures.replay
