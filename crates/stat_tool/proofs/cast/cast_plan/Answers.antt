use Rattle.std.proofs.Common.{None, refl, sym, ap, subst, ◌∙◌}
use Rattle.control_cast.specs.Casts.{AreEventsOf}
use Rattle.control_cast.specs.Machine.{start}
use Rattle.control_cast.specs.CastViews.{cast_state}
use Rattle.control_cast.specs.Picked.{picked}
use Rattle.cast_text.specs.CastText.{report_text}
use Rattle.job_files.specs.Tasks.{RunOutput}
use Rattle.stat_tool.proofs.Casts.{PickedLaws, events_of, has_cast}
use Rattle.stat_tool.proofs.cast.cast_plan.Goals as goal

pub journal_text-requires : goal.journal_text-requires
journal_text-requires c =
    let plan = c.invariant.ensures in
    let run = c.in_ok-events.ensures.start (c.in_ok-net.ensures.start ∙ ap start (sym c.in_ok-net.ensures.plan)) in
    let picks = events_of c.args.plan.now c.in_ok-net.net.plan c.args.commands c.in_ok-net.net.commands c.args.seed c.in_ok-events.events c.in_ok-net.ensures.plan c.in_ok-net.ensures.commands run.0 in
    subst (AreEventsOf c.args.plan.now) (sym picks)
    (c.legal_casts_name_nodes.ensures.nodes c.args.plan.now c.args.commands (picked c.args.plan.now c.args.commands c.args.seed) plan (c.seeds_pick_one_journal.ensures.legal c.args.plan.now c.args.commands c.args.seed plan))

pub returns : goal.returns
returns c =
    let plan = c.invariant.ensures in
    let p = c.args.plan.now in
    let commands = c.args.commands in
    let seed = c.args.seed in
    let journal = picked p commands seed in
    let legal = c.seeds_pick_one_journal.ensures.legal p commands seed plan in
    let quiet = c.seeds_pick_one_journal.ensures.quiet p commands seed plan in
    let laws : PickedLaws p commands seed = record {
      legal = legal;
      quiet = quiet;
      in_order = c.casts_obey_in_order.ensures.order p commands journal plan legal;
      all = c.whole_casts_reach_all.ensures.reached p commands journal plan legal quiet;
    } in
    let output : RunOutput = record { unfinished = None; journal = c.new-2.result; report = c.in_ok-report.report.items; journal_text = c.in_ok-journal_text.journal_text.items } in
    let run = c.in_ok-events.ensures.start (c.in_ok-net.ensures.start ∙ ap start (sym c.in_ok-net.ensures.plan)) in
    has_cast p c.in_ok-net.net.plan commands c.in_ok-net.net.commands seed c.in_ok-events.events (cast_state c.run_picked.new.self) output
    plan c.in_ok-net.ensures.plan c.in_ok-net.ensures.commands run.0 run.1
    (c.in_ok-report.ensures ∙ (λ i. report_text (c.run_picked.ensures.plan i) (c.run_picked.ensures.commands i) (cast_state c.run_picked.new.self))) c.in_ok-journal_text.ensures refl c.new-2.ensures laws
