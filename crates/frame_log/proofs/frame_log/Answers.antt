use Rattle.std.proofs.Common.{◌∙◌, Err, ap, subst, sym}
use Rattle.std.proofs.lemmas.Bool.{true≢false}
use Rattle.overlay_net.specs.Nets.{IsReachedBy}
use Rattle.frame_log.proofs.Logs.{next_enabled, next_log, taken_more}
use Rattle.frame_log.proofs.frame_log.Goals as goal

pub unreachable-requires : goal.unreachable-requires
unreachable-requires g c =
    let before = c.loop-number.invariant in
    true≢false
    (sym (next_enabled c.loop-number.net c.args.plan.now c.args.journal.now c.loop-number.number c.at-event.result before.plan before.reached c.at-event.ensures c.requires)
    ∙ (c.apply.ensures.not_enabled before.usable).0 (c.in-Err-NotEnabled.is ∙ ap Err c.in-Err-NotEnabled.field-0-is))

pub loop-number-preserved : goal.loop-number-preserved
loop-number-preserved g c =
    let before = c.loop-number.invariant in
    let journal = c.args.journal.now in
    let n = c.loop-number.number in
    record {
      plan = c.apply.ensures.plan ∙ before.plan;
      usable = c.in-Ok.ensures.usable;
      home = c.apply.ensures.home c.in-Ok.ensures.usable;
      reached = subst (IsReachedBy c.apply.new.self) (sym (taken_more journal n c.at-event.result c.at-event.ensures)) (c.in-Ok.ensures.reached _ before.reached);
      log = next_log c.loop-number.net c.args.plan.now journal n c.at-event.result before.plan before.reached c.at-event.ensures _ _ before.log c.in_ok-append_received.ensures;
    }
