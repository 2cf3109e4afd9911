use Rattle.std.proofs.Common.{◌≡◌, ◌++◌, ◌∙◌, length, Some, sym, ap, subst}
use Rattle.text_lines.specs.Lines.{lines}
use Rattle.journal_text.specs.Reading.{events_before, bad_from}
use Rattle.journal_text.proofs.Steps.{read_as, all_read, bad_line, one_more, none_more}
use Rattle.journal_text.proofs.read.read_journal.Goals as goal

pub returns-in_default-event_of_line : goal.returns-in_default-event_of_line
returns-in_default-event_of_line c =
    let p = c.args.plan.now in
    let all = lines c.args.bytes.now in
    ap (λ k. read_as c.loop-line.events (Some k)) c.len.ensures
    ∙ bad_line p c.loop-line.events (events_before p all) (bad_from p 0 all) (lines c.loop-line.rest.now) c.loop-line.invariant.read c.loop-line.invariant.number c.in-Some.line.now (lines c.in-Some.after.now) c.in-Some.ensures.lines c.in_default-event_of_line.ensures

pub loop-line-preserved : goal.loop-line-preserved
loop-line-preserved c =
    let p = c.args.plan.now in
    let all = lines c.args.bytes.now in
    let later = lines c.in-Some.after.now in
    record {
      read = subst (λ events. events ++ events_before p later ≡ events_before p all) (sym c.in_ok-push.ensures.ok)
          (one_more p c.loop-line.events (events_before p all) (bad_from p 0 all) (lines c.loop-line.rest.now) c.loop-line.invariant.read c.loop-line.invariant.number c.in-Some.line.now later c.in-Some.ensures.lines c.in-Some-event_of_line.event c.in-Some-event_of_line.ensures);
      number = subst (λ events. bad_from p (length events) later ≡ bad_from p 0 all) (sym c.in_ok-push.ensures.ok)
          (none_more p c.loop-line.events (events_before p all) (bad_from p 0 all) (lines c.loop-line.rest.now) c.loop-line.invariant.read c.loop-line.invariant.number c.in-Some.line.now later c.in-Some.ensures.lines c.in-Some-event_of_line.event c.in-Some-event_of_line.ensures);
    }

pub returns : goal.returns
returns c =
    let p = c.args.plan.now in
    let all = lines c.args.bytes.now in
    all_read p c.loop-line.events (events_before p all) (bad_from p 0 all) (lines c.loop-line.rest.now) c.loop-line.invariant.read c.loop-line.invariant.number c.in_default.ensures.lines
