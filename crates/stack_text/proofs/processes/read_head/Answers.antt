use Rattle.std.proofs.Common.{◌∙◌, ap, arith, sym}
use Rattle.stack_text.proofs.PartedLines.{head_ends, head_taken, line_above, no_parts, odd_by_this, odd_stays, thread_begins}
use Rattle.stack_text.proofs.processes.read_head.Goals as goal

pub returns-in-Some-thread_number-clause-head : goal.returns-in-Some-thread_number-clause-head
returns-in-Some-thread_number-clause-head c =
    head_ends _ _ _ _ c.loop-line.invariant.head
    (ap (λ p. p.head) (thread_begins _ _ _ _ c.in-Some.ensures.lines c.read_line-line.ensures _ c.in-Some-thread_number.ensures))

pub returns-in-Some-thread_number-clause-threads :
    goal.returns-in-Some-thread_number-clause-threads
returns-in-Some-thread_number-clause-threads c =
    ap (λ p. p.threads) (sym (thread_begins _ _ _ _ c.in-Some.ensures.lines c.read_line-line.ensures _ c.in-Some-thread_number.ensures))
    ∙ c.loop-line.invariant.threads

pub loop-line-preserved-then-is_odd : goal.loop-line-preserved-then-is_odd
loop-line-preserved-then-is_odd c =
    let above = line_above _ _ _ _ c.in-Some.ensures.lines c.read_line-line.ensures c.in_default-thread_number.ensures in
    record {
      head = head_taken _ _ _ _ _ _ _ _ c.loop-line.invariant.head (ap (λ p. p.head) above) c.read_line-line.ensures (odd_stays _ _ c.if-is_odd.true);
      threads = ap (λ p. p.threads) (sym above) ∙ c.loop-line.invariant.threads;
      within = omega (arith, c.in-Some.ensures.shorter, c.loop-line.invariant.within);
    }

pub loop-line-preserved : goal.loop-line-preserved
loop-line-preserved c =
    let above = line_above _ _ _ _ c.in-Some.ensures.lines c.read_line-line.ensures c.in_default-thread_number.ensures in
    record {
      head = head_taken _ _ _ _ _ _ _ _ c.loop-line.invariant.head (ap (λ p. p.head) above) c.read_line-line.ensures (odd_by_this _ _ _ c.if-is_odd.false c.is_head_of.ensures);
      threads = ap (λ p. p.threads) (sym above) ∙ c.loop-line.invariant.threads;
      within = omega (arith, c.in-Some.ensures.shorter, c.loop-line.invariant.within);
    }

pub returns-clause-head : goal.returns-clause-head
returns-clause-head c =
    head_ends _ _ _ _ c.loop-line.invariant.head (ap (λ p. p.head) (no_parts _ c.in_default.ensures.lines))

pub returns-clause-threads : goal.returns-clause-threads
returns-clause-threads c =
    ap (λ p. p.threads) (sym (no_parts _ c.in_default.ensures.lines)) ∙ c.loop-line.invariant.threads
