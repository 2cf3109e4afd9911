use Rattle.std.proofs.Common.{◌∙◌, ap, arith, refl, sym}
use Rattle.text_lines.specs.Lines.{lines}
use Rattle.stack_text.specs.Processes.{parted}
use Rattle.stack_text.specs.Threads.{thread_of, with_lines}
use Rattle.stack_text.proofs.PartedLines.{line_above, no_parts, thread_begins}
use Rattle.stack_text.proofs.ThreadLines.{line_taken, lines_taken}
use Rattle.stack_text.proofs.processes.read_below.Goals as goal

pub loop-line-init : goal.loop-line-init
unfolding thread_of
loop-line-init c = record {
  thread = ap (λ t. with_lines t (parted (lines c.args.text.now)).head) c.new-thread.ensures;
  threads = refl;
  within = omega arith;
}

pub returns-in-Some-thread_number-clause-thread : goal.returns-in-Some-thread_number-clause-thread
returns-in-Some-thread_number-clause-thread c =
    lines_taken _ _ _ c.loop-line.invariant.thread
    (ap (λ p. p.head) (thread_begins _ _ _ _ c.in-Some.ensures.lines c.read_line-line.ensures _ c.in-Some-thread_number.ensures))

pub returns-in-Some-thread_number-clause-threads :
    goal.returns-in-Some-thread_number-clause-threads
returns-in-Some-thread_number-clause-threads c =
    ap (λ p. p.threads) (sym (thread_begins _ _ _ _ c.in-Some.ensures.lines c.read_line-line.ensures _ c.in-Some-thread_number.ensures))
    ∙ c.loop-line.invariant.threads

pub loop-line-preserved : goal.loop-line-preserved
loop-line-preserved c =
    let above = line_above _ _ _ _ c.in-Some.ensures.lines c.read_line-line.ensures c.in_default-thread_number.ensures in
    record {
      thread = line_taken _ _ _ _ _ _ _ c.loop-line.invariant.thread (ap (λ p. p.head) above) c.read_line-line.ensures c.in_ok-take.ensures;
      threads = ap (λ p. p.threads) (sym above) ∙ c.loop-line.invariant.threads;
      within = omega (arith, c.in-Some.ensures.shorter, c.loop-line.invariant.within);
    }

pub returns-clause-thread : goal.returns-clause-thread
returns-clause-thread c =
    lines_taken _ _ _ c.loop-line.invariant.thread (ap (λ p. p.head) (no_parts _ c.in_default.ensures.lines))

pub returns-clause-threads : goal.returns-clause-threads
returns-clause-threads c =
    ap (λ p. p.threads) (sym (no_parts _ c.in_default.ensures.lines)) ∙ c.loop-line.invariant.threads
