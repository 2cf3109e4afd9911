use Rattle.std.proofs.Common.{◌≡◌, ◌∙◌, ◌<◌, ℕ, Bool, List, sym, ap, drop, length, nat_le, arith}
use Rattle.stack_text.specs.Lines.{file_follows, file_follows_if}
use Rattle.stack_text.proofs.Places.{first_here, first_later, first_nowhere}
use Rattle.stack_text.proofs.binaries.file_start.Goals as goal

-- what was tested at a place, where brackets are closed from some place on
tested : (text rest : List ℕ) (brackets i : ℕ) (test b : Bool) →
    ((k : ℕ) → k < length text → file_follows (drop k text) ≡ file_follows_if (nat_le brackets k) (drop k text)) →
    i < length text → rest ≡ drop i text → test ≡ file_follows_if (nat_le brackets i) rest → test ≡ b →
    file_follows (drop i text) ≡ b
tested text rest brackets i test b closed within is value holds =
    closed i within ∙ ap (file_follows_if (nat_le brackets i)) (sym is) ∙ sym value ∙ holds

pub loop-i-preserved : goal.loop-i-preserved
loop-i-preserved c =
    first_later file_follows c.args.text.now c.loop-i.i c.loop-i.invariant c.loop-i-test.true
    (tested _ _ _ _ _ _ c.brackets_start-brackets.ensures c.loop-i-test.true c.split_at.ensures.back
    c.file_follows_if.ensures c.if-file_follows_if.false)

pub returns-then-file_follows_if-clause-value : goal.returns-then-file_follows_if-clause-value
returns-then-file_follows_if-clause-value c =
    first_here file_follows c.args.text.now c.loop-i.i c.loop-i.invariant
    (tested _ _ _ _ _ _ c.brackets_start-brackets.ensures c.loop-i-test.true c.split_at.ensures.back
    c.file_follows_if.ensures c.if-file_follows_if.true)

pub returns-clause-value : goal.returns-clause-value
returns-clause-value c =
    first_nowhere file_follows c.args.text.now c.loop-i.i c.loop-i.invariant
    (omega (arith, c.loop-i-test.false, c.loop-i.auto.i-end))
