use Rattle.std.proofs.Common.{◌<◌, ◌++◌, ◌∷◌, [], ◌∙◌, ap, subst}
use Rattle.journal_text.proofs.Steps.{written_more}
use Rattle.journal_text.proofs.write.write_journal.Goals as goal

pub loop-i-preserved : goal.loop-i-preserved
loop-i-preserved c =
    c.in_ok-push.ensures.items
    ∙ ap (λ t. t ++ 10 ∷ []) c.in_ok-write_event.ensures
    ∙ written_more c.args.plan.now c.args.journal.now c.loop-i.i c.at.result c.loop-i.text.items (subst (λ n. c.loop-i.i < n) c.len-i-end.ensures c.loop-i-test.true) c.at.ensures c.loop-i.invariant
