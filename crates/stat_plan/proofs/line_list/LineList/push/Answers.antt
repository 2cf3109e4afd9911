use Rattle.std.proofs.Common.{◌∙◌, ◌++◌, ◌∷◌, [], sym, ap, subst, arith}
use Rattle.stat_plan.specs.LineLists.{AreEntriesOf, entry_lines}
use Rattle.stat_plan.proofs.LineLists.{fit_more, lines_more, on_err, same_lines}
use Rattle.stat_plan.proofs.line_list.LineList.push.Goals as goal

pub returns-in_err-push-2-clause-err : goal.returns-in_err-push-2-clause-err
returns-in_err-push-2-clause-err c =
    on_err c.from_residual-in_err-push-2.result
    ((λ i. entry_lines (c.in_ok-push.ensures.items i) (c.in_err-push-2.ensures.items i))
    ∙ same_lines c.self.inside.sets.items c.args.ranks c.self.inside.entries.items c.self.invariant
    ∙ c.self.view_is)

pub invariant_of-self-2 : goal.invariant_of-self-2
invariant_of-self-2 c =
    subst (λ ss. AreEntriesOf ss c.push-2.new.self.items) (sym c.in_ok-push.ensures.items)
    (subst (AreEntriesOf (c.self.inside.sets.items ++ c.args.ranks ∷ [])) (sym c.in_ok-push-2.ensures.items)
    (fit_more c.self.inside.sets.items c.args.ranks c.self.inside.entries.items c.args.time c.args.path c.in-Ok.number (let len = c.len.ensures in let number = c.in-Ok.ensures in omega (arith, len, number)) c.self.invariant))

pub returns-clause-ok : goal.returns-clause-ok
returns-clause-ok c =
    (λ i. entry_lines (c.in_ok-push.ensures.items i) (c.in_ok-push-2.ensures.items i))
    ∙ lines_more c.self.inside.sets.items c.args.ranks c.self.inside.entries.items c.args.time c.args.path c.in-Ok.number (let len = c.len.ensures in let number = c.in-Ok.ensures in omega (arith, len, number)) c.self.invariant
    ∙ ap (λ lines. lines ++ Rattle.stat_plan.specs.LineLists.stack_line c.args.time c.args.path c.args.ranks ∷ []) c.self.view_is
