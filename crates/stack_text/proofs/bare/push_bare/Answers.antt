use Rattle.std.proofs.Common.{◌++◌, ◌∙◌, ap, arith, length}
use Rattle.stack_text.specs.Bare.{bare, bare_text}
use Rattle.stack_text.specs.LineViews.{bare_view}
use Rattle.stack_text.proofs.BareLines.{bare_len}
use Rattle.stack_text.proofs.bare.push_bare.Goals as goal

pub append_bare-requires : goal.append_bare-requires
append_bare-requires c =
    let len = bare_len c.args.line.now in
    let is = ap (λ b. length (bare_text b)) c.bare_of.ensures in
    omega (arith, len, is, c.in_ok-reserve.ensures.ok)

pub returns-clause-ok : goal.returns-clause-ok
unfolding bare
returns-clause-ok c =
    c.append_bare.ensures ∙ ap (λ t. t ++ bare_text (bare_view c.bare_of.result)) c.reserve.ensures.items
    ∙ ap (λ b. c.args.out.now.items ++ bare_text b) c.bare_of.ensures
