use Rattle.std.proofs.Common.{◌≡◌, ◌-◌, ◌+◌, sym, ap, ◌∙◌, not, is_some, arith, Bool, true, false}
use Rattle.topology_text.specs.Whole.{is_within}
use Rattle.topology_text.proofs.Bytes.{within_parent, within_root, within_none}
use Rattle.topology_text.proofs.whole.is_within.Goals as goal

pub returns-in_default : goal.returns-in_default
returns-in_default c =
    sym (within_root c.args.parents.now c.loop.at (c.args.links - c.loop.counter) (sym c.parent_at.ensures ∙ c.in_default.is)) ∙ c.loop.invariant

pub loop-preserved : goal.loop-preserved
loop-preserved c =
    let s : c.args.links - (c.loop.counter + 1) + 1 ≡ c.args.links - c.loop.counter = omega arith in
    sym (within_parent c.args.parents.now c.loop.at c.in-Some.parent (c.args.links - (c.loop.counter + 1)) (sym c.parent_at.ensures ∙ c.in-Some.is)) ∙ ap (λ n. is_within c.args.parents.now n c.loop.at) s ∙ c.loop.invariant

not_not : (b r : Bool) → b ≡ not r → r ≡ not b
not_not b true e = sym (ap not e)
not_not b false e = sym (ap not e)

pub returns : goal.returns
returns c =
    let s : c.args.links - c.loop.counter ≡ 0 = omega arith in
    not_not _ c.is_none.result c.is_none.ensures ∙ ap (λ p. not (is_some p)) c.parent_at-2.ensures
    ∙ sym (within_none c.args.parents.now c.loop.at) ∙ ap (λ n. is_within c.args.parents.now n c.loop.at) (sym s) ∙ c.loop.invariant
