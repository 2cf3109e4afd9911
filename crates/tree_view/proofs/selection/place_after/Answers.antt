use Rattle.std.proofs.Common.{◌≡◌, ◌∙◌, ◌-◌, suc, ap, arith, cond, sym}
use Rattle.std.specs.Cmp.Lexicographic.{texts_ties}
use Rattle.tree_view.proofs.Places.{place_kept, place_new}
use Rattle.tree_view.proofs.selection.place_after.Goals as goal

pub returns-then-before-depth : goal.returns-then-before-depth
returns-then-before-depth c p within is =
    is ∙ sym (place_kept c.args.wanted.now p (c.args.depth - 1) c.args.frame.now (omega (arith, c.if-before-depth.true, is)) (omega (arith, within)))

pub returns-then-eq : goal.returns-then-eq
returns-then-eq c p within is =
    let n = c.args.depth - 1 in
    sym (place_new c.args.wanted.now p n c.args.frame.now (omega (arith, c.if-before-depth.false, is)) (omega (arith, within))
    ∙ ap (λ b. cond b n (suc n)) (sym (texts_ties c.args.frame.now c.args.wanted.now) ∙ sym c.if-eq.ensures))

pub returns-else-eq : goal.returns-else-eq
returns-else-eq c p within is =
    let n = c.args.depth - 1 in
    let whole : suc n ≡ c.args.depth = omega (arith, c.requires) in
    sym (place_new c.args.wanted.now p n c.args.frame.now (omega (arith, c.if-before-depth.false, is)) (omega (arith, within))
    ∙ ap (λ b. cond b n (suc n)) (sym (texts_ties c.args.frame.now c.args.wanted.now) ∙ sym c.if-eq.ensures) ∙ whole)
