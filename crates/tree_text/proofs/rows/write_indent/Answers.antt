use Rattle.std.proofs.Common.{◌≡◌, ◌∙◌, ◌++◌, ◌+◌, ◌-◌, ap, sym, [], ◌∷◌, arith}
use Rattle.std.proofs.lemmas.List.{append-nil}
use Rattle.tree_text.specs.TreeText.{indent}
use Rattle.tree_text.proofs.Lines.{indent_eight, indent_more}
use Rattle.tree_text.proofs.rows.write_indent.Goals as goal

pub loop-left-init : goal.loop-left-init
loop-left-init c =
    let none : 0 ≡ c.args.depth - c.args.depth = omega arith in
    record {
      within = omega arith;
      text = sym (append-nil c.args.out.now.items) ∙ ap (λ n. c.args.out.now.items ++ indent n) none;
    }

pub loop-left-preserved : goal.loop-left-preserved
loop-left-preserved c =
    let within = c.loop-left.invariant.within in
    let more : c.args.depth - c.loop-left.left + 8 ≡ c.args.depth - (c.loop-left.left - 8) = omega (arith, within, c.loop-left-test.true) in
    record {
      within = omega (arith, within);
      text = c.in_ok-extend_from_slice.ensures.items ∙ ap (λ ys. ys ++ indent 8) c.loop-left.invariant.text
          ∙ indent_eight c.args.out.now.items (c.args.depth - c.loop-left.left) ∙ ap (λ n. c.args.out.now.items ++ indent n) more;
    }

pub loop-init : goal.loop-init
loop-init c =
    let same : c.args.depth - c.loop-left.left ≡ c.args.depth - c.loop-left.left + 0 = omega arith in
    c.loop-left.invariant.text ∙ ap (λ n. c.args.out.now.items ++ indent n) same

pub loop-preserved : goal.loop-preserved
loop-preserved c =
    let passed = c.args.depth - c.loop-left.left + c.loop.counter in
    let more : passed + 1 ≡ c.args.depth - c.loop-left.left + (c.loop.counter + 1) = omega arith in
    c.in_ok-extend_from_slice-2.ensures.items ∙ ap (λ ys. ys ++ 32 ∷ 32 ∷ []) c.loop.invariant
    ∙ indent_more c.args.out.now.items passed ∙ ap (λ n. c.args.out.now.items ++ indent n) more

pub returns : goal.returns
returns c =
    let all : c.args.depth - c.loop-left.left + c.loop.counter ≡ c.args.depth = omega (arith, c.loop-left.invariant.within, c.loop.auto.counter-end, c.loop-test.false) in
    c.loop.invariant ∙ ap (λ n. c.args.out.now.items ++ indent n) all
