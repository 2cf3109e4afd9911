use Rattle.std.proofs.Common.{◌∙◌, ◌-◌, sym, ap, arith}
use Rattle.std.proofs.lemmas.Result.{IfOk-weaker}
use Rattle.prefix_tree.specs.Tree.{Marks}
use Rattle.tree_view.specs.Selections.{place_in}
use Rattle.tree_view.proofs.Places.{fold_absent, fold_last, fold_past, frame_absent, frame_there, place_within}
use Rattle.tree_view.proofs.selection.Selection.ends_of.Goals as goal

pub returns-then-place-row : goal.returns-then-place-row
returns-then-place-row c =
    let m : Marks = (c.args.row.now.label.now, c.args.row.now.ends.now) in
    IfOk-weaker c.copy.result _ _
    (λ ends e p len at. e ∙ frame_there c.in-Frame.field-0 p m c.args.place (at ∙ ap (λ w. place_in w p) c.in-Frame.is) c.args.self.now c.in-Frame.is (omega (arith, c.if-place-row.true, len)))
    c.copy.ensures

pub returns-else-place-row : goal.returns-else-place-row
returns-else-place-row c p len at =
    let m : Marks = (c.args.row.now.label.now, c.args.row.now.ends.now) in
    c.new.ensures ∙ frame_absent c.in-Frame.field-0 p m c.args.place (at ∙ ap (λ w. place_in w p) c.in-Frame.is) c.args.self.now c.in-Frame.is (omega (arith, c.if-place-row.false, len))

pub returns-then-place-row-2 : goal.returns-then-place-row-2
returns-then-place-row-2 c =
    let m : Marks = (c.args.row.now.label.now, c.args.row.now.ends.now) in
    IfOk-weaker c.copy-then-place-row-2.result _ _
    (λ ends e p len at. e ∙ fold_absent c.in-Fold.field-0 p m c.args.place (at ∙ ap (λ w. place_in w p) c.in-Fold.is) c.args.self.now c.in-Fold.is (c.if-place-row-2.true ∙ sym len))
    c.copy-then-place-row-2.ensures

pub returns-then-place-row-3 : goal.returns-then-place-row-3
returns-then-place-row-3 c =
    let m : Marks = (c.args.row.now.label.now, c.args.row.now.ends.now) in
    IfOk-weaker c.copy-then-place-row-3.result _ _
    (λ ends e p len at. e ∙ fold_last c.in-Fold.field-0 p m c.args.place (at ∙ ap (λ w. place_in w p) c.in-Fold.is) c.args.self.now c.in-Fold.is (omega (arith, c.if-place-row-3.true, len, c.requires)))
    c.copy-then-place-row-3.ensures

pub returns-else-place-row-3 : goal.returns-else-place-row-3
returns-else-place-row-3 c p len at =
    let m : Marks = (c.args.row.now.label.now, c.args.row.now.ends.now) in
    let here = at ∙ ap (λ w. place_in w p) c.in-Fold.is in
    c.new-else-place-row-3.ensures
    ∙ fold_past c.in-Fold.field-0 p m c.args.place here c.args.self.now c.in-Fold.is (omega (arith, here, place_within c.in-Fold.field-0.now p))
    (λ e. c.if-place-row-2.false (e ∙ len)) (λ e. c.if-place-row-3.false (omega (arith, e, len, c.requires)))
