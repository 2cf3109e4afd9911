use Rattle.std.proofs.Common.{◌∙◌, ap, sym, Option, not}
use Rattle.std.specs.Prelude.{is_some}
use Rattle.prefix_tree.specs.Tree.{Marks}
use Rattle.prefix_tree.specs.Joined.{both_marks}
use Rattle.prefix_tree.proofs.Edits.{present_marks, absent_marks}
use Rattle.prefix_tree.proofs.owned.united_marks.Goals as goal

pub returns-in_ok-united-in-Ok-2-clause-marks : goal.returns-in_ok-united-in-Ok-2-clause-marks
returns-in_ok-united-in-Ok-2-clause-marks c =
    (λ k. (c.args.path.now, (c.in_ok-united-in-Ok.ensures k, c.in_ok-united-in-Ok-2.ensures k)))
    ∙ ap (λ (o : Option Marks). (c.args.path.now, both_marks o (c.args.label.now, c.args.ends.now)))
    (sym (present_marks c.args.path.now c.args.rows.now c.requires c.in-Ok.at (sym c.find_row.ensures.index ∙ c.in-Ok.is) c.index-rows-at.result c.in-Ok.ensures.found c.index-rows-at.is))

pub returns-in_ok-united-in-Ok-2-clause-new : goal.returns-in_ok-united-in-Ok-2-clause-new
returns-in_ok-united-in-Ok-2-clause-new c =
    ap (λ (o : Option Marks). not (is_some o))
    (sym (present_marks c.args.path.now c.args.rows.now c.requires c.in-Ok.at (sym c.find_row.ensures.index ∙ c.in-Ok.is) c.index-rows-at.result c.in-Ok.ensures.found c.index-rows-at.is))

pub returns-in_ok-copy-in-Err-2-clause-marks : goal.returns-in_ok-copy-in-Err-2-clause-marks
returns-in_ok-copy-in-Err-2-clause-marks c =
    (λ k. (c.args.path.now, (c.in_ok-copy-in-Err.ensures k, c.in_ok-copy-in-Err-2.ensures k)))
    ∙ ap (λ (o : Option Marks). (c.args.path.now, both_marks o (c.args.label.now, c.args.ends.now)))
    (sym (absent_marks c.args.path.now c.args.rows.now c.requires c.in-Err.field-0 (sym c.find_row.ensures.index ∙ c.in-Err.is)))

pub returns-in_ok-copy-in-Err-2-clause-new : goal.returns-in_ok-copy-in-Err-2-clause-new
returns-in_ok-copy-in-Err-2-clause-new c =
    ap (λ (o : Option Marks). not (is_some o))
    (sym (absent_marks c.args.path.now c.args.rows.now c.requires c.in-Err.field-0 (sym c.find_row.ensures.index ∙ c.in-Err.is)))
