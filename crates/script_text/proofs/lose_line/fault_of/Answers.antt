use Rattle.std.proofs.Common.{◌≡◌, ◌∙◌, sym, ap, Err}
use Rattle.script_text.specs.ParserViews.{lose_view}
use Rattle.script_text.specs.Numbers.{number_from}
use Rattle.script_text.specs.Losses.{fault_of}
use Rattle.text_lines.proofs.Errors.{handed_on}
use Rattle.script_text.proofs.Losses.{fault_bad_node, fault_bad_after, fault_bad_keep, fault_good}
use Rattle.script_text.proofs.lose_line.fault_of.Goals as goal

pub returns-in_err-node-clause-err : goal.returns-in_err-node-clause-err
returns-in_err-node-clause-err c =
    let t = c.args.topology.now in
    let fs = c.args.faults.now in
    let w = lose_view c.args.words.now in
    handed_on c.from_residual.result c.in_err-node.field-0.0 (λ e. fault_of t fs c.args.line_number w ≡ Err e) c.from_residual.ensures
    (fault_bad_node t fs c.args.line_number w c.in_err-node.field-0.0 c.in_err-node.ensures.err)

pub returns-in_err-after-clause-err : goal.returns-in_err-after-clause-err
returns-in_err-after-clause-err c =
    let t = c.args.topology.now in
    let fs = c.args.faults.now in
    let w = lose_view c.args.words.now in
    handed_on c.from_residual-in_err-after.result c.in_err-after.field-0.0 (λ e. fault_of t fs c.args.line_number w ≡ Err e) c.from_residual-in_err-after.ensures
    (fault_bad_after t fs c.args.line_number w c.in_ok-node.node c.in_ok-node.ensures.ok c.in_err-after.field-0.0 (ap (λ m. number_from c.args.line_number 0 65535 m w.after) (sym c.bad.ensures) ∙ c.in_err-after.ensures.err))

pub returns-in_err-keep-clause-err : goal.returns-in_err-keep-clause-err
returns-in_err-keep-clause-err c =
    let t = c.args.topology.now in
    let fs = c.args.faults.now in
    let w = lose_view c.args.words.now in
    handed_on c.from_residual-in_err-keep.result c.in_err-keep.field-0.0 (λ e. fault_of t fs c.args.line_number w ≡ Err e) c.from_residual-in_err-keep.ensures
    (fault_bad_keep t fs c.args.line_number w c.in_ok-node.node c.in_ok-node.ensures.ok c.in_ok-after.after (ap (λ m. number_from c.args.line_number 0 65535 m w.after) (sym c.bad.ensures) ∙ c.in_ok-after.ensures.ok) c.in_err-keep.field-0.0
    (ap (λ m. number_from c.args.line_number 0 65535 m w.keep) (sym c.bad-2.ensures) ∙ c.in_err-keep.ensures.err))

pub returns-clause-ok : goal.returns-clause-ok
returns-clause-ok c =
    let t = c.args.topology.now in
    let fs = c.args.faults.now in
    let w = lose_view c.args.words.now in
    fault_good t fs c.args.line_number w c.in_ok-node.node c.in_ok-node.ensures.ok c.in_ok-after.after (ap (λ m. number_from c.args.line_number 0 65535 m w.after) (sym c.bad.ensures) ∙ c.in_ok-after.ensures.ok) c.in_ok-keep.keep
    (ap (λ m. number_from c.args.line_number 0 65535 m w.keep) (sym c.bad-2.ensures) ∙ c.in_ok-keep.ensures.ok)
