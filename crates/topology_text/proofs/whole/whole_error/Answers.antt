use Rattle.std.proofs.Common.{◌∙◌, sym, ap, Some, None}
use Rattle.text_lines.specs.declared.text_error.TextError.TheVariants.{Bad}
use Rattle.text_lines.specs.declared.text_error.Reason.TheVariants.{TwoRoots, Unreached}
use Rattle.topology_text.proofs.WholeFile.{error_no_root, error_two_roots, error_unreached, error_by_depth}
use Rattle.topology_text.proofs.whole.whole_error.Goals as goal

pub returns-in_default : goal.returns-in_default
returns-in_default c = ap Some c.bad.ensures ∙ sym (error_no_root c.args.nodes.now c.args.parents.now c.requires.parents c.in_default.ensures.root)

pub returns-in-Some-next_root : goal.returns-in-Some-next_root
returns-in-Some-next_root c =
    ap Some c.bad-in-Some-next_root.ensures ∙ ap (λ n. Some (Bad n TwoRoots)) c.line_of.ensures
    ∙ sym (error_two_roots c.args.nodes.now c.args.parents.now c.requires.parents c.in-Some.root c.in-Some.ensures.root c.in-Some-next_root.second _ c.in-Some-next_root.ensures.root)

pub returns-in-Some-first_beyond : goal.returns-in-Some-first_beyond
returns-in-Some-first_beyond c =
    ap Some c.bad-in-Some-first_beyond.ensures ∙ ap (λ n. Some (Bad n Unreached)) c.line_of-in-Some-first_beyond.ensures
    ∙ sym (error_unreached c.args.nodes.now c.args.parents.now c.requires.parents c.in-Some.root c.in-Some.ensures.root c.in_default-next_root.ensures.root c.in-Some-first_beyond.node c.in-Some-first_beyond.ensures)

pub returns-in-Some-first_beyond-2 : goal.returns-in-Some-first_beyond-2
returns-in-Some-first_beyond-2 c =
    ap Some c.over.ensures
    ∙ sym (error_by_depth c.args.nodes.now c.args.parents.now c.requires.parents c.in-Some.root c.in-Some.ensures.root c.in_default-next_root.ensures.root _ c.in_default-first_beyond.ensures c.in-Some-first_beyond-2.ensures)

pub returns : goal.returns
returns c =
    sym (error_by_depth c.args.nodes.now c.args.parents.now c.requires.parents c.in-Some.root c.in-Some.ensures.root c.in_default-next_root.ensures.root None c.in_default-first_beyond.ensures c.in_default-first_beyond-2.ensures)
