use Rattle.std.proofs.Common.{◌∙◌, sym, ap, not}
use Rattle.std.specs.List.{list_any}
use Rattle.stack_path.proofs.Plumbing.{some_left, none_left}
use Rattle.stack_path.proofs.stacks.drop_plumbing.Goals as goal

pub returns-then-has_other_files : goal.returns-then-has_other_files
returns-then-has_other_files c =
    c.keep_other_files.ensures
    ∙ sym (some_left (λ f. not f.is_plumbing) c.args.stack.now.items c.args.stack.now.items
    (ap (list_any (λ f. not f.is_plumbing)) (sym c.as_slice.ensures.value) ∙ sym c.has_other_files.ensures ∙ c.if-has_other_files.true))

pub returns-else-has_other_files : goal.returns-else-has_other_files
returns-else-has_other_files c =
    sym (none_left (λ f. not f.is_plumbing) c.args.stack.now.items c.args.stack.now.items
    (ap (list_any (λ f. not f.is_plumbing)) (sym c.as_slice.ensures.value) ∙ sym c.has_other_files.ensures ∙ c.if-has_other_files.false))
