use Rattle.std.proofs.Common.{◌∙◌, sym, ap, Ok, Err, slice_get}
use Rattle.topology_text.specs.declared.parser.ParserState.TheVariants.{AfterChild}
use Rattle.topology_text.specs.ParserViews.{parser_view}
use Rattle.topology_text.specs.Statements.{is_child}
use Rattle.topology_text.proofs.Nodes.{child_bad, child_good}
use Rattle.topology_text.proofs.parser.Parser.add_child.Goals as goal

pub returns-then-is_child-clause-err : goal.returns-then-is_child-clause-err
returns-then-is_child-clause-err c =
    child_bad (parser_view c.args.self.now) c.args.line_number c.args.number c.args.parent (ap (λ xs. is_child (slice_get xs c.args.number)) (sym c.deref.ensures.value) ∙ sym c.is_child.ensures ∙ c.if-is_child.true)
    ∙ ap Err (sym c.bad.ensures)

pub returns-clause-ok : goal.returns-clause-ok
returns-clause-ok c =
    child_good (parser_view c.args.self.now) c.args.line_number c.args.number c.args.parent (ap (λ xs. is_child (slice_get xs c.args.number)) (sym c.deref.ensures.value) ∙ sym c.is_child.ensures ∙ c.if-is_child.false)
    ∙ (λ i. Ok (record { names = (parser_view c.args.self.now).names; nodes = sym c.set_parent.ensures i; state = AfterChild c.args.parent }))
