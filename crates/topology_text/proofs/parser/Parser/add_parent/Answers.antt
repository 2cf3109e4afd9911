use Rattle.std.proofs.Common.{◌∙◌, sym, ap, Ok, Err, slice_get}
use Rattle.topology_text.specs.declared.parser.ParserState.TheVariants.{AfterParent}
use Rattle.topology_text.specs.ParserViews.{parser_view}
use Rattle.topology_text.specs.Statements.{is_parent}
use Rattle.topology_text.proofs.Nodes.{parent_bad, parent_good}
use Rattle.topology_text.proofs.parser.Parser.add_parent.Goals as goal

pub returns-then-is_parent-clause-err : goal.returns-then-is_parent-clause-err
returns-then-is_parent-clause-err c =
    parent_bad (parser_view c.args.self.now) c.args.line_number c.args.number (ap (λ xs. is_parent (slice_get xs c.args.number)) (sym c.deref.ensures.value) ∙ sym c.is_parent.ensures ∙ c.if-is_parent.true)
    ∙ ap Err (sym c.bad.ensures)

pub returns-clause-ok : goal.returns-clause-ok
returns-clause-ok c =
    parent_good (parser_view c.args.self.now) c.args.line_number c.args.number (ap (λ xs. is_parent (slice_get xs c.args.number)) (sym c.deref.ensures.value) ∙ sym c.is_parent.ensures ∙ c.if-is_parent.false)
    ∙ (λ i. Ok (record { names = (parser_view c.args.self.now).names; nodes = sym c.set_is_parent.ensures i; state = AfterParent c.args.number }))
