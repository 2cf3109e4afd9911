use Rattle.std.proofs.Common.{◌∙◌, sym}
use Rattle.arena_tree.proofs.More.{no_more, marks_united}
use Rattle.arena_tree.proofs.node.Node.unite.Goals as goal

pub returns-in_ok-union_into-2 : goal.returns-in_ok-union_into-2
returns-in_ok-union_into-2 c = marks_united c.self.inside.frames c.self.inside.label c.self.inside.ends _ _ c.self.inside.first c.self.inside.next c.args.self.now c.args.marks.label.now c.args.marks.ends.now c.self.view_is c.in_ok-union_into.ensures.ok c.in_ok-union_into-2.ensures.ok

pub returns-else-not-is_empty : goal.returns-else-not-is_empty
returns-else-not-is_empty c =
    marks_united c.self.inside.frames c.self.inside.label c.self.inside.ends _ _ c.self.inside.first c.self.inside.next c.args.self.now c.args.marks.label.now c.args.marks.ends.now c.self.view_is c.in_ok-union_into.ensures.ok
    (no_more c.self.inside.ends c.args.marks.ends.now (sym c.is_empty.ensures ∙ c.if-not-is_empty.false))
