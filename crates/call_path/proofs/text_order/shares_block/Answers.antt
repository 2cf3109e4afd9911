use Rattle.std.proofs.Common.{◌∙◌, ap, sym, length, take, arith}
use Rattle.std.specs.Cmp.Lexicographic.{same_text}
use Rattle.std.proofs.lemmas.Slice.{between_to_end}
use Rattle.call_path.proofs.text_order.shares_block.Goals as goal

pub returns-clause-same : goal.returns-clause-same
returns-clause-same c same =
    let left = c.in-Some.ensures.cases.same ∙ ap (take 16) (between_to_end c.args.text.now c.args.offset (length c.args.text.now) (omega arith)) in
    let right = c.in-Some-first_chunk.ensures.cases.same ∙ ap (take 16) (between_to_end c.args.other.now c.args.offset (length c.args.other.now) (omega arith)) in
    sym left ∙ same_text c.in-Some.block.now c.in-Some-first_chunk.other_block.now (sym (sym c.eq.ensures ∙ same)) ∙ right
