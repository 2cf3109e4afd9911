use Rattle.std.proofs.Common.{◌∙◌, ap, arith, length, take, string_bytes}
use Rattle.std.proofs.lemmas.List.{length-take-le}
use Rattle.call_path.proofs.Texts.{length-cut}
use Rattle.call_path.proofs.Held.{start_in-take, rest_boundary, rest_text, rest_good}
use Rattle.call_path.proofs.frame_text.FrameText.part_text.Goals as goal

pub start_in-requires : goal.start_in-requires
start_in-requires c = omega (arith, c.requires.not_empty, c.requires.within, ap length c.self.view_is, length-cut 0 c.self.inside.ends.items (string_bytes c.self.inside.text), ap length c.as_slice.ensures)

pub range_from-requires : goal.range_from-requires
range_from-requires c =
    rest_boundary (take c.args.depth c.args.self.now) c.args.from (omega (arith, length-take-le c.args.depth c.args.self.now c.requires.within, c.requires.not_empty)) c.prefix_text.ensures.good c.prefix_text.result.now c.prefix_text.ensures.text c.start_in.result
    (c.start_in.ensures ∙ start_in-take c.args.self.now (string_bytes c.self.inside.text) c.self.inside.ends.items c.self.view_is c.self.invariant c.args.from c.args.depth c.requires.not_empty c.as_slice.result.now c.as_slice.ensures)
    c.prefix_text.utf8

pub returns-clause-text : goal.returns-clause-text
returns-clause-text c =
    c.range_from.ensures.value
    ∙ rest_text (take c.args.depth c.args.self.now) c.args.from (omega (arith, length-take-le c.args.depth c.args.self.now c.requires.within, c.requires.not_empty)) c.prefix_text.ensures.good c.prefix_text.result.now c.prefix_text.ensures.text c.start_in.result
    (c.start_in.ensures ∙ start_in-take c.args.self.now (string_bytes c.self.inside.text) c.self.inside.ends.items c.self.view_is c.self.invariant c.args.from c.args.depth c.requires.not_empty c.as_slice.result.now c.as_slice.ensures)

pub returns-clause-good : goal.returns-clause-good
returns-clause-good c = rest_good (take c.args.depth c.args.self.now) c.args.from (omega (arith, length-take-le c.args.depth c.args.self.now c.requires.within, c.requires.not_empty)) c.prefix_text.ensures.good
