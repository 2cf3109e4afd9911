use Rattle.std.proofs.Common.{◌∙◌, ap, sym, arith, length, take, string_bytes}
use Rattle.std.proofs.lemmas.List.{length-take-le}
use Rattle.call_path.proofs.Texts.{length-cut}
use Rattle.call_path.proofs.Held.{first_cuts, first_is}
use Rattle.call_path.proofs.frame_text.FrameText.first.Goals as goal

pub slice_bounds-from_slice-end : goal.slice_bounds-from_slice-end
slice_bounds-from_slice-end c =
    sym (length-take-le c.args.depth c.as_slice.result.now (omega (arith, c.requires, ap length c.self.view_is, length-cut 0 c.self.inside.ends.items (string_bytes c.self.inside.text), ap length c.as_slice.ensures)))

pub invariant_of-result : goal.invariant_of-result
invariant_of-result c =
    first_cuts c.args.self.now (string_bytes c.self.inside.text) c.self.inside.ends.items c.self.view_is c.self.invariant c.args.depth c.requires (string_bytes c.in_ok-text.text) c.in_ok-ends.ends.items (c.in_ok-text.ensures.ok ∙ c.prefix_text.ensures.text) (c.in_ok-ends.ensures.ok ∙ ap (take c.args.depth) c.as_slice.ensures)

pub returns : goal.returns
returns c =
    first_is c.args.self.now (string_bytes c.self.inside.text) c.self.inside.ends.items c.self.view_is c.self.invariant c.args.depth c.requires (string_bytes c.in_ok-text.text) c.in_ok-ends.ends.items (c.in_ok-text.ensures.ok ∙ c.prefix_text.ensures.text) (c.in_ok-ends.ensures.ok ∙ ap (take c.args.depth) c.as_slice.ensures)
