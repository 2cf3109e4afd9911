use Rattle.std.proofs.Common.{◌∙◌, ap, sym, arith, length, string_bytes}
use Rattle.std.proofs.lemmas.List.{take_all}
use Rattle.std.proofs.lemmas.Str.{IsUtf8-string_bytes}
use Rattle.call_path.proofs.Texts.{length-cut}
use Rattle.call_path.proofs.Held.{front_boundary, front_text, first_cuts, first_is}
use Rattle.call_path.proofs.frame_text.FrameText.cut.Goals as goal

pub truncate-requires : goal.truncate-requires
truncate-requires c _ = let b = front_boundary c.args.self.now (string_bytes c.self.inside.text) c.self.inside.ends.items c.self.view_is c.self.invariant c.args.depth (omega (arith, c.if-depth-as_slice.true, ap length c.self.view_is, length-cut 0 c.self.inside.ends.items (string_bytes c.self.inside.text), ap length c.as_slice.ensures)) c.as_slice-then-depth-as_slice.result.now c.end_in.result c.as_slice-then-depth-as_slice.ensures c.end_in.ensures (IsUtf8-string_bytes c.self.inside.text) in (b.0, λ _ lt. b.1 lt)

pub invariant_of-self : goal.invariant_of-self
invariant_of-self c = first_cuts c.args.self.now (string_bytes c.self.inside.text) c.self.inside.ends.items c.self.view_is c.self.invariant c.args.depth (omega (arith, c.if-depth-as_slice.true, ap length c.self.view_is, length-cut 0 c.self.inside.ends.items (string_bytes c.self.inside.text), ap length c.as_slice.ensures)) _ _ (c.truncate.ensures.bytes ∙ front_text c.args.self.now (string_bytes c.self.inside.text) c.self.inside.ends.items c.self.view_is c.self.invariant c.args.depth (omega (arith, c.if-depth-as_slice.true, ap length c.self.view_is, length-cut 0 c.self.inside.ends.items (string_bytes c.self.inside.text), ap length c.as_slice.ensures)) c.as_slice-then-depth-as_slice.result.now c.end_in.result c.as_slice-then-depth-as_slice.ensures c.end_in.ensures) c.truncate-then-depth-as_slice.ensures.items

pub returns-then-depth-as_slice : goal.returns-then-depth-as_slice
returns-then-depth-as_slice c = first_is c.args.self.now (string_bytes c.self.inside.text) c.self.inside.ends.items c.self.view_is c.self.invariant c.args.depth (omega (arith, c.if-depth-as_slice.true, ap length c.self.view_is, length-cut 0 c.self.inside.ends.items (string_bytes c.self.inside.text), ap length c.as_slice.ensures)) _ _ (c.truncate.ensures.bytes ∙ front_text c.args.self.now (string_bytes c.self.inside.text) c.self.inside.ends.items c.self.view_is c.self.invariant c.args.depth (omega (arith, c.if-depth-as_slice.true, ap length c.self.view_is, length-cut 0 c.self.inside.ends.items (string_bytes c.self.inside.text), ap length c.as_slice.ensures)) c.as_slice-then-depth-as_slice.result.now c.end_in.result c.as_slice-then-depth-as_slice.ensures c.end_in.ensures) c.truncate-then-depth-as_slice.ensures.items

pub returns-else-depth-as_slice : goal.returns-else-depth-as_slice
returns-else-depth-as_slice c =
    sym (take_all c.args.depth c.args.self.now (omega (arith, c.if-depth-as_slice.false, ap length c.self.view_is, length-cut 0 c.self.inside.ends.items (string_bytes c.self.inside.text), ap length c.as_slice.ensures)))
