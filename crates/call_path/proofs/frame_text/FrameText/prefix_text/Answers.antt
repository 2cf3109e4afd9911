use Rattle.std.proofs.Common.{◌≡◌, ◌-◌, ◌∙◌, ap, sym, subst, arith, length, take, string_bytes}
use Rattle.std.specs.Prelude.{slice_range}
use Rattle.std.specs.Str.{IsCharBoundary}
use Rattle.std.proofs.lemmas.Str.{IsUtf8-string_bytes}
use Rattle.call_path.proofs.Texts.{length-cut}
use Rattle.call_path.proofs.Held.{front_boundary, front_text, front_good}
use Rattle.call_path.proofs.frame_text.FrameText.prefix_text.Goals as goal

pub end_in-requires : goal.end_in-requires
end_in-requires c = omega (arith, c.requires, ap length c.self.view_is, length-cut 0 c.self.inside.ends.items (string_bytes c.self.inside.text), ap length c.as_slice.ensures)

pub range-requires-clause-end_boundary : goal.range-requires-clause-end_boundary
range-requires-clause-end_boundary c =
    subst (λ t. IsCharBoundary t c.end_in.result) (sym c.as_str.ensures.value) (front_boundary c.args.self.now (string_bytes c.self.inside.text) c.self.inside.ends.items c.self.view_is c.self.invariant c.args.depth c.requires c.as_slice.result.now c.end_in.result c.as_slice.ensures c.end_in.ensures (IsUtf8-string_bytes c.self.inside.text))

pub returns-clause-text : goal.returns-clause-text
returns-clause-text c =
    c.range.ensures.value ∙ (λ k. slice_range (c.as_str.ensures.value k) 0 c.end_in.result)
    ∙ (let e : c.end_in.result - 0 ≡ c.end_in.result = omega arith in ap (λ n. take n (string_bytes c.self.inside.text)) e)
    ∙ front_text c.args.self.now (string_bytes c.self.inside.text) c.self.inside.ends.items c.self.view_is c.self.invariant c.args.depth c.requires c.as_slice.result.now c.end_in.result c.as_slice.ensures c.end_in.ensures

pub returns-clause-good : goal.returns-clause-good
returns-clause-good c = front_good c.args.self.now (string_bytes c.self.inside.text) c.self.inside.ends.items c.self.view_is c.self.invariant c.args.depth c.requires
