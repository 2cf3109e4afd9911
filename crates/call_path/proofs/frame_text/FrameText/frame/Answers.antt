use Rattle.std.proofs.Common.{◌∙◌, refl, ap, get_or, sym, subst, arith, length, string_bytes, Some, []}
use Rattle.std.specs.Bool.{IsTrue}
use Rattle.std.proofs.lemmas.Option.{slice_get-get_or}
use Rattle.call_path.specs.Good.{is_good_frame}
use Rattle.call_path.proofs.Texts.{length-cut}
use Rattle.call_path.proofs.Held.{stands_read, good_at}
use Rattle.call_path.proofs.frame_text.FrameText.frame.Goals as goal

pub start_in-start-requires : goal.start_in-start-requires
start_in-start-requires c = omega (arith, c.requires, ap length c.self.view_is, length-cut 0 c.self.inside.ends.items (string_bytes c.self.inside.text), ap length c.as_slice-ends.ensures)

pub bounds-ends-i : goal.bounds-ends-i
bounds-ends-i c = omega (arith, c.requires, ap length c.self.view_is, length-cut 0 c.self.inside.ends.items (string_bytes c.self.inside.text), ap length c.as_slice-ends.ensures)

pub range-requires-clause-start_le_end : goal.range-requires-clause-start_le_end
range-requires-clause-start_le_end c = (stands_read c.args.self.now (string_bytes c.self.inside.text) c.self.inside.ends.items c.self.view_is c.self.invariant c.args.i c.requires c.as_slice-ends.result.now c.as_str.result.now c.start_in-start.result (get_or c.as_slice-ends.result.now c.args.i 0) c.as_slice-ends.ensures c.start_in-start.ensures refl c.as_str.ensures.value).order

pub range-requires-clause-start_boundary : goal.range-requires-clause-start_boundary
range-requires-clause-start_boundary c = (stands_read c.args.self.now (string_bytes c.self.inside.text) c.self.inside.ends.items c.self.view_is c.self.invariant c.args.i c.requires c.as_slice-ends.result.now c.as_str.result.now c.start_in-start.result (get_or c.as_slice-ends.result.now c.args.i 0) c.as_slice-ends.ensures c.start_in-start.ensures refl c.as_str.ensures.value).from c.as_str.utf8

pub range-requires-clause-end_boundary : goal.range-requires-clause-end_boundary
range-requires-clause-end_boundary c = (stands_read c.args.self.now (string_bytes c.self.inside.text) c.self.inside.ends.items c.self.view_is c.self.invariant c.args.i c.requires c.as_slice-ends.result.now c.as_str.result.now c.start_in-start.result (get_or c.as_slice-ends.result.now c.args.i 0) c.as_slice-ends.ensures c.start_in-start.ensures refl c.as_str.ensures.value).to

pub returns-clause-frame : goal.returns-clause-frame
returns-clause-frame c =
    slice_get-get_or c.args.self.now c.args.i [] c.requires ∙ ap Some (sym (c.range.ensures.value ∙ (stands_read c.args.self.now (string_bytes c.self.inside.text) c.self.inside.ends.items c.self.view_is c.self.invariant c.args.i c.requires c.as_slice-ends.result.now c.as_str.result.now c.start_in-start.result (get_or c.as_slice-ends.result.now c.args.i 0) c.as_slice-ends.ensures c.start_in-start.ensures refl c.as_str.ensures.value).is))

pub returns-clause-good : goal.returns-clause-good
returns-clause-good c =
    subst (λ f. IsTrue (is_good_frame f)) (sym (c.range.ensures.value ∙ (stands_read c.args.self.now (string_bytes c.self.inside.text) c.self.inside.ends.items c.self.view_is c.self.invariant c.args.i c.requires c.as_slice-ends.result.now c.as_str.result.now c.start_in-start.result (get_or c.as_slice-ends.result.now c.args.i 0) c.as_slice-ends.ensures c.start_in-start.ensures refl c.as_str.ensures.value).is)) (good_at c.args.self.now (string_bytes c.self.inside.text) c.self.inside.ends.items c.self.view_is c.self.invariant c.args.i c.requires)
