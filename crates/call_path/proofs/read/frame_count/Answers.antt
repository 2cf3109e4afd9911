use Rattle.std.proofs.Common.{◌≡◌, ◌∙◌, ◌+◌, ◌-◌, ◌++◌, [], ◌∷◌, length, drop, suc, refl, sym, ap, arith}
use Rattle.std.specs.Prelude.{slice_range}
use Rattle.std.proofs.lemmas.List.{length-take-le, length-drop}
use Rattle.std.proofs.lemmas.Bool.{not-true}
use Rattle.call_path.specs.Reading.{first_error, frames, is_control}
use Rattle.call_path.proofs.Errors.{first_bad, first_good, last_good, ends_places}
use Rattle.call_path.proofs.ControlBytes.{none_between}
use Rattle.call_path.proofs.Marks.{at_mark, at_end}
use Rattle.call_path.proofs.read.frame_count.Goals as goal

pub loop-end-init : goal.loop-end-init
loop-end-init c = record {
  few = omega arith;
  inside = omega arith;
  ends = sym (ends_places c.args.text.now) ∙ ap (λ ends. ends ++ length c.args.text.now ∷ []) (sym (c.into_iter-end-iterator.ensures.into_iter_gives ∙ c.memchr_iter-end-items.ensures.value));
  error = refl;
  count = omega arith;
}

pub slice_bounds-frame_error-count : goal.slice_bounds-frame_error-count
slice_bounds-frame_error-count c = (at_mark c.args.text.now c.loop-end.start c.loop-end.invariant.inside c.loop-end.end-iterator c.loop-end.invariant.ends c.in-Some.end c.next.new.self c.in-Some.ensures.steps).0

pub slice_bounds-frame_error-start : goal.slice_bounds-frame_error-start
slice_bounds-frame_error-start c = (at_mark c.args.text.now c.loop-end.start c.loop-end.invariant.inside c.loop-end.end-iterator c.loop-end.invariant.ends c.in-Some.end c.next.new.self c.in-Some.ensures.steps).0

pub slice_bounds-frame_error-end : goal.slice_bounds-frame_error-end
slice_bounds-frame_error-end c = let h = (at_mark c.args.text.now c.loop-end.start c.loop-end.invariant.inside c.loop-end.end-iterator c.loop-end.invariant.ends c.in-Some.end c.next.new.self c.in-Some.ensures.steps).1 in omega (arith, h)

pub frame_error-requires-clause-clean : goal.frame_error-requires-clause-clean
frame_error-requires-clause-clean c clean =
    none_between is_control c.loop-end.start (c.in-Some.end - c.loop-end.start) c.args.text.now (sym c.has_control-clean.ensures ∙ not-true _ clean)

pub returns-in-Some-frame_error-clause-err : goal.returns-in-Some-frame_error-clause-err
returns-in-Some-frame_error-clause-err c =
    sym c.loop-end.invariant.error
    ∙ ap (first_error c.loop-end.i c.loop-end.start) (at_mark c.args.text.now c.loop-end.start c.loop-end.invariant.inside c.loop-end.end-iterator c.loop-end.invariant.ends c.in-Some.end c.next.new.self c.in-Some.ensures.steps).2
    ∙ first_bad c.loop-end.i c.loop-end.start _ _ c.in-Some-frame_error.error (sym c.in-Some-frame_error.ensures.error)

pub overflow_add-start : goal.overflow_add-start
overflow_add-start c = let h = (at_mark c.args.text.now c.loop-end.start c.loop-end.invariant.inside c.loop-end.end-iterator c.loop-end.invariant.ends c.in-Some.end c.next.new.self c.in-Some.ensures.steps).1 in omega (arith, h)

pub loop-end-preserved : goal.loop-end-preserved
loop-end-preserved c =
    let frame = slice_range c.args.text.now c.loop-end.start c.in-Some.end in
    let rest = frames (drop (c.in-Some.end + 1) c.args.text.now) in
    let mark = at_mark c.args.text.now c.loop-end.start c.loop-end.invariant.inside c.loop-end.end-iterator c.loop-end.invariant.ends c.in-Some.end c.next.new.self c.in-Some.ensures.steps in
    let long : length frame ≡ c.in-Some.end - c.loop-end.start = length-take-le (c.in-Some.end - c.loop-end.start) (drop c.loop-end.start c.args.text.now) (omega (arith, length-drop c.loop-end.start c.args.text.now, mark.1)) in
    let i : c.loop-end.i + 1 ≡ suc c.loop-end.i = omega arith in
    let start : c.in-Some.end + 1 ≡ suc (c.loop-end.start + length frame) = omega (arith, long, mark.0) in
    record {
      few = omega (arith, mark.0, c.loop-end.invariant.few);
      inside = omega (arith, mark.1);
      ends = mark.3;
      error = (λ k. first_error (i k) (start k) rest) ∙ sym (first_good c.loop-end.i c.loop-end.start frame rest (sym c.in_default.ensures.error)) ∙ ap (first_error c.loop-end.i c.loop-end.start) (sym mark.2) ∙ c.loop-end.invariant.error;
      count = omega (arith, ap length mark.2, c.loop-end.invariant.count);
    }

pub frame_error-requires-2-clause-clean : goal.frame_error-requires-2-clause-clean
frame_error-requires-2-clause-clean c clean =
    none_between is_control c.loop-end.start (length c.args.text.now - c.loop-end.start) c.args.text.now (sym c.has_control-clean.ensures ∙ not-true _ clean)

pub returns-in-Some-frame_error-2-clause-err : goal.returns-in-Some-frame_error-2-clause-err
returns-in-Some-frame_error-2-clause-err c =
    sym c.loop-end.invariant.error
    ∙ ap (first_error c.loop-end.i c.loop-end.start) (at_end c.args.text.now c.loop-end.start c.loop-end.invariant.inside c.loop-end.end-iterator c.loop-end.invariant.ends c.in-None.ensures.steps.0)
    ∙ first_bad c.loop-end.i c.loop-end.start _ _ c.in-Some-frame_error-2.error (sym c.in-Some-frame_error-2.ensures.error)

pub returns-in-None-frame_error-clause-count : goal.returns-in-None-frame_error-clause-count
returns-in-None-frame_error-clause-count c = sym (ap (λ p. c.loop-end.i + length p) (at_end c.args.text.now c.loop-end.start c.loop-end.invariant.inside c.loop-end.end-iterator c.loop-end.invariant.ends c.in-None.ensures.steps.0)) ∙ c.loop-end.invariant.count

pub returns-in-None-frame_error-clause-ok : goal.returns-in-None-frame_error-clause-ok
returns-in-None-frame_error-clause-ok c =
    sym c.loop-end.invariant.error
    ∙ ap (first_error c.loop-end.i c.loop-end.start) (at_end c.args.text.now c.loop-end.start c.loop-end.invariant.inside c.loop-end.end-iterator c.loop-end.invariant.ends c.in-None.ensures.steps.0)
    ∙ last_good c.loop-end.i c.loop-end.start _ [] (sym c.in-None-frame_error.ensures.error)
