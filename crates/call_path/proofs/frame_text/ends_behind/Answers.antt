use Rattle.std.proofs.Common.{◌∙◌, ◌-◌, ◌++◌, [], ◌∷◌, length, map, take, drop, get_or, ap, sym, arith}
use Rattle.std.proofs.lemmas.List.{take_all, take_more, length-take, length-drop, length-take-le, length-map, map-append}
use Rattle.call_path.proofs.frame_text.ends_behind.Goals as goal

pub loop-end-init : goal.loop-end-init
loop-end-init c = record {
  counted = c.in_ok-rest.ensures.items;
  room = omega (arith, c.in_ok-rest.ensures.capacity, length-take (length c.args.ends.now - c.args.depth) (drop c.args.depth c.args.ends.now));
}

pub push_reserved-requires : goal.push_reserved-requires
push_reserved-requires c =
    let items = take (length c.args.ends.now - c.args.depth) (drop c.args.depth c.args.ends.now) in
    let pushed = ap length c.loop-end.invariant.counted ∙ length-map (take c.loop-end.end-index items) (λ end. end - c.start_in-start.result) ∙ length-take-le c.loop-end.end-index items c.loop-end.auto.end-index-end in
    (omega arith, omega (arith, pushed, c.loop-end-test.true, c.loop-end.invariant.room))

pub loop-end-preserved : goal.loop-end-preserved
loop-end-preserved c =
    let items = take (length c.args.ends.now - c.args.depth) (drop c.args.depth c.args.ends.now) in
    record {
      counted =
          c.push_reserved.ensures.items
          ∙ (λ k. c.loop-end.invariant.counted k ++ c.saturating_sub.ensures k ∷ [])
          ∙ sym (map-append (λ end. end - c.start_in-start.result) (take c.loop-end.end-index items) (get_or items c.loop-end.end-index 0 ∷ []))
          ∙ ap (map (λ end. end - c.start_in-start.result)) (sym (take_more items c.loop-end.end-index 0 c.loop-end-test.true));
      room = omega (arith, c.push_reserved.ensures.capacity, c.loop-end.invariant.room);
    }

pub returns : goal.returns
returns c =
    let items = take (length c.args.ends.now - c.args.depth) (drop c.args.depth c.args.ends.now) in
    c.loop-end.invariant.counted
    ∙ ap (map (λ end. end - c.start_in-start.result)) (take_all c.loop-end.end-index items c.loop-end-test.false ∙ take_all (length c.args.ends.now - c.args.depth) (drop c.args.depth c.args.ends.now) (omega (arith, length-drop c.args.depth c.args.ends.now)))
    ∙ ap (λ start. map (λ end. end - start) (drop c.args.depth c.args.ends.now)) c.start_in-start.ensures
