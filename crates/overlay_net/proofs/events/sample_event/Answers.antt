use Rattle.std.proofs.Common.{◌≡◌, ◌∙◌, ◌<◌, ◌≤◌, ◌+◌, ◌++◌, List, [], ◌∷◌, length, get_or, slice_get, drop, sym, ap, subst, arith}
use Rattle.std.specs.List.{flat_map}
use Rattle.std.proofs.lemmas.List.{at_drop_all}
use Rattle.overlay_setup.specs.NodeSets.{In}
use Rattle.overlay_setup.specs.Scripts.{Stream}
use Rattle.overlay_event.specs.declared.event.Event.{Event}
use Rattle.overlay_event.specs.declared.event.Event.TheVariants.{Sample}
use Rattle.overlay_net.specs.Nets.{sample_of}
use Rattle.overlay_net.specs.Events.{IsNth}
use Rattle.overlay_net.specs.declared.events.Nth.TheVariants.{Found, Beyond}
use Rattle.overlay_net.proofs.Offers.{flat_from, in_read, one_past}
use Rattle.overlay_net.proofs.events.sample_event.Goals as goal
use Rattle.overlay_net.proofs.events.sample_event.Goals.{in-Some+else-left-eq0, in_default}

pub next_wave-requires-clause-stream : goal.next_wave-requires-clause-stream
next_wave-requires-clause-stream g c κs within =
    let seen : c.streams-stream-items.result.now ≡ c.args.plan.now.streams = c.streams-stream-items.ensures in
    subst (λ (xs : List Stream). In c.stream-item.result xs) seen (in_read c.streams-stream-items.result.now c.loop-stream.stream-index c.stream-item.result c.loop-stream-test.true c.stream-item.is)

pub returns-then-left-eq0 : goal.returns-then-left-eq0
returns-then-left-eq0 g c =
    let p = c.args.plan.now in
    let f = sample_of p c.args.node.now in
    let s = c.stream-item.result in
    let k = c.loop-stream.stream-index in
    let lt : k < length p.streams = subst (λ (xs : List Stream). k < length xs) c.streams-stream-items.ensures c.loop-stream-test.true in
    let is : s ≡ get_or p.streams k s = c.stream-item.is ∙ ap (λ (xs : List Stream). get_or xs k s) c.streams-stream-items.ensures in
    let e : Event = Sample c.number.result c.number-then-left-eq0.result c.in-Some.wave in
    let own : f s ≡ e ∷ [] = c.in-Some.ensures ∙ ap (λ a. Sample a s.number c.in-Some.wave ∷ []) (sym c.number.ensures) ∙ ap (λ a. Sample c.number.result a c.in-Some.wave ∷ []) (sym c.number-then-left-eq0.ensures) in
    c.loop-stream.invariant (Found e)
    (ap (slice_get (flat_map f (drop k p.streams))) c.if-left-eq0.true
    ∙ ap (λ (es : List Event). slice_get es 0) (flat_from f p.streams k s lt is ∙ ap (λ (es : List Event). es ++ flat_map f (drop (k + 1) p.streams)) own))

pub loop-stream-preserved : goal.loop-stream-preserved
loop-stream-preserved g c r h =
    let p = c.args.plan.now in
    let f = sample_of p c.args.node.now in
    let s = c.stream-item.result in
    let k = c.loop-stream.stream-index in
    let rest : List Event = flat_map f (drop (k + 1) p.streams) in
    let lt : k < length p.streams = subst (λ (xs : List Stream). k < length xs) c.streams-stream-items.ensures c.loop-stream-test.true in
    let is : s ≡ get_or p.streams k s = c.stream-item.is ∙ ap (λ (xs : List Stream). get_or xs k s) c.streams-stream-items.ensures in
    let split : flat_map f (drop k p.streams) ≡ f s ++ rest = flat_from f p.streams k s lt is in
    elim c.match-next_wave.branch [
      | in-Some+else-left-eq0 w ↦ c.loop-stream.invariant r (one_past (Sample c.args.node.now.number s.number w.in-Some.wave) (flat_map f (drop k p.streams)) rest c.loop-stream.left r (split ∙ ap (λ (es : List Event). es ++ rest) w.in-Some.ensures) (omega arith) (subst (λ j. IsNth rest j r) w.left-is h))
      | in_default w ↦
          let none : f s ≡ [] = w.in_default.ensures in
          c.loop-stream.invariant r (subst (λ (es : List Event). IsNth es c.loop-stream.left r) (sym (split ∙ ap (λ (es : List Event). es ++ rest) none)) (subst (λ j. IsNth rest j r) w.left-is h))
    ]

pub returns : goal.returns
returns g c =
    let p = c.args.plan.now in
    let f = sample_of p c.args.node.now in
    let k = c.loop-stream.stream-index in
    let past : length p.streams ≤ k = subst (λ (xs : List Stream). length xs ≤ k) c.streams-stream-items.ensures c.loop-stream-test.false in
    let none : flat_map f (drop k p.streams) ≡ [] = at_drop_all (flat_map f) p.streams k past in
    c.loop-stream.invariant (Beyond c.loop-stream.left) (subst (λ (es : List Event). IsNth es c.loop-stream.left (Beyond c.loop-stream.left)) (sym none) (omega arith))
