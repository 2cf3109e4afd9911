use Rattle.std.proofs.Common.{◌<◌, ℕ, List, [], ◌∷◌, map, inl, inr, sym, subst}
use Rattle.overlay_setup.specs.NodeSets.{In, up_to}
use Rattle.overlay_setup.specs.Scripts.{Stream}
use Rattle.stat_plan.specs.Plans.{waves_of}
use Rattle.stat_plan.proofs.InLists.{append_left, append_right, in_at, in_map, up_to_in}
use Rattle.node_tests.proofs.wide_merge_tests.trees_and_classes_of_several_workers_are_those_of_one.Goals as goal

waves_listed : (xs : List Stream) (x : Stream) (w : ℕ) → In x xs → w < x.waves → In {X = ℕ × ℕ} (x.number, w) (waves_of xs)
waves_listed [] x w there lt = absurd there
waves_listed (y ∷ xs) x w (inl is) lt =
    append_left (x.number, w) (map (λ w. (y.number, w)) (up_to y.waves)) (waves_of xs)
    (subst (λ (z : Stream). In {X = ℕ × ℕ} (x.number, w) (map (λ w. (z.number, w)) (up_to z.waves))) is (in_map (λ (w : ℕ). (x.number, w)) w (up_to x.waves) (up_to_in x.waves w lt)))
waves_listed (y ∷ xs) x w (inr there) lt = append_right (x.number, w) (map (λ w. (y.number, w)) (up_to y.waves)) (waves_of xs) (waves_listed xs x w there lt)

pub assert_waves-requires-after_bounds : goal.assert_waves-requires-after_bounds
assert_waves-requires-after_bounds g c κs w lt =
    let items = c.streams-stream-items.result.now in
    let item = c.stream-item.result in
    let there : In item items = subst (λ (x : Stream). In x items) (sym c.stream-item.is) (in_at items c.loop-stream.stream-index item c.loop-stream-test.true) in
    waves_listed c.plan_of-plan.result.streams item w (subst (λ (xs : List Stream). In item xs) c.streams-stream-items.ensures there) lt
