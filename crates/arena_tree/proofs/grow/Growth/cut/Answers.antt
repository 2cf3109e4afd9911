use Rattle.std.proofs.Common.{rules, ◌≡◌, ◌-◌, Some, slice_get, slice_set, ◌∙◌, ap, sym}
use Rattle.std.proofs.lemmas.Option.{same_Some}
use Rattle.arena_tree.specs.NodeViews.{NodeView, view_of}
use Rattle.arena_tree.specs.Links.{with_change}
use Rattle.arena_tree.specs.Steps.{with_frames}
use Rattle.arena_tree.proofs.Changes.{with_change-set}
use Rattle.arena_tree.proofs.grow.Growth.cut.Goals as goal

pub returns-clause-made : goal.returns-clause-made
returns-clause-made c v there =
    let cs = c.reserve.new.self.items in
    let at = c.args.into.node in
    let here : slice_get cs at ≡ Some v = ap (λ xs. slice_get xs at) c.in_ok-reserve.ensures.items ∙ there in
    let own = with_frames (c.args.shared - 1) c.in_ok-label.label c.in_ok-ends.ends c.len-below.result in
    let same : c.get_mut.result.now ≡ v = same_Some c.get_mut.result.now v (sym c.get_mut.ensures.value ∙ here) in
    let upper : slice_set cs at c.split-lower.new.self ≡ with_change at own cs = ap (slice_set cs at) c.split-lower.ensures.upper ∙ with_change-set cs at own c.get_mut.result.now c.get_mut.ensures.value in
    let lower : c.split-lower.result ≡ view_of c.in_ok-frames.frames (v.label, v.ends) v.first 4294967295 = c.split-lower.ensures.lower ∙ ap (λ (x : NodeView). view_of c.in_ok-frames.frames (x.label, x.ends) x.first 4294967295) same in
    search rules
