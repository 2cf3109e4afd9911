use Rattle.std.proofs.Common.{◌≡◌, ◌+◌, ◌-◌, ◌<◌, ◌∙◌, [], ap, sym, arith, slice_set, length, drop}
use Rattle.std.proofs.lemmas.Option.{same_Some}
use Rattle.call_path.specs.Path.{Path}
use Rattle.prefix_tree.specs.Tree.{Marks}
use Rattle.arena_tree.specs.NodeViews.{NodeView}
use Rattle.arena_tree.specs.Links.{with_change, linked}
use Rattle.arena_tree.specs.Plans.{step_at}
use Rattle.arena_tree.specs.Steps.{with_united, apply_step}
use Rattle.arena_tree.proofs.Changes.{with_change-set}
use Rattle.arena_tree.proofs.Sharing.{drop_all, drop_some, step_cut}
use Rattle.arena_tree.proofs.grow.Growth.share.Goals as goal

pub returns-then-into-shared-clause-made : goal.returns-then-into-shared-clause-made
returns-then-into-shared-clause-made c v there =
    let cs = c.args.self.now.nodes.items in
    let first = c.args.self.now.first in
    let at = c.args.into.node in
    let kept = c.args.into.skip + c.args.shared in
    let w : Marks = (c.args.marks.label.now, c.args.marks.ends.now) in
    let read : c.get-node.result.now ≡ v = same_Some c.get-node.result.now v (sym c.get-node.ensures ∙ there) in
    let same : c.get_mut.result.now ≡ v = same_Some c.get_mut.result.now v (sym c.get_mut.ensures.value ∙ there) in
    let items : slice_set cs at c.unite.new.self ≡ with_change at (with_united w v) cs =
    ap (slice_set cs at) (c.in_ok-unite.ensures ∙ ap (λ (x : NodeView). with_united w x x) same) ∙ with_change-set cs at (with_united w v) v there in
    let none : drop kept v.frames ≡ [] = drop_all v.frames kept (c.if-into-shared.true ∙ c.len-len.ensures.len ∙ ap length c.frames.ensures ∙ ap (λ (x : NodeView). length x.frames) read) in
    ap (linked first) items
    ∙ ap (λ place. linked first (with_change place (with_united w v) cs)) (sym c.requires.whole)
    ∙ ap (λ (lower : Path). apply_step (linked first cs) (step_at c.args.into.place (c.args.shared - 1) lower w (v.label, v.ends) v.first)) (sym none)

pub returns-clause-made : goal.returns-clause-made
returns-clause-made c v there =
    let same : c.get-node.result.now ≡ v = same_Some c.get-node.result.now v (sym c.get-node.ensures ∙ there) in
    let long = ap length c.frames.ensures in
    let frames = ap (λ (x : NodeView). length x.frames) same in
    let kept = c.args.into.skip + c.args.shared in
    let some : 0 < length (drop kept v.frames) = drop_some v.frames kept (omega (arith, c.requires.within v there, c.if-into-shared.false, c.len-len.ensures.len, long, frames)) in
    c.in_ok-place.ensures.made v there
    ∙ ap (apply_step (linked c.args.self.now.first c.args.self.now.nodes.items))
    (step_cut c.args.into.place (c.args.shared - 1) (drop kept v.frames) (v.label, v.ends) (c.args.marks.label.now, c.args.marks.ends.now) v.first some)
