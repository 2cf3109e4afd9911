use Rattle.std.proofs.Common.{◌≡◌, ◌+◌, ◌≤◌, ◌∙◌, ap, arith, subst, length, take, drop}
use Rattle.std.specs.Prelude.{slice_get}
use Rattle.call_path.specs.Path.{Path}
use Rattle.arena_tree.specs.ChainForest.{split_frames, split_parts}
use Rattle.arena_tree.specs.Targets.{IsAfter}
use Rattle.arena_tree.proofs.Sharing.{shares, frames_same, child_below}
use Rattle.arena_tree.proofs.merge.share_chain.Goals as goal

pub common_behind-shared-requires-clause-same : goal.common_behind-shared-requires-clause-same
common_behind-shared-requires-clause-same c =
    ap (λ (q : Path). slice_get q c.args.into.now.skip) c.frames-2.ensures
    ∙ frames_same c.args.nodes.now.items c.args.into.now c.get-node.result.now c.requires.target c.get-node.ensures c.args.chain.path.now c.args.chain.skip c.requires.begins

pub returns-clause-shares : goal.returns-clause-shares
returns-clause-shares c =
    let into = c.args.into.now in
    let p = c.args.chain.path.now in
    let k = c.args.chain.skip in
    let n = c.common_behind-shared.result in
    shares c.args.nodes.now.items into c.get-node.result.now c.requires.target c.get-node.ensures p k n c.requires.begins
    (subst (λ (q : Path). split_frames (drop (into.skip + 1) q) (drop (k + 1) p) ≡ split_parts (take n (drop (into.skip + 1) q)) (drop (into.skip + 1 + n) q) (drop (k + 1 + n) p)) c.frames-2.ensures c.common_behind-shared.ensures.split)
    (subst (λ (q : Path). into.skip + 1 + n ≤ length q) c.frames-2.ensures c.common_behind-shared.ensures.within_own)
    c.args.chain.marks.label.now c.args.chain.marks.ends.now c.ends_at.result.now c.ends_at.ensures c.after.result c.in_ok-below.below c.args.plan.now c.share.new.self
    c.in_ok-below.ensures.plan c.in_ok-below.ensures.below
    (subst (λ next. IsAfter into next c.after.result) c.next.ensures c.after.ensures)

pub returns-clause-below : goal.returns-clause-below
returns-clause-below c = child_below c.args.nodes.now.items c.args.into.now c.in_ok-below.below c.get-node.result.now _ _ _ c.get-node.ensures (omega arith) c.in_ok-below.ensures.below
