use Rattle.std.proofs.Common.{◌≡◌, ◌+◌, ◌≤◌, ◌∙◌, ap, arith, subst, length, take, drop}
use Rattle.std.specs.Prelude.{slice_get}
use Rattle.std.proofs.lemmas.Option.{slice_get_within}
use Rattle.call_path.specs.Path.{Path}
use Rattle.arena_tree.specs.ChainForest.{split_frames, split_parts}
use Rattle.arena_tree.specs.Targets.{IsAfter}
use Rattle.arena_tree.specs.Links.{linked}
use Rattle.arena_tree.proofs.Sharing.{frames_same}
use Rattle.arena_tree.proofs.Entering.{enters_shared, below_uncut}
use Rattle.arena_tree.proofs.grow.Growth.meet.Goals as goal

pub common_behind-shared-requires-clause-same : goal.common_behind-shared-requires-clause-same
common_behind-shared-requires-clause-same c =
    ap (λ (q : Path). slice_get q c.args.into.now.skip) c.frames-2.ensures
    ∙ frames_same c.args.self.now.nodes.items c.args.into.now c.get-node.result.now c.requires.into.leads c.get-node.ensures c.args.chain.path.now c.args.chain.skip c.requires.begins

pub share-requires-clause-at : goal.share-requires-clause-at
share-requires-clause-at c = slice_get_within c.args.self.now.nodes.items c.args.into.now.node c.get-node.result.now c.get-node.ensures

pub returns-clause-enters : goal.returns-clause-enters
returns-clause-enters c =
    let into = c.args.into.now in
    let p = c.args.chain.path.now in
    let k = c.args.chain.skip in
    let n = c.common_behind-shared.result in
    enters_shared (linked c.args.self.now.first c.args.self.now.nodes.items) into c.get-node.result.now c.requires.into c.get-node.ensures p k n c.requires.begins
    (subst (λ (q : Path). split_frames (drop (into.skip + 1) q) (drop (k + 1) p) ≡ split_parts (take n (drop (into.skip + 1) q)) (drop (into.skip + 1 + n) q) (drop (k + 1 + n) p)) c.frames-2.ensures c.common_behind-shared.ensures.split)
    (subst (λ (q : Path). into.skip + 1 + n ≤ length q) c.frames-2.ensures c.common_behind-shared.ensures.within_own)
    c.args.chain.marks.label.now c.args.chain.marks.ends.now c.ends_at.result.now c.ends_at.ensures c.requires.room
    (linked c.share.new.self.first c.share.new.self.nodes.items) (c.in_ok-below.ensures.made c.get-node.result.now c.get-node.ensures)
    c.in_ok-below.below (c.in_ok-below.ensures.below c.get-node.result.now c.get-node.ensures)
    c.after.result (subst (λ next. IsAfter into next c.after.result) c.next-next.ensures c.after.ensures)
    c.args.self.now.rows c.share.new.self.rows c.share.ensures.rows
    (omega (arith, c.common_behind-shared.ensures.within_other))

pub returns-clause-uncut : goal.returns-clause-uncut
returns-clause-uncut c =
    let into = c.args.into.now in
    let p = c.args.chain.path.now in
    let k = c.args.chain.skip in
    let n = c.common_behind-shared.result in
    below_uncut (linked c.args.self.now.first c.args.self.now.nodes.items) into c.get-node.result.now c.requires.into c.get-node.ensures p k n c.requires.begins
    (subst (λ (q : Path). split_frames (drop (into.skip + 1) q) (drop (k + 1) p) ≡ split_parts (take n (drop (into.skip + 1) q)) (drop (into.skip + 1 + n) q) (drop (k + 1 + n) p)) c.frames-2.ensures c.common_behind-shared.ensures.split)
    (subst (λ (q : Path). into.skip + 1 + n ≤ length q) c.frames-2.ensures c.common_behind-shared.ensures.within_own)
    c.args.chain.marks.label.now c.args.chain.marks.ends.now c.ends_at.result.now c.ends_at.ensures c.requires.room
    (linked c.share.new.self.first c.share.new.self.nodes.items) (c.in_ok-below.ensures.made c.get-node.result.now c.get-node.ensures)
    c.in_ok-below.below (c.in_ok-below.ensures.below c.get-node.result.now c.get-node.ensures)
