use Rattle.std.proofs.Common.{◌∙◌, ◌-◌, ◌<◌, arith, length, drop}
use Rattle.std.proofs.lemmas.List.{length-drop}
use Rattle.prefix_tree.specs.Tree.{Marks}
use Rattle.arena_tree.specs.Reading.{forest_at}
use Rattle.arena_tree.specs.Plans.{next_place}
use Rattle.arena_tree.proofs.Sharing.{drop_all, drop_some}
use Rattle.arena_tree.proofs.PlanningChains.{sought_all, plans_one, plans_more, plans_sought, room_left}
use Rattle.arena_tree.proofs.Trails.{below_there}
use Rattle.arena_tree.proofs.merge.+plan_path.Goals as goal

pub returns-then-kept-len-clause-plans : goal.returns-then-kept-len-clause-plans
returns-then-kept-len-clause-plans t c =
    let cs = c.args.search.nodes.now.items in
    let p = c.args.chain.path.now in
    let w : Marks = (c.args.chain.marks.label.now, c.args.chain.marks.ends.now) in
    plans_one cs c.args.into.now c.follow.new.into c.share_chain.new.into c.in_ok-below.below (drop c.args.chain.skip p) (drop c.in_ok-below.kept p) w c.args.plan.now c.share_chain.new.plan
    (sought_all cs c.args.into.now c.follow.new.into p c.args.chain.skip c.frame-frame.result.now w (next_place c.args.plan.now) c.frame-frame.ensures.frame (λ x gs u v. c.follow.ensures.steps (next_place c.args.plan.now) x gs w u v))
    c.in_ok-below.ensures.shares (drop_all p c.in_ok-below.kept (c.if-kept-len.true ∙ c.len.ensures.len)) (drop_some p c.args.chain.skip c.requires.skip)

pub plan_path-requires : goal.plan_path-requires
plan_path-requires t c =
    let cs = c.args.search.nodes.now.items in
    let p = c.args.chain.path.now in
    let kept = c.in_ok-below.ensures.kept in
    let within : c.in_ok-below.kept < length p = omega (arith, kept.1, c.if-kept-len.false, c.len.ensures.len) in
    let falls : length p - c.in_ok-below.kept < t = omega (arith, c.decreases, kept.0, within) in
    let room = room_left cs c.follow.new.into c.share_chain.new.into c.in_ok-below.below (drop c.args.chain.skip p) (drop c.in_ok-below.kept p) (c.args.chain.marks.label.now, c.args.chain.marks.ends.now) c.args.plan.now c.share_chain.new.plan (length p - c.args.chain.skip) (length p - c.in_ok-below.kept)
    c.in_ok-below.ensures.shares c.requires.room (omega (arith, kept.0, within)) in
    let found = c.in_ok-follow.ensures.found c.if-branch.true in
    let inside = below_there cs c.args.search.root c.requires.tree c.follow.new.into.node c.in_ok-below.below found.node c.in_ok-below.ensures.below in
    (falls, (c.in_ok-below.ensures.shares.below_leads, (c.requires.tree, (inside, (within, (omega (arith, c.requires.level, kept.0), (c.requires.no_ranks, (room, c.follow.ensures.hints (forest_at cs c.args.search.root) (λ x t i. i) c.requires.hints))))))))

pub returns-then-branch-clause-plans : goal.returns-then-branch-clause-plans
returns-then-branch-clause-plans t c =
    let cs = c.args.search.nodes.now.items in
    let p = c.args.chain.path.now in
    let w : Marks = (c.args.chain.marks.label.now, c.args.chain.marks.ends.now) in
    let kept = c.in_ok-below.ensures.kept in
    let within : c.in_ok-below.kept < length p = omega (arith, kept.1, c.if-kept-len.false, c.len.ensures.len) in
    let long = length-drop c.args.chain.skip p in
    let less = length-drop c.in_ok-below.kept p in
    plans_more cs c.args.into.now c.follow.new.into c.share_chain.new.into c.in_ok-below.below c.plan_path.new.into c.in_ok-last.last (drop c.args.chain.skip p) (drop c.in_ok-below.kept p) w c.args.plan.now c.share_chain.new.plan c.plan_path.new.plan
    (sought_all cs c.args.into.now c.follow.new.into p c.args.chain.skip c.frame-frame.result.now w (next_place c.args.plan.now) c.frame-frame.ensures.frame (λ x gs u v. c.follow.ensures.steps (next_place c.args.plan.now) x gs w u v))
    c.in_ok-below.ensures.shares c.in_ok-last.ensures.plans (drop_some p c.in_ok-below.kept within) (omega (arith, long, less, kept.0, within))

pub returns-clause-plans : goal.returns-clause-plans
returns-clause-plans t c =
    let cs = c.args.search.nodes.now.items in
    let p = c.args.chain.path.now in
    let w : Marks = (c.args.chain.marks.label.now, c.args.chain.marks.ends.now) in
    plans_sought cs c.args.into.now c.follow.new.into c.plan_chain.new.into c.in_ok-last-2.last (drop c.args.chain.skip p) w c.args.plan.now c.plan_chain.new.plan
    (sought_all cs c.args.into.now c.follow.new.into p c.args.chain.skip c.frame-frame.result.now w (next_place c.args.plan.now) c.frame-frame.ensures.frame (λ x gs u v. c.follow.ensures.steps (next_place c.args.plan.now) x gs w u v))
    c.in_ok-last-2.ensures
