use Rattle.std.proofs.Common.{◌∙◌, ◌-◌, ◌<◌, arith, length, drop, refl}
use Rattle.std.proofs.lemmas.List.{length-drop}
use Rattle.prefix_tree.specs.Tree.{Marks}
use Rattle.arena_tree.specs.Plans.{next_place}
use Rattle.arena_tree.proofs.Sharing.{drop_all, drop_some}
use Rattle.arena_tree.proofs.PlanningChains.{sought_all, plans_one, plans_more, plans_new, room_left}
use Rattle.arena_tree.proofs.merge.+plan_chain.Goals as goal

pub returns-then-kept-len : goal.returns-then-kept-len
returns-then-kept-len t c =
    let cs = c.args.nodes.now.items in
    let p = c.args.chain.path.now in
    let w : Marks = (c.args.chain.marks.label.now, c.args.chain.marks.ends.now) in
    plans_one cs c.args.into.now c.seek.new.into c.share_chain.new.into c.in_ok-below.below (drop c.args.chain.skip p) (drop c.in_ok-below.kept p) w c.args.plan.now c.share_chain.new.plan
    (sought_all cs c.args.into.now c.seek.new.into p c.args.chain.skip c.frame.result.now w (next_place c.args.plan.now) c.frame.ensures.frame (λ x gs u v. c.if-seek.ensures.steps (next_place c.args.plan.now) x gs w u v))
    c.in_ok-below.ensures.shares (drop_all p c.in_ok-below.kept (c.if-kept-len.true ∙ c.len.ensures.len)) (drop_some p c.args.chain.skip c.requires.skip)

pub plan_chain-requires : goal.plan_chain-requires
plan_chain-requires t c =
    let p = c.args.chain.path.now in
    let kept = c.in_ok-below.ensures.kept in
    let within : c.in_ok-below.kept < length p = omega (arith, kept.1, c.if-kept-len.false, c.len.ensures.len) in
    let falls : length p - c.in_ok-below.kept < t = omega (arith, c.decreases, kept.0, within) in
    let room = room_left c.args.nodes.now.items c.seek.new.into c.share_chain.new.into c.in_ok-below.below (drop c.args.chain.skip p) (drop c.in_ok-below.kept p) (c.args.chain.marks.label.now, c.args.chain.marks.ends.now) c.args.plan.now c.share_chain.new.plan (length p - c.args.chain.skip) (length p - c.in_ok-below.kept)
    c.in_ok-below.ensures.shares c.requires.room (omega (arith, kept.0, within)) in
    (falls, (c.in_ok-below.ensures.shares.below_leads, (within, (c.requires.no_ranks, room))))

pub returns-then-seek : goal.returns-then-seek
returns-then-seek t c =
    let cs = c.args.nodes.now.items in
    let p = c.args.chain.path.now in
    let w : Marks = (c.args.chain.marks.label.now, c.args.chain.marks.ends.now) in
    let kept = c.in_ok-below.ensures.kept in
    let within : c.in_ok-below.kept < length p = omega (arith, kept.1, c.if-kept-len.false, c.len.ensures.len) in
    let long = length-drop c.args.chain.skip p in
    let less = length-drop c.in_ok-below.kept p in
    plans_more cs c.args.into.now c.seek.new.into c.share_chain.new.into c.in_ok-below.below c.plan_chain.new.into c.in_ok-last.last (drop c.args.chain.skip p) (drop c.in_ok-below.kept p) w c.args.plan.now c.share_chain.new.plan c.plan_chain.new.plan
    (sought_all cs c.args.into.now c.seek.new.into p c.args.chain.skip c.frame.result.now w (next_place c.args.plan.now) c.frame.ensures.frame (λ x gs u v. c.if-seek.ensures.steps (next_place c.args.plan.now) x gs w u v))
    c.in_ok-below.ensures.shares c.in_ok-last.ensures (drop_some p c.in_ok-below.kept within) (omega (arith, long, less, kept.0, within))

pub returns : goal.returns
returns t c =
    let cs = c.args.nodes.now.items in
    let p = c.args.chain.path.now in
    let w : Marks = (c.args.chain.marks.label.now, c.args.chain.marks.ends.now) in
    plans_new cs c.args.into.now c.seek.new.into _ _ p c.args.chain.skip c.frame.result.now c.frame.ensures.frame w c.args.plan.now c.put.new.self
    (sought_all cs c.args.into.now c.seek.new.into p c.args.chain.skip c.frame.result.now w (next_place c.args.plan.now) c.frame.ensures.frame (λ x gs u v. c.if-seek.ensures.steps (next_place c.args.plan.now) x gs w u v))
    c.if-seek.ensures.target c.if-seek.ensures.side c.in_ok-node.node c.in_ok-node.ensures c.in_ok-place.place c.in_ok-place.ensures.place c.in_ok-place.ensures.plan refl refl
