use Rattle.std.proofs.Common.{length, drop}
use Rattle.prefix_tree.specs.Tree.{Marks}
use Rattle.arena_tree.specs.Links.{linked}
use Rattle.arena_tree.proofs.Sharing.{drop_all}
use Rattle.arena_tree.proofs.PlanningChains.{sought_all}
use Rattle.arena_tree.proofs.EnteringNew.{enters_sought, enters_new}
use Rattle.arena_tree.proofs.grow.Growth.enter.Goals as goal

pub returns-then-seek-clause-enters : goal.returns-then-seek-clause-enters
returns-then-seek-clause-enters c =
    let cs = c.args.self.now.nodes.items in
    let p = c.args.chain.path.now in
    let w : Marks = (c.args.chain.marks.label.now, c.args.chain.marks.ends.now) in
    enters_sought (linked c.args.self.now.first cs) (linked c.meet.new.self.first c.meet.new.self.nodes.items) c.args.into.now c.seek.new.into c.meet.new.into c.in_ok-below.below (drop c.args.chain.skip p) (drop c.in_ok-below.kept p) w c.args.self.now.rows c.meet.new.self.rows
    (sought_all cs c.args.into.now c.seek.new.into p c.args.chain.skip c.frame.result.now w (length cs) c.frame.ensures.frame (λ x gs u v. c.if-seek.ensures.steps (length cs) x gs w u v))
    c.in_ok-below.ensures.enters

pub returns-clause-enters : goal.returns-clause-enters
returns-clause-enters c =
    let cs = c.args.self.now.nodes.items in
    let p = c.args.chain.path.now in
    let w : Marks = (c.args.chain.marks.label.now, c.args.chain.marks.ends.now) in
    enters_sought (linked c.args.self.now.first cs) (linked c.put.new.self.first c.put.new.self.nodes.items) c.args.into.now c.seek.new.into c.put.new.into c.in_ok-below-2.below (drop c.args.chain.skip p) (drop c.len.result p) w c.args.self.now.rows c.put.new.self.rows
    (sought_all cs c.args.into.now c.seek.new.into p c.args.chain.skip c.frame.result.now w (length cs) c.frame.ensures.frame (λ x gs u v. c.if-seek.ensures.steps (length cs) x gs w u v))
    (enters_new (linked c.args.self.now.first cs) c.seek.new.into (c.if-seek.ensures.grows c.requires.into) p c.args.chain.skip c.frame.result.now c.frame.ensures.frame w c.if-seek.ensures.side c.requires.room
    (linked c.put.new.self.first c.put.new.self.nodes.items) c.in_ok-below-2.ensures.made c.in_ok-below-2.below c.put.new.into c.in_ok-below-2.ensures.below c.in_ok-below-2.ensures.rest c.args.self.now.rows c.put.new.self.rows c.in_ok-below-2.ensures.rows
    (drop c.len.result p) (drop_all p c.len.result c.len.ensures.len))
