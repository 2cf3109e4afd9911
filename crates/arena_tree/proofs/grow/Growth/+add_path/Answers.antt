use Rattle.std.proofs.Common.{◌-◌, ◌<◌, ◌∙◌, sym, arith, length, drop}
use Rattle.arena_tree.specs.Links.{linked}
use Rattle.arena_tree.proofs.Sharing.{drop_all}
use Rattle.arena_tree.proofs.PlanningChains.{sought_all}
use Rattle.arena_tree.proofs.EnteringNew.{enters_sought}
use Rattle.arena_tree.proofs.AddingChains.{grows_more, grows_all, grows_sought}
use Rattle.arena_tree.proofs.Parts.{below_ordered, below_hints, below_siblings}
use Rattle.arena_tree.proofs.grow.Growth.+add_path.Goals as goal

pub returns-then-kept-len-clause-grows : goal.returns-then-kept-len-clause-grows
returns-then-kept-len-clause-grows t c =
    grows_all (linked c.args.self.now.first c.args.self.now.nodes.items) (linked c.meet.new.self.first c.meet.new.self.nodes.items) c.args.into c.meet.new.into c.in_ok-below.below (drop c.args.chain.skip c.args.chain.path.now) (drop c.in_ok-below.kept c.args.chain.path.now) (c.args.chain.marks.label.now, c.args.chain.marks.ends.now) c.args.self.now.rows c.meet.new.self.rows
    (enters_sought (linked c.args.self.now.first c.args.self.now.nodes.items) (linked c.meet.new.self.first c.meet.new.self.nodes.items) c.args.into c.follow.new.into c.meet.new.into c.in_ok-below.below (drop c.args.chain.skip c.args.chain.path.now) (drop c.in_ok-below.kept c.args.chain.path.now) (c.args.chain.marks.label.now, c.args.chain.marks.ends.now) c.args.self.now.rows c.meet.new.self.rows
    (sought_all c.args.self.now.nodes.items c.args.into c.follow.new.into c.args.chain.path.now c.args.chain.skip c.frame-frame.result.now (c.args.chain.marks.label.now, c.args.chain.marks.ends.now) (length c.args.self.now.nodes.items) c.frame-frame.ensures.frame (λ x gs u v. c.follow.ensures.steps (length c.args.self.now.nodes.items) x gs (c.args.chain.marks.label.now, c.args.chain.marks.ends.now) u v)) c.in_ok-below.ensures.enters)
    (drop_all c.args.chain.path.now c.in_ok-below.kept (c.if-kept-len.true ∙ c.len.ensures.len)) c.requires.room

pub add_path-requires : goal.add_path-requires
add_path-requires t c =
    let p = c.args.chain.path.now in
    let kept = c.in_ok-below.ensures.kept in
    let within : c.in_ok-below.kept < length p = omega (arith, kept.1, c.if-kept-len.false, c.len.ensures.len) in
    let falls : length p - c.in_ok-below.kept < t = omega (arith, c.decreases, kept.0, within) in
    let enters = c.in_ok-below.ensures.enters in (
      falls,
      (
        enters.below_grows,
        (
          below_ordered c.args.self.now.nodes.items c.args.into c.follow.new.into c.requires.into c.requires.tree (c.in_ok-follow.ensures.found c.if-branch.true).whole_node (c.in_ok-follow.ensures.later c.if-branch.true)
              c.meet.new.self.nodes.items c.in_ok-below.below (c.in_ok-below.ensures.uncut (sym c.len-then-branch.ensures ∙ c.if-len-before.true ∙ c.len-before.ensures)) enters.below_grows,
          (
            within,
            (
              omega (arith, c.requires.level, kept.0),
              (
                c.requires.no_ranks,
                (
                  omega (arith, enters.places, c.requires.room),
                  (
                    omega (arith, enters.rows, c.requires.rows),
                    below_hints c.args.self.now.nodes.items c.args.into c.follow.new.into c.requires.into c.requires.tree (c.in_ok-follow.ensures.found c.if-branch.true).whole_node (c.in_ok-follow.ensures.later c.if-branch.true)
                        c.meet.new.self.nodes.items c.in_ok-below.below (c.in_ok-below.ensures.uncut (sym c.len-then-branch.ensures ∙ c.if-len-before.true ∙ c.len-before.ensures)) c.follow.new.trail.items c.in_ok-follow.ensures.own,
                  ),
                ),
              ),
            ),
          ),
        ),
      ),
    )

pub returns-then-len-before-clause-hints : goal.returns-then-len-before-clause-hints
returns-then-len-before-clause-hints t c k all old =
    c.in_ok-add_path.ensures.hints k (below_siblings c.args.self.now.nodes.items c.args.into c.follow.new.into c.requires.into c.requires.tree (c.in_ok-follow.ensures.found c.if-branch.true).whole_node (c.in_ok-follow.ensures.later c.if-branch.true)
    c.meet.new.self.nodes.items c.in_ok-below.below (c.in_ok-below.ensures.uncut (sym c.len-then-branch.ensures ∙ c.if-len-before.true ∙ c.len-before.ensures)) k all) (c.in_ok-follow.ensures.hints k all old)

pub returns-then-len-before-clause-grows : goal.returns-then-len-before-clause-grows
returns-then-len-before-clause-grows t c =
    grows_more (linked c.args.self.now.first c.args.self.now.nodes.items) (linked c.meet.new.self.first c.meet.new.self.nodes.items) (linked c.add_path.new.self.first c.add_path.new.self.nodes.items) c.args.into c.meet.new.into c.in_ok-below.below (drop c.args.chain.skip c.args.chain.path.now) (drop c.in_ok-below.kept c.args.chain.path.now) (c.args.chain.marks.label.now, c.args.chain.marks.ends.now) c.args.self.now.rows c.meet.new.self.rows c.add_path.new.self.rows
    (enters_sought (linked c.args.self.now.first c.args.self.now.nodes.items) (linked c.meet.new.self.first c.meet.new.self.nodes.items) c.args.into c.follow.new.into c.meet.new.into c.in_ok-below.below (drop c.args.chain.skip c.args.chain.path.now) (drop c.in_ok-below.kept c.args.chain.path.now) (c.args.chain.marks.label.now, c.args.chain.marks.ends.now) c.args.self.now.rows c.meet.new.self.rows
    (sought_all c.args.self.now.nodes.items c.args.into c.follow.new.into c.args.chain.path.now c.args.chain.skip c.frame-frame.result.now (c.args.chain.marks.label.now, c.args.chain.marks.ends.now) (length c.args.self.now.nodes.items) c.frame-frame.ensures.frame (λ x gs u v. c.follow.ensures.steps (length c.args.self.now.nodes.items) x gs (c.args.chain.marks.label.now, c.args.chain.marks.ends.now) u v)) c.in_ok-below.ensures.enters)
    c.in_ok-add_path.ensures.grows c.requires.room

pub returns-then-branch-clause-grows : goal.returns-then-branch-clause-grows
returns-then-branch-clause-grows t c =
    grows_more (linked c.args.self.now.first c.args.self.now.nodes.items) (linked c.meet.new.self.first c.meet.new.self.nodes.items) (linked c.add_chain.new.self.first c.add_chain.new.self.nodes.items) c.args.into c.meet.new.into c.in_ok-below.below (drop c.args.chain.skip c.args.chain.path.now) (drop c.in_ok-below.kept c.args.chain.path.now) (c.args.chain.marks.label.now, c.args.chain.marks.ends.now) c.args.self.now.rows c.meet.new.self.rows c.add_chain.new.self.rows
    (enters_sought (linked c.args.self.now.first c.args.self.now.nodes.items) (linked c.meet.new.self.first c.meet.new.self.nodes.items) c.args.into c.follow.new.into c.meet.new.into c.in_ok-below.below (drop c.args.chain.skip c.args.chain.path.now) (drop c.in_ok-below.kept c.args.chain.path.now) (c.args.chain.marks.label.now, c.args.chain.marks.ends.now) c.args.self.now.rows c.meet.new.self.rows
    (sought_all c.args.self.now.nodes.items c.args.into c.follow.new.into c.args.chain.path.now c.args.chain.skip c.frame-frame.result.now (c.args.chain.marks.label.now, c.args.chain.marks.ends.now) (length c.args.self.now.nodes.items) c.frame-frame.ensures.frame (λ x gs u v. c.follow.ensures.steps (length c.args.self.now.nodes.items) x gs (c.args.chain.marks.label.now, c.args.chain.marks.ends.now) u v)) c.in_ok-below.ensures.enters)
    c.in_ok-add_chain.ensures c.requires.room

pub returns-clause-grows : goal.returns-clause-grows
returns-clause-grows t c =
    grows_sought (linked c.args.self.now.first c.args.self.now.nodes.items) (linked c.add_chain-2.new.self.first c.add_chain-2.new.self.nodes.items) c.args.into c.follow.new.into (drop c.args.chain.skip c.args.chain.path.now) (c.args.chain.marks.label.now, c.args.chain.marks.ends.now) c.args.self.now.rows c.add_chain-2.new.self.rows
    (sought_all c.args.self.now.nodes.items c.args.into c.follow.new.into c.args.chain.path.now c.args.chain.skip c.frame-frame.result.now (c.args.chain.marks.label.now, c.args.chain.marks.ends.now) (length c.args.self.now.nodes.items) c.frame-frame.ensures.frame (λ x gs u v. c.follow.ensures.steps (length c.args.self.now.nodes.items) x gs (c.args.chain.marks.label.now, c.args.chain.marks.ends.now) u v)) c.in_ok-add_chain-2.ensures
