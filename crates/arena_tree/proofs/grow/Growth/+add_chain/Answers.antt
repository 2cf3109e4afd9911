use Rattle.std.proofs.Common.{◌-◌, ◌<◌, arith, length, drop}
use Rattle.arena_tree.specs.Links.{linked}
use Rattle.arena_tree.proofs.Sharing.{drop_all}
use Rattle.arena_tree.proofs.AddingChains.{grows_more, grows_all}
use Rattle.arena_tree.proofs.grow.Growth.+add_chain.Goals as goal

pub add_chain-requires : goal.add_chain-requires
add_chain-requires t c =
    let p = c.args.chain.path.now in
    let kept = c.in_ok-below.ensures.kept in
    let within : c.in_ok-below.kept < length p = omega (arith, c.if-kept-len.true, c.len.ensures.len) in
    let falls : length p - c.in_ok-below.kept < t = omega (arith, c.decreases, kept.0, within) in
    let enters = c.in_ok-below.ensures.enters in
    (falls, (enters.below_grows, (within, (c.requires.no_ranks, (omega (arith, enters.places, c.requires.room), omega (arith, enters.rows, c.requires.rows))))))

pub returns-in_ok-add_chain : goal.returns-in_ok-add_chain
returns-in_ok-add_chain t c = grows_more (linked c.args.self.now.first c.args.self.now.nodes.items) (linked c.enter.new.self.first c.enter.new.self.nodes.items) (linked c.add_chain.new.self.first c.add_chain.new.self.nodes.items) c.args.into c.enter.new.into c.in_ok-below.below (drop c.args.chain.skip c.args.chain.path.now) (drop c.in_ok-below.kept c.args.chain.path.now) (c.args.chain.marks.label.now, c.args.chain.marks.ends.now) c.args.self.now.rows c.enter.new.self.rows c.add_chain.new.self.rows c.in_ok-below.ensures.enters c.in_ok-add_chain.ensures c.requires.room

pub returns-else-kept-len : goal.returns-else-kept-len
returns-else-kept-len t c =
    let kept = c.in_ok-below.ensures.kept in
    grows_all (linked c.args.self.now.first c.args.self.now.nodes.items) (linked c.enter.new.self.first c.enter.new.self.nodes.items) c.args.into c.enter.new.into c.in_ok-below.below (drop c.args.chain.skip c.args.chain.path.now) (drop c.in_ok-below.kept c.args.chain.path.now) (c.args.chain.marks.label.now, c.args.chain.marks.ends.now) c.args.self.now.rows c.enter.new.self.rows c.in_ok-below.ensures.enters
    (drop_all c.args.chain.path.now c.in_ok-below.kept (omega (arith, kept.1, c.if-kept-len.false, c.len.ensures.len))) c.requires.room
