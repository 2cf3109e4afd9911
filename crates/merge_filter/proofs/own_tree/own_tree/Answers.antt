use Rattle.std.proofs.Common.{◌<◌, ◌+◌, [], take, length, sym, ap, subst, ◌∙◌}
use Rattle.std.proofs.lemmas.Bool.{true≢false}
use Rattle.std.proofs.lemmas.List.{take_all}
use Rattle.rank_set.specs.Ranks.{none, union-none}
use Rattle.prefix_tree.specs.Tree.{tree_of}
use Rattle.stat_plan.specs.Samples.{samples_of, wave_lines}
use Rattle.stat_plan.specs.StackLines.{lines_of}
use Rattle.stat_plan.specs.declared.samples.StackLine.{StackLine}
use Rattle.stat_plan.proofs.Elements.{all_element}
use Rattle.merge_filter.specs.Gathering.{AreGathered}
use Rattle.merge_filter.proofs.Takings.{gathered_all, gathered_more, gathered_none, gathered_skip, room_from}
use Rattle.merge_filter.proofs.own_tree.own_tree.Goals as goal
use Rattle.merge_filter.proofs.own_tree.own_tree.Goals.{then-contains+in_ok-take_line, else-contains}

pub loop-line-init : goal.loop-line-init
loop-line-init g c =
    gathered_none c.args.own.now c.args.paths.now (record { path = 0; ranks = c.new.result }) (g.T.PrefixTree.tree c.cover.new.self)
    (c.in_ok-cover.ensures.pairs [] none (λ r p there. absurd (true≢false (sym there))) c.empty-tree.ensures ∙ ap (tree_of []) (union-none c.args.own.now))
    c.new.ensures

pub take_line-requires-after_bounds : goal.take_line-requires-after_bounds
take_line-requires-after_bounds g c lifetimes outlives = room_from c.args.times.samples c.args.times.wave c.args.paths.now c.args.lines.now c.args.own.now c.loop-line.line-index c.loop-line.pending (g.T.PrefixTree.tree c.loop-line.tree) c.requires.own c.requires.within c.loop-line.invariant

pub loop-line-preserved : goal.loop-line-preserved
loop-line-preserved g c =
    let lines = wave_lines c.args.times.samples c.args.times.wave (lines_of c.args.paths.now (take (c.loop-line.line-index + 1) c.args.lines.now)) in
    let below = subst (λ (l : StackLine). l.path < length c.args.paths.now) (sym c.line-item.is) (all_element (λ (l : StackLine). l.path < length c.args.paths.now) c.args.lines.now c.loop-line.line-index c.line-item.result c.requires.numbered c.loop-line-test.true) in
    elim c.if-contains.branch [
      | (then-contains+in_ok-take_line w) ↦
          let more = gathered_more c.args.times.samples c.args.times.wave c.args.paths.now c.args.lines.now c.loop-line.line-index c.line-item.result c.loop-line-test.true c.line-item.is c.args.own.now c.loop-line.pending w.take_line.new.pending (g.T.PrefixTree.tree c.loop-line.tree) (g.T.PrefixTree.tree w.take_line.new.tree) below (sym w.if-contains.ensures) c.loop-line.invariant
          (w.in_ok-take_line.ensures c.loop-line.invariant.pairs c.args.own.now c.loop-line.invariant.is) in
          subst (λ x. AreGathered lines c.args.own.now c.args.paths.now x (g.T.PrefixTree.tree c.if-contains.tree)) (sym w.pending-is)
          (subst (λ tree. AreGathered lines c.args.own.now c.args.paths.now w.take_line.new.pending (g.T.PrefixTree.tree tree)) (sym w.tree-is) more)
      | (else-contains w) ↦
          let more = gathered_skip c.args.times.samples c.args.times.wave c.args.paths.now c.args.lines.now c.loop-line.line-index c.line-item.result c.loop-line-test.true c.line-item.is c.args.own.now c.loop-line.pending (g.T.PrefixTree.tree c.loop-line.tree) (sym c.contains.ensures ∙ w.if-contains.false) c.loop-line.invariant in
          subst (λ x. AreGathered lines c.args.own.now c.args.paths.now x (g.T.PrefixTree.tree c.if-contains.tree)) (sym w.pending-is)
          (subst (λ tree. AreGathered lines c.args.own.now c.args.paths.now c.loop-line.pending (g.T.PrefixTree.tree tree)) (sym w.tree-is) more)
    ]

pub add_pending-requires-after_bounds : goal.add_pending-requires-after_bounds
add_pending-requires-after_bounds g c lifetimes outlives = room_from c.args.times.samples c.args.times.wave c.args.paths.now c.args.lines.now c.args.own.now c.loop-line.line-index c.loop-line.pending (g.T.PrefixTree.tree c.loop-line.tree) c.requires.own c.requires.within c.loop-line.invariant

pub returns : goal.returns
returns g c =
    gathered_all (wave_lines c.args.times.samples c.args.times.wave (lines_of c.args.paths.now (take c.loop-line.line-index c.args.lines.now))) c.args.own.now c.args.paths.now c.loop-line.pending (g.T.PrefixTree.tree c.loop-line.tree) (g.T.PrefixTree.tree c.add_pending.new.tree) c.loop-line.invariant
    (c.in_ok-add_pending.ensures c.loop-line.invariant.pairs c.args.own.now c.loop-line.invariant.is)
    ∙ ap (λ ls. tree_of (samples_of (wave_lines c.args.times.samples c.args.times.wave (lines_of c.args.paths.now ls))) c.args.own.now) (take_all c.loop-line.line-index c.args.lines.now c.loop-line-test.false)
