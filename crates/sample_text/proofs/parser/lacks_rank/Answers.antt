use Rattle.std.proofs.Common.{◌≡◌, ◌∙◌, ◌<◌, true, false, length, sym, subst, arith}
use Rattle.rank_set.specs.Ranks.{none, is_empty}
use Rattle.sample_text.proofs.Lines.{lacks_none_left, lacks_here, no_daemon, has_rank}
use Rattle.sample_text.proofs.parser.lacks_rank.Goals as goal
use Rattle.sample_text.proofs.parser.lacks_rank.Goals.{else-is_daemon-via-then-is_daemon+else-is_empty, else-is_daemon-via-else-is_daemon}

pub returns-then-is_empty : goal.returns-then-is_empty
returns-then-is_empty c =
    let set = c.index-placed-n.result in
    sym (lacks_here c.args.topology.now.parents c.args.placed.now c.loop-n.n set (omega (arith, c.requires, c.nodes-n-end.ensures, c.loop-n-test.true)) (sym c.is_daemon.ensures.value ∙ c.if-is_daemon.true)
    (subst (λ s. is_empty s ≡ true) c.index-placed-n.is (sym c.if-is_empty.ensures)))
    ∙ c.loop-n.invariant

pub loop-n-preserved : goal.loop-n-preserved
loop-n-preserved c =
    let lt : c.loop-n.n < length c.args.placed.now = omega (arith, c.requires, c.nodes-n-end.ensures, c.loop-n-test.true) in
    elim c.else-is_daemon.branch [
      | else-is_daemon-via-then-is_daemon+else-is_empty w ↦
          has_rank c.args.topology.now.parents c.args.placed.now c.loop-n.n w.index-placed-n.result lt (subst (λ s. is_empty s ≡ false) w.index-placed-n.is (sym w.if-is_empty.ensures)) ∙ c.loop-n.invariant
      | else-is_daemon-via-else-is_daemon w ↦ no_daemon c.args.topology.now.parents c.args.placed.now c.loop-n.n none lt (sym c.is_daemon.ensures.value ∙ w.if-is_daemon.false) ∙ c.loop-n.invariant
    ]

pub returns : goal.returns
returns c = sym (lacks_none_left c.args.topology.now.parents c.args.placed.now c.loop-n.n (omega (arith, c.requires, c.nodes-n-end.ensures, c.loop-n-test.false))) ∙ c.loop-n.invariant
