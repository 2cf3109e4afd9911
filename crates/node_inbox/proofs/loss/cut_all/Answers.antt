use Rattle.std.proofs.Common.{◌≡◌, length, subst, arith}
use Rattle.node_inbox.specs.Cuts.{AreCut}
use Rattle.node_inbox.proofs.Cutting.{more_cut}
use Rattle.node_inbox.proofs.loss.cut_all.Goals as goal

pub loop-b-preserved : goal.loop-b-preserved
loop-b-preserved g c = record { cut = more_cut c.args.n c.args.keep c.loop-b.b c.args.inboxes.now c.loop-b.inboxes c.index-inboxes-b.result c.cut_inbox.new.inbox (let lt = c.loop-b-test.true in let same = c.loop-b.auto.inboxes in omega (arith, lt, same)) c.loop-b.invariant.cut c.cut_inbox.ensures }

pub returns : goal.returns
returns g c = subst (λ k. AreCut c.args.n c.args.keep k c.args.inboxes.now c.loop-b.inboxes) end c.loop-b.invariant.cut
  where
    end : c.loop-b.b ≡ length c.args.inboxes.now
    end = let past = c.loop-b-test.false in let most = c.loop-b.auto.b-end in omega (arith, past, most)
