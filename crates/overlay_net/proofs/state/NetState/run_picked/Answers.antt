use Rattle.std.proofs.Common.{◌∙◌, false, refl, sym, ap, subst}
use Rattle.overlay_core.specs.Pick.{picked_event}
use Rattle.stat_plan.specs.Machine.Journals.{next_number}
use Rattle.overlay_net.specs.States.{net_view, state_at}
use Rattle.overlay_net.proofs.Seen.{seen_net}
use Rattle.overlay_net.proofs.Picks.{HasCome, all_picked, may_be_picked, one_more, weighs_less}
use Rattle.overlay_net.proofs.state.NetState.run_picked.Goals as goal

pub apply-requires-clause-enabled : goal.apply-requires-clause-enabled
apply-requires-clause-enabled g c κs within = may_be_picked (net_view g.T.PrefixTree.tree c.args.plan.now c.loop-event.self false) c.next_number.result c.in-Some.event c.in-Some.ensures

pub loop-event-smaller : goal.loop-event-smaller
loop-event-smaller g c =
    let old = net_view g.T.PrefixTree.tree c.args.plan.now c.loop-event.self false in
    let new = net_view g.T.PrefixTree.tree c.args.plan.now c.apply.new.self false in
    weighs_less old new c.in-Some.event c.invariant.ensures (seen_net g.T.PrefixTree.tree c.args.plan.now c.loop-event.self c.loop-event.invariant.net) refl
    (may_be_picked old c.next_number.result c.in-Some.event c.in-Some.ensures) c.in_ok-apply.ensures.reached

pub loop-event-preserved : goal.loop-event-preserved
loop-event-preserved g c =
    let start = net_view g.T.PrefixTree.tree c.args.plan.now c.args.self.now false in
    let old = net_view g.T.PrefixTree.tree c.args.plan.now c.loop-event.self false in
    let new = net_view g.T.PrefixTree.tree c.args.plan.now c.apply.new.self false in
    record {
      net = c.in_ok-apply.ensures.net;
      home = c.in_ok-apply.ensures.home;
      come = subst (λ n. HasCome start c.args.seed c.push.new.self n new) (sym c.next_number-number.ensures)
          (subst (λ es. HasCome start c.args.seed es (next_number c.loop-event.number) new) (sym c.in_ok-push.ensures.ok)
          (one_more start old new c.args.seed c.loop-event.number c.loop-event.journal c.in-Some.event (seen_net g.T.PrefixTree.tree c.args.plan.now c.loop-event.self c.loop-event.invariant.net) c.loop-event.invariant.come
          (c.in-Some.ensures ∙ ap (picked_event c.args.plan.now (state_at g.T.PrefixTree.tree c.args.plan.now c.loop-event.self)) c.next_number.ensures) refl c.in_ok-apply.ensures.reached));
    }

pub returns-clause-picked : goal.returns-clause-picked
returns-clause-picked g c =
    all_picked (net_view g.T.PrefixTree.tree c.args.plan.now c.args.self.now false) (net_view g.T.PrefixTree.tree c.args.plan.now c.loop-event.self false) c.args.seed c.loop-event.number c.loop-event.journal c.loop-event.invariant.come
    (c.in_default.ensures ∙ ap (picked_event c.args.plan.now (state_at g.T.PrefixTree.tree c.args.plan.now c.loop-event.self)) c.next_number.ensures)
