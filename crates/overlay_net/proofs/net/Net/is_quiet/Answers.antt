use Rattle.std.proofs.Common.{◌≡◌, ◌∙◌, List, [], ℕ, None, true, false, length, nat_eq, refl, sym, ap, subst}
use Rattle.std.specs.Prelude.{◌↔◌}
use Rattle.overlay_event.specs.declared.event.Event.{Event}
use Rattle.event_claims.proofs.Claimable.{claimable_home}
use Rattle.overlay_core.specs.Machine.{enabled_events}
use Rattle.overlay_core.specs.Runs.{IsQuiet}
use Rattle.overlay_net.specs.Nets.{AllHome, NetView, outs_of, state_of}
use Rattle.overlay_net.specs.States.{net_view}
use Rattle.overlay_net.proofs.Seen.{seen_net}
use Rattle.overlay_net.proofs.Offers.{all_counted}
use Rattle.overlay_net.proofs.Picks.{none_where_zero, quiet_where_none}
use Rattle.overlay_net.proofs.net.Net.is_quiet.Goals as goal

pub returns-clause-no_events : goal.returns-clause-no_events
returns-clause-no_events g c =
    let v = net_view g.T.PrefixTree.tree c.self.inside.plan.now c.self.inside.state false in
    let net = c.self.invariant (ap (λ (v : NetView). v.failed) c.self.view_is ∙ c.requires.usable) in
    let home : (n : ℕ) → outs_of v n ≡ None = subst AllHome (sym c.self.view_is) c.requires.home in
    subst (λ (v : NetView). (nat_eq c.total.result 0 ≡ true) ↔ (enabled_events v.plan (state_of v) ≡ [])) c.self.view_is
    (none_where_zero (enabled_events v.plan (state_of v)) c.total.result (nat_eq c.total.result 0) refl
    (c.total.ensures ∙ all_counted v.plan v.alive v.nodes v.inboxes v.releases (outs_of v) c.self.inside.state.counts c.invariant.ensures net.net.parts net.counted
    ∙ ap (λ (es : List Event). length es) (claimable_home v.plan (state_of v) (outs_of v) home)))

pub returns-clause-quiet : goal.returns-clause-quiet
returns-clause-quiet g c =
    let v = net_view g.T.PrefixTree.tree c.self.inside.plan.now c.self.inside.state false in
    let net = c.self.invariant (ap (λ (v : NetView). v.failed) c.self.view_is ∙ c.requires.usable) in
    let home : (n : ℕ) → outs_of v n ≡ None = subst AllHome (sym c.self.view_is) c.requires.home in
    subst (λ (v : NetView). (nat_eq c.total.result 0 ≡ true) ↔ IsQuiet v.plan (state_of v)) c.self.view_is
    (quiet_where_none v (nat_eq c.total.result 0) c.invariant.ensures (seen_net g.T.PrefixTree.tree c.self.inside.plan.now c.self.inside.state net)
    (none_where_zero (enabled_events v.plan (state_of v)) c.total.result (nat_eq c.total.result 0) refl
    (c.total.ensures ∙ all_counted v.plan v.alive v.nodes v.inboxes v.releases (outs_of v) c.self.inside.state.counts c.invariant.ensures net.net.parts net.counted
    ∙ ap (λ (es : List Event). length es) (claimable_home v.plan (state_of v) (outs_of v) home))))
