use Rattle.std.proofs.Common.{◌∙◌, refl, sym, ap}
use Rattle.std.proofs.lemmas.Bool.{true≢false}
use Rattle.overlay_core.specs.Machine.{is_enabled}
use Rattle.overlay_net.specs.Nets.{NetView, state_of}
use Rattle.overlay_net.proofs.net.Net.apply.Goals as goal

pub returns-then-not-is_enabled-clause-not_enabled : goal.returns-then-not-is_enabled-clause-not_enabled
returns-then-not-is_enabled-clause-not_enabled g c usable =
    let is = c.is_enabled.ensures ∙ ap (λ (v : NetView). is_enabled v.plan (state_of v) c.args.event) c.self.view_is in
    ((λ _. sym is ∙ c.if-not-is_enabled.true), (λ _. refl))

pub apply-requires-clause-enabled : goal.apply-requires-clause-enabled
apply-requires-clause-enabled g c κs within = sym c.is_enabled.ensures ∙ c.if-not-is_enabled.false

pub returns-in-Ok-clause-enabled : goal.returns-in-Ok-clause-enabled
returns-in-Ok-clause-enabled g c =
    sym (c.is_enabled.ensures ∙ ap (λ (v : NetView). is_enabled v.plan (state_of v) c.args.event) c.self.view_is) ∙ c.if-not-is_enabled.false

pub returns-in-Ok-clause-not_enabled : goal.returns-in-Ok-clause-not_enabled
returns-in-Ok-clause-not_enabled g c usable =
    let is = sym (c.is_enabled.ensures ∙ ap (λ (v : NetView). is_enabled v.plan (state_of v) c.args.event) c.self.view_is) ∙ c.if-not-is_enabled.false in
    ((λ e. absurd (cc)), (λ f. absurd (true≢false (sym is ∙ f))))

pub returns-in-Err-clause-not_enabled : goal.returns-in-Err-clause-not_enabled
returns-in-Err-clause-not_enabled g c usable =
    let is = sym (c.is_enabled.ensures ∙ ap (λ (v : NetView). is_enabled v.plan (state_of v) c.args.event) c.self.view_is) ∙ c.if-not-is_enabled.false in
    ((λ e. absurd (cc)), (λ f. absurd (true≢false (sym is ∙ f))))
