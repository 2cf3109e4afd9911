-- Codes, by which the values of a net and of a claim are stored.
use Rattle.std.specs.Prelude.{◌≡◌, ◌⊎◌, refl, ℕ, Bool, List, Option}
use Rattle.std.specs.Coded.{Coded, code_by, coded×, coded⊎, coded_bool, coded_list, coded_option, coded_ℕ}
use mathlib.Core.Logic.{inl, inr}
use Rattle.overlay_event.specs.declared.event.Event.{Event}
use Rattle.overlay_event.specs.declared.event.Event.TheVariants.{Sample, Recv, Tick, Lose}
use Rattle.stat_plan.specs.Codes.{coded_plan}
use Rattle.stat_plan.specs.Plans.{Plan}
use Rattle.overlay_core.specs.TreeReleases.{TreeRelease}
use Rattle.overlay_node.specs.NodeViews.{NodeView, coded_node}
use Rattle.overlay_node.specs.Outputs.{coded_release}
use Rattle.node_inbox.specs.Inboxes.{inbox_code}
use Rattle.overlay_net.specs.Claims.{ClaimView, Left}
use Rattle.overlay_net.specs.Inboxes.{FrameInbox}
use Rattle.overlay_net.specs.Nets.{NetView}

-- ---- an event, by its kind

abbrev Parts : Type 0
Parts = (ℕ × (ℕ × ℕ)) ⊎ ((ℕ × ℕ) ⊎ (ℕ ⊎ ℕ))

abbrev event_to : Event → Parts
event_to (Sample n s w) = inl (n, (s, w))
event_to (Recv n m) = inr (inl (n, m))
event_to (Tick n) = inr (inr (inl n))
event_to (Lose n) = inr (inr (inr n))

abbrev event_from : Parts → Event
event_from (inl v) = Sample v.0 v.1.0 v.1.1
event_from (inr (inl v)) = Recv v.0 v.1
event_from (inr (inr (inl n))) = Tick n
event_from (inr (inr (inr n))) = Lose n

pub event_back : (e : Event) → event_from (event_to e) ≡ e
event_back (Sample n s w) = refl
event_back (Recv n m) = refl
event_back (Tick n) = refl
event_back (Lose n) = refl

abbrev pub coded_event : Coded Event
coded_event = code_by Parts (coded⊎ (coded× coded_ℕ (coded× coded_ℕ coded_ℕ)) (coded⊎ (coded× coded_ℕ coded_ℕ) (coded⊎ coded_ℕ coded_ℕ))) event_to event_from event_back

-- ---- a net, as the tuple of its parts

abbrev pub coded_net : Coded NetView
coded_net =
    code_by (Plan × (List Bool × (List NodeView × (List FrameInbox × (List TreeRelease × (Bool × (List (Option Event) × ℕ)))))))
    (coded× coded_plan (coded× (coded_list coded_bool) (coded× (coded_list coded_node) (coded× (coded_list (inbox_code (coded_list coded_ℕ))) (coded× (coded_list coded_release) (coded× coded_bool (coded× (coded_list (coded_option coded_event)) coded_ℕ)))))))
    (λ v. (v.plan, (v.alive, (v.nodes, (v.inboxes, (v.releases, (v.failed, (v.outs, v.room))))))))
    (λ c. record { plan = c.0; alive = c.1.0; nodes = c.1.1.0; inboxes = c.1.1.1.0; releases = c.1.1.1.1.0; failed = c.1.1.1.1.1.0; outs = c.1.1.1.1.1.1.0; room = c.1.1.1.1.1.1.1 })
    (λ _. refl)

-- ---- a claim, likewise

abbrev coded_left : Coded Left
coded_left = code_by (NodeView × (List (ℕ × List ℕ) × List TreeRelease)) (coded× coded_node (coded× (coded_list (coded× coded_ℕ (coded_list coded_ℕ))) (coded_list coded_release)))
    (λ k. (k.node, (k.sends, k.releases))) (λ c. record { node = c.0; sends = c.1.0; releases = c.1.1 }) (λ _. refl)

abbrev pub coded_claim : Coded ClaimView
coded_claim = code_by (Event × (NodeView × (Option (List ℕ) × Option Left))) (coded× coded_event (coded× coded_node (coded× (coded_option (coded_list coded_ℕ)) (coded_option coded_left))))
    (λ c. (c.event, (c.node, (c.frame, c.left)))) (λ c. record { event = c.0; node = c.1.0; frame = c.1.1.0; left = c.1.1.1 }) (λ _. refl)
