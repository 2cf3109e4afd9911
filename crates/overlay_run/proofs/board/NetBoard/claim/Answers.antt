use Rattle.std.proofs.Common.{◌≡◌, ◌<◌, ◌^◌, ◌∙◌, sym, ap, subst, length, slice_get, None, Some, [], arith, refl}
use Rattle.overlay_event.specs.declared.event.Event.{Event}
use Rattle.overlay_event.specs.Events.{event_node}
use Rattle.overlay_run.specs.Boards.{BoardView, board_view, claimable_of}
use Rattle.overlay_run.proofs.Boards.{claim_has_room, claimed_board, claimed_home, few_out, first_none, net_may_claim}
use Rattle.overlay_run.proofs.board.NetBoard.claim.Goals as goal

pub claim-claimed-requires-clause-may : goal.claim-claimed-requires-clause-may
claim-claimed-requires-clause-may g c κs within =
    let b = c.self.inside in
    let v : BoardView = board_view b.plan.now b.net b.journal b.holders.items b.stopped in
    net_may_claim v c.in-Some.event c.invariant.ensures c.self.invariant.0 (sym c.in-Some.is ∙ c.claimable.ensures)

pub overflow_add-self : goal.overflow_add-self
overflow_add-self g c =
    let b = c.self.inside in
    let v : BoardView = board_view b.plan.now b.net b.journal b.holders.items b.stopped in
    omega (arith, few_out v b.nodes_out c.invariant.ensures c.self.invariant.0 c.self.invariant.1)

pub invariant_of-self : goal.invariant_of-self
invariant_of-self g c =
    let b = c.self.inside in
    let v : BoardView = board_view b.plan.now b.net b.journal b.holders.items b.stopped in
    claimed_board v c.claim-claimed.new.self c.claim-claimed.result c.in-Some.event c.args.seat c.len-since.result c.node.result b.nodes_out c.invariant.ensures c.self.invariant.0 c.self.invariant.1 (sym c.in-Some.is ∙ c.claimable.ensures)
    c.claim-claimed.ensures.usable c.claim-claimed.ensures.claimed c.len-since.ensures c.node.ensures

pub returns-clause-home : goal.returns-clause-home
returns-clause-home g c =
    let b = c.self.inside in
    let v : BoardView = board_view b.plan.now b.net b.journal b.holders.items b.stopped in
    let home : slice_get b.holders.items (event_node c.in-Some.event) ≡ Some None = claimed_home v c.in-Some.event c.invariant.ensures c.self.invariant.0 (sym c.in-Some.is ∙ c.claimable.ensures) in
    subst (λ (v : BoardView). slice_get v.holders (event_node c.claim-claimed.result.event) ≡ Some None) c.self.view_is (subst (λ (e : Event). slice_get b.holders.items (event_node e) ≡ Some None) (sym c.claim-claimed.ensures.claimed.event) home)

pub returns-in-None-clause-none : goal.returns-in-None-clause-none
returns-in-None-clause-none g c =
    let none : claimable_of c.self.inside.net ≡ [] = first_none (claimable_of c.self.inside.net) (sym c.in-None.is ∙ c.claimable.ensures) in
    (refl, subst (λ (v : BoardView). claimable_of v.net ≡ []) c.self.view_is none)

pub returns-clause-within_limit : goal.returns-clause-within_limit
returns-clause-within_limit g c =
    let b = c.self.inside in
    let v : BoardView = board_view b.plan.now b.net b.journal b.holders.items b.stopped in
    let room : length b.journal < 2 ^ 62 = claim_has_room v c.in-Some.event c.invariant.ensures c.self.invariant.0 (sym c.in-Some.is ∙ c.claimable.ensures) in
    subst (λ (v : BoardView). length v.journal < 2 ^ 62) c.self.view_is room

pub returns-clause-first : goal.returns-clause-first
returns-clause-first g c =
    let first : slice_get (claimable_of c.self.inside.net) 0 ≡ Some c.claim-claimed.result.event = sym (sym c.in-Some.is ∙ c.claimable.ensures) ∙ ap Some (sym c.claim-claimed.ensures.claimed.event) in
    subst (λ (v : BoardView). slice_get (claimable_of v.net) 0 ≡ Some c.claim-claimed.result.event) c.self.view_is first
