use Rattle.std.proofs.Common.{◌≡◌, ◌∙◌, ◌<◌, ◌≤◌, ◌+◌, ◌∷◌, length, drop, sym, ap, arith}
use Rattle.std.proofs.lemmas.List.{length-map}
use Rattle.stat_plan.proofs.Journals.{get_none}
use Rattle.node_inbox.specs.Inboxes.{senders_of}
use Rattle.overlay_net.specs.Events.{free_senders}
use Rattle.overlay_net.specs.Places.{events_out}
use Rattle.overlay_net.proofs.ReadPlaces.{all_free, next_free, next_lost}
use Rattle.overlay_net.proofs.nodes.NetNodes.free_sender_count.Goals as goal
use Rattle.overlay_net.proofs.nodes.NetNodes.free_sender_count.Goals.{then-not-is_losing, else-not-is_losing}

pub returns-then-not-any_losing-clause-counted : goal.returns-then-not-any_losing-clause-counted
returns-then-not-any_losing-clause-counted g c =
    c.sender_count.ensures ∙ sym (length-map c.args.inbox.now.waiting (λ e. e.0))
    ∙ ap length (sym (all_free (events_out c.args.self.now.places.items) (senders_of c.args.inbox.now.waiting) (c.any_losing.ensures c.if-not-any_losing.true)))

pub unreachable-requires : goal.unreachable-requires
unreachable-requires g c =
    let few : length (senders_of c.args.inbox.now.waiting) ≤ c.loop-i.i = get_none (senders_of c.args.inbox.now.waiting) c.loop-i.i (sym c.in_default.ensures) in
    let count : length (senders_of c.args.inbox.now.waiting) ≡ length c.args.inbox.now.waiting = length-map c.args.inbox.now.waiting (λ e. e.0) in
    omega (arith, few, count, c.sender_count-i-end.ensures, c.loop-i-test.true)

pub loop-i-preserved : goal.loop-i-preserved
loop-i-preserved g c =
    let out = events_out c.args.self.now.places.items in
    let senders = senders_of c.args.inbox.now.waiting in
    let k = c.loop-i.i in
    let from = c.in-Some.sender in
    let count : length senders ≡ length c.args.inbox.now.waiting = length-map c.args.inbox.now.waiting (λ e. e.0) in
    let lt : k < length senders = omega (arith, count, c.sender_count-i-end.ensures, c.loop-i-test.true) in
    elim c.if-not-is_losing.branch [
      | then-not-is_losing w ↦
          let split : length (free_senders out (drop k senders)) ≡ length (from ∷ free_senders out (drop (k + 1) senders)) = ap length (next_free out senders k from lt c.in-Some.ensures (sym c.is_losing.ensures ∙ w.if-not-is_losing.true)) in
          record { counted = omega (arith, split, c.loop-i.invariant.counted, w.count-is); few = omega (arith, c.loop-i.invariant.few, w.count-is) }
      | else-not-is_losing w ↦
          let split : length (free_senders out (drop k senders)) ≡ length (free_senders out (drop (k + 1) senders)) = ap length (next_lost out senders k from lt c.in-Some.ensures (sym c.is_losing.ensures ∙ w.if-not-is_losing.false)) in
          record { counted = omega (arith, split, c.loop-i.invariant.counted, w.count-is); few = omega (arith, c.loop-i.invariant.few, w.count-is) }
    ]
