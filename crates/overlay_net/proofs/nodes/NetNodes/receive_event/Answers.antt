use Rattle.std.proofs.Common.{◌≡◌, ◌∙◌, ◌<◌, ◌≤◌, ◌+◌, ℕ, [], ◌∷◌, map, slice_get, length, drop, sym, ap, subst, arith}
use Rattle.std.specs.Prelude.{List}
use Rattle.std.proofs.lemmas.List.{at_drop_all, length-map}
use Rattle.stat_plan.proofs.Journals.{get_none}
use Rattle.overlay_event.specs.declared.event.Event.{Event}
use Rattle.overlay_event.specs.declared.event.Event.TheVariants.{Recv}
use Rattle.node_inbox.specs.Inboxes.{senders_of}
use Rattle.overlay_net.specs.Events.{IsNth, free_senders}
use Rattle.overlay_net.specs.Places.{events_out}
use Rattle.overlay_net.specs.declared.events.Nth.TheVariants.{Found, Beyond}
use Rattle.overlay_net.proofs.Offers.{one_past}
use Rattle.overlay_net.proofs.ReadPlaces.{all_free, get_mapped, next_free, next_lost}
use Rattle.overlay_net.proofs.nodes.NetNodes.receive_event.Goals as goal
use Rattle.overlay_net.proofs.nodes.NetNodes.receive_event.Goals.{then-not-is_losing+else-left-eq0, else-not-is_losing}

pub returns-in-Some : goal.returns-in-Some
returns-in-Some g c =
    let senders = senders_of c.args.inbox.now.waiting in
    ap (λ (ms : List ℕ). slice_get (map {A = ℕ} {B = Event} (λ m. Recv c.args.n m) ms) c.args.i) (all_free (events_out c.args.self.now.places.items) senders (c.any_losing.ensures c.if-not-any_losing.true))
    ∙ get_mapped (λ m. Recv c.args.n m) senders c.args.i c.in-Some.from (sym c.in-Some.ensures)

pub returns-in-None : goal.returns-in-None
returns-in-None g c =
    let senders = senders_of c.args.inbox.now.waiting in
    let free = free_senders (events_out c.args.self.now.places.items) senders in
    let same : length free ≡ length senders = ap length (all_free (events_out c.args.self.now.places.items) senders (c.any_losing.ensures c.if-not-any_losing.true)) in
    let few : length senders ≤ c.args.i = get_none senders c.args.i (sym c.in-None.ensures) in
    let mapped : length (map {A = ℕ} {B = Event} (λ m. Recv c.args.n m) free) ≡ length free = length-map free (λ m. Recv c.args.n m) in
    let count : length senders ≡ length c.args.inbox.now.waiting = length-map c.args.inbox.now.waiting (λ e. e.0) in
    omega (arith, same, few, mapped, count, c.sender_count.ensures)

pub returns-then-left-eq0 : goal.returns-then-left-eq0
returns-then-left-eq0 g c =
    let out = events_out c.args.self.now.places.items in
    let senders = senders_of c.args.inbox.now.waiting in
    let k = c.loop-k.k in
    let from = c.in-Some-sender.from in
    let count : length senders ≡ length c.args.inbox.now.waiting = length-map c.args.inbox.now.waiting (λ e. e.0) in
    let lt : k < length senders = omega (arith, count, c.sender_count-k-end.ensures, c.loop-k-test.true) in
    let split : free_senders out (drop k senders) ≡ from ∷ free_senders out (drop (k + 1) senders) = next_free out senders k from lt c.in-Some-sender.ensures (sym c.is_losing.ensures ∙ c.if-not-is_losing.true) in
    c.loop-k.invariant (Found (Recv c.args.n from))
    (ap (slice_get (map {A = ℕ} {B = Event} (λ m. Recv c.args.n m) (free_senders out (drop k senders)))) c.if-left-eq0.true
    ∙ ap (λ (ms : List ℕ). slice_get (map {A = ℕ} {B = Event} (λ m. Recv c.args.n m) ms) 0) split)

pub loop-k-preserved : goal.loop-k-preserved
loop-k-preserved g c r h =
    let out = events_out c.args.self.now.places.items in
    let senders = senders_of c.args.inbox.now.waiting in
    let k = c.loop-k.k in
    let from = c.in-Some-sender.from in
    let count : length senders ≡ length c.args.inbox.now.waiting = length-map c.args.inbox.now.waiting (λ e. e.0) in
    let lt : k < length senders = omega (arith, count, c.sender_count-k-end.ensures, c.loop-k-test.true) in
    let rest : List Event = map {A = ℕ} {B = Event} (λ m. Recv c.args.n m) (free_senders out (drop (k + 1) senders)) in
    elim c.if-not-is_losing.branch [
      | then-not-is_losing+else-left-eq0 w ↦
          let split = next_free out senders k from lt c.in-Some-sender.ensures (sym c.is_losing.ensures ∙ w.if-not-is_losing.true) in
          c.loop-k.invariant r (one_past (Recv c.args.n from) (map {A = ℕ} {B = Event} (λ m. Recv c.args.n m) (free_senders out (drop k senders))) rest c.loop-k.left r
          (ap (λ (ms : List ℕ). map {A = ℕ} {B = Event} (λ m. Recv c.args.n m) ms) split) (omega arith) (subst (λ j. IsNth rest j r) w.left-is h))
      | else-not-is_losing w ↦
          let split = next_lost out senders k from lt c.in-Some-sender.ensures (sym c.is_losing.ensures ∙ w.if-not-is_losing.false) in
          c.loop-k.invariant r (subst (λ (es : List Event). IsNth es c.loop-k.left r) (sym (ap (λ (ms : List ℕ). map {A = ℕ} {B = Event} (λ m. Recv c.args.n m) ms) split)) (subst (λ j. IsNth rest j r) w.left-is h))
    ]

pub returns : goal.returns
returns g c =
    let out = events_out c.args.self.now.places.items in
    let senders = senders_of c.args.inbox.now.waiting in
    let count : length senders ≡ length c.args.inbox.now.waiting = length-map c.args.inbox.now.waiting (λ e. e.0) in
    let past : length senders ≤ c.loop-k.k = omega (arith, count, c.sender_count-k-end.ensures, c.loop-k-test.false) in
    let none : map {A = ℕ} {B = Event} (λ m. Recv c.args.n m) (free_senders out (drop c.loop-k.k senders)) ≡ [] = at_drop_all (λ (ms : List ℕ). map {A = ℕ} {B = Event} (λ m. Recv c.args.n m) (free_senders out ms)) senders c.loop-k.k past in
    c.loop-k.invariant (Beyond c.loop-k.left) (subst (λ (es : List Event). IsNth es c.loop-k.left (Beyond c.loop-k.left)) (sym none) (omega arith))
