-- What the invariant of a board refuses: each row is a case of which it does not hold.
use Rattle.std.specs.Prelude.{◌≡◌, ◌≢◌, ℕ, ◌<◌, List, [], ◌∷◌, length, slice_get, Option, None, Some}
use Rattle.std.proofs.Common.{ap, sym, ◌∙◌, arith}
use Rattle.overlay_event.specs.declared.event.Event.{Event}
use Rattle.overlay_event.specs.declared.event.Event.TheVariants.{Recv, Lose}
use Rattle.board_turn.specs.declared.holding.Holding.{Holding}
use Rattle.overlay_net.specs.Nets.{outs_of}
use Rattle.overlay_run.specs.Boards.{BoardView, IsBoard}

-- the event with which a node is out, if it is this one
abbrev event_or : Event → Option Event → Event
event_or e None = e
event_or e (Some f) = f

-- a node that nobody holds is out
nobody_holds_it : (v : BoardView) (n : ℕ) (e : Event) → slice_get v.holders n ≡ Some None → outs_of v.net n ≡ Some e → IsBoard v → ⊥
nobody_holds_it v n e home out h = let none : Some e ≡ None = sym out ∙ h.home n home in cc

-- a node is out with another event than its holder's
held_for_another : (v : BoardView) (n : ℕ) (x : Holding) (e : Event) → slice_get v.holders n ≡ Some (Some x) → outs_of v.net n ≡ Some e → x.event ≢ e → IsBoard v → ⊥
held_for_another v n x e held out other h = other (ap (event_or e) (sym (h.out n x held) ∙ out))

-- a claim was made later than now
claimed_later : (v : BoardView) (n : ℕ) (x : Holding) → slice_get v.holders n ≡ Some (Some x) → length v.journal < x.since → IsBoard v → ⊥
claimed_later v n x held later h = let now = h.since n x held in absurd (omega (arith, now, later))

-- the sender of a packet was lost while a node is out with it
sender_is_lost : (v : BoardView) (n m : ℕ) (x : Holding) → slice_get v.holders n ≡ Some (Some x) → x.event ≡ Recv n m → x.since ≡ 0 → v.journal ≡ Lose m ∷ [] → IsBoard v → ⊥
sender_is_lost v n m x held takes first lost h = h.senders_stay n m x held takes 0 (omega (arith, first)) (ap (λ (js : List Event). slice_get js 0) lost)
