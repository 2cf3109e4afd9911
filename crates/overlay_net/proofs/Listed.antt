-- Events by index, and the senders of what waits.
use Rattle.std.proofs.Common.{◌≡◌, inl, inr, ◌∙◌, ℕ, suc, zero, ◌+◌, true, ◌==◌, List, [], ◌∷◌, ◌++◌, length, Some, sym, ap, arith, eqb-true, eq-eqb}
use Rattle.std.specs.Prelude.{slice_get}
use Rattle.std.proofs.lemmas.Bool.{true≢false, or_cases, or_left, or_right}
use Rattle.std.proofs.lemmas.List.{length-append}
use Rattle.std.proofs.lemmas.Option.{none-some}
use Rattle.overlay_setup.specs.NodeSets.{In}
use Rattle.overlay_event.specs.declared.event.Event.{Event}
use Rattle.overlay_net.specs.Inboxes.{WaitingFrames}
use Rattle.node_inbox.specs.Inboxes.{is_waiting, senders_of}
use Rattle.overlay_net.specs.Events.{IsNth}
use Rattle.overlay_net.specs.declared.events.Nth.{Nth}
use Rattle.overlay_net.specs.declared.events.Nth.TheVariants.{Found, Beyond}

-- ---- events by number

-- an index beyond the first list is one of the second
pub get_past : {X : Type 0} (xs ys : List X) (k : ℕ) → slice_get (xs ++ ys) (length xs + k) ≡ slice_get ys k
get_past [] ys k = let e : 0 + k ≡ k = omega arith in ap (slice_get ys) e
get_past (x ∷ xs) ys k = let e : suc (length xs) + k ≡ suc (length xs + k) = omega arith in ap (slice_get (x ∷ (xs ++ ys))) e ∙ get_past xs ys k

-- what is found in the first list is found in both together
pub get_before : {X : Type 0} (xs ys : List X) (i : ℕ) (x : X) → slice_get xs i ≡ Some x → slice_get (xs ++ ys) i ≡ Some x
get_before [] ys i x h = absurd (none-some x h)
get_before (z ∷ zs) ys zero x h = h
get_before (z ∷ zs) ys (suc i) x h = get_before zs ys i x h

-- where a number goes beyond the first list, the second one decides
pub nth_past : (xs ys : List Event) (i k : ℕ) (r : Nth) → IsNth xs i (Beyond k) → IsNth ys k r → IsNth (xs ++ ys) i r
nth_past xs ys i k (Found e) past h = ap (slice_get (xs ++ ys)) past ∙ get_past xs ys k ∙ h
nth_past xs ys i k (Beyond j) past h = let c = length-append xs ys in let b : i ≡ length xs + k = past in let d : k ≡ length ys + j = h in omega (arith, b, c, d)

-- ---- senders

-- a sender with packets waiting is one of the senders
pub sender_listed : (es : WaitingFrames) (m : ℕ) → is_waiting es m ≡ true → In m (senders_of es)
sender_listed [] m h = absurd (true≢false (sym h))
sender_listed (e ∷ es) m h = elim (or_cases (e.0 == m) (is_waiting es m) h) [ inl a ↦ inl (sym (eqb-true e.0 m a)) | inr b ↦ inr (sender_listed es m b) ]

-- each of the senders has packets waiting
pub listed_waits : (es : WaitingFrames) (m : ℕ) → In m (senders_of es) → is_waiting es m ≡ true
listed_waits [] m i = absurd i
listed_waits (e ∷ es) m (inl k) = or_left (e.0 == m) (is_waiting es m) (eq-eqb e.0 m (sym k))
listed_waits (e ∷ es) m (inr i) = or_right (e.0 == m) (is_waiting es m) (listed_waits es m i)
