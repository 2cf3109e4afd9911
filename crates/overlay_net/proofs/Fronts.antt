-- A frame that stands before what waits from its sender.
use Rattle.std.proofs.Common.{◌≡◌, ◌≢◌, ◌∙◌, ◌<◌, ◌≤◌, ℕ, Bool, true, false, ◌==◌, nat_lt, cond, List, [], ◌∷◌, ◌++◌, Option, Some, None, refl, sym, ap, subst, inl, inr, eqb-true, arith, Less}
use Rattle.std.proofs.lemmas.Bool.{cases_Bool, eqb-false, ltb-true, ltb-false}
use Rattle.std.proofs.lemmas.Bool.Decides.{nat_tests}
use Rattle.std.specs.List.{AllByRecursion}
use Rattle.std.specs.List.Sorted.{IsStrictlySortedBy}
use Rattle.std.specs.Ordering.{nat_cmp}
use Rattle.overlay_event.specs.declared.event.Event.{Event}
use Rattle.overlay_event.specs.declared.event.Event.TheVariants.{Sample, Recv, Tick, Lose}
use Rattle.node_inbox.specs.Inboxes.{HaveSent, IsInbox, queue_of, senders_of}
use Rattle.overlay_net.specs.Inboxes.{WaitingFrames}
use Rattle.overlay_net.specs.Places.{put_first, with_frame}

-- a first element
some_first : {X : Type 0} (x : X) (xs : List X) → x ∷ xs ≢ []
some_first x xs = λ e. cc

less_is : (x y : ℕ) → x < y → nat_cmp x y ≡ Less
less_is x y lt = grind (arith, nat_tests)

is_less : (x y : ℕ) → nat_cmp x y ≡ Less → x < y
is_less x y h = grind (arith, nat_tests)

all_less : (x y : ℕ) (zs : List ℕ) → x < y → AllByRecursion (λ z. nat_cmp y z ≡ Less) zs → AllByRecursion (λ z. nat_cmp x z ≡ Less) zs
all_less x y [] lt h = tt
all_less x y (z ∷ zs) lt h = (less_is x z (let k = is_less y z h.0 in omega (arith, lt, k)), all_less x y zs lt h.1)

-- from a sender before all others nothing waits
none_before : (w : WaitingFrames) (m : ℕ) → AllByRecursion (λ z. nat_cmp m z ≡ Less) (senders_of w) → queue_of w m ≡ []
none_before [] m h = refl
none_before (e ∷ es) m h = ap (λ b. cond b e.1 (queue_of es m)) (other (e.0 == m) refl) ∙ none_before es m h.1
  where
    other : (b : Bool) → (e.0 == m) ≡ b → b ≡ false
    other true t = absurd (let s : e.0 ≡ m = eqb-true e.0 m t in let lt : m < e.0 = is_less m e.0 h.0 in omega (arith, s, lt))
    other false t = refl

-- the queues
pub put_queue : (m : ℕ) (f : List ℕ) (w : WaitingFrames) (a : ℕ) → IsStrictlySortedBy nat_cmp (senders_of w) → queue_of (put_first m f w) a ≡ cond (m == a) (f ∷ queue_of w a) (queue_of w a)
unfolding IsStrictlySortedBy
put_queue m f [] a h = refl
put_queue m f (e ∷ es) a h = go (m == e.0) (nat_lt m e.0) refl refl (put_queue m f es a h.1)
  where
    first : (t u : Bool) → (m == a) ≡ t → (e.0 == a) ≡ u → m ≡ e.0 → cond t (f ∷ e.1) (queue_of es a) ≡ cond t (f ∷ cond u e.1 (queue_of es a)) (cond u e.1 (queue_of es a))
    first true true et eu same = refl
    first true false et eu same = absurd (let s : m ≡ a = eqb-true m a et in eqb-false e.0 a eu (sym same ∙ s))
    first false true et eu same = absurd (let s : e.0 ≡ a = eqb-true e.0 a eu in eqb-false m a et (same ∙ s))
    first false false et eu same = refl

    before : (t : Bool) → (m == a) ≡ t → m < e.0 → cond t (f ∷ []) (queue_of (e ∷ es) a) ≡ cond t (f ∷ queue_of (e ∷ es) a) (queue_of (e ∷ es) a)
    before true et lt = ap (λ l. f ∷ l) (sym (subst (λ k. queue_of (e ∷ es) k ≡ []) (eqb-true m a et) (none_before (e ∷ es) m (less_is m e.0 lt, all_less m e.0 (senders_of es) lt h.0))))
    before false et lt = refl

    behind : (t u : Bool) → (m == a) ≡ t → (e.0 == a) ≡ u → m ≢ e.0 → cond u e.1 (cond t (f ∷ queue_of es a) (queue_of es a)) ≡ cond t (f ∷ cond u e.1 (queue_of es a)) (cond u e.1 (queue_of es a))
    behind true true et eu apart = absurd (apart (eqb-true m a et ∙ sym (eqb-true e.0 a eu)))
    behind true false et eu apart = refl
    behind false true et eu apart = refl
    behind false false et eu apart = refl

    go : (t u : Bool) → (m == e.0) ≡ t → nat_lt m e.0 ≡ u → queue_of (put_first m f es) a ≡ cond (m == a) (f ∷ queue_of es a) (queue_of es a)
        → queue_of (cond t ((m, f ∷ e.1) ∷ es) (cond u ((m, f ∷ []) ∷ e ∷ es) (e ∷ put_first m f es))) a ≡ cond (m == a) (f ∷ queue_of (e ∷ es) a) (queue_of (e ∷ es) a)
    go true u et eu rest = first (m == a) (e.0 == a) refl refl (eqb-true m e.0 et)
    go false true et eu rest = before (m == a) refl (ltb-true m e.0 eu)
    go false false et eu rest = ap (λ l. cond (e.0 == a) e.1 l) rest ∙ behind (m == a) (e.0 == a) refl refl (eqb-false m e.0 et)

all_put : (x m : ℕ) (f : List ℕ) (w : WaitingFrames) → nat_cmp x m ≡ Less → AllByRecursion (λ z. nat_cmp x z ≡ Less) (senders_of w) → AllByRecursion (λ z. nat_cmp x z ≡ Less) (senders_of (put_first m f w))
all_put x m f [] lt h = (lt, tt)
all_put x m f (e ∷ es) lt h = go (m == e.0) (nat_lt m e.0) (all_put x m f es lt h.1)
  where
    go : (t u : Bool) → AllByRecursion (λ z. nat_cmp x z ≡ Less) (senders_of (put_first m f es)) → AllByRecursion (λ z. nat_cmp x z ≡ Less) (senders_of (cond t ((m, f ∷ e.1) ∷ es) (cond u ((m, f ∷ []) ∷ e ∷ es) (e ∷ put_first m f es))))
    go true u rest = (lt, h.1)
    go false true rest = (lt, h)
    go false false rest = (h.0, rest)

put_increasing : (m : ℕ) (f : List ℕ) (w : WaitingFrames) → IsStrictlySortedBy nat_cmp (senders_of w) → IsStrictlySortedBy nat_cmp (senders_of (put_first m f w))
unfolding IsStrictlySortedBy
put_increasing m f [] h = (tt, tt)
put_increasing m f (e ∷ es) h = go (m == e.0) (nat_lt m e.0) refl refl (put_increasing m f es h.1)
  where
    less : (a b : ℕ) → a ≤ b → a ≢ b → a < b
    less a b le ne = elim (cases_Bool (a == b)) [ inl t ↦ absurd (ne (eqb-true a b t)) | inr k ↦ grind (arith, nat_tests) ]

    go : (t u : Bool) → (m == e.0) ≡ t → nat_lt m e.0 ≡ u → IsStrictlySortedBy nat_cmp (senders_of (put_first m f es)) → IsStrictlySortedBy nat_cmp (senders_of (cond t ((m, f ∷ e.1) ∷ es) (cond u ((m, f ∷ []) ∷ e ∷ es) (e ∷ put_first m f es))))
    go true u et eu rest = (subst (λ k. AllByRecursion (λ z. nat_cmp k z ≡ Less) (senders_of es)) (sym (eqb-true m e.0 et)) h.0, h.1)
    go false true et eu rest = let lt = ltb-true m e.0 eu in ((less_is m e.0 lt, all_less m e.0 (senders_of es) lt h.0), h)
    go false false et eu rest =
        let le : e.0 ≤ m = ltb-false m e.0 eu in
        let ne : m ≢ e.0 = eqb-false m e.0 et in
        (all_put e.0 m f es (less_is e.0 m (less e.0 m le (λ s. ne (sym s)))) h.0, rest)

put_sent : (m : ℕ) (f : List ℕ) (w : WaitingFrames) → HaveSent w → HaveSent (put_first m f w)
put_sent m f [] h = (some_first f [], tt)
put_sent m f (e ∷ es) h = go (m == e.0) (nat_lt m e.0) (put_sent m f es h.1)
  where
    go : (t u : Bool) → HaveSent (put_first m f es) → HaveSent (cond t ((m, f ∷ e.1) ∷ es) (cond u ((m, f ∷ []) ∷ e ∷ es) (e ∷ put_first m f es)))
    go true u rest = (some_first f e.1, h.1)
    go false true rest = (some_first f [], h)
    go false false rest = (h.0, rest)

-- it is an inbox still
pub put_inbox : (m : ℕ) (f : List ℕ) (w : WaitingFrames) → IsInbox w → IsInbox (put_first m f w)
put_inbox m f w h = record { sent = put_sent m f w h.sent; increasing = put_increasing m f w h.increasing }

-- ---- the frame that an event took

-- what a node has in its hands of a sender's frames
abbrev pub in_hand : Option Event → Option (List ℕ) → ℕ → List (List ℕ)
in_hand None frame a = []
in_hand (Some (Sample n s v)) frame a = []
in_hand (Some (Recv n m)) None a = []
in_hand (Some (Recv n m)) (Some f) a = cond (m == a) (f ∷ []) []
in_hand (Some (Tick n)) frame a = []
in_hand (Some (Lose n)) frame a = []

-- it is before what waits
pub whole_queue : (o : Option Event) (frame : Option (List ℕ)) (w : WaitingFrames) (a : ℕ) → IsInbox w → queue_of (with_frame o frame w) a ≡ in_hand o frame a ++ queue_of w a
whole_queue None frame w a is = refl
whole_queue (Some (Sample n s v)) frame w a is = refl
whole_queue (Some (Recv n m)) None w a is = refl
whole_queue (Some (Recv n m)) (Some f) w a is = put_queue m f w a is.increasing ∙ go (m == a)
  where
    go : (t : Bool) → cond t (f ∷ queue_of w a) (queue_of w a) ≡ cond t (f ∷ []) [] ++ queue_of w a
    go true = refl
    go false = refl
whole_queue (Some (Tick n)) frame w a is = refl
whole_queue (Some (Lose n)) frame w a is = refl

-- and it is an inbox
pub whole_is_inbox : (o : Option Event) (frame : Option (List ℕ)) (w : WaitingFrames) → IsInbox w → IsInbox (with_frame o frame w)
whole_is_inbox None frame w is = is
whole_is_inbox (Some (Sample n s v)) frame w is = is
whole_is_inbox (Some (Recv n m)) None w is = is
whole_is_inbox (Some (Recv n m)) (Some f) w is = put_inbox m f w is
whole_is_inbox (Some (Tick n)) frame w is = is
whole_is_inbox (Some (Lose n)) frame w is = is
