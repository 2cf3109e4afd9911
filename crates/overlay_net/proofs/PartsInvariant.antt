-- What a net's parts have to know of what was taken and sent.
use Rattle.std.proofs.Common.{◌≡◌, ◌≢◌, ◌∙◌, ◌<◌, ℕ, Bool, true, false, ◌==◌, ◌||◌, cond, List, [], ◌∷◌, ◌++◌, map, length, Option, Some, None, refl, sym, ap, subst, inl, inr, eqb-true, append-nil, append_assoc, arith}
use Rattle.std.proofs.lemmas.Bool.{cases_Bool, true≢false}
use Rattle.std.proofs.lemmas.Bool.Decides.{nat_tests}
use Rattle.overlay_setup.specs.NodeSets.{member}
use Rattle.std.specs.List.{AllByRecursion}
use Rattle.overlay_event.specs.declared.event.Event.{Event}
use Rattle.overlay_event.specs.declared.event.Event.TheVariants.{Sample, Recv, Tick, Lose}
use Rattle.overlay_core.specs.Nodes.{Release}
use Rattle.overlay_core.specs.Releases.{next_release}
use Rattle.overlay_core.specs.TreeReleases.{numbers_after}
use Rattle.overlay_net.specs.Inboxes.{FrameInbox, WaitingFrames}
use Rattle.node_inbox.specs.Inboxes.{HaveSent, IsInbox, is_waiting, queue_of}
use Rattle.node_inbox.specs.Sends.{GoBelow, inbox_at, is_receiver, packets_to}
use Rattle.overlay_net.specs.Sends.{IsFirst, IsTaken}

-- a list with a first element isn't empty
some_first : {X : Type 0} (x : X) (xs : List X) → x ∷ xs ≢ []
some_first x xs = λ e. cc

-- ---- what waits

-- where nothing waits from a sender, its queue is empty
pub none_where_quiet : (es : WaitingFrames) (m : ℕ) → is_waiting es m ≡ false → queue_of es m ≡ []
none_where_quiet [] m h = refl
none_where_quiet (e ∷ es) m h = go (e.0 == m) h (none_where_quiet es m)
  where
    go : (b : Bool) → (b || is_waiting es m) ≡ false → (is_waiting es m ≡ false → queue_of es m ≡ []) → cond b e.1 (queue_of es m) ≡ []
    go true k rest = absurd (true≢false k)
    go false k rest = rest k

-- where something waits from a sender, its queue isn't empty
pub some_where_waiting : (es : WaitingFrames) (m : ℕ) → HaveSent es → is_waiting es m ≡ true → queue_of es m ≢ []
some_where_waiting [] m h w = absurd (true≢false (sym w))
some_where_waiting (e ∷ es) m h w = go (e.0 == m) w (some_where_waiting es m h.1)
  where
    go : (b : Bool) → (b || is_waiting es m) ≡ true → (is_waiting es m ≡ true → queue_of es m ≢ []) → cond b e.1 (queue_of es m) ≢ []
    go true k rest = h.0
    go false k rest = rest k

-- a queue that isn't empty waits
pub waits_where_some : (es : WaitingFrames) (m : ℕ) → queue_of es m ≢ [] → is_waiting es m ≡ true
waits_where_some es m some = elim (cases_Bool (is_waiting es m)) [ inl t ↦ t | inr f ↦ absurd (some (none_where_quiet es m f)) ]

-- ---- what was taken

-- there are as many inboxes as there were
pub taken_all : (ia ib : List FrameInbox) (e : Event) (packet : Option (List ℕ)) → IsTaken ia e packet ib → length ib ≡ length ia
taken_all ia ib (Sample n s w) packet h = ap (λ (l : List FrameInbox). length l) h.1
taken_all ia ib (Recv n m) None h = absurd h
taken_all ia ib (Recv n m) (Some q) h = h.inbox_count
taken_all ia ib (Tick n) packet h = ap (λ (l : List FrameInbox). length l) h.1
taken_all ia ib (Lose n) packet h = ap (λ (l : List FrameInbox). length l) h.1

-- inboxes stay inboxes
pub taken_kept : (ia ib : List FrameInbox) (e : Event) (packet : Option (List ℕ)) → IsTaken ia e packet ib → ((b : ℕ) → IsInbox (inbox_at ia b)) → (b : ℕ) → IsInbox (inbox_at ib b)
taken_kept ia ib (Sample n s w) packet h is b = subst (λ (l : List FrameInbox). IsInbox (inbox_at l b)) (sym h.1) (is b)
taken_kept ia ib (Recv n m) None h is b = absurd h
taken_kept ia ib (Recv n m) (Some q) h is b = h.inboxes is b
taken_kept ia ib (Tick n) packet h is b = subst (λ (l : List FrameInbox). IsInbox (inbox_at l b)) (sym h.1) (is b)
taken_kept ia ib (Lose n) packet h is b = subst (λ (l : List FrameInbox). IsInbox (inbox_at l b)) (sym h.1) (is b)

-- what is true of an unchanged queue, and of a queue without its first packet, is true of the queue afterwards
left_over : (R : List (List ℕ) → Type 0) (ia ib : List FrameInbox) (n m : ℕ) (q : (List ℕ)) → IsFirst m n q ia ib
    → ((rest : List (List ℕ)) → R (q ∷ rest) → R rest)
    → (a b : ℕ) → R (queue_of (inbox_at ia b) a) → R (queue_of (inbox_at ib b) a)
left_over R ia ib n m q h less a b r = go (b == n) (a == m) refl refl
  where
    go : (t u : Bool) → (b == n) ≡ t → (a == m) ≡ u → R (queue_of (inbox_at ib b) a)
    go false u et eu = subst (λ (w : WaitingFrames). R (queue_of w a)) (sym (h.others b et)) r
    go true false et eu =
        let eb : b ≡ n = eqb-true b n et in
        subst (λ k. R (queue_of (inbox_at ib k) a)) (sym eb) (subst R (sym (h.rest a eu)) (subst (λ k. R (queue_of (inbox_at ia k) a)) eb r))
    go true true et eu =
        let eb : b ≡ n = eqb-true b n et in
        let ea : a ≡ m = eqb-true a m eu in
        let there : R (queue_of (inbox_at ia n) m) = subst (λ k. R (queue_of (inbox_at ia k) m)) eb (subst (λ k. R (queue_of (inbox_at ia b) k)) ea r) in
        let here : R (queue_of (inbox_at ib n) m) = less (queue_of (inbox_at ib n) m) (subst R h.first there) in
        subst (λ k. R (queue_of (inbox_at ib k) a)) (sym eb) (subst (λ k. R (queue_of (inbox_at ib n) k)) (sym ea) here)

-- what is true of each queue, also of one without its first packet, is true after an event has taken what it receives
pub taken_left : (R : List (List ℕ) → Type 0) → ((q : (List ℕ)) (rest : List (List ℕ)) → R (q ∷ rest) → R rest)
    → (ia ib : List FrameInbox) (e : Event) (packet : Option (List ℕ)) → IsTaken ia e packet ib
    → (a b : ℕ) → R (queue_of (inbox_at ia b) a) → R (queue_of (inbox_at ib b) a)
taken_left R less ia ib (Sample n s w) packet h a b r = subst (λ (l : List FrameInbox). R (queue_of (inbox_at l b) a)) (sym h.1) r
taken_left R less ia ib (Recv n m) None h a b r = absurd h
taken_left R less ia ib (Recv n m) (Some q) h a b r = left_over R ia ib n m q h (less q) a b r
taken_left R less ia ib (Tick n) packet h a b r = subst (λ (l : List FrameInbox). R (queue_of (inbox_at l b) a)) (sym h.1) r
taken_left R less ia ib (Lose n) packet h a b r = subst (λ (l : List FrameInbox). R (queue_of (inbox_at l b) a)) (sym h.1) r

-- where a queue was empty, it is empty after an event has taken what it receives
pub taken_none : (ia ib : List FrameInbox) (e : Event) (packet : Option (List ℕ)) → IsTaken ia e packet ib → (a b : ℕ) → queue_of (inbox_at ia b) a ≡ [] → queue_of (inbox_at ib b) a ≡ []
taken_none ia ib e packet h a b none = taken_left (λ (l : List (List ℕ)). l ≡ []) (λ q rest k. absurd (some_first q rest k)) ia ib e packet h a b none

-- ---- what was sent

-- what is true of each packet that was sent is true of those that go to b
pub sent_fit : (R : (List ℕ) → Type 0) (b : ℕ) (sends : List (ℕ × (List ℕ))) → AllByRecursion (λ v. R v.1) sends → AllByRecursion R (packets_to b sends)
sent_fit R b [] h = tt
sent_fit R b (v ∷ vs) h = go (v.0 == b) (sent_fit R b vs h.1)
  where
    go : (t : Bool) → AllByRecursion R (packets_to b vs) → AllByRecursion R (cond t (v.1 ∷ packets_to b vs) (packets_to b vs))
    go true rest = (h.0, rest)
    go false rest = rest

-- the receivers are below the number that all of them are below
pub receivers_below : (count : ℕ) (sends : List (ℕ × (List ℕ))) → GoBelow count sends → AllByRecursion (λ n. n < count) (map (λ v. v.0) sends)
receivers_below count [] below = tt
receivers_below count (v ∷ vs) below = (below.0, receivers_below count vs below.1)

-- the receivers are those to whom something goes
pub receiver_is_member : (b : ℕ) (sends : List (ℕ × (List ℕ))) → member b (map (λ v. v.0) sends) ≡ is_receiver sends b
receiver_is_member b [] = refl
receiver_is_member b (v ∷ vs) = (λ i. same_test b v.0 i || receiver_is_member b vs i)
  where
    same_test : (a c : ℕ) → (a == c) ≡ (c == a)
    same_test a c = grind (arith, nat_tests)

-- where neither of two tests holds, each fails
pub or_both_false : (s t : Bool) → (s || t) ≡ false → (s ≡ false) × (t ≡ false)
or_both_false true t e = absurd (true≢false e)
or_both_false false t e = (refl, e)

-- what is true of each element of two lists is true of both together
pub all_append : {X : Type 0} (R : X → Type 0) (xs ys : List X) → AllByRecursion R xs → AllByRecursion R ys → AllByRecursion R (xs ++ ys)
all_append R [] ys h k = k
all_append R (x ∷ xs) ys h k = (h.0, all_append R xs ys h.1 k)

-- ---- releases

-- the numbers of releases, and of those that come after them
pub numbers_of_both : (earlier rs more : List Release) → numbers_after earlier (rs ++ more) ≡ numbers_after earlier rs ++ numbers_after (earlier ++ rs) more
numbers_of_both earlier [] more = ap (λ (l : List Release). numbers_after l more) (sym (append-nil earlier))
numbers_of_both earlier (r ∷ rs) more =
    ap (λ (l : List ℕ). next_release r.stream r.wave earlier ∷ l)
    (numbers_of_both (earlier ++ r ∷ []) rs more
    ∙ ap (λ (l : List Release). numbers_after (earlier ++ r ∷ []) rs ++ numbers_after l more) (append_assoc earlier (r ∷ []) rs))
