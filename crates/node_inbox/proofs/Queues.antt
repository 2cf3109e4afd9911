-- What a change of one sender's queue does to what waits and to the rooms.
use Rattle.std.proofs.Common.{◌≡◌, ◌≢◌, ◌∙◌, ◌<◌, ◌≤◌, inl, inr, ℕ, suc, Bool, true, false, not, ◌==◌, ◌||◌, cond, List, [], ◌∷◌, length, Option, Some, None, refl, sym, ap, subst, eqb-true, eq-eqb, arith, Less, Equal, Greater, Ordering}
use Rattle.std.proofs.lemmas.Bool.{cases_Bool, ne_eqb}
use Rattle.std.proofs.lemmas.Bool.Decides.{nat_tests}
use Rattle.std.proofs.lemmas.Map.Keys.{sorted_head, sorted_tail}
use Rattle.std.specs.BTreeMap.{insert_entry, is_at}
use Rattle.std.specs.BTreeSet.{insert_key}
use Rattle.std.specs.List.{AllByRecursion, list_any}
use Rattle.std.specs.List.Sorted.{IsStrictlySortedBy}
use Rattle.std.specs.Map.{keys_of, lookup, set_value}
use Rattle.std.specs.Ordering.{is_eq, nat_cmp, match_ordering}
use Rattle.std.specs.declared.collections.VecDeque.{VecDeque}
use Rattle.node_inbox.specs.Inboxes.{HaveSent, IsInbox, Waiting, is_waiting, queue_of, room_of, senders_of}
use Rattle.node_inbox.specs.Queues.{rooms_view, spare, waiting_view, with_queue, without_sender}
use Rattle.node_inbox.proofs.Searches.{before_all, compares_equal, compares_greater, steps_equal, steps_greater}

-- a comparison finds the key itself
pub finds_key : (k q : ℕ) → is_at (nat_cmp k) q ≡ (q == k)
finds_key k q = grind (arith, nat_tests)

pub less_is : (x y : ℕ) → nat_cmp x y ≡ Less → x < y
less_is x y h = grind (arith, nat_tests)

pub cons_not_empty : {X : Type 0} (x : X) (xs : List X) → x ∷ xs ≡ [] → ⊥
cons_not_empty x xs e = cc

none_without : (k : ℕ) (ss : List ℕ) → AllByRecursion (λ y. nat_cmp k y ≡ Less) ss → ss ≡ without_sender k ss
none_without k [] h = refl
none_without k (s ∷ ss) h =
    let a = less_is k s h.0 in
    ap (λ l. s ∷ l) (none_without k ss h.1) ∙ sym (ap (λ b. cond (not b) (s ∷ without_sender k ss) (without_sender k ss)) (ne_eqb s k (λ same. omega arith)))

module _ {X : Type 0} where
  -- ---- a queue before the others

  pub queue_with_other : (n m : ℕ) (xs : List X) (w : Waiting X) → (n == m) ≡ false → queue_of (with_queue n xs w) m ≡ queue_of w m
  queue_with_other n m [] w other = refl
  queue_with_other n m (x ∷ xs) w other = ap (λ b. cond b (x ∷ xs) (queue_of w m)) other

  pub queue_with_same : (n m : ℕ) (xs : List X) (w : Waiting X) → (n == m) ≡ true → queue_of w m ≡ [] → queue_of (with_queue n xs w) m ≡ xs
  queue_with_same n m [] w same none = none
  queue_with_same n m (x ∷ xs) w same none = ap (λ b. cond b (x ∷ xs) (queue_of w m)) same

  pub sent_with : (n : ℕ) (xs : List X) (w : Waiting X) → HaveSent w → HaveSent (with_queue n xs w)
  sent_with n [] w h = h
  sent_with n (x ∷ xs) w h = (cons_not_empty x xs, h)

  -- the senders of such a list, by whether the queue is empty
  pub senders_with_none : (n : ℕ) (xs : List X) (w : Waiting X) → xs ≡ [] → senders_of (with_queue n xs w) ≡ senders_of w
  senders_with_none n [] w e = refl
  senders_with_none n (x ∷ xs) w e = absurd (cons_not_empty x xs e)

  pub senders_with_some : (n : ℕ) (xs : List X) (w : Waiting X) → xs ≢ [] → senders_of (with_queue n xs w) ≡ n ∷ senders_of w
  senders_with_some n [] w some = absurd (some refl)
  senders_with_some n (x ∷ xs) w some = refl

  -- whether something waits is told by the senders
  pub waiting_by_senders : (w : Waiting X) (m : ℕ) → is_waiting w m ≡ list_any (λ s. s == m) (senders_of w)
  waiting_by_senders [] m = refl
  waiting_by_senders (e ∷ es) m = ap (λ b. (e.0 == m) || b) (waiting_by_senders es m)

  pub after_with : (k n : ℕ) (xs : List X) (w : Waiting X) → nat_cmp k n ≡ Less → AllByRecursion (λ y. nat_cmp k y ≡ Less) (senders_of w)
      → AllByRecursion (λ y. nat_cmp k y ≡ Less) (senders_of (with_queue n xs w))
  after_with k n [] w first rest = rest
  after_with k n (x ∷ xs) w first rest = (first, rest)

  pub increasing_with : (n : ℕ) (xs : List X) (w : Waiting X) → AllByRecursion (λ y. nat_cmp n y ≡ Less) (senders_of w) → IsStrictlySortedBy nat_cmp (senders_of w)
      → IsStrictlySortedBy nat_cmp (senders_of (with_queue n xs w))
  unfolding IsStrictlySortedBy
  increasing_with n [] w first rest = rest
  increasing_with n (x ∷ xs) w first rest = (first, rest)

module _ {X A : Type 0} where
  -- the items that are found
  abbrev pub found : Option (VecDeque X A) → List X
  found None = []
  found (Some v) = v.items

  -- the room that is found
  abbrev pub found_room : Option (VecDeque X A) → ℕ
  found_room None = 0
  found_room (Some v) = spare v

  -- ---- what waits, by the queues

  pub sent : (es : List (ℕ × VecDeque X A)) → HaveSent (waiting_view es)
  sent [] = tt
  sent (e ∷ es) = sent_with e.0 e.1.items (waiting_view es) (sent es)

  pub senders_after : (k : ℕ) (es : List (ℕ × VecDeque X A)) → AllByRecursion (λ y. nat_cmp k y ≡ Less) (keys_of es)
      → AllByRecursion (λ y. nat_cmp k y ≡ Less) (senders_of (waiting_view es))
  senders_after k [] h = tt
  senders_after k (e ∷ es) h = after_with k e.0 e.1.items (waiting_view es) h.0 (senders_after k es h.1)

  pub senders_increase : (es : List (ℕ × VecDeque X A)) → IsStrictlySortedBy nat_cmp (keys_of es) → IsStrictlySortedBy nat_cmp (senders_of (waiting_view es))
  unfolding IsStrictlySortedBy
  senders_increase [] h = tt
  senders_increase (e ∷ es) h =
      increasing_with e.0 e.1.items (waiting_view es) (senders_after e.0 es (sorted_head nat_cmp e.0 (keys_of es) h)) (senders_increase es (sorted_tail nat_cmp e.0 (keys_of es) h))

  pub is_inbox : (es : List (ℕ × VecDeque X A)) → IsStrictlySortedBy nat_cmp (keys_of es) → IsInbox (waiting_view es)
  is_inbox es increasing = record { sent = sent es; increasing = senders_increase es increasing }

  -- no more senders wait than there are queues
  pub fewer_senders : (es : List (ℕ × VecDeque X A)) → length (senders_of (waiting_view es)) ≤ length es
  fewer_senders [] = omega arith
  fewer_senders (e ∷ es) = go e.1.items (fewer_senders es)
    where
      go : (xs : List X) → length (senders_of (waiting_view es)) ≤ length es → length (senders_of (with_queue e.0 xs (waiting_view es))) ≤ suc (length es)
      go [] h = omega arith
      go (x ∷ xs) h = omega arith

  -- the same where a queue is empty
  pub fewer_waiting : (k : ℕ) (v : VecDeque X A) (es : List (ℕ × VecDeque X A)) → lookup (is_at (nat_cmp k)) es ≡ Some v → v.items ≡ [] → length (senders_of (waiting_view es)) < length es
  fewer_waiting k v [] is none = cc
  fewer_waiting k v (e ∷ es) is none = elim (cases_Bool (is_at (nat_cmp k) e.0)) [
    | inl t ↦
        let same : Some e.1 ≡ Some v = sym (ap (λ b. cond b (Some e.1) (lookup (is_at (nat_cmp k)) es)) t) ∙ is in
        let empty : e.1.items ≡ [] = ap found same ∙ none in
        let a = fewer_senders es in
        let b : length (senders_of (waiting_view (e ∷ es))) ≡ length (senders_of (waiting_view es)) = ap length (senders_with_none e.0 e.1.items (waiting_view es) empty) in
        omega arith
    | inr f ↦ go e.1.items (fewer_waiting k v es (sym (ap (λ b. cond b (Some e.1) (lookup (is_at (nat_cmp k)) es)) f) ∙ is) none)
  ]
    where
      go : (xs : List X) → length (senders_of (waiting_view es)) < length es → length (senders_of (with_queue e.0 xs (waiting_view es))) < suc (length es)
      go [] h = omega arith
      go (x ∷ xs) h = omega arith

  nothing_before : (m : ℕ) (es : List (ℕ × VecDeque X A)) → AllByRecursion (λ y. nat_cmp m y ≡ Less) (keys_of es) → queue_of (waiting_view es) m ≡ []
  nothing_before m [] h = refl
  nothing_before m (e ∷ es) h =
      let a : m < e.0 = less_is m e.0 h.0 in
      queue_with_other e.0 m e.1.items (waiting_view es) (ne_eqb e.0 m (λ same. omega arith)) ∙ nothing_before m es h.1

  pub queue_by_lookup : (k : ℕ) (es : List (ℕ × VecDeque X A)) → IsStrictlySortedBy nat_cmp (keys_of es) → queue_of (waiting_view es) k ≡ found (lookup (is_at (nat_cmp k)) es)
  queue_by_lookup k [] increasing = refl
  queue_by_lookup k (e ∷ es) increasing = elim (cases_Bool (e.0 == k)) [
    | inl t ↦
        let first = sorted_head nat_cmp e.0 (keys_of es) increasing in
        queue_with_same e.0 k e.1.items (waiting_view es) t (nothing_before k es (subst (λ n. AllByRecursion (λ y. nat_cmp n y ≡ Less) (keys_of es)) (eqb-true e.0 k t) first))
        ∙ sym (ap (λ b. found (cond b (Some e.1) (lookup (is_at (nat_cmp k)) es))) (finds_key k e.0 ∙ t))
    | inr f ↦
        queue_with_other e.0 k e.1.items (waiting_view es) f
        ∙ queue_by_lookup k es (sorted_tail nat_cmp e.0 (keys_of es) increasing)
        ∙ sym (ap (λ b. found (cond b (Some e.1) (lookup (is_at (nat_cmp k)) es))) (finds_key k e.0 ∙ f))
  ]

  pub room_by_lookup : (k : ℕ) (es : List (ℕ × VecDeque X A)) → room_of (rooms_view es) k ≡ found_room (lookup (is_at (nat_cmp k)) es)
  room_by_lookup k [] = refl
  room_by_lookup k (e ∷ es) =
      ap (cond (e.0 == k) (spare e.1)) (room_by_lookup k es)
      ∙ choose (e.0 == k) (is_at (nat_cmp k) e.0) (sym (finds_key k e.0))
    where
      choose : (b c : Bool) → b ≡ c → cond b (spare e.1) (found_room (lookup (is_at (nat_cmp k)) es)) ≡ found_room (cond c (Some e.1) (lookup (is_at (nat_cmp k)) es))
      choose true c h = ap (λ b. found_room (cond b (Some e.1) (lookup (is_at (nat_cmp k)) es))) h
      choose false c h = ap (λ b. found_room (cond b (Some e.1) (lookup (is_at (nat_cmp k)) es))) h

  -- ---- a change at one key

  -- at one key the queue is w, and each other key has what it had
  abbrev pub Changes : ℕ → Option (VecDeque X A) → List (ℕ × VecDeque X A) → List (ℕ × VecDeque X A) → Type 0
  Changes k w es ns = (q : ℕ) → lookup (is_at (nat_cmp q)) ns ≡ cond (is_at (nat_cmp k) q) w (lookup (is_at (nat_cmp q)) es)

  pub changed_queue : (k : ℕ) (w : Option (VecDeque X A)) (es ns : List (ℕ × VecDeque X A)) → Changes k w es ns
      → IsStrictlySortedBy nat_cmp (keys_of es) → IsStrictlySortedBy nat_cmp (keys_of ns)
      → (m : ℕ) → queue_of (waiting_view ns) m ≡ cond (m == k) (found w) (queue_of (waiting_view es) m)
  changed_queue k w es ns h up ups m =
      queue_by_lookup m ns ups
      ∙ ap found (h m)
      ∙ choose (is_at (nat_cmp k) m) (m == k) (finds_key k m)
    where
      choose : (b c : Bool) → b ≡ c → found (cond b w (lookup (is_at (nat_cmp m)) es)) ≡ cond c (found w) (queue_of (waiting_view es) m)
      choose true c e = ap (λ x. cond x (found w) (queue_of (waiting_view es) m)) e
      choose false c e = sym (queue_by_lookup m es up) ∙ ap (λ x. cond x (found w) (queue_of (waiting_view es) m)) e

  pub changed_room : (k : ℕ) (w : Option (VecDeque X A)) (es ns : List (ℕ × VecDeque X A)) → Changes k w es ns
      → (m : ℕ) → room_of (rooms_view ns) m ≡ cond (m == k) (found_room w) (room_of (rooms_view es) m)
  changed_room k w es ns h m =
      room_by_lookup m ns
      ∙ ap found_room (h m)
      ∙ choose (is_at (nat_cmp k) m) (m == k) (finds_key k m)
    where
      choose : (b c : Bool) → b ≡ c → found_room (cond b w (lookup (is_at (nat_cmp m)) es)) ≡ cond c (found_room w) (room_of (rooms_view es) m)
      choose true c e = ap (λ x. cond x (found_room w) (room_of (rooms_view es) m)) e
      choose false c e = sym (room_by_lookup m es) ∙ ap (λ x. cond x (found_room w) (room_of (rooms_view es) m)) e

  -- ---- queues of which one is exchanged, seen as what waits

  pub same_set : (test : ℕ → Bool) (v w : VecDeque X A) (es : List (ℕ × VecDeque X A)) → lookup test es ≡ Some v → w.items ≡ v.items → waiting_view (set_value test es w) ≡ waiting_view es
  same_set test v w [] is same = refl
  same_set test v w (e ∷ es) is same = go (test e.0) is (same_set test v w es)
    where
      go : (b : Bool) → cond b (Some e.1) (lookup test es) ≡ Some v → (lookup test es ≡ Some v → w.items ≡ v.items → waiting_view (set_value test es w) ≡ waiting_view es)
          → waiting_view (cond b ((e.0, w) ∷ es) (e ∷ set_value test es w)) ≡ with_queue e.0 e.1.items (waiting_view es)
      go true h rest = ap (λ xs. with_queue e.0 xs (waiting_view es)) (same ∙ sym (ap found h))
      go false h rest = ap (with_queue e.0 e.1.items) (rest h same)

  pub same_inserted : (k : ℕ) (w : VecDeque X A) (es : List (ℕ × VecDeque X A)) → lookup (is_at (nat_cmp k)) es ≡ None → w.items ≡ [] → waiting_view (insert_entry nat_cmp es k w) ≡ waiting_view es
  same_inserted k w [] is none = ap (λ xs. with_queue k xs []) none
  same_inserted k w (e ∷ es) is none = go (nat_cmp k e.0) is (same_inserted k w es)
    where
      go : (o : Ordering) → cond (is_eq o) (Some e.1) (lookup (is_at (nat_cmp k)) es) ≡ None
          → (lookup (is_at (nat_cmp k)) es ≡ None → w.items ≡ [] → waiting_view (insert_entry nat_cmp es k w) ≡ waiting_view es)
          → waiting_view (match_ordering o ((k, w) ∷ e ∷ es) ((e.0, w) ∷ es) (e ∷ insert_entry nat_cmp es k w)) ≡ with_queue e.0 e.1.items (waiting_view es)
      go Less h rest = ap (λ xs. with_queue k xs (with_queue e.0 e.1.items (waiting_view es))) none
      go Equal h rest = cc
      go Greater h rest = ap (with_queue e.0 e.1.items) (rest h none)

  -- a key that is found behind another one is above it
  found_after : (n k : ℕ) (v : VecDeque X A) (es : List (ℕ × VecDeque X A)) → AllByRecursion (λ y. nat_cmp n y ≡ Less) (keys_of es) → lookup (is_at (nat_cmp k)) es ≡ Some v → n < k
  found_after n k v [] all is = cc
  found_after n k v (e ∷ es) all is = elim (cases_Bool (is_at (nat_cmp k) e.0)) [
    | inl t ↦ let a : e.0 ≡ k = eqb-true e.0 k (sym (finds_key k e.0) ∙ t) in let b = less_is n e.0 all.0 in omega arith
    | inr f ↦ found_after n k v es all.1 (sym (ap (λ b. cond b (Some e.1) (lookup (is_at (nat_cmp k)) es)) f) ∙ is)
  ]

  -- a queue that isn't empty: its sender is listed
  pub senders_added : (k : ℕ) (v w : VecDeque X A) (es : List (ℕ × VecDeque X A)) → IsStrictlySortedBy nat_cmp (keys_of es) → lookup (is_at (nat_cmp k)) es ≡ Some v → w.items ≢ []
      → senders_of (waiting_view (set_value (is_at (nat_cmp k)) es w)) ≡ insert_key nat_cmp (senders_of (waiting_view es)) k
  senders_added k v w [] up is some = cc
  senders_added k v w (e ∷ es) up is some = elim (cases_Bool (is_at (nat_cmp k) e.0)) [
    | inl t ↦
        let same : e.0 ≡ k = eqb-true e.0 k (sym (finds_key k e.0) ∙ t) in
        let first = subst (λ n. AllByRecursion (λ y. nat_cmp n y ≡ Less) (senders_of (waiting_view es))) same (senders_after e.0 es (sorted_head nat_cmp e.0 (keys_of es) up)) in
        ap (λ b. senders_of (waiting_view (cond b ((e.0, w) ∷ es) (e ∷ set_value (is_at (nat_cmp k)) es w)))) t
        ∙ senders_with_some e.0 w.items (waiting_view es) some
        ∙ here e.1.items same first
    | inr f ↦
        let later : lookup (is_at (nat_cmp k)) es ≡ Some v = sym (ap (λ b. cond b (Some e.1) (lookup (is_at (nat_cmp k)) es)) f) ∙ is in
        let above : e.0 < k = found_after e.0 k v es (sorted_head nat_cmp e.0 (keys_of es) up) later in
        ap (λ b. senders_of (waiting_view (cond b ((e.0, w) ∷ es) (e ∷ set_value (is_at (nat_cmp k)) es w)))) f
        ∙ further e.1.items above (senders_added k v w es (sorted_tail nat_cmp e.0 (keys_of es) up) later some)
  ]
    where
      here : (xs : List X) → e.0 ≡ k → AllByRecursion (λ y. nat_cmp k y ≡ Less) (senders_of (waiting_view es))
          → e.0 ∷ senders_of (waiting_view es) ≡ insert_key nat_cmp (senders_of (with_queue e.0 xs (waiting_view es))) k
      here [] same first = ap (λ n. n ∷ senders_of (waiting_view es)) same ∙ sym (before_all k (senders_of (waiting_view es)) first)
      here (x ∷ xs) same first = sym (steps_equal k e.0 (senders_of (waiting_view es)) (compares_equal k e.0 (sym same)))

      further : (xs : List X) → e.0 < k → senders_of (waiting_view (set_value (is_at (nat_cmp k)) es w)) ≡ insert_key nat_cmp (senders_of (waiting_view es)) k
          → senders_of (with_queue e.0 xs (waiting_view (set_value (is_at (nat_cmp k)) es w))) ≡ insert_key nat_cmp (senders_of (with_queue e.0 xs (waiting_view es))) k
      further [] above rest = rest
      further (x ∷ xs) above rest = ap (λ l. e.0 ∷ l) rest ∙ sym (steps_greater k e.0 (senders_of (waiting_view es)) (compares_greater k e.0 above))

  -- an empty queue: its sender isn't listed
  pub senders_removed : (k : ℕ) (v w : VecDeque X A) (es : List (ℕ × VecDeque X A)) → IsStrictlySortedBy nat_cmp (keys_of es) → lookup (is_at (nat_cmp k)) es ≡ Some v → w.items ≡ []
      → senders_of (waiting_view (set_value (is_at (nat_cmp k)) es w)) ≡ without_sender k (senders_of (waiting_view es))
  senders_removed k v w [] up is none = cc
  senders_removed k v w (e ∷ es) up is none = elim (cases_Bool (is_at (nat_cmp k) e.0)) [
    | inl t ↦
        let same : e.0 ≡ k = eqb-true e.0 k (sym (finds_key k e.0) ∙ t) in
        let first = subst (λ n. AllByRecursion (λ y. nat_cmp n y ≡ Less) (senders_of (waiting_view es))) same (senders_after e.0 es (sorted_head nat_cmp e.0 (keys_of es) up)) in
        ap (λ b. senders_of (waiting_view (cond b ((e.0, w) ∷ es) (e ∷ set_value (is_at (nat_cmp k)) es w)))) t
        ∙ senders_with_none e.0 w.items (waiting_view es) none
        ∙ none_without k (senders_of (waiting_view es)) first
        ∙ here e.1.items same
    | inr f ↦
        let later : lookup (is_at (nat_cmp k)) es ≡ Some v = sym (ap (λ b. cond b (Some e.1) (lookup (is_at (nat_cmp k)) es)) f) ∙ is in
        let above : e.0 < k = found_after e.0 k v es (sorted_head nat_cmp e.0 (keys_of es) up) later in
        ap (λ b. senders_of (waiting_view (cond b ((e.0, w) ∷ es) (e ∷ set_value (is_at (nat_cmp k)) es w)))) f
        ∙ further e.1.items above (senders_removed k v w es (sorted_tail nat_cmp e.0 (keys_of es) up) later none)
  ]
    where
      here : (xs : List X) → e.0 ≡ k → without_sender k (senders_of (waiting_view es)) ≡ without_sender k (senders_of (with_queue e.0 xs (waiting_view es)))
      here [] same = refl
      here (x ∷ xs) same = sym (ap (λ b. cond (not b) (e.0 ∷ without_sender k (senders_of (waiting_view es))) (without_sender k (senders_of (waiting_view es)))) (eq-eqb e.0 k same))

      further : (xs : List X) → e.0 < k → senders_of (waiting_view (set_value (is_at (nat_cmp k)) es w)) ≡ without_sender k (senders_of (waiting_view es))
          → senders_of (with_queue e.0 xs (waiting_view (set_value (is_at (nat_cmp k)) es w))) ≡ without_sender k (senders_of (with_queue e.0 xs (waiting_view es)))
      further [] above rest = rest
      further (x ∷ xs) above rest =
          ap (λ l. e.0 ∷ l) rest ∙ sym (ap (λ b. cond (not b) (e.0 ∷ without_sender k (senders_of (waiting_view es))) (without_sender k (senders_of (waiting_view es)))) (ne_eqb e.0 k (λ same. omega arith)))

  -- a queue that is empty neither before nor after
  pub senders_kept : (test : ℕ → Bool) (v w : VecDeque X A) (es : List (ℕ × VecDeque X A)) → lookup test es ≡ Some v → v.items ≢ [] → w.items ≢ []
      → senders_of (waiting_view (set_value test es w)) ≡ senders_of (waiting_view es)
  senders_kept test v w [] is was some = refl
  senders_kept test v w (e ∷ es) is was some = go (test e.0) is (senders_kept test v w es)
    where
      further : (xs : List X) → senders_of (waiting_view (set_value test es w)) ≡ senders_of (waiting_view es) → senders_of (with_queue e.0 xs (waiting_view (set_value test es w))) ≡ senders_of (with_queue e.0 xs (waiting_view es))
      further [] same = same
      further (x ∷ xs) same = ap (λ l. e.0 ∷ l) same

      go : (b : Bool) → cond b (Some e.1) (lookup test es) ≡ Some v → (lookup test es ≡ Some v → v.items ≢ [] → w.items ≢ [] → senders_of (waiting_view (set_value test es w)) ≡ senders_of (waiting_view es))
          → senders_of (waiting_view (cond b ((e.0, w) ∷ es) (e ∷ set_value test es w))) ≡ senders_of (with_queue e.0 e.1.items (waiting_view es))
      go true h rest = senders_with_some e.0 w.items (waiting_view es) some ∙ sym (senders_with_some e.0 e.1.items (waiting_view es) (λ none. was (sym (ap found h) ∙ none)))
      go false h rest = further e.1.items (rest h was some)
