-- A queue is changed through what `get_mut` lends, and what is seen of the inbox then.
use Rattle.std.proofs.Common.{◌≡◌, ◌≢◌, ◌∙◌, ◌+◌, ◌-◌, ◌<◌, ◌≤◌, ℕ, Bool, true, false, ◌==◌, cond, List, [], ◌∷◌, length, take, zero, suc, Some, None, IsSome, refl, sym, ap, subst, eqb-true, eq-eqb, arith, Less, Equal, Greater, Ordering}
use Rattle.std.specs.BTreeMap.{BTreeMap, WritesThrough, insert_entry, is_at}
use Rattle.std.specs.BTreeSet.{insert_key}
use Rattle.std.specs.List.Sorted.{IsStrictlySortedBy}
use Rattle.std.specs.Map.{keys_of, lookup, set_value}
use Rattle.std.specs.Ordering.{match_ordering, nat_cmp}
use Rattle.std.specs.declared.collections.VecDeque.{VecDeque}
use Rattle.node_inbox.specs.Inboxes.{queue_of, room_of, senders_of}
use Rattle.node_inbox.specs.Queues.{AreListed, rooms_view, spare, waiting_view, without_sender}
use Rattle.node_inbox.proofs.Queues.{Changes, changed_queue, changed_room, found, found_room, queue_by_lookup, room_by_lookup, same_inserted, same_set, senders_added, senders_kept, senders_removed}

module _ {X A : Type 0} where
  -- the queue of k was v and is w, and each other queue is what it was
  pub record IsWritten (k : ℕ) (v w : VecDeque X A) (es ns : List (ℕ × VecDeque X A)) : Type 0 where
    pub was : lookup (is_at (nat_cmp k)) es ≡ Some v
    pub set : ns ≡ set_value (is_at (nat_cmp k)) es w
    pub changes : Changes k (Some w) es ns
    pub count : length ns ≡ length es
    pub increasing : IsStrictlySortedBy nat_cmp (keys_of es)
    pub still_increasing : IsStrictlySortedBy nat_cmp (keys_of ns)

  pub written : (k : ℕ) (v w : VecDeque X A) (m n : BTreeMap ℕ (VecDeque X A)) → lookup (is_at (nat_cmp k)) m.entries ≡ Some v → WritesThrough nat_cmp (nat_cmp k) m w n
      → IsStrictlySortedBy nat_cmp (keys_of m.entries) → IsWritten k v w m.entries n.entries
  written k v w m n is wrote increasing = record {
    was = is;
    set = wrote.0;
    changes = (wrote.3 (subst IsSome (sym is) refl)).0;
    count = wrote.2;
    increasing = increasing;
    still_increasing = wrote.4;
  }

  -- ---- what waits

  pub was_queue : (k : ℕ) (v w : VecDeque X A) (es ns : List (ℕ × VecDeque X A)) → IsWritten k v w es ns → queue_of (waiting_view es) k ≡ v.items
  was_queue k v w es ns h = queue_by_lookup k es h.increasing ∙ ap found h.was

  pub is_queue : (k : ℕ) (v w : VecDeque X A) (es ns : List (ℕ × VecDeque X A)) → IsWritten k v w es ns → queue_of (waiting_view ns) k ≡ w.items
  is_queue k v w es ns h =
      changed_queue k (Some w) es ns h.changes h.increasing h.still_increasing k
      ∙ ap (λ b. cond b w.items (queue_of (waiting_view es) k)) (eq-eqb k k refl)

  pub other_queues : (k : ℕ) (v w : VecDeque X A) (es ns : List (ℕ × VecDeque X A)) → IsWritten k v w es ns → (m : ℕ) → (m == k) ≡ false → queue_of (waiting_view ns) m ≡ queue_of (waiting_view es) m
  other_queues k v w es ns h m other =
      changed_queue k (Some w) es ns h.changes h.increasing h.still_increasing m
      ∙ ap (λ b. cond b w.items (queue_of (waiting_view es) m)) other

  -- by what the change does to the queue
  pub queues_by : (f : List X → List X) (k : ℕ) (v w : VecDeque X A) (es ns : List (ℕ × VecDeque X A)) → IsWritten k v w es ns → w.items ≡ f v.items
      → (m : ℕ) → queue_of (waiting_view ns) m ≡ cond (m == k) (f (queue_of (waiting_view es) m)) (queue_of (waiting_view es) m)
  queues_by f k v w es ns h is m = changed_queue k (Some w) es ns h.changes h.increasing h.still_increasing m ∙ go (m == k) refl
    where
      go : (b : Bool) → (m == k) ≡ b → cond b w.items (queue_of (waiting_view es) m) ≡ cond b (f (queue_of (waiting_view es) m)) (queue_of (waiting_view es) m)
      go true e = is ∙ ap f (sym (ap (queue_of (waiting_view es)) (eqb-true m k e) ∙ was_queue k v w es ns h))
      go false e = refl

  -- ---- the rooms

  pub was_room : (k : ℕ) (v w : VecDeque X A) (es ns : List (ℕ × VecDeque X A)) → IsWritten k v w es ns → room_of (rooms_view es) k ≡ spare v
  was_room k v w es ns h = room_by_lookup k es ∙ ap found_room h.was

  pub is_room : (k : ℕ) (v w : VecDeque X A) (es ns : List (ℕ × VecDeque X A)) → IsWritten k v w es ns → room_of (rooms_view ns) k ≡ spare w
  is_room k v w es ns h = changed_room k (Some w) es ns h.changes k ∙ ap (λ b. cond b (spare w) (room_of (rooms_view es) k)) (eq-eqb k k refl)

  -- by what the change does to the room
  pub rooms_by : (f : ℕ → ℕ) (k : ℕ) (v w : VecDeque X A) (es ns : List (ℕ × VecDeque X A)) → IsWritten k v w es ns → spare w ≡ f (spare v)
      → (m : ℕ) → room_of (rooms_view ns) m ≡ cond (m == k) (f (room_of (rooms_view es) m)) (room_of (rooms_view es) m)
  rooms_by f k v w es ns h is m = changed_room k (Some w) es ns h.changes m ∙ go (m == k) refl
    where
      go : (b : Bool) → (m == k) ≡ b → cond b (spare w) (room_of (rooms_view es) m) ≡ cond b (f (room_of (rooms_view es) m)) (room_of (rooms_view es) m)
      go true e = is ∙ ap f (sym (ap (room_of (rooms_view es)) (eqb-true m k e) ∙ was_room k v w es ns h))
      go false e = refl

  pub rooms_grow : (k : ℕ) (v w : VecDeque X A) (es ns : List (ℕ × VecDeque X A)) → IsWritten k v w es ns → spare v ≤ spare w → (m : ℕ) → room_of (rooms_view es) m ≤ room_of (rooms_view ns) m
  rooms_grow k v w es ns h grows m = subst (λ n. room_of (rooms_view es) m ≤ n) (sym (changed_room k (Some w) es ns h.changes m)) (go (m == k) refl)
    where
      go : (b : Bool) → (m == k) ≡ b → room_of (rooms_view es) m ≤ cond b (spare w) (room_of (rooms_view es) m)
      go true e = subst (λ n. n ≤ spare w) (sym (ap (room_of (rooms_view es)) (eqb-true m k e) ∙ was_room k v w es ns h)) grows
      go false e = omega arith

  -- by the queue too
  pub rooms_by_queue : (f : List X → ℕ → ℕ) (k : ℕ) (v w : VecDeque X A) (es ns : List (ℕ × VecDeque X A)) → IsWritten k v w es ns → spare w ≡ f v.items (spare v)
      → (m : ℕ) → room_of (rooms_view ns) m ≡ cond (m == k) (f (queue_of (waiting_view es) m) (room_of (rooms_view es) m)) (room_of (rooms_view es) m)
  rooms_by_queue f k v w es ns h is m = changed_room k (Some w) es ns h.changes m ∙ go (m == k) refl
    where
      go : (b : Bool) → (m == k) ≡ b → cond b (spare w) (room_of (rooms_view es) m) ≡ cond b (f (queue_of (waiting_view es) m) (room_of (rooms_view es) m)) (room_of (rooms_view es) m)
      go true e =
          is
          ∙ sym ((λ i. f (queue_of (waiting_view es) (eqb-true m k e i)) (room_of (rooms_view es) (eqb-true m k e i)))
          ∙ (λ i. f (was_queue k v w es ns h i) (was_room k v w es ns h i)))
      go false e = refl

  -- as many places as before, with an item or without
  pub places_kept : (k : ℕ) (v w : VecDeque X A) (es ns : List (ℕ × VecDeque X A)) → IsWritten k v w es ns → spare w + length w.items ≡ spare v + length v.items
      → (m : ℕ) → room_of (rooms_view ns) m + length (queue_of (waiting_view ns) m) ≡ room_of (rooms_view es) m + length (queue_of (waiting_view es) m)
  places_kept k v w es ns h same m =
      (λ i. changed_room k (Some w) es ns h.changes m i + length (changed_queue k (Some w) es ns h.changes h.increasing h.still_increasing m i)) ∙ go (m == k) refl
    where
      go : (b : Bool) → (m == k) ≡ b → cond b (spare w) (room_of (rooms_view es) m) + length (cond b w.items (queue_of (waiting_view es) m)) ≡ room_of (rooms_view es) m + length (queue_of (waiting_view es) m)
      go true e =
          same
          ∙ sym ((λ i. room_of (rooms_view es) (eqb-true m k e i) + length (queue_of (waiting_view es) (eqb-true m k e i)))
          ∙ (λ i. was_room k v w es ns h i + length (was_queue k v w es ns h i)))
      go false e = refl

  -- ---- the list of senders

  pub listed_added : (k : ℕ) (v w : VecDeque X A) (es ns : List (ℕ × VecDeque X A)) → IsWritten k v w es ns → (ss ts : List ℕ) (room more : ℕ) → AreListed es ss room → w.items ≢ []
      → ts ≡ insert_key nat_cmp ss k → room ≤ more → AreListed ns ts more
  listed_added k v w es ns h ss ts room more listed some is grows = record {
    increasing = h.still_increasing;
    senders = is ∙ ap (λ l. insert_key nat_cmp l k) listed.senders ∙ sym (senders_added k v w es h.increasing h.was some) ∙ ap (λ l. senders_of (waiting_view l)) (sym h.set);
    places = let a = h.count in let b = listed.places in omega arith;
  }

  pub listed_removed : (k : ℕ) (v w : VecDeque X A) (es ns : List (ℕ × VecDeque X A)) → IsWritten k v w es ns → (ss ts : List ℕ) (room more : ℕ) → AreListed es ss room → w.items ≡ []
      → ts ≡ without_sender k ss → more ≡ room → AreListed ns ts more
  listed_removed k v w es ns h ss ts room more listed none is same = record {
    increasing = h.still_increasing;
    senders = is ∙ ap (without_sender k) listed.senders ∙ sym (senders_removed k v w es h.increasing h.was none) ∙ ap (λ l. senders_of (waiting_view l)) (sym h.set);
    places = let a = h.count in let b = listed.places in omega arith;
  }

  pub listed_kept : (k : ℕ) (v w : VecDeque X A) (es ns : List (ℕ × VecDeque X A)) → IsWritten k v w es ns → (ss : List ℕ) (room : ℕ) → AreListed es ss room → v.items ≢ [] → w.items ≢ [] → AreListed ns ss room
  listed_kept k v w es ns h ss room listed was some = record {
    increasing = h.still_increasing;
    senders = listed.senders ∙ sym (senders_kept (is_at (nat_cmp k)) v w es h.was was some) ∙ ap (λ l. senders_of (waiting_view l)) (sym h.set);
    places = let a = h.count in let b = listed.places in omega arith;
  }

  pub listed_same : (k : ℕ) (v w : VecDeque X A) (es ns : List (ℕ × VecDeque X A)) → IsWritten k v w es ns → (ss : List ℕ) (room : ℕ) → AreListed es ss room → w.items ≡ v.items → AreListed ns ss room
  listed_same k v w es ns h ss room listed same = record {
    increasing = h.still_increasing;
    senders = listed.senders ∙ ap senders_of (sym (same_set (is_at (nat_cmp k)) v w es h.was same)) ∙ ap (λ l. senders_of (waiting_view l)) (sym h.set);
    places = let a = h.count in let b = listed.places in omega arith;
  }

module _ {X A : Type 0} where
  -- ---- no queue to cut

  pub nothing_to_cut : (keep k : ℕ) (m n : BTreeMap ℕ (VecDeque X A)) → n ≡ m → lookup (is_at (nat_cmp k)) m.entries ≡ None → IsStrictlySortedBy nat_cmp (keys_of m.entries)
      → (q : ℕ) → room_of (rooms_view n.entries) q ≡ cond (q == k) (room_of (rooms_view m.entries) q + (length (queue_of (waiting_view m.entries) q) - keep)) (room_of (rooms_view m.entries) q)
  nothing_to_cut keep k m n same none increasing q = ap (λ (b : BTreeMap ℕ (VecDeque X A)). room_of (rooms_view b.entries) q) same ∙ go (q == k) refl
    where
      go : (b : Bool) → (q == k) ≡ b → room_of (rooms_view m.entries) q ≡ cond b (room_of (rooms_view m.entries) q + (length (queue_of (waiting_view m.entries) q) - keep)) (room_of (rooms_view m.entries) q)
      go true e =
          let empty : length (queue_of (waiting_view m.entries) q) ≡ 0 = ap (λ x. length (queue_of (waiting_view m.entries) x)) (eqb-true q k e) ∙ ap length (queue_by_lookup k m.entries increasing ∙ ap found none) in
          omega arith
      go false e = refl

  -- ---- a new queue

  inserted_count : (k : ℕ) (w : VecDeque X A) (es : List (ℕ × VecDeque X A)) → length (insert_entry nat_cmp es k w) ≤ length es + 1
  inserted_count k w [] = omega arith
  inserted_count k w (e ∷ es) = go (nat_cmp k e.0) (inserted_count k w es)
    where
      go : (o : Ordering) → length (insert_entry nat_cmp es k w) ≤ length es + 1
          → length (match_ordering o ((k, w) ∷ e ∷ es) ((e.0, w) ∷ es) (e ∷ insert_entry nat_cmp es k w)) ≤ length (e ∷ es) + 1
      go Less h = omega arith
      go Equal h = omega arith
      go Greater h = omega arith

  -- k had no queue, and has an empty one
  pub record IsInserted (k : ℕ) (w : VecDeque X A) (es ns : List (ℕ × VecDeque X A)) : Type 0 where
    pub was : lookup (is_at (nat_cmp k)) es ≡ None
    pub set : ns ≡ insert_entry nat_cmp es k w
    pub changes : Changes k (Some w) es ns
    pub empty : w.items ≡ []
    pub still_increasing : IsStrictlySortedBy nat_cmp (keys_of ns)

  pub inserted : (k : ℕ) (w : VecDeque X A) (m l n : BTreeMap ℕ (VecDeque X A)) → l ≡ m → lookup (is_at (nat_cmp k)) m.entries ≡ None → n.entries ≡ insert_entry nat_cmp l.entries k w
      → Changes k (Some w) l.entries n.entries → w.items ≡ [] → IsStrictlySortedBy nat_cmp (keys_of n.entries) → IsInserted k w m.entries n.entries
  inserted k w m l n same was set changes empty up = record {
    was = was;
    set = set ∙ ap (λ (b : BTreeMap ℕ (VecDeque X A)). insert_entry nat_cmp b.entries k w) same;
    changes = λ q. changes q ∙ ap (λ (b : BTreeMap ℕ (VecDeque X A)). cond (is_at (nat_cmp k) q) (Some w) (lookup (is_at (nat_cmp q)) b.entries)) same;
    empty = empty;
    still_increasing = up;
  }

  pub inserted_same : (k : ℕ) (w : VecDeque X A) (es ns : List (ℕ × VecDeque X A)) → IsInserted k w es ns → waiting_view ns ≡ waiting_view es
  inserted_same k w es ns h = ap waiting_view h.set ∙ same_inserted k w es h.was h.empty

  pub inserted_room : (k : ℕ) (w : VecDeque X A) (es ns : List (ℕ × VecDeque X A)) → IsInserted k w es ns → room_of (rooms_view ns) k ≡ spare w
  inserted_room k w es ns h = changed_room k (Some w) es ns h.changes k ∙ ap (λ b. cond b (spare w) (room_of (rooms_view es) k)) (eq-eqb k k refl)

  pub inserted_grows : (k : ℕ) (w : VecDeque X A) (es ns : List (ℕ × VecDeque X A)) → IsInserted k w es ns → (m : ℕ) → room_of (rooms_view es) m ≤ room_of (rooms_view ns) m
  inserted_grows k w es ns h m = subst (λ n. room_of (rooms_view es) m ≤ n) (sym (changed_room k (Some w) es ns h.changes m)) (go (m == k) refl)
    where
      go : (b : Bool) → (m == k) ≡ b → room_of (rooms_view es) m ≤ cond b (spare w) (room_of (rooms_view es) m)
      go true e = let none : room_of (rooms_view es) m ≡ 0 = ap (room_of (rooms_view es)) (eqb-true m k e) ∙ room_by_lookup k es ∙ ap found_room h.was in omega arith
      go false e = omega arith

  pub listed_inserted : (k : ℕ) (w : VecDeque X A) (es ns : List (ℕ × VecDeque X A)) → IsInserted k w es ns → (ss ts : List ℕ) (room more : ℕ) → AreListed es ss room → ts ≡ ss → length es + 1 ≤ more
      → AreListed ns ts more
  listed_inserted k w es ns h ss ts room more listed same places = record {
    increasing = h.still_increasing;
    senders = same ∙ listed.senders ∙ ap senders_of (sym (inserted_same k w es ns h));
    places = let a : length ns ≡ length (insert_entry nat_cmp es k w) = ap length h.set in let b = inserted_count k w es in omega arith;
  }

-- ---- lists by their lengths

pub empty_by_length : {X : Type 0} (xs : List X) → length xs ≡ 0 → xs ≡ []
empty_by_length [] e = refl
empty_by_length (x ∷ xs) e = absurd (omega arith)

pub some_by_length : {X : Type 0} (xs : List X) → 0 < length xs → xs ≢ []
some_by_length [] lt = absurd (omega arith)
some_by_length (x ∷ xs) lt = λ e. absurd (let a : length (x ∷ xs) ≡ 0 = ap length e in omega arith)

pub take_empty : {X : Type 0} (k : ℕ) → take {A = X} k [] ≡ []
take_empty zero = refl
take_empty (suc k) = refl
