-- Queues that are emptied, one after the other.
use Rattle.std.proofs.Common.{◌≡◌, ◌∙◌, ◌+◌, ◌<◌, ℕ, Bool, true, false, ◌==◌, ◌||◌, cond, List, [], ◌∷◌, length, take, get_or, None, refl, sym, ap, subst, arith}
use Rattle.std.proofs.lemmas.Bool.{eq-eqb, eqb-true, or_parts}
use Rattle.std.proofs.lemmas.Bool.Decides.{nat_tests}
use Rattle.std.proofs.lemmas.List.{length-map}
use Rattle.std.proofs.lemmas.List.Folds.{list_any_more}
use Rattle.std.specs.BTreeMap.{BTreeMap, is_at}
use Rattle.std.specs.List.{list_any}
use Rattle.std.specs.List.Sorted.{IsStrictlySortedBy}
use Rattle.std.specs.Map.{keys_of, lookup}
use Rattle.std.specs.Ordering.{nat_cmp}
use Rattle.std.specs.declared.collections.VecDeque.{VecDeque}
use Rattle.node_inbox.specs.Inboxes.{HaveSent, Waiting, queue_of, senders_of}
use Rattle.node_inbox.specs.Queues.{AreEmptied, spare, waiting_view}
use Rattle.node_inbox.proofs.Queues.{found, queue_by_lookup}
use Rattle.node_inbox.proofs.Written.{IsWritten, places_kept, queues_by}

module _ {X : Type 0} where
  -- from a node that isn't among the senders nothing waits
  pub no_sender : (w : Waiting X) (m : ℕ) → list_any (λ s. s == m) (senders_of w) ≡ false → queue_of w m ≡ []
  no_sender [] m h = refl
  no_sender (e ∷ es) m h =
      let parts = or_parts (e.0 == m) (list_any (λ s. s == m) (senders_of es)) h in
      ap (λ b. cond b e.1 (queue_of es m)) parts.0 ∙ no_sender es m parts.1

  -- where nothing waits from any sender, nothing waits
  pub nothing_waits : (w : Waiting X) → HaveSent w → ((m : ℕ) → queue_of w m ≡ []) → w ≡ []
  nothing_waits [] sent none = refl
  nothing_waits (e ∷ es) sent none = absurd (sent.0 (sym (ap (λ b. cond b e.1 (queue_of es e.0)) (eq-eqb e.0 e.0 refl)) ∙ none e.0))

  -- the queues of all senders are empty
  pub all_emptied : (w n : Waiting X) (ss : List ℕ) → HaveSent n → ss ≡ senders_of w → ((m : ℕ) → queue_of n m ≡ cond (list_any (λ s. s == m) ss) [] (queue_of w m)) → n ≡ []
  all_emptied w n ss sent listed emptied = nothing_waits n sent (λ m. emptied m ∙ go m (list_any (λ s. s == m) ss) refl)
    where
      go : (m : ℕ) (b : Bool) → list_any (λ s. s == m) ss ≡ b → cond b [] (queue_of w m) ≡ []
      go m true e = refl
      go m false e = no_sender w m (sym (ap (list_any (λ s. s == m)) listed) ∙ e)

eqb-sym : (a b : ℕ) → (a == b) ≡ (b == a)
eqb-sym a b = grind (arith, nat_tests)

module _ {X A : Type 0} where
  -- the queue of k was replaced by an empty one
  pub emptied : (k : ℕ) (v w : VecDeque X A) (es ns : List (ℕ × VecDeque X A)) → IsWritten k v w es ns → keys_of ns ≡ keys_of es → w.items ≡ [] → spare w + length w.items ≡ spare v + length v.items → AreEmptied (k ∷ []) es ns
  emptied k v w es ns h keys none places = record {
    keys = keys;
    queues = λ m. queues_by (λ _. []) k v w es ns h none m ∙ turn (m == k) (k == m) (queue_of (waiting_view es) m) (eqb-sym m k);
    places = places_kept k v w es ns h places;
  }
    where
      turn : (a b : Bool) (q : List X) → a ≡ b → cond a [] q ≡ cond (b || false) [] q
      turn a true q h = ap (λ c. cond c [] q) h
      turn a false q h = ap (λ c. cond c [] q) h

  -- k had no queue
  pub no_queue : (k : ℕ) (m n : BTreeMap ℕ (VecDeque X A)) → n ≡ m → lookup (is_at (nat_cmp k)) m.entries ≡ None → IsStrictlySortedBy nat_cmp (keys_of m.entries) → AreEmptied (k ∷ []) m.entries n.entries
  no_queue k m n same none up = subst (λ (b : BTreeMap ℕ (VecDeque X A)). AreEmptied (k ∷ []) m.entries b.entries) (sym same) (record {
    keys = refl;
    queues = λ q. go q (k == q) refl;
    places = λ q. refl;
  })
    where
      go : (q : ℕ) (b : Bool) → (k == q) ≡ b → queue_of (waiting_view m.entries) q ≡ cond (b || false) [] (queue_of (waiting_view m.entries) q)
      go q true e = sym (ap (queue_of (waiting_view m.entries)) (eqb-true k q e)) ∙ queue_by_lookup k m.entries up ∙ ap found none
      go q false e = refl

  pub none_emptied : (es : List (ℕ × VecDeque X A)) → AreEmptied [] es es
  none_emptied es = record { keys = refl; queues = λ m. refl; places = λ m. refl }

  pub one_more_emptied : (ss : List ℕ) (i : ℕ) (es ms ns : List (ℕ × VecDeque X A)) → i < length ss → AreEmptied (take i ss) es ms → AreEmptied (get_or ss i 0 ∷ []) ms ns → AreEmptied (take (i + 1) ss) es ns
  one_more_emptied ss i es ms ns lt before one = record {
    keys = one.keys ∙ before.keys;
    queues = λ m.
        one.queues m
        ∙ ap (cond ((get_or ss i 0 == m) || false) []) (before.queues m)
        ∙ joined (get_or ss i 0 == m) (list_any (λ s. s == m) (take i ss)) (queue_of (waiting_view es) m)
        ∙ ap (λ b. cond b [] (queue_of (waiting_view es) m)) (sym (list_any_more (λ s. s == m) ss i 0 lt));
    places = λ m. one.places m ∙ before.places m;
  }
    where
      joined : (a b : Bool) (q : List X) → cond (a || false) [] (cond b [] q) ≡ cond (b || a) [] q
      joined true true q = refl
      joined true false q = refl
      joined false true q = refl
      joined false false q = refl

-- as many keys are as many queues
pub same_count : {X : Type 0} (es ns : List (ℕ × X)) → keys_of ns ≡ keys_of es → length ns ≡ length es
same_count es ns keys = sym (length-map ns (λ e. e.0)) ∙ ap length keys ∙ length-map es (λ e. e.0)
