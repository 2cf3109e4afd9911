-- What the loss of a node cuts, node by node.
use Rattle.std.proofs.Common.{◌≡◌, ◌≢◌, ◌∙◌, ◌<◌, ◌+◌, ℕ, zero, suc, Bool, true, false, ◌==◌, cond, List, [], length, get_or, slice_set, take, refl, sym, ap, subst, inl, inr, eqb-true, eq-eqb, arith}
use Rattle.std.proofs.lemmas.Bool.{cases_Bool, cases_lt, cond-true, cond-false, eqb-false, true≢false}
use Rattle.std.proofs.lemmas.Bool.Decides.{nat_tests}
use Rattle.std.proofs.lemmas.List.{length-set, get_or-set_same, get_or-set_other, get_or_default, get_or_past}
use Rattle.std.specs.List.Sorted.{IsStrictlySortedBy}
use Rattle.std.specs.Ordering.{nat_cmp}
use Rattle.node_inbox.specs.Inboxes.{HaveSent, InboxView, IsInbox, queue_of, room_for, senders_of}
use Rattle.node_inbox.specs.Sends.{inbox_at, no_inbox}
use Rattle.node_inbox.specs.Cuts.{AreCut, IsCut, full_inbox_at}

no_sender : IsStrictlySortedBy nat_cmp []
unfolding IsStrictlySortedBy
no_sender = tt

module _ {X : Type 0} where
  -- an inbox that replaces another one
  full_here : (ib : List (InboxView X)) (n : ℕ) (w : InboxView X) → n < length ib → full_inbox_at (slice_set ib n w) n ≡ w
  full_here ib n w below = get_or-set_same ib n w no_inbox below

  full_else : (ib : List (InboxView X)) (n b : ℕ) (w : InboxView X) → b ≢ n → full_inbox_at (slice_set ib n w) b ≡ full_inbox_at ib b
  full_else ib n b w other = get_or-set_other ib n b w no_inbox other

  -- nothing waits
  empty_inbox : (w : InboxView X) → w.waiting ≡ [] → IsInbox w.waiting
  empty_inbox w none = record {
    sent = subst HaveSent (sym none) tt;
    increasing = subst (λ es. IsStrictlySortedBy nat_cmp (senders_of es)) (sym none) no_sender;
  }

  -- the lost node's own inbox
  pub own_cut : (n keep b : ℕ) (old new : InboxView X) → b ≡ n → new.waiting ≡ [] → ((m : ℕ) → room_for new m ≡ room_for old m + length (queue_of old.waiting m)) → IsCut n keep b old new
  own_cut n keep b old new same none rooms = record {
    own = λ t. none;
    cut = λ f. absurd (other f);
    others = λ f a ne. absurd (other f);
    grows = λ m. let r = rooms m in omega (arith, r);
    inbox = empty_inbox new none;
  }
    where
      other : (b == n) ≡ false → ⊥
      other f = true≢false (sym (eq-eqb b n same) ∙ f)

  -- one inbox more
  pub more_cut : (n keep k : ℕ) (ia ib : List (InboxView X)) (box new : InboxView X) → k < length ib → AreCut n keep k ia ib → IsCut n keep k (get_or ib k box) new → AreCut n keep (k + 1) ia (slice_set ib k new)
  more_cut n keep k ia ib box new lt h one = record {
    inbox_count = length-set ib k new ∙ h.inbox_count;
    done = λ b below. elim (cases_Bool (b == k)) [
      | (inl t) ↦ let e : k ≡ b = sym (eqb-true b k t) in subst (λ j. IsCut n keep j (full_inbox_at ia j) (full_inbox_at (slice_set ib k new) j)) e here
      | (inr f) ↦ let away : b ≢ k = eqb-false b k f in
          subst (IsCut n keep b (full_inbox_at ia b)) (sym (full_else ib k b new away)) (h.done b (less b k below away))
    ];
    rest = λ b le. full_else ib k b new (λ e. let q : b ≡ k = e in omega (arith, q)) ∙ h.rest b (omega arith);
  }
    where
      less : (b k : ℕ) → b < k + 1 → b ≢ k → b < k
      less b k below away = elim (cases_Bool (b == k)) [ inl t ↦ absurd (away (eqb-true b k t)) | inr f ↦ grind (arith, nat_tests) ]

      was : get_or ib k box ≡ full_inbox_at ia k
      was = get_or_default ib k box no_inbox lt ∙ h.rest k (omega arith)

      here : IsCut n keep k (full_inbox_at ia k) (full_inbox_at (slice_set ib k new) k)
      here = subst (λ w. IsCut n keep k w (full_inbox_at (slice_set ib k new) k)) was (subst (IsCut n keep k (get_or ib k box)) (sym (full_here ib k new lt)) one)

  -- what is left of a queue
  abbrev left_of : (n keep a b : ℕ) → List X → List X
  left_of n keep a b queue = cond (b == n) [] (cond (a == n) (take keep queue) queue)

  none_left : (n keep a b : ℕ) → left_of n keep a b [] ≡ []
  none_left n keep a b = by (b == n) (a == n) keep
    where
      by : (x y : Bool) (k : ℕ) → ◌≡◌ {A = List X} (cond x [] (cond y (take k []) [])) []
      by true y k = refl
      by false true zero = refl
      by false true (suc k) = refl
      by false false k = refl

  one_queue_cut : (n keep a b : ℕ) (old new : InboxView X) → IsCut n keep b old new → queue_of new.waiting a ≡ left_of n keep a b (queue_of old.waiting a)
  one_queue_cut n keep a b old new one = elim (cases_Bool (b == n)) [
    | (inl t) ↦ ap (λ w. queue_of w a) (one.own t) ∙ sym (cond-true (b == n) [] _ t)
    | (inr f) ↦ elim (cases_Bool (a == n)) [
      | (inl s) ↦ let e : a ≡ n = eqb-true a n s in
          ap (queue_of new.waiting) e ∙ one.cut f ∙ sym (ap (λ c. take keep (queue_of old.waiting c)) e)
          ∙ sym (cond-true (a == n) (take keep (queue_of old.waiting a)) (queue_of old.waiting a) s)
          ∙ sym (cond-false (b == n) [] (cond (a == n) (take keep (queue_of old.waiting a)) (queue_of old.waiting a)) f)
      | (inr s) ↦
          one.others f a s
          ∙ sym (cond-false (a == n) (take keep (queue_of old.waiting a)) (queue_of old.waiting a) s)
          ∙ sym (cond-false (b == n) [] (cond (a == n) (take keep (queue_of old.waiting a)) (queue_of old.waiting a)) f)
    ]
  ]

  -- all queues at once, as the links of a machine
  pub queues_cut : (n keep : ℕ) (old new : List (InboxView X)) → AreCut n keep (length old) old new → (a b : ℕ)
      → queue_of (inbox_at new b) a ≡ cond (b == n) [] (cond (a == n) (take keep (queue_of (inbox_at old b) a)) (queue_of (inbox_at old b) a))
  queues_cut n keep old new h a b = elim (cases_lt b (length old)) [
    | (inl lt) ↦ one_queue_cut n keep a b (full_inbox_at old b) (full_inbox_at new b) (h.done b lt)
    | (inr past) ↦
        let none : full_inbox_at old b ≡ no_inbox = get_or_past old b no_inbox past in
        ap (λ (w : InboxView X). queue_of w.waiting a) (h.rest b past ∙ none) ∙ sym (none_left n keep a b)
        ∙ ap (λ (w : InboxView X). left_of n keep a b (queue_of w.waiting a)) (sym none)
  ]
