-- The leaves of a tree of parents.
use Rattle.std.proofs.Common.{◌≡◌, ◌≢◌, ℕ, zero, suc, ◌+◌, ◌<◌, Bool, true, false, ◌&&◌, not, nat_eq, List, [], ◌∷◌, length, get_or, set, take, Option, None, Some, refl, sym, ap, ◌∙◌}
use Rattle.std.proofs.lemmas.Bool.{true≢false, eqb-true, eqb-false, and_parts, and_from, cases_Bool}
use Rattle.std.proofs.Common.{inl, inr, eq-eqb}
use Rattle.std.proofs.lemmas.List.{take_more, get_or-set_same, get_or-set_other}
use Rattle.std.proofs.lemmas.List.Folds.{list_all-append}
use Rattle.overlay_setup.specs.Trees.{parent_of, is_daemon, is_other}

-- n is not the parent that another node than n is
no_parent : (n : ℕ) (o : Option ℕ) → is_other n o ≡ true → o ≡ Some n → ⊥
no_parent n None other is = true≢false (sym (ap present is))
  where
    present : Option ℕ → Bool
    present None = false
    present (Some x) = true
no_parent n (Some p) other is = absurd (true≢false (sym other ∙ ap (λ o. is_other n o) is ∙ ap not (eq-eqb n n refl)))

-- a daemon is no node's parent
pub daemon_is_leaf : (parents : List (Option ℕ)) (n : ℕ) → is_daemon parents n ≡ true → (m : ℕ) → parent_of parents m ≢ Some n
daemon_is_leaf [] n leaf m is = no_parent n None refl is
daemon_is_leaf (x ∷ xs) n leaf zero is = no_parent n x (and_parts (is_other n x) (is_daemon xs n) leaf).0 is
daemon_is_leaf (x ∷ xs) n leaf (suc m) is = daemon_is_leaf xs n (and_parts (is_other n x) (is_daemon xs n) leaf).1 m is

another : (n : ℕ) (o : Option ℕ) → o ≢ Some n → is_other n o ≡ true
another n None not_n = refl
another n (Some p) not_n = elim (cases_Bool (nat_eq p n)) [
  | (inl same) ↦ absurd (not_n (ap Some (eqb-true p n same)))
  | (inr other) ↦ ap not other
]

-- a node that is no node's parent is a daemon
pub leaf_is_daemon : (parents : List (Option ℕ)) (n : ℕ) → ((m : ℕ) → parent_of parents m ≢ Some n) → is_daemon parents n ≡ true
leaf_is_daemon [] n leaf = refl
leaf_is_daemon (x ∷ xs) n leaf = and_from (is_other n x) (is_daemon xs n) (another n x (leaf zero)) (leaf_is_daemon xs n (λ m. leaf (suc m)))

and_true : (b : Bool) → (b && true) ≡ b
and_true true = refl
and_true false = refl

and_false : (b : Bool) → (b && false) ≡ false
and_false true = refl
and_false false = refl

-- whether a node is a daemon, by one parent more
pub daemon-more : (parents : List (Option ℕ)) (i n : ℕ) (x : Option ℕ) → i < length parents → x ≡ get_or parents i x → is_daemon (take (i + 1) parents) n ≡ (is_daemon (take i parents) n && is_other n x)
daemon-more parents i n x lt is =
    ap (λ xs. is_daemon xs n) (take_more parents i x lt)
    ∙ list_all-append (is_other n) (take i parents) (get_or parents i x ∷ [])
    ∙ ap (λ b. is_daemon (take i parents) n && b) (and_true (is_other n (get_or parents i x)) ∙ ap (is_other n) (sym is))

-- the flags stay where there is no parent
pub flags_same : (parents : List (Option ℕ)) (i n : ℕ) → i < length parents → None ≡ get_or parents i None → is_daemon (take (i + 1) parents) n ≡ is_daemon (take i parents) n
flags_same parents i n lt is = daemon-more parents i n None lt is ∙ and_true (is_daemon (take i parents) n)

-- the parent's flag falls, and the others stay
pub flags_fall : (parents : List (Option ℕ)) (flags : List Bool) (i p : ℕ) → i < length parents → Some p ≡ get_or parents i (Some p) → p < length flags
    → ((n : ℕ) → n < length flags → get_or flags n false ≡ is_daemon (take i parents) n)
    → (n : ℕ) → n < length flags → get_or (set flags p false) n false ≡ is_daemon (take (i + 1) parents) n
flags_fall parents flags i p lt is within each n below = elim (cases_Bool (nat_eq p n)) [
  | (inl same) ↦
      ap (λ k. get_or (set flags p false) k false) (sym (eqb-true p n same))
      ∙ get_or-set_same flags p false false within
      ∙ sym (daemon-more parents i n (Some p) lt is ∙ ap (λ b. is_daemon (take i parents) n && not b) same ∙ and_false (is_daemon (take i parents) n))
  | (inr other) ↦
      get_or-set_other flags p n false false (λ e. eqb-false p n other (sym e))
      ∙ each n below
      ∙ sym (daemon-more parents i n (Some p) lt is ∙ ap (λ b. is_daemon (take i parents) n && not b) other ∙ and_true (is_daemon (take i parents) n))
]
