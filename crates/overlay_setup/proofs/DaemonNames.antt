-- The number of a name, and whether it is that of a daemon.
use Rattle.std.proofs.Common.{◌≡◌, ◌↔◌, ℕ, zero, suc, ◌<◌, Bool, true, false, not, cond, List, [], ◌∷◌, length, get_or, Option, None, Some, refl, sym, ap, ◌∙◌, subst, arith}
use Rattle.std.specs.List.{AllByRecursion, IsDistinct, position_or_len}
use Rattle.std.specs.Str.{bytes_eq}
use Rattle.std.proofs.lemmas.Bool.{lt-ltb}
use Rattle.std.proofs.lemmas.Slice.Eq.{bytes_eq-Decides}
use Rattle.std.proofs.lemmas.List.Quantifiers.{position-Some}
use Rattle.std.proofs.lemmas.List.Sums.{prefix_len_is}
use Rattle.overlay_setup.specs.Names.{name_of, number_of}
use Rattle.overlay_setup.specs.Topologies.{Nodes, IsTopology}
use Rattle.overlay_setup.specs.Trees.{is_daemon}
use Rattle.overlay_setup.specs.Daemons.{if_daemon, daemon_named, IsDaemonNamed}

-- a number of a name is that of a node with this name
pub named : (name : List ℕ) (names : List (List ℕ)) (n : ℕ) → number_of name names ≡ Some n → (n < length names) × (name_of names n ≡ name)
unfolding number_of
named name names n e =
    let at = position-Some (bytes_eq name) names n [] e in
    (at.0, sym ((bytes_eq-Decides name (get_or names n [])).0 at.1))

differs_from_all : (name : List ℕ) (names : List (List ℕ)) → AllByRecursion (λ other. bytes_eq name other ≡ false) names → (n : ℕ) → n < length names → bytes_eq name (get_or names n []) ≡ false
differs_from_all name [] all n lt = absurd (omega arith)
differs_from_all name (other ∷ names) all zero lt = all.0
differs_from_all name (other ∷ names) all (suc n) lt = differs_from_all name names all.1 n (omega arith)

-- of names that differ, an earlier one is not a later one
differs_from_later : (names : List (List ℕ)) → IsDistinct bytes_eq names → (k n : ℕ) → k < n → n < length names → bytes_eq (get_or names k []) (get_or names n []) ≡ false
unfolding IsDistinct
differs_from_later [] distinct k n before lt = absurd (omega arith)
differs_from_later (name ∷ names) distinct k zero before lt = absurd (omega arith)
differs_from_later (name ∷ names) distinct zero (suc n) before lt = differs_from_all name names distinct.0 n (omega arith)
differs_from_later (name ∷ names) distinct (suc k) (suc n) before lt = differs_from_later names distinct.1 k n (omega arith) (omega arith)

same_or_not : (one other : List ℕ) → bytes_eq one other ≡ false → bytes_eq other one ≡ false
same_or_not one other e = by (bytes_eq other one) refl
  where
    by : (b : Bool) → bytes_eq other one ≡ b → b ≡ false
    by true is = sym ((bytes_eq-Decides one other).1 (sym ((bytes_eq-Decides other one).0 is))) ∙ e
    by false is = refl

-- the number of a node's name is the node, where names differ
pub number_of_name : (names : List (List ℕ)) → IsDistinct bytes_eq names → (name : List ℕ) (n : ℕ) → n < length names → name_of names n ≡ name → number_of name names ≡ Some n
unfolding number_of
number_of_name names distinct name n lt is =
    let at : position_or_len (bytes_eq name) names ≡ n =
    prefix_len_is (λ other. not (bytes_eq name other)) names n [] (omega arith)
    (λ k before. ap not (subst (λ x. bytes_eq x (get_or names k []) ≡ false) is (same_or_not (get_or names k []) (get_or names n []) (differs_from_later names distinct k n before lt))))
    (λ _. ap not ((bytes_eq-Decides name (get_or names n [])).1 (sym is))) in
    rw at (rw (lt-ltb n (length names) lt) refl)

module _ (t : Nodes) (is : IsTopology t) (name : List ℕ) (n : ℕ) where
  daemon_by : (o : Option ℕ) → number_of name t.names ≡ o → if_daemon t.parents o ≡ Some n → IsDaemonNamed t name n
  daemon_by None e h = cc
  daemon_by (Some m) e h = by (is_daemon t.parents m) refl h
    where
      by : (b : Bool) → is_daemon t.parents m ≡ b → cond b (Some m) None ≡ Some n → IsDaemonNamed t name n
      by true daemon same =
          let at = named name t.names m e in
          let lt = at.0 in
          let here : m ≡ n = cc in
          subst (IsDaemonNamed t name) here (omega (arith, lt, is.paired), at.1, daemon)
      by false daemon same = cc

  -- a daemon is found by its name, and nothing else is
  pub found_by_name : (daemon_named name t ≡ Some n) ↔ IsDaemonNamed t name n
  unfolding daemon_named
  found_by_name = (
    λ found. daemon_by (number_of name t.names) refl found,
    λ h. let lt = h.0 in
        ap (if_daemon t.parents) (number_of_name t.names is.distinct name n (omega (arith, lt, is.paired)) h.1) ∙ ap (λ b. cond b (Some n) None) h.2,
  )

-- the same of what is found by the name
pub exactly : (t : Nodes) (is : IsTopology t) (name : List ℕ) (r : Option ℕ) → daemon_named name t ≡ r → (n : ℕ) → (r ≡ Some n) ↔ IsDaemonNamed t name n
exactly t is name r e n = subst (λ o. (o ≡ Some n) ↔ IsDaemonNamed t name n) e (found_by_name t is name n)

-- a node that has the name is found if it is a daemon
pub named_by : (t : Nodes) (name : List ℕ) (o : Option ℕ) → o ≡ number_of name t.names → daemon_named name t ≡ if_daemon t.parents o
unfolding daemon_named
named_by t name o e = ap (if_daemon t.parents) (sym e)
