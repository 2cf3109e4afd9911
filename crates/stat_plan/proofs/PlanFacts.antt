-- What the proofs of the machine use of a plan, and that every plan has it.
use Rattle.std.proofs.Common.{◌≡◌, ◌≢◌, ◌⊎◌, ◌≤◌, ◌<◌, ◌+◌, inl, inr, ℕ, suc, zero, Bool, true, false, not, cond, ◌==◌, List, [], ◌∷◌, ◌++◌, length, map, refl, sym, ap, subst, arith, Option, Some, None, le_refl, le_of_lt, zero-le, eqb-true, eq-eqb}
use Rattle.std.specs.Prelude.{slice_index_or, find, nat_eq}
use Rattle.std.specs.List.{AllByRecursion}
use Rattle.std.proofs.lemmas.Bool.{and_parts, eqb-false, true≢false}
use Rattle.rank_set.specs.Ranks.{none}
use Rattle.overlay_setup.specs.NodeSets.{In, IsStrictlyIncreasing, up_to}
use Rattle.overlay_setup.specs.Trees.{is_other, is_daemon, root_of}
use Rattle.stat_plan.specs.Plans.{Plan, nodes, front, ancestors, IsUnder, ranks, stream_of, daemons, mode, fault, waves_of}
use Rattle.overlay_setup.specs.Scripts.{Stream, IsStream, IsMode}
use Rattle.stat_plan.specs.Invariants.{IsPlan}
use Rattle.stat_plan.proofs.LookupLemmas.{listed}
use Rattle.stat_plan.proofs.Rooted.{IsRooted, rooted, ancestors_end, rest, trans, irrefl, above_nodes, under_front}
use Rattle.overlay_setup.specs.declared.script.Mode.{Mode}
use Rattle.overlay_setup.specs.declared.script.Mode.TheVariants.{WaitForAll, TimeOut, DontWait}
use Rattle.overlay_setup.specs.declared.script.Fault.{Fault}

-- the facts on a plan that the proofs use: the front end is above all other nodes and is never lost, being under is an order,
-- the ancestors of an ancestor are the rest of the list, and the daemons of a stream are leaves that have ranks
pub record HasPlanFacts (p : Plan) : Type 0 where
  pub front_stays : fault p (front p) ≡ None
  pub front_below : front p < nodes p
  pub front_top : ancestors p (front p) ≡ []
  pub under_trans : (a b c : ℕ) → IsUnder p a b → IsUnder p b c → IsUnder p a c
  pub under_irrefl : (a : ℕ) → IsUnder p a a → ⊥
  pub rest : (d q : ℕ) (near far : List ℕ) → ancestors p d ≡ near ++ q ∷ far → ancestors p q ≡ far
  pub depth : (n : ℕ) → length (ancestors p n) ≤ nodes p
  pub shallow : (n : ℕ) → length (ancestors p n) ≤ 8
  pub few_daemons : (s : ℕ) → length (daemons p s) ≤ nodes p
  pub all_under : (n : ℕ) → n < nodes p → (n ≡ front p) ⊎ IsUnder p n (front p)
  pub daemon_leaf : (d s a : ℕ) → In d (daemons p s) → IsUnder p a d → ⊥
  pub stream_daemon : (s w : ℕ) → In (s, w) (waves_of p.streams) → (d : ℕ) × In d (daemons p s)
  pub daemon_ranks : (d s : ℕ) → In d (daemons p s) → ranks p d ≢ none
  pub daemon_place : (d s : ℕ) → In d (daemons p s) → (d ≡ front p) ⊎ IsUnder p d (front p)
  pub ticks_some : (s t : ℕ) → mode p s ≡ TimeOut t → 1 ≤ t
  pub under_nodes : (a b : ℕ) → IsUnder p a b → (a < nodes p) × (b < nodes p)

-- what holds of each stream holds of the one that is found
found : {X : Type 0} (P : X → Type 0) (test : X → Bool) (xs : List X) (x : X) → AllByRecursion P xs → find test xs ≡ Some x → P x
found P test [] x h e = absurd (cc)
found {X} P test (y ∷ ys) x h e = go (found P test ys x h.1) (test y) e
  where
    go : (find test ys ≡ Some x → P x) → (b : Bool) → cond b (Some y) (find test ys) ≡ Some x → P x
    go ih true k = let j : y ≡ x = cc in subst P j h.0
    go ih false k = ih k

-- a fact on all streams is one on the stream of a number
of_stream : (p : Plan) (s : ℕ) (P : Stream → Type 0) (Q : Option Stream → Type 0) → AllByRecursion P p.streams → Q None → ((x : Stream) → P x → Q (Some x)) → Q (stream_of p s)
unfolding stream_of
of_stream p s P Q all none_good good = go (find (λ x. x.number == s) p.streams) refl
  where
    go : (o : Option Stream) → find (λ x. x.number == s) p.streams ≡ o → Q o
    go None e = none_good
    go (Some x) e = good x (found P (λ x. x.number == s) p.streams x all e)

-- an ascending list of numbers from a to below n has at most n - a of them
increasing_length : (xs : List ℕ) (a n : ℕ) → IsStrictlyIncreasing xs → a ≤ n → ((x : ℕ) → In x xs → (a ≤ x) × (x < n)) → length xs + a ≤ n
increasing_length [] a n increasing le bound = omega arith
increasing_length (x ∷ xs) a n increasing le bound =
    let b = bound x (inl refl) in
    let ih : length xs + suc x ≤ n = increasing_length xs (suc x) n increasing.1 (omega arith) (λ y i. (let k : x < y = increasing.0 y i in omega arith, (bound y (inr i)).1)) in
    omega arith

-- a node that no fault names has none
no_fault : (faults : List Fault) (n : ℕ) (m : ℕ) → AllByRecursion (λ f. (f.node < m) × (f.node ≢ n)) faults → find (λ f. f.node == n) faults ≡ None
no_fault [] n m h = refl
no_fault (f ∷ faults) n m h = go (no_fault faults n m h.1) (f.node == n) refl
  where
    go : find (λ f. f.node == n) faults ≡ None → (b : Bool) → (f.node == n) ≡ b → cond b (Some f) (find (λ f. f.node == n) faults) ≡ None
    go ih true e = absurd (h.0.1 (eqb-true f.node n e))
    go ih false e = ih

-- a daemon is nobody's parent
no_child : (parents : List (Option ℕ)) (d a : ℕ) → is_daemon parents d ≡ true → slice_index_or parents a None ≡ Some d → ⊥
no_child [] d a leaf e = cc
no_child (o ∷ parents) d zero leaf e = other o (and_parts _ _ leaf).0 e
  where
    other : (o : Option ℕ) → is_other d o ≡ true → o ≡ Some d → ⊥
    other None k e = cc
    other (Some q) k e = let j : q ≡ d = cc in not_self (nat_eq q d) (eq-eqb q d j) k
      where
        not_self : (b : Bool) → b ≡ true → not b ≡ true → ⊥
        not_self true t f = true≢false (sym f)
        not_self false t f = true≢false (sym t)
no_child (o ∷ parents) d (suc a) leaf e = no_child parents d a (and_parts _ _ leaf).1 e

-- the stream of a wave is found
wave_stream : (xs : List Stream) (s w : ℕ) → In (s, w) (waves_of xs) → find (λ x. x.number == s) xs ≡ None → ⊥
wave_stream [] s w i e = i
wave_stream (x ∷ xs) s w i e = go (wave_stream xs s w) (x.number == s) refl e
  where
    named : (ws : List ℕ) → In (s, w) (map (λ v. (x.number, v)) ws ++ waves_of xs) → (s ≡ x.number) ⊎ In (s, w) (waves_of xs)
    named [] j = inr j
    named (v ∷ vs) (inl k) = inl (ap (λ y. y.0) k)
    named (v ∷ vs) (inr j) = named vs j

    go : (In (s, w) (waves_of xs) → find (λ x. x.number == s) xs ≡ None → ⊥) → (b : Bool) → (x.number == s) ≡ b → cond b (Some x) (find (λ x. x.number == s) xs) ≡ None → ⊥
    go ih true t k = cc
    go ih false t k = elim (named (up_to x.waves) i) [
      | inl j ↦ eqb-false x.number s t (sym j)
      | inr j ↦ ih j k
    ]

first_one : (ds : List ℕ) → ds ≢ [] → (d : ℕ) × In d ds
first_one [] h = absurd (h refl)
first_one (d ∷ ds) h = (d, inl refl)

some_daemon : (p : Plan) → AllByRecursion IsStream p.streams → (s w : ℕ) → In (s, w) (waves_of p.streams) → (d : ℕ) × In d (daemons p s)
unfolding daemons stream_of
some_daemon p all s w i = go (find (λ x. x.number == s) p.streams) refl
  where
    go : (o : Option Stream) → find (λ x. x.number == s) p.streams ≡ o → (d : ℕ) × In d (elim o [ None ↦ [] | Some x ↦ x.daemons ])
    go None e = absurd (wave_stream p.streams s w i e)
    go (Some x) e = let k = found IsStream (λ x. x.number == s) p.streams x all e in first_one x.daemons k.has_daemons

-- the daemons of a stream are in ascending order
pub increasing : (p : Plan) (s : ℕ) → IsPlan p → IsStrictlyIncreasing (daemons p s)
unfolding daemons
increasing p s plan = of_stream p s IsStream (λ o. IsStrictlyIncreasing (elim o [ None ↦ [] | Some x ↦ x.daemons ])) plan.script.streams tt (λ x good. good.daemons_increase)

timeout_some : (m : Mode) (t : ℕ) → IsMode m → m ≡ TimeOut t → 1 ≤ t
timeout_some WaitForAll t h e = absurd (cc)
timeout_some (TimeOut k) t h e = let j : k ≡ t = cc in let l : 1 ≤ k = h.0 in omega arith
timeout_some DontWait t h e = absurd (cc)

ticks_some : (p : Plan) → IsPlan p → (s t : ℕ) → mode p s ≡ TimeOut t → 1 ≤ t
unfolding mode
ticks_some p plan s t = of_stream p s IsStream (λ o. (elim o [ None ↦ WaitForAll | Some x ↦ x.mode ]) ≡ TimeOut t → 1 ≤ t) plan.script.streams (λ e. absurd (no_timeout e)) (λ x good e. timeout_some x.mode t good.mode e)
  where
    no_timeout : WaitForAll ≡ TimeOut t → ⊥
    no_timeout e = cc

front_stays : (p : Plan) → IsPlan p → fault p (front p) ≡ None
unfolding fault front
front_stays p plan = no_fault p.faults (root_of p.parents) (length p.parents) plan.script_fits.faults

daemon_ranks : (p : Plan) (d s : ℕ) → IsPlan p → In d (daemons p s) → ranks p d ≢ none
unfolding ranks
daemon_ranks p d s plan i = let k = listed p d s plan i in plan.samples_fit.on_daemons d k.0 k.1

pub plan_facts : (p : Plan) → IsPlan p → HasPlanFacts p
plan_facts p plan =
    let tree : IsRooted p = rooted p plan.topology.tree in
    record {
      front_stays = front_stays p plan;
      front_below = tree.some;
      front_top = ancestors_end p (front p) tree tree.root;
      under_trans = trans p tree;
      under_irrefl = irrefl p tree;
      rest = rest p tree;
      depth = λ n. le_of_lt (tree.grounded n);
      shallow = tree.shallow;
      few_daemons = λ s. let k = increasing_length (daemons p s) 0 (nodes p) (increasing p s plan) zero-le (λ d i. (zero-le, (listed p d s plan i).0)) in omega arith;
      all_under = λ n lt. under_front p (length (ancestors p n)) n tree (le_refl _) lt;
      daemon_leaf = λ d s a i u. let r = above_nodes p (length (ancestors p a)) a d tree (le_refl _) u in no_child p.parents d r.child (listed p d s plan i).1 r.parent;
      stream_daemon = some_daemon p plan.script.streams;
      daemon_ranks = λ d s i. daemon_ranks p d s plan i;
      daemon_place = λ d s i. under_front p (length (ancestors p d)) d tree (le_refl _) (listed p d s plan i).0;
      ticks_some = ticks_some p plan;
      under_nodes = λ a b u. let r = above_nodes p (length (ancestors p a)) a b tree (le_refl _) u in (r.low, r.high);
    }
