-- How often places occur in forests.
use Rattle.std.proofs.Common.{◌≡◌, ◌≢◌, ℕ, zero, suc, ◌+◌, ◌<◌, ◌≤◌, cond, nat_eq, Bool, true, false, List, length, refl, ap, ◌∙◌, arith, inl, inr}
use Rattle.std.specs.Prelude.{slice_get}
use Rattle.std.proofs.lemmas.Bool.{cases_lt, ne_eqb, eq-eqb, eqb-true}
use Rattle.std.proofs.lemmas.Option.{slice_get_within}
use Rattle.arena_tree.specs.NodeViews.{NodeView}
use Rattle.arena_tree.specs.ChainForest.{ChainForest, no_chains, chain_node}
use Rattle.arena_tree.specs.Placement.{count_place, AreNodesOf}
use Rattle.arena_tree.specs.Steps.{count_among}

abbrev one_if : Bool → ℕ
one_if t = cond t 1 0

-- whether two places are one
abbrev pub here : ℕ → ℕ → ℕ
here y n = cond (nat_eq y n) 1 0

pub differs : (y n : ℕ) → y ≢ n → here y n ≡ 0
differs y n off = ap one_if (ne_eqb y n off)

pub agrees : (y n : ℕ) → y ≡ n → here y n ≡ 1
agrees y n same = ap one_if (eq-eqb y n same)

pub count_among-below : (y n m : ℕ) → y < n → count_among y n m ≡ 0
count_among-below y n zero lt = refl
count_among-below y n (suc m) lt =
    let distinct = differs y n (λ e. omega (arith, lt, e)) in
    let later = count_among-below y (suc n) m (omega (arith, lt)) in
    omega (arith, distinct, later)

pub count_among-past : (y n m : ℕ) → n + m ≤ y → count_among y n m ≡ 0
count_among-past y n zero le = refl
count_among-past y n (suc m) le =
    let distinct = differs y n (λ e. omega (arith, le, e)) in
    let later = count_among-past y (suc n) m (omega (arith, le)) in
    omega (arith, distinct, later)

pub count_among-one : (y n m : ℕ) → count_among y n m ≤ 1
count_among-one y n zero = omega arith
count_among-one y n (suc m) = elim (nat_eq y n) as (λ t. nat_eq y n ≡ t → cond t 1 0 + count_among y (suc n) m ≤ 1) [
  | true ↦ λ e. let later = count_among-below y (suc n) m (same_less e) in omega (arith, later)
  | false ↦ λ e. let later = count_among-one y (suc n) m in omega (arith, later)
] refl
  where
    same_less : nat_eq y n ≡ true → y < suc n
    same_less e = let same = eqb-true y n e in omega (arith, same)

pub count_among-add : (y n a b m : ℕ) → m ≡ a + b → count_among y n m ≡ count_among y n a + count_among y (n + a) b
count_among-add y n zero b m e =
    let one : count_among y n m ≡ count_among y n b = ap (count_among y n) (omega (arith, e)) in
    let two : count_among y n b ≡ count_among y (n + zero) b = ap (λ k. count_among y k b) (omega arith) in
    omega (arith, one, two)
count_among-add y n (suc a) b zero e = absurd (omega (arith, e))
count_among-add y n (suc a) b (suc m) e =
    let rest = count_among-add y (suc n) a b m (omega (arith, e)) in
    let there : count_among y (suc n + a) b ≡ count_among y (n + suc a) b = ap (λ k. count_among y k b) (omega arith) in
    omega (arith, rest, there)

-- the places of a forest are those of nodes
pub inside : (cs : List NodeView) (k : ChainForest) (y : ℕ) → AreNodesOf cs k → length cs ≤ y → count_place y k ≡ 0
inside cs no_chains y nodes_hold past = refl
inside cs (chain_node a f fs m b s) y nodes_hold past =
    let within = slice_get_within cs a _ nodes_hold.0 in
    let distinct = differs y a (λ e. omega (arith, within, past, e)) in
    let one = inside cs b y nodes_hold.1 past in
    let two = inside cs s y nodes_hold.2 past in
    omega (arith, distinct, one, two)

-- nodes that are the same at its places hold it too
pub nodes_still_hold : (cs ds : List NodeView) (k : ChainForest) → ((y : ℕ) → 1 ≤ count_place y k → slice_get ds y ≡ slice_get cs y) → AreNodesOf cs k → AreNodesOf ds k
nodes_still_hold cs ds no_chains same nodes_hold = tt
nodes_still_hold cs ds (chain_node a f fs m b s) same nodes_hold = (
  same a (own a (count_place a b + count_place a s)) ∙ nodes_hold.0,
  nodes_still_hold cs ds b (λ y some. same y (omega (arith, some))) nodes_hold.1,
  nodes_still_hold cs ds s (λ y some. same y (omega (arith, some))) nodes_hold.2,
)
  where
    own : (a r : ℕ) → 1 ≤ here a a + r
    own a r = let same = agrees a a refl in omega (arith, same)

-- a place of a forest is that of a node
pub below_all : (cs : List NodeView) (k : ChainForest) (n y : ℕ) → length cs ≡ n → AreNodesOf cs k → 1 ≤ count_place y k → y < n
below_all cs k n y len nodes_hold some = elim (cases_lt y n) [
  | inl lt ↦ lt
  | inr ge ↦ let none = inside cs k y nodes_hold (omega (arith, len, ge)) in absurd (omega (arith, some, none))
]

pub span_in : (y n m : ℕ) → 1 ≤ count_among y n m → (n ≤ y) × (y < n + m)
span_in y n m some = (
  elim (cases_lt y n) [ inl lt ↦ (let none = count_among-below y n m lt in absurd (omega (arith, some, none))) | inr ge ↦ ge ],
  elim (cases_lt y (n + m)) [ inl lt ↦ lt | inr ge ↦ (let none = count_among-past y n m ge in absurd (omega (arith, some, none))) ],
)
