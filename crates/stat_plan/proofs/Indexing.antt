-- The nodes of ranks, and rows by node number.
use Rattle.std.proofs.Common.{◌≡◌, ◌≢◌, ◌⊎◌, ℕ, suc, zero, ◌+◌, ◌<◌, ◌≤◌, true, false, List, [], ◌∷◌, get_or, map, set, length, refl, sym, ap, subst, ◌∙◌, arith, inl, inr, Vec, Global}
use Rattle.std.proofs.lemmas.Bool.{true≢false, or_cases, cases_lt, false_from_ne_true}
use Rattle.std.proofs.lemmas.List.{get_or-set_same, get_or-set_other, get_or_default, get_or-map, map-set, length-map}
use Rattle.rank_set.specs.Ranks.{Ranks, none, has, Has, union, has-union, has-none}
use Rattle.stat_plan.specs.Invariants.{ArePlacedOnce}
use Rattle.stat_plan.specs.Samples.{ranks_with, all_ranks}
use Rattle.stat_plan.specs.OwnLines.{HasRankOn}
use Rattle.stat_plan.specs.Plans.{Plan, ranks, ranks_on}
use Rattle.stat_plan.specs.Tables.{AreRankNodes}
use Rattle.overlay_setup.specs.Tables.{rows_view}
use Rattle.stat_plan.proofs.InLists.{in_at}

-- a node of the ranks of some sets
pub record IsRankNode (placed : List Ranks) (r node : ℕ) : Type 0 where
  pub inside : node < length placed
  pub holds : Has r (get_or placed node none)

-- a rank of all sets is in the first ones, or in one of the others
in_some : (C : Ranks) (Ds : List Ranks) (r : ℕ) → has (ranks_with C Ds) r ≡ true → (has C r ≡ true) ⊎ ((n : ℕ) × IsRankNode Ds r n)
in_some C [] r there = inl there
in_some C (D ∷ Ds) r there = elim (in_some (union C D) Ds r there) [
  | (inl both) ↦ elim (or_cases (has C r) (has D r) (sym (has-union C D r) ∙ both)) [
    | (inl first) ↦ inl first
    | (inr here) ↦ inr (0, record { inside = omega arith; holds = here })
  ]
  | (inr later) ↦ inr (suc later.0, record { inside = let lt = later.1.inside in omega arith; holds = later.1.holds })
]

-- a rank of some sets has a node
pub rank_node_of : (placed : List Ranks) (r : ℕ) → has (all_ranks placed) r ≡ true → (n : ℕ) × IsRankNode placed r n
rank_node_of placed r there = elim (in_some none placed r there) [ (inl first) ↦ absurd (true≢false (sym first ∙ has-none r)) | (inr home) ↦ home ]

-- the node that stands at a rank is its node
pub rank_node_is : (placed : List Ranks) (rank_to_node : List ℕ) (r node : ℕ) → AreRankNodes placed rank_to_node → has (all_ranks placed) r ≡ true → node ≡ get_or rank_to_node r 0 → IsRankNode placed r node
rank_node_is placed rank_to_node r node are there is =
    let home = rank_node_of placed r there in
    subst (IsRankNode placed r) (sym (is ∙ (are.each home.0 r home.1.holds).1)) home.1

-- the nodes of one set more
pub rank_nodes_more : (placed : List Ranks) (old new : List ℕ) (k : ℕ) (own : Ranks) → ArePlacedOnce placed → own ≡ get_or placed k own → k < length placed
    → ((n r : ℕ) → n < k → Has r (get_or placed n none) → get_or old r 0 ≡ n)
    → ((r : ℕ) → Has r own → get_or new r 0 ≡ k)
    → ((r : ℕ) → has own r ≡ false → get_or new r 0 ≡ get_or old r 0)
    → (n r : ℕ) → n < k + 1 → Has r (get_or placed n none) → get_or new r 0 ≡ n
rank_nodes_more placed old new k own once is inside before ranks others n r below there =
    let own_is : own ≡ get_or placed k none = is ∙ get_or_default placed k own none inside in
    elim (cases_lt n k) [
      | (inl earlier) ↦
          let distinct : has own r ≡ false = false_from_ne_true (has own r) (λ also. let same = once n k r there (sym (ap (λ s. has s r) own_is) ∙ also) in omega (arith, same, earlier)) in
          others r distinct ∙ before n r earlier there
      | (inr last) ↦
          let same : n ≡ k = omega (arith, below, last) in
          let here : Has r own = ap (λ s. has s r) own_is ∙ ap (λ m. has (get_or placed m none) r) (sym same) ∙ there in
          ranks r here ∙ sym same
    ]

-- no rank is in a set past the last
pub past : (placed : List Ranks) (n : ℕ) → length placed ≤ n → get_or placed n none ≡ none
past [] n le = refl
past (D ∷ Ds) zero le = absurd (omega arith)
past (D ∷ Ds) (suc n) le = past Ds n (omega arith)

-- all nodes are indexed
pub rank_to_node_all : (placed : List Ranks) (rank_to_node : List ℕ) → ((n r : ℕ) → Has r (get_or placed n none) → r < length rank_to_node) → ((n r : ℕ) → n < length placed → Has r (get_or placed n none) → get_or rank_to_node r 0 ≡ n) → AreRankNodes placed rank_to_node
rank_to_node_all placed rank_to_node within each = record {
  each = λ n r there. (
    within n r there,
    elim (cases_lt n (length placed)) [
      | (inl inside) ↦ each n r inside there
      | (inr outside) ↦ absurd (true≢false (sym there ∙ ap (λ s. has s r) (past placed n outside) ∙ has-none r))
    ],
  );
}

-- a rank of the sets has an entry
pub rank_has_entry : (placed : List Ranks) (rank_to_node : List ℕ) (r : ℕ) → AreRankNodes placed rank_to_node → has (all_ranks placed) r ≡ true → r < length rank_to_node
rank_has_entry placed rank_to_node r are there = let home = rank_node_of placed r there in (are.each home.0 r home.1.holds).0

-- a row of a table is changed
module _ {X : Type 0} (rows : List (List X)) (node : ℕ) (row : List X) (inside : node < length rows) where
  pub same_row : get_or (set rows node row) node [] ≡ row
  same_row = get_or-set_same rows node row [] inside

  pub other_row : (n : ℕ) → n ≢ node → get_or (set rows node row) n [] ≡ get_or rows n []
  other_row n other = get_or-set_other rows node n row [] other

-- the rows where one of them was changed
pub rows_changed : {X : Type 0} (table : List (Vec X Global)) (node : ℕ) (new : Vec X Global) → rows_view (set table node new) ≡ set (rows_view table) node new.items
rows_changed {X} table node new = map-set (λ (r : Vec X Global). r.items) table node new

-- a row of a table, as it stands among the rows
pub row_here : {X : Type 0} (table : List (Vec X Global)) (node : ℕ) (d : Vec X Global) → node < length table → (get_or table node d).items ≡ get_or (rows_view table) node []
row_here {X} table node d inside = sym (get_or-map (λ (r : Vec X Global). r.items) table node d [] inside)

-- a table with as many rows as another
pub as_long : {X : Type 0} (table old : List (Vec X Global)) (k : ℕ) → length (rows_view table) ≡ length (rows_view old) → length old ≡ k → length table ≡ k
as_long {X} table old k same paired = sym (length-map table (λ (r : Vec X Global). r.items)) ∙ same ∙ length-map old (λ (r : Vec X Global). r.items) ∙ paired

-- a rank of some nodes is placed on one of them
pub rank_on : (p : Plan) (some : List ℕ) (r : ℕ) → Has r (ranks_on p some) → HasRankOn p.placed some r
unfolding ranks
rank_on p some r there =
    let at = rank_node_of (map (ranks p) some) r there in
    let inside : at.0 < length some = subst (λ k. at.0 < k) (length-map some (ranks p)) at.1.inside in
    record {
      node = get_or some at.0 0;
      there = in_at some at.0 0 inside;
      rank = ap (λ s. has s r) (sym (get_or-map (ranks p) some at.0 0 none inside)) ∙ at.1.holds;
    }
