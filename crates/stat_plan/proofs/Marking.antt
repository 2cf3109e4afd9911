-- Which lines list ranks of which nodes.
use Rattle.std.proofs.Common.{true, ◌≡◌, ◌≢◌, ◌⊎◌, ℕ, suc, zero, ◌+◌, ◌-◌, ◌<◌, ◌≤◌, List, [], ◌∷◌, take, get_or, set, length, refl, sym, ap, subst, ◌∙◌, arith, eqb-true, inl, inr}
use Rattle.std.specs.Prelude.{nat_eq}
use Rattle.std.proofs.lemmas.Bool.{true≢false, cases_Bool, cases_lt, eqb-false, and_from, or_left, or_right}
use Rattle.std.proofs.lemmas.List.{get_or-set_same, get_or-set_other, get_or_default, length-map, length-set, length-take-le, get_or-map, take-map}
use Rattle.rank_set.specs.Ranks.{Ranks, none, has, Has, union, has-union, has-none, has-those, is_empty, none_from_size, size, those}
use Rattle.rank_set.specs.Runs.{ranks_between}
use Rattle.rank_set.proofs.RunSets.{between_in}
use Rattle.stat_plan.specs.OwnLines.{AreIndexed, AreMarked, HaveSameRanks, ranks_at, ranks_of_lines}
use Rattle.stat_plan.specs.declared.samples.StackLine.{StackLine}

-- no node has such a rank
pub marked_none : (placed : List Ranks) (P : ℕ → Type 0) (more : Ranks) (old : List Ranks) → ((r : ℕ) → P r → ⊥) → AreMarked placed P more old old
marked_none placed P more old no_rank = record { paired = refl; marked = λ n r i below own some here. absurd (no_rank r some); kept = λ n i there. there }

-- fewer ranks
pub marked_for : (placed : List Ranks) (P Q : ℕ → Type 0) (more : Ranks) (old new : List Ranks) → ((r : ℕ) → Q r → P r) → AreMarked placed P more old new → AreMarked placed Q more old new
marked_for placed P Q more old new fewer are = record { paired = are.paired; marked = λ n r i below own some here. are.marked n r i below own (fewer r some) here; kept = are.kept }

-- a node more is marked
module _ (placed : List Ranks) (P Q : ℕ → Type 0) (more : Ranks) (old mid : List Ranks) (node : ℕ) (ranks : Ranks) (inside : node < length mid) (is : ranks ≡ union (ranks_at mid node) more) where
  stays : (n i : ℕ) → Has i (ranks_at mid n) → Has i (ranks_at (set mid node ranks) n)
  stays n i there = elim (cases_Bool (nat_eq n node)) [
    | (inl same) ↦
        let e : n ≡ node = eqb-true n node same in
        ap (λ m. has (get_or (set mid node ranks) m none) i) e
        ∙ ap (λ s. has s i) (get_or-set_same mid node ranks none inside ∙ is)
        ∙ has-union (ranks_at mid node) more i
        ∙ or_left (has (ranks_at mid node) i) (has more i) (ap (λ m. has (get_or mid m none) i) (sym e) ∙ there)
    | (inr other) ↦ ap (λ s. has s i) (get_or-set_other mid node n ranks none (eqb-false n node other)) ∙ there
  ]

  pub marked_more : ((n r : ℕ) → Has r (ranks_at placed n) → Q r → P r ⊎ (n ≡ node)) → AreMarked placed P more old mid → AreMarked placed Q more old (set mid node ranks)
  marked_more split are = record {
    paired = length-set mid node ranks ∙ are.paired;
    marked = λ n r i below own some here. elim (split n r own some) [
      | (inl before) ↦ stays n i (are.marked n r i below own before here)
      | (inr same) ↦
          ap (λ m. has (get_or (set mid node ranks) m none) i) same
          ∙ ap (λ s. has s i) (get_or-set_same mid node ranks none inside ∙ is)
          ∙ has-union (ranks_at mid node) more i
          ∙ or_right (has (ranks_at mid node) i) (has more i) here
    ];
    kept = λ n i there. stays n i (are.kept n i there);
  }

-- the first k nodes are asked
pub record AreMarkedTo (placed : List Ranks) (ranks more : Ranks) (old new : List Ranks) (k : ℕ) : Type 0 where
  pub paired : length new ≡ length old
  pub marked : (n r i : ℕ) → n < k → n < length old → Has r (ranks_at placed n) → Has r ranks → Has i more → Has i (ranks_at new n)
  pub kept : (n i : ℕ) → Has i (ranks_at old n) → Has i (ranks_at new n)

below_last : (n k : ℕ) → n < k + 1 → n ≢ k → n < k
below_last n k below other = elim (cases_lt n k) [ (inl lt) ↦ lt | (inr ge) ↦ absurd (other (omega (arith, below, ge))) ]

-- a node more that has none of the ranks
pub asked_none : (placed : List Ranks) (ranks more : Ranks) (old mid : List Ranks) (k : ℕ) (own : Ranks) → own ≡ get_or placed k own → k < length placed → is_empty (those (has own) ranks) ≡ true → AreMarkedTo placed ranks more old mid k → AreMarkedTo placed ranks more old mid (k + 1)
asked_none placed ranks more old mid k own is inside empty are = record {
  paired = are.paired;
  marked = λ n r i below within here there noted. elim (cases_Bool (nat_eq n k)) [
    | (inl same) ↦
        let e : n ≡ k = eqb-true n k same in
        let mine : Has r own = ap (λ s. has s r) (is ∙ get_or_default placed k own none inside) ∙ ap (λ m. has (ranks_at placed m) r) (sym e) ∙ here in
        absurd (true≢false (sym (has-those (has own) ranks r ∙ and_from (has ranks r) (has own r) there mine) ∙ ap (λ s. has s r) (none_from_size (those (has own) ranks) (eqb-true (size (those (has own) ranks)) 0 empty)) ∙ has-none r))
    | (inr other) ↦ are.marked n r i (below_last n k below (eqb-false n k other)) within here there noted
  ];
  kept = are.kept;
}

-- a node more that is marked
pub asked_one : (placed : List Ranks) (ranks more : Ranks) (old mid : List Ranks) (k : ℕ) (d own : Ranks) → k < length mid → own ≡ union (get_or mid k d) more → AreMarkedTo placed ranks more old mid k → AreMarkedTo placed ranks more old (set mid k own) (k + 1)
asked_one placed ranks more old mid k d own inside is are =
    let here : own ≡ union (ranks_at mid k) more = is ∙ ap (λ s. union s more) (get_or_default mid k d none inside) in
    let step = marked_more placed (λ _. ⊥) (λ _. ⊥) more mid mid k own inside here (λ n r own some. inl some) (marked_none placed (λ _. ⊥) more mid (λ r some. some)) in
    record {
      paired = length-set mid k own ∙ are.paired;
      marked = λ n r i below within mine there noted. elim (cases_Bool (nat_eq n k)) [
        | (inl same) ↦
            ap (λ m. has (ranks_at (set mid k own) m) i) (eqb-true n k same)
            ∙ ap (λ s. has s i) (get_or-set_same mid k own none inside ∙ here)
            ∙ has-union (ranks_at mid k) more i
            ∙ or_right (has (ranks_at mid k) i) (has more i) noted
        | (inr other) ↦ step.kept n i (are.marked n r i (below_last n k below (eqb-false n k other)) within mine there noted)
      ];
      kept = λ n i there. step.kept n i (are.kept n i there);
    }

-- a rank that one of the first k of some sets has
first_sets : (sets : List Ranks) (k i r : ℕ) → i < k → ranks_at (take k sets) i ≡ ranks_at sets i
first_sets [] zero i r below = refl
first_sets [] (suc k) i r below = refl
first_sets (s ∷ sets) zero i r below = absurd (omega arith)
first_sets (s ∷ sets) (suc k) zero r below = refl
first_sets (s ∷ sets) (suc k) (suc i) r below = first_sets sets k i r (omega (arith, below))

-- a set with a rank is among the sets
within : (sets : List Ranks) (n r : ℕ) → Has r (ranks_at sets n) → n < length sets
within [] n r own = absurd (true≢false (sym own ∙ has-none r))
within (s ∷ sets) zero r own = omega arith
within (s ∷ sets) (suc n) r own = let below = within sets n r own in omega (arith, below)

-- a line more lists the same ranks
pub same_more : (sets : List Ranks) (first end : ℕ) → HaveSameRanks sets first end → ranks_at sets end ≡ ranks_at sets first → HaveSameRanks sets first (end + 1)
same_more sets first end same is i from below = elim (cases_Bool (nat_eq i end)) [
  | (inl at) ↦ ap (λ k. ranks_at sets k) (eqb-true i end at) ∙ is
  | (inr other) ↦ same i from (below_last i end below (eqb-false i end other))
]

-- no line has a number yet
pub indexed_none : (placed numbers : List Ranks) → length numbers ≡ length placed → AreIndexed placed [] numbers
indexed_none placed numbers paired = record { paired = paired; each = λ n i r own there. absurd (true≢false (sym there ∙ has-none r)) }

-- the lines up to another one have their numbers, where those from the last one on list the same ranks
pub indexed_more : (placed : List Ranks) (lines : List StackLine) (first end : ℕ) (d : StackLine) (old new : List Ranks) → first < length lines → end ≤ length lines
    → HaveSameRanks (ranks_of_lines lines) first end → AreMarked placed (λ r. Has r (get_or lines first d).ranks) (ranks_between first (end - 1)) old new
    → AreIndexed placed (ranks_of_lines (take first lines)) old → AreIndexed placed (ranks_of_lines (take end lines)) new
indexed_more placed lines first end d old new lt within_all same marked are = record {
  paired = marked.paired ∙ are.paired;
  each = λ n i r own there. elim (cases_lt i first) [
    | (inl before) ↦ marked.kept n i (are.each n i r own (ap (λ s. has s r) (at first i before ∙ sym (at end i (below i r there))) ∙ there))
    | (inr later) ↦
        marked.marked n r i (node n r own) own
        (ap (λ s. has s r) (here ∙ sym (same i later (below i r there)) ∙ sym (at end i (below i r there))) ∙ there)
        (let b = below i r there in between_in first (end - 1) i later (omega (arith, b)))
  ];
}
  where
    at : (k i : ℕ) → i < k → ranks_at (ranks_of_lines (take k lines)) i ≡ ranks_at (ranks_of_lines lines) i
    at k i lt = ap (λ sets. ranks_at sets i) (sym (take-map (λ (l : StackLine). l.ranks) k lines)) ∙ first_sets (ranks_of_lines lines) k i 0 lt

    below : (i r : ℕ) → Has r (ranks_at (ranks_of_lines (take end lines)) i) → i < end
    below i r there =
        let a = within (ranks_of_lines (take end lines)) i r there in
        let b : length (ranks_of_lines (take end lines)) ≡ end = length-map (take end lines) (λ (l : StackLine). l.ranks) ∙ length-take-le end lines within_all in
        omega (arith, a, b)

    here : (get_or lines first d).ranks ≡ ranks_at (ranks_of_lines lines) first
    here = sym (get_or-map (λ (l : StackLine). l.ranks) lines first d none lt)

    node : (n r : ℕ) → Has r (ranks_at placed n) → n < length old
    node n r own = subst (λ m. n < m) (sym are.paired) (within placed n r own)
