-- Lists of runs, one behind the other.
use Rattle.std.proofs.Common.{◌≡◌, ◌∙◌, ℕ, zero, suc, ◌+◌, ◌-◌, ◌<◌, ◌≤◌, true, ◌||◌, List, [], ◌∷◌, ◌++◌, length, take, drop, get_or, append_assoc, sym, ap, subst, inl, inr, arith}
use Rattle.std.proofs.lemmas.Bool.{cases_lt, true≢false, or_right, or_cases}
use Rattle.std.proofs.lemmas.List.{append-nil, map-append, take-append-drop, get_or-take, drop_more, drop_all, length-take-le}
use Rattle.rank_set.specs.declared.Run.{Run}
use Rattle.rank_set.specs.Ranks.{Ranks, has, union, has-none, has-union, with_present}
use Rattle.rank_set.specs.Runs.{ranks_between, ranks_of_runs, AreRuns, run_pair, run_pairs}
use Rattle.rank_set.proofs.RunSets.{between_in, between_high, union_one}
use Rattle.rank_set.proofs.RunLists.{runs_later, union_assoc, union_swap}
use Rattle.rank_set.proofs.RunMerging.{ranks_append}
use Rattle.rank_set.proofs.RunSearch.{run_at, pair_at, pairs_length, last_ends}

-- the runs of the first list are runs
pub front_runs : (least : ℕ) (xs ys : List (ℕ × ℕ)) → AreRuns least (xs ++ ys) → AreRuns least xs
front_runs least [] ys h = tt
front_runs least (x ∷ xs) ys h = (h.0, h.1, h.2, front_runs (x.1 + 2) xs ys h.3)

-- and so are those behind them
pub back_runs : (least : ℕ) (xs ys : List (ℕ × ℕ)) → AreRuns least (xs ++ ys) → AreRuns least ys
back_runs least [] ys h = h
back_runs least (x ∷ xs) ys h = runs_later least (x.1 + 2) ys (omega (arith, h.0, h.1)) (back_runs (x.1 + 2) xs ys h.3)

-- there is a gap between the ranks of the first and the run behind them
pub gap_before : (least : ℕ) (xs : List (ℕ × ℕ)) (y : ℕ × ℕ) (ys : List (ℕ × ℕ)) → AreRuns least (xs ++ y ∷ ys) → (q : ℕ) → has (ranks_of_runs xs) q ≡ true → q + 2 ≤ y.0
gap_before least [] y ys h q one = absurd (true≢false (sym one ∙ has-none q))
gap_before least (x ∷ xs) y ys h q one = elim (cases_lt x.1 q) [
  | inl past ↦ gap_before (x.1 + 2) xs y ys h.3 q (sym (has-union (ranks_between x.0 x.1) (ranks_of_runs xs) q ∙ ap (λ b. b || has (ranks_of_runs xs) q) (between_high x.0 x.1 q past)) ∙ one)
  | inr le ↦ let g = back_runs (x.1 + 2) xs (y ∷ ys) h.3 in omega (arith, g.0, le)
]

-- runs and runs behind a gap are runs
pub runs_joined : (least b : ℕ) (xs ys : List (ℕ × ℕ)) → least ≤ b → AreRuns least xs → AreRuns b ys → ((q : ℕ) → has (ranks_of_runs xs) q ≡ true → q + 2 ≤ b) → AreRuns least (xs ++ ys)
runs_joined least b [] ys le h g each = runs_later least b ys le g
runs_joined least b (x ∷ xs) ys le h g each =
    let own : has (ranks_of_runs (x ∷ xs)) x.1 ≡ true = has-union (ranks_between x.0 x.1) (ranks_of_runs xs) x.1 ∙ ap (λ b. b || has (ranks_of_runs xs) x.1) (between_in x.0 x.1 x.1 h.1 (omega arith)) in (
      h.0,
      h.1,
      h.2,
      runs_joined (x.1 + 2) b xs ys (each x.1 own) h.3 g (λ q one. each q (has-union (ranks_between x.0 x.1) (ranks_of_runs xs) q ∙ or_right (has (ranks_between x.0 x.1) q) (has (ranks_of_runs xs) q) one)),
    )

-- the next run begins behind a gap
pub next_begins : (least : ℕ) (rs : List (ℕ × ℕ)) (i : ℕ) → AreRuns least rs → i + 1 < length rs → (run_at rs i).1 + 2 ≤ (run_at rs (i + 1)).0
next_begins least [] i h lt = absurd (omega (arith, lt))
next_begins least (r ∷ []) i h lt = absurd (omega (arith, lt))
next_begins least (r ∷ s ∷ rs) zero h lt = h.3.0
next_begins least (r ∷ s ∷ rs) (suc i) h lt =
    let e : suc (i + 1) ≡ suc i + 1 = omega arith in
    subst (λ k. (run_at (s ∷ rs) i).1 + 2 ≤ (run_at (r ∷ s ∷ rs) k).0) e (next_begins (r.1 + 2) (s ∷ rs) i h.3 (omega (arith, lt)))

-- a list of runs behind another, taken apart at its first run
pub record BeginsWithRun (ds xs : List Run) (x : Run) (ys : List Run) : Type 0 where
  pub pending : AreRuns 0 (run_pairs ds ++ run_pair x ∷ [])
  pub whole : AreRuns x.first (run_pairs xs)
  pub rest : AreRuns x.first (run_pairs ys)

pub taken_apart : (ds xs : List Run) (x : Run) (ys : List Run) → xs ≡ x ∷ ys → AreRuns 0 (run_pairs (ds ++ xs)) → BeginsWithRun ds xs x ys
taken_apart ds xs x ys e h =
    let all : AreRuns 0 (run_pairs ds ++ run_pair x ∷ run_pairs ys) = subst (AreRuns 0) (map-append run_pair ds xs ∙ ap (λ zs. run_pairs ds ++ run_pairs zs) e) h in
    let front : AreRuns 0 ((run_pairs ds ++ run_pair x ∷ []) ++ run_pairs ys) = subst (AreRuns 0) (sym (append_assoc (run_pairs ds) (run_pair x ∷ []) (run_pairs ys))) all in
    let back : AreRuns 0 (run_pair x ∷ run_pairs ys) = back_runs 0 (run_pairs ds) (run_pair x ∷ run_pairs ys) all in
    record {
      pending = front_runs 0 (run_pairs ds ++ run_pair x ∷ []) (run_pairs ys) front;
      whole = subst (λ zs. AreRuns x.first (run_pairs zs)) (sym e) (omega arith, back.1, back.2, back.3);
      rest = runs_later x.first (x.last + 2) (run_pairs ys) (omega (arith, back.1)) back.3;
    }

-- runs behind others, and those of a second list beside them
pub left_all : (D O : Ranks) (xs : List Run) (x : Run) (ys : List Run) → xs ≡ x ∷ ys
    → union (union D (ranks_between x.first x.last)) (union (ranks_of_runs (run_pairs ys)) O) ≡ union D (union (ranks_of_runs (run_pairs xs)) O)
left_all D O xs x ys e =
    let X : Ranks = ranks_between x.first x.last in
    let Y : Ranks = ranks_of_runs (run_pairs ys) in
    union_assoc D X (union Y O) ∙ ap (union D) (sym (union_assoc X Y O)) ∙ ap (λ zs. union D (union (ranks_of_runs (run_pairs zs)) O)) (sym e)

pub right_all : (D O : Ranks) (xs : List Run) (x : Run) (ys : List Run) → xs ≡ x ∷ ys
    → union (union D (ranks_between x.first x.last)) (union O (ranks_of_runs (run_pairs ys))) ≡ union D (union O (ranks_of_runs (run_pairs xs)))
right_all D O xs x ys e =
    ap (union (union D (ranks_between x.first x.last))) (union_swap O (ranks_of_runs (run_pairs ys))) ∙ left_all D O xs x ys e ∙ ap (union D) (union_swap (ranks_of_runs (run_pairs xs)) O)

-- the ranks of two lists of runs, one behind the other
pub ranks_behind : (xs ys zs : List Run) → zs ≡ xs ++ ys → ranks_of_runs (run_pairs zs) ≡ union (ranks_of_runs (run_pairs xs)) (ranks_of_runs (run_pairs ys))
ranks_behind xs ys zs e = ap (λ rs. ranks_of_runs (run_pairs rs)) e ∙ ap ranks_of_runs (map-append run_pair xs ys) ∙ ranks_append (run_pairs xs) (run_pairs ys)

-- what is left of a list of runs
pub runs_left : (xs : List Run) (k : ℕ) → AreRuns 0 (run_pairs xs) → AreRuns 0 (run_pairs (drop k xs))
runs_left xs k h = back_runs 0 (run_pairs (take k xs)) (run_pairs (drop k xs)) (subst (AreRuns 0) (sym (ap run_pairs (take-append-drop k xs)) ∙ map-append run_pair (take k xs) (drop k xs)) h)

-- a rank that runs have is in them already
pub absorbed : (S R : Ranks) (r : ℕ) → has R r ≡ true → union (union S (ranks_between r r)) R ≡ union S R
absorbed S R r there = union_assoc S (ranks_between r r) R ∙ ap (union S) (union_swap (ranks_between r r) R ∙ union_one R r ∙ with_present R r there)

-- a list of runs in three parts: those before others, those among them and those behind them
module _ (xs F A B O : List Run) (parts : xs ≡ F ++ (A ++ B)) (h : AreRuns 0 (run_pairs xs)) where
  all_pairs : run_pairs xs ≡ (run_pairs F ++ run_pairs A) ++ run_pairs B
  all_pairs =
      ap run_pairs parts ∙ map-append run_pair F (A ++ B) ∙ ap (λ ps. run_pairs F ++ ps) (map-append run_pair A B)
      ∙ sym (append_assoc (run_pairs F) (run_pairs A) (run_pairs B))

  whole : AreRuns 0 ((run_pairs F ++ run_pairs A) ++ run_pairs B)
  whole = subst (AreRuns 0) all_pairs h

  pub front_and_middle : AreRuns 0 (run_pairs F ++ run_pairs A)
  front_and_middle = front_runs 0 (run_pairs F ++ run_pairs A) (run_pairs B) whole

  pub front_alone : AreRuns 0 (run_pairs F)
  front_alone = front_runs 0 (run_pairs F) (run_pairs A) front_and_middle

  -- those before others and these are runs
  pub front_and_others : (o : Run) (os : List Run) → O ≡ o ∷ os → AreRuns 0 (run_pairs O) → ((q : ℕ) → has (ranks_of_runs (run_pairs F)) q ≡ true → q + 2 ≤ o.first) → AreRuns 0 (run_pairs F ++ run_pairs O)
  front_and_others o os e others gap =
      let g : AreRuns 0 (run_pair o ∷ run_pairs os) = subst (λ rs. AreRuns 0 (run_pairs rs)) e others in
      runs_joined 0 o.first (run_pairs F) (run_pairs O) (omega arith) front_alone (subst (λ rs. AreRuns o.first (run_pairs rs)) (sym e) (omega arith, g.1, g.2, g.3)) gap

  module _ (J : List Run) (joined : AreRuns 0 (run_pairs J)) (ranks : ranks_of_runs (run_pairs J) ≡ union (ranks_of_runs (run_pairs F)) (union (ranks_of_runs (run_pairs A)) (ranks_of_runs (run_pairs O)))) where
    -- so are what was joined and those behind it
    pub joined_and_back : (e : ℕ) → ((q : ℕ) → has (ranks_of_runs (run_pairs O)) q ≡ true → q < e) → (0 < length (run_pairs B) → e < (run_at (run_pairs B) 0).0) → AreRuns 0 (run_pairs J ++ run_pairs B)
    joined_and_back e below behind = go (run_pairs B) whole behind
      where
        gap : (y : ℕ × ℕ) (ys : List (ℕ × ℕ)) → AreRuns 0 ((run_pairs F ++ run_pairs A) ++ y ∷ ys) → e < y.0 → (q : ℕ) → has (ranks_of_runs (run_pairs J)) q ≡ true → q + 2 ≤ y.0
        gap y ys w lt q one =
            let split : (has (ranks_of_runs (run_pairs F)) q || (has (ranks_of_runs (run_pairs A)) q || has (ranks_of_runs (run_pairs O)) q)) ≡ true =
            sym (ap (λ s. has s q) ranks ∙ has-union (ranks_of_runs (run_pairs F)) (union (ranks_of_runs (run_pairs A)) (ranks_of_runs (run_pairs O))) q
            ∙ ap (λ b. has (ranks_of_runs (run_pairs F)) q || b) (has-union (ranks_of_runs (run_pairs A)) (ranks_of_runs (run_pairs O)) q)) ∙ one in
            let own : has (ranks_of_runs (run_pairs F ++ run_pairs A)) q ≡ true → q + 2 ≤ y.0 = gap_before 0 (run_pairs F ++ run_pairs A) y ys w q in
            let both : has (ranks_of_runs (run_pairs F ++ run_pairs A)) q ≡ (has (ranks_of_runs (run_pairs F)) q || has (ranks_of_runs (run_pairs A)) q) =
            ap (λ s. has s q) (ranks_append (run_pairs F) (run_pairs A)) ∙ has-union (ranks_of_runs (run_pairs F)) (ranks_of_runs (run_pairs A)) q in
            elim (or_cases (has (ranks_of_runs (run_pairs F)) q) (has (ranks_of_runs (run_pairs A)) q || has (ranks_of_runs (run_pairs O)) q) split) [
              | inl front ↦ own (both ∙ ap (λ b. b || has (ranks_of_runs (run_pairs A)) q) front)
              | inr later ↦ elim (or_cases (has (ranks_of_runs (run_pairs A)) q) (has (ranks_of_runs (run_pairs O)) q) later) [
                | inl middle ↦ own (both ∙ or_right (has (ranks_of_runs (run_pairs F)) q) (has (ranks_of_runs (run_pairs A)) q) middle)
                | inr other ↦ omega (arith, below q other, lt)
              ]
            ]

        go : (bs : List (ℕ × ℕ)) → AreRuns 0 ((run_pairs F ++ run_pairs A) ++ bs) → (0 < length bs → e < (run_at bs 0).0) → AreRuns 0 (run_pairs J ++ bs)
        go [] w later = subst (AreRuns 0) (sym (append-nil (run_pairs J))) joined
        go (y ∷ ys) w later =
            let back : AreRuns 0 (y ∷ ys) = back_runs 0 (run_pairs F ++ run_pairs A) (y ∷ ys) w in
            runs_joined 0 y.0 (run_pairs J) (y ∷ ys) (omega arith) joined (omega arith, back.1, back.2, back.3) (gap y ys w (later (omega arith)))

    -- with the ranks of both lists
    pub all_ranks : (zs : List Run) → zs ≡ J ++ B → ranks_of_runs (run_pairs zs) ≡ union (ranks_of_runs (run_pairs xs)) (ranks_of_runs (run_pairs O))
    all_ranks zs is =
        let f : Ranks = ranks_of_runs (run_pairs F) in
        let a : Ranks = ranks_of_runs (run_pairs A) in
        let b : Ranks = ranks_of_runs (run_pairs B) in
        let o : Ranks = ranks_of_runs (run_pairs O) in
        let own : ranks_of_runs (run_pairs xs) ≡ union (union f a) b =
        ap ranks_of_runs all_pairs ∙ ranks_append (run_pairs F ++ run_pairs A) (run_pairs B) ∙ ap (λ s. union s b) (ranks_append (run_pairs F) (run_pairs A)) in
        ranks_behind J B zs is ∙ ap (λ s. union s b) ranks
        ∙ ap (λ s. union s b) (sym (union_assoc f a o)) ∙ union_assoc (union f a) o b ∙ ap (union (union f a)) (union_swap o b)
        ∙ sym (union_assoc (union f a) b o) ∙ ap (λ s. union s o) (sym own)

-- a list that is split twice
pub three_parts : (xs F R A B : List Run) (k m : ℕ) → F ≡ take k xs → R ≡ drop k xs → A ≡ take m R → B ≡ drop m R → xs ≡ F ++ (A ++ B)
three_parts xs F R A B k m f r a b =
    sym (take-append-drop k xs) ∙ (λ i. sym f i ++ (sym r ∙ sym (take-append-drop m R) ∙ (λ j. sym a j ++ sym b j)) i)

-- runs before an index lie two below a number at least, where the last of them ends before the number below it
pub gap_to : (xs F : List Run) (k from first : ℕ) → k ≤ length xs → F ≡ take k xs → AreRuns 0 (run_pairs F) → from ≡ first - 1 → (0 < k → (run_at (run_pairs xs) (k - 1)).1 < from) → (q : ℕ) → has (ranks_of_runs (run_pairs F)) q ≡ true → q + 2 ≤ first
gap_to xs F k from first within is good before ends q one = elim (cases_lt 0 k) [
  | inl some ↦
      let none : Run = record { first = 0; last = 0 } in
      let count : length (run_pairs F) ≡ k = pairs_length F ∙ ap length is ∙ length-take-le k xs within in
      let at : run_at (run_pairs F) (length (run_pairs F) - 1) ≡ run_at (run_pairs xs) (k - 1) =
      ap (λ n. run_at (run_pairs F) (n - 1)) count ∙ pair_at F (k - 1) ∙ ap (λ ys. run_pair (get_or ys (k - 1) none)) is
      ∙ ap run_pair (get_or-take k xs (k - 1) none (omega (arith, some))) ∙ sym (pair_at xs (k - 1)) in
      omega (arith, last_ends 0 (run_pairs F) good (omega (arith, count, some)) q one, ap (λ p. p.1) at, ends some, before)
  | inr nothing ↦
      let empty : F ≡ [] = is ∙ ap (λ n. take n xs) (let z : k ≡ 0 = omega (arith, nothing) in z) in
      absurd (true≢false (sym one ∙ ap (λ ys. has (ranks_of_runs (run_pairs ys)) q) empty ∙ has-none q))
]

-- the first run that is left behind an index is the one at the index
pub first_behind : (xs B : List Run) (m e : ℕ) → B ≡ drop m xs → (m < length xs → e < (run_at (run_pairs xs) m).0) → 0 < length (run_pairs B) → e < (run_at (run_pairs B) 0).0
first_behind xs B m e is begins some = elim (cases_lt m (length xs)) [
  | inl inside ↦
      let none : Run = record { first = 0; last = 0 } in
      let first : B ≡ get_or xs m none ∷ drop (m + 1) xs = is ∙ drop_more xs m none inside in
      omega (arith, begins inside, ap (λ p. p.0) (pair_at xs m), ap (λ ys. (run_at (run_pairs ys) 0).0) first)
  | inr past ↦ absurd (omega (arith, some, pairs_length B, ap length (is ∙ drop_all m xs past)))
]
