-- The last of some runs, made longer or followed by another.
use Rattle.std.proofs.Common.{◌≡◌, ℕ, zero, suc, set, ◌+◌, ◌<◌, ◌≤◌, max, List, [], ◌∷◌, ◌++◌, drop, take, length, get_or, ◌-◌, sym, ap, subst, ◌∙◌, refl, arith}
use Rattle.std.proofs.lemmas.List.{drop_more, drop_all, take_all, length-drop, map-append}
use Rattle.rank_set.specs.declared.Run.{Run}
use Rattle.rank_set.specs.Runs.{run_pair, run_pairs, ranks_between, ranks_of_runs, AreRuns}
use Rattle.rank_set.specs.declared.TheConstants.{RANK_LIMIT}
use Rattle.rank_set.specs.Ranks.{Ranks, none, union, union-none}
use Rattle.rank_set.proofs.RunSets.{union_merged}
use Rattle.rank_set.proofs.RunLists.{union_assoc, union_swap, runs_later}

-- the last run is a run
pub last_good : (least : ℕ) (xs : List (ℕ × ℕ)) (a b : ℕ) → AreRuns least (xs ++ (a, b) ∷ []) → (a ≤ b) × (b < RANK_LIMIT)
last_good least [] a b h = (h.1, h.2)
last_good least (x ∷ xs) a b h = last_good (x.1 + 2) xs a b h.3

-- the last run may be longer
pub last_longer : (least : ℕ) (xs : List (ℕ × ℕ)) (a b d : ℕ) → AreRuns least (xs ++ (a, b) ∷ []) → b ≤ d → d < RANK_LIMIT → AreRuns least (xs ++ (a, d) ∷ [])
last_longer least [] a b d h le lt = (h.0, omega (arith, h.1), lt, tt)
last_longer least (x ∷ xs) a b d h le lt = (h.0, h.1, h.2, last_longer (x.1 + 2) xs a b d h.3 le lt)

-- another run may follow behind a gap
pub another_run : (least : ℕ) (xs : List (ℕ × ℕ)) (a b c d : ℕ) → AreRuns least (xs ++ (a, b) ∷ []) → b + 1 < c → c ≤ d → d < RANK_LIMIT → AreRuns least ((xs ++ (a, b) ∷ []) ++ (c, d) ∷ [])
another_run least [] a b c d h gap le lt = (h.0, h.1, h.2, (omega arith, le, lt, tt))
another_run least (x ∷ xs) a b c d h gap le lt = (h.0, h.1, h.2, another_run (x.1 + 2) xs a b c d h.3 gap le lt)

-- the ranks of runs and of runs behind them
pub ranks_append : (xs ys : List (ℕ × ℕ)) → ranks_of_runs (xs ++ ys) ≡ union (ranks_of_runs xs) (ranks_of_runs ys)
ranks_append [] ys = sym (union-none (ranks_of_runs ys))
ranks_append (x ∷ xs) ys = ap (union (ranks_between x.0 x.1)) (ranks_append xs ys) ∙ sym (union_assoc (ranks_between x.0 x.1) (ranks_of_runs xs) (ranks_of_runs ys))

-- the ranks of runs with one run more
pub ranks_with : (xs : List (ℕ × ℕ)) (a b : ℕ) → ranks_of_runs (xs ++ (a, b) ∷ []) ≡ union (ranks_of_runs xs) (ranks_between a b)
ranks_with xs a b = ranks_append xs ((a, b) ∷ []) ∙ ap (union (ranks_of_runs xs)) (union_swap (ranks_between a b) none ∙ union-none (ranks_between a b))

-- a run that overlaps or touches the last makes it longer
pub ranks_longer : (xs : List (ℕ × ℕ)) (a b c d m : ℕ) → a ≤ b → c ≤ d → a ≤ c → c ≤ b + 1 → m ≡ max b d → ranks_of_runs (xs ++ (a, m) ∷ []) ≡ union (ranks_of_runs (xs ++ (a, b) ∷ [])) (ranks_between c d)
ranks_longer xs a b c d m some more order near greatest =
    ranks_with xs a m ∙ union_merged (ranks_of_runs xs) a b c d a m some more near (omega arith) (omega arith) greatest
    ∙ ap (λ s. union s (ranks_between c d)) (sym (ranks_with xs a b))

union-none_right : (s : Ranks) → union s none ≡ s
union-none_right s = union_swap s none ∙ union-none s

-- the next run of a list is joined
pub next_step : (S S2 G : Ranks) (xs : List Run) (i : ℕ) (d : Run) → i < length xs → S2 ≡ union S (ranks_between (get_or xs i d).first (get_or xs i d).last) → union S (ranks_of_runs (run_pairs (drop i xs))) ≡ G → union S2 (ranks_of_runs (run_pairs (drop (i + 1) xs))) ≡ G
next_step S S2 G xs i d lt more e =
    let x : Run = get_or xs i d in
    let rest : Ranks = ranks_of_runs (run_pairs (drop (i + 1) xs)) in
    ap (λ s. union s rest) more ∙ union_assoc S (ranks_between x.first x.last) rest
    ∙ ap (λ ys. union S (ranks_of_runs (run_pairs ys))) (sym (drop_more xs i d lt)) ∙ e

-- the runs behind the next one begin no earlier
pub next_rest : (l p : ℕ) (xs : List Run) (i : ℕ) (d : Run) → i < length xs → p ≤ (get_or xs i d).first → AreRuns l (run_pairs (drop i xs)) → AreRuns p (run_pairs (drop (i + 1) xs))
next_rest l p xs i d lt le h =
    let x : Run = get_or xs i d in
    let g : AreRuns l (run_pairs (x ∷ drop (i + 1) xs)) = subst (λ ys. AreRuns l (run_pairs ys)) (drop_more xs i d lt) h in
    runs_later p (x.last + 2) (run_pairs (drop (i + 1) xs)) (omega (arith, g.1)) g.3

-- no run is left
pub no_rest : (S G : Ranks) (xs : List Run) (i : ℕ) → length xs ≤ i → union S (ranks_of_runs (run_pairs (drop i xs))) ≡ G → S ≡ G
no_rest S G xs i le e = sym (union-none_right S) ∙ ap (λ ys. union S (ranks_of_runs (run_pairs ys))) (sym (drop_all i xs le)) ∙ e

-- what is left of a list begins no earlier than its first run
pub later_rest : (l p q : ℕ) (xs : List Run) (i : ℕ) (d : Run) → i < length xs → p ≤ q → q ≤ (get_or xs i d).first → AreRuns l (run_pairs (drop i xs)) → AreRuns p (run_pairs (drop i xs))
later_rest l p q xs i d lt le more h =
    let x : Run = get_or xs i d in
    let e : drop i xs ≡ x ∷ drop (i + 1) xs = drop_more xs i d lt in
    let g : AreRuns l (run_pairs (x ∷ drop (i + 1) xs)) = subst (λ ys. AreRuns l (run_pairs ys)) e h in
    subst (λ ys. AreRuns p (run_pairs ys)) (sym e) (omega arith, g.1, g.2, g.3)

-- the next run of the first list is joined, where there is a second
pub left_step : (S S2 T G : Ranks) (xs : List Run) (i : ℕ) (d : Run) → i < length xs → S2 ≡ union S (ranks_between (get_or xs i d).first (get_or xs i d).last) → union S (union (ranks_of_runs (run_pairs (drop i xs))) T) ≡ G → union S2 (union (ranks_of_runs (run_pairs (drop (i + 1) xs))) T) ≡ G
left_step S S2 T G xs i d lt more e =
    sym (union_assoc S2 (ranks_of_runs (run_pairs (drop (i + 1) xs))) T)
    ∙ ap (λ s. union s T) (next_step S S2 (union S (ranks_of_runs (run_pairs (drop i xs)))) xs i d lt more refl)
    ∙ union_assoc S (ranks_of_runs (run_pairs (drop i xs))) T ∙ e

-- and that of the second
pub right_step : (S S2 T G : Ranks) (xs : List Run) (i : ℕ) (d : Run) → i < length xs → S2 ≡ union S (ranks_between (get_or xs i d).first (get_or xs i d).last) → union S (union T (ranks_of_runs (run_pairs (drop i xs)))) ≡ G → union S2 (union T (ranks_of_runs (run_pairs (drop (i + 1) xs)))) ≡ G
right_step S S2 T G xs i d lt more e =
    ap (union S2) (union_swap T (ranks_of_runs (run_pairs (drop (i + 1) xs))))
    ∙ left_step S S2 T G xs i d lt more (ap (union S) (union_swap (ranks_of_runs (run_pairs (drop i xs))) T) ∙ e)

-- all from a place on
pub whole_rest : (xs : List Run) (i : ℕ) → take (length xs - i) (drop i xs) ≡ drop i xs
whole_rest xs i = take_all (length xs - i) (drop i xs) (omega (arith, length-drop i xs))

-- the second list is passed
pub only_left : (S L G R : Ranks) (ys : List Run) (j : ℕ) → length ys ≤ j → R ≡ union S L → union S (union L (ranks_of_runs (run_pairs (drop j ys)))) ≡ G → R ≡ G
only_left S L G R ys j le is e =
    is ∙ ap (union S) (sym (union-none_right L)) ∙ ap (λ zs. union S (union L (ranks_of_runs (run_pairs zs)))) (sym (drop_all j ys le)) ∙ e

-- the first list is passed
pub only_right : (S L G R : Ranks) (xs : List Run) (i : ℕ) → length xs ≤ i → R ≡ union S L → union S (union (ranks_of_runs (run_pairs (drop i xs))) L) ≡ G → R ≡ G
only_right S L G R xs i le is e =
    only_left S L G R xs i le is (ap (union S) (union_swap L (ranks_of_runs (run_pairs (drop i xs)))) ∙ e)

pub later_rest_above : (l p q : ℕ) (xs : List Run) (i : ℕ) (d : Run) → i < length xs → p ≤ q → q < (get_or xs i d).first → AreRuns l (run_pairs (drop i xs)) → AreRuns p (run_pairs (drop i xs))
later_rest_above l p q xs i d lt le more h = later_rest l p q xs i d lt le (omega arith) h

-- the runs behind the first
pub tail_runs : (xs : List Run) (x : Run) (ys : List Run) → xs ≡ x ∷ ys → AreRuns 0 (run_pairs xs) → AreRuns x.first (run_pairs ys)
tail_runs xs x ys e h =
    let g : AreRuns 0 (run_pairs (x ∷ ys)) = subst (λ zs. AreRuns 0 (run_pairs zs)) e h in
    runs_later x.first (x.last + 2) (run_pairs ys) (omega (arith, g.1)) g.3

-- the first list is its first run and the others
pub left_whole : (R T : Ranks) (xs : List Run) (x : Run) (ys : List Run) → xs ≡ x ∷ ys → R ≡ union (union (ranks_between x.first x.last) none) (union (ranks_of_runs (run_pairs ys)) T) → R ≡ union (ranks_of_runs (run_pairs xs)) T
left_whole R T xs x ys e is =
    is ∙ ap (λ s. union s (union (ranks_of_runs (run_pairs ys)) T)) (union-none_right (ranks_between x.first x.last))
    ∙ sym (union_assoc (ranks_between x.first x.last) (ranks_of_runs (run_pairs ys)) T) ∙ ap (λ zs. union (ranks_of_runs (run_pairs zs)) T) (sym e)

pub right_whole : (R T : Ranks) (xs : List Run) (x : Run) (ys : List Run) → xs ≡ x ∷ ys → R ≡ union (union (ranks_between x.first x.last) none) (union T (ranks_of_runs (run_pairs ys))) → R ≡ union T (ranks_of_runs (run_pairs xs))
right_whole R T xs x ys e is =
    left_whole R T xs x ys e (is ∙ ap (union (union (ranks_between x.first x.last) none)) (union_swap T (ranks_of_runs (run_pairs ys)))) ∙ union_swap (ranks_of_runs (run_pairs xs)) T

pub left_none : (R T : Ranks) (xs : List Run) → length xs ≡ 0 → R ≡ T → R ≡ union (ranks_of_runs (run_pairs xs)) T
left_none R T xs e is = is ∙ sym (union-none T) ∙ ap (λ zs. union (ranks_of_runs (run_pairs zs)) T) (sym (drop_all 0 xs (omega (arith, e))))

pub right_none : (R T : Ranks) (xs : List Run) → length xs ≡ 0 → R ≡ T → R ≡ union T (ranks_of_runs (run_pairs xs))
right_none R T xs e is = left_none R T xs e is ∙ union_swap (ranks_of_runs (run_pairs xs)) T

pub pairs_push : (xs ys : List Run) (x : Run) → ys ≡ xs ++ x ∷ [] → run_pairs ys ≡ run_pairs xs ++ run_pair x ∷ []
pairs_push xs ys x e = ap run_pairs e ∙ map-append run_pair xs (x ∷ [])

-- a list of runs that starts empty
pub start_empty : (zs : List Run) (p : ℕ × ℕ) (T : Ranks) → zs ≡ [] → union (ranks_of_runs (run_pairs zs ++ p ∷ [])) T ≡ union (union (ranks_between p.0 p.1) none) T
start_empty zs p T e = ap (λ ys. union (ranks_of_runs (run_pairs ys ++ p ∷ [])) T) e

-- the ranks of one run
pub only_run : (a b : ℕ) → ranks_of_runs ((a, b) ∷ []) ≡ ranks_between a b
only_run a b = union-none_right (ranks_between a b)

-- a list as all but its last run and that run, and the list with another in its place
pub record LastIs (xs : List Run) (n : ℕ) (y : Run) : Type 0 where
  pub before : List Run
  pub is : xs ≡ before ++ get_or xs n (record { first = 0; last = 0 }) ∷ []
  pub changed : set xs n y ≡ before ++ y ∷ []

pub last_is : (xs : List Run) (n : ℕ) (y : Run) → length xs ≡ suc n → LastIs xs n y
last_is [] n y e = absurd (omega (arith, e))
last_is (x ∷ []) zero y e = record { before = []; is = refl; changed = refl }
last_is (x ∷ []) (suc n) y e = absurd (omega (arith, e))
last_is (x ∷ z ∷ zs) zero y e = absurd (omega (arith, e))
last_is (x ∷ z ∷ zs) (suc n) y e =
    let rest = last_is (z ∷ zs) n y (omega (arith, e)) in
    record { before = x ∷ rest.before; is = ap (λ ys. x ∷ ys) rest.is; changed = ap (λ ys. x ∷ ys) rest.changed }

-- the last run of a list, made longer
pub extended : (xs : List Run) (n first last : ℕ) (y : Run) → length xs ≡ suc n → AreRuns 0 (run_pairs xs) → (get_or xs n (record { first = 0; last = 0 })).last + 1 ≡ first → first ≤ last → last < RANK_LIMIT → y ≡ record { first = (get_or xs n (record { first = 0; last = 0 })).first; last = last }
    → AreRuns 0 (run_pairs (set xs n y)) × (ranks_of_runs (run_pairs (set xs n y)) ≡ union (ranks_of_runs (run_pairs xs)) (ranks_between first last))
extended xs n first last y e h touches some small is =
    let parts = last_is xs n y e in
    let old : Run = get_or xs n (record { first = 0; last = 0 }) in
    let was : run_pairs xs ≡ run_pairs parts.before ++ run_pair old ∷ [] = pairs_push parts.before xs old parts.is in
    let now : run_pairs (set xs n y) ≡ run_pairs parts.before ++ (old.first, last) ∷ [] = pairs_push parts.before (set xs n y) y parts.changed ∙ ap (λ (r : Run). run_pairs parts.before ++ run_pair r ∷ []) is in
    let good : AreRuns 0 (run_pairs parts.before ++ (old.first, old.last) ∷ []) = subst (AreRuns 0) was h in
    let run = last_good 0 (run_pairs parts.before) old.first old.last good in (
      subst (AreRuns 0) (sym now) (last_longer 0 (run_pairs parts.before) old.first old.last last good (omega (arith, touches, some)) small),
      ap ranks_of_runs now ∙ ranks_longer (run_pairs parts.before) old.first old.last first last last run.0 some (omega (arith, touches, run.0)) (omega (arith, touches)) (omega (arith, touches, some))
          ∙ ap (λ rs. union (ranks_of_runs rs) (ranks_between first last)) (sym was),
    )
