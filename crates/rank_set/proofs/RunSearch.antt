-- What a run of a list says of a rank, and what the runs before and behind it say.
use Rattle.std.proofs.Common.{◌≡◌, ℕ, zero, suc, ◌+◌, ◌-◌, ◌<◌, ◌≤◌, max, min, nat_le, Bool, true, false, ◌||◌, ◌&&◌, List, [], ◌∷◌, ◌++◌, length, drop, get_or, sym, ap, subst, ◌∙◌, inl, inr, arith, refl}
use Rattle.std.proofs.lemmas.Bool.{cases_lt, lt-leb, le-leb, or_right, true≢false}
use Rattle.std.proofs.lemmas.List.{length-map, drop_more}
use Rattle.rank_set.specs.declared.TheConstants.{RANK_LIMIT}
use Rattle.rank_set.specs.Ranks.{Ranks, has, has-none, has-union, has-those}
use Rattle.rank_set.specs.declared.Run.{Run}
use Rattle.rank_set.specs.Runs.{ranks_between, ranks_of_runs, AreRuns, IsRun, run_pair, run_pairs, up_to}
use Rattle.rank_set.proofs.RunSets.{between_in, between_high}
use Rattle.rank_set.proofs.RunLists.{runs_above, runs_later}

-- the run at an index, none of ranks 0 to 0 behind the last
abbrev pub run_at : List (ℕ × ℕ) → ℕ → ℕ × ℕ
run_at rs i = get_or rs i (0, 0)

-- each run of a list is a run
pub run_good : (least : ℕ) (rs : List (ℕ × ℕ)) (i : ℕ) → AreRuns least rs → i < length rs → (least ≤ (run_at rs i).0) × ((run_at rs i).0 ≤ (run_at rs i).1) × ((run_at rs i).1 < RANK_LIMIT)
run_good least [] i h lt = absurd (omega arith)
run_good least (r ∷ rs) zero h lt = (h.0, h.1, h.2)
run_good least (r ∷ rs) (suc i) h lt = let g = run_good (r.1 + 2) rs i h.3 (omega arith) in (omega (arith, g.0, h.0, h.1), g.1, g.2)

-- its ranks are in the set
pub in_run : (rs : List (ℕ × ℕ)) (i q : ℕ) → i < length rs → (run_at rs i).0 ≤ q → q ≤ (run_at rs i).1 → has (ranks_of_runs rs) q ≡ true
in_run [] i q lt low high = absurd (omega arith)
in_run (r ∷ rs) zero q lt low high = has-union (ranks_between r.0 r.1) (ranks_of_runs rs) q ∙ ap (λ b. b || has (ranks_of_runs rs) q) (between_in r.0 r.1 q low high)
in_run (r ∷ rs) (suc i) q lt low high = has-union (ranks_between r.0 r.1) (ranks_of_runs rs) q ∙ or_right (has (ranks_between r.0 r.1) q) (has (ranks_of_runs rs) q) (in_run rs i q (omega arith) low high)

-- a rank is in no run if all runs before an index end before it, and that at the index begins behind it
pub in_gap : (least : ℕ) (rs : List (ℕ × ℕ)) (i q : ℕ) → AreRuns least rs → i ≤ length rs → (0 < i → (run_at rs (i - 1)).1 < q) → (i < length rs → q < (run_at rs i).0) → has (ranks_of_runs rs) q ≡ false
in_gap least [] i q h le before behind = has-none q
in_gap least (r ∷ rs) zero q h le before behind = runs_above r.0 (r ∷ rs) (omega arith, h.1, h.2, h.3) q (behind (omega arith))
in_gap least (r ∷ rs) (suc i) q h le before behind =
    has-union (ranks_between r.0 r.1) (ranks_of_runs rs) q
    ∙ (λ k. between_high r.0 r.1 q (first_before i (omega arith) (let e : suc i - 1 ≡ i = omega arith in subst (λ k. (run_at (r ∷ rs) k).1 < q) e (before (omega arith)))) k || in_gap (r.1 + 2) rs i q h.3 (omega arith) (rest i before) (λ lt. behind (omega (arith, lt))) k)
  where
    first_before : (i : ℕ) → i ≤ length rs → (run_at (r ∷ rs) i).1 < q → r.1 < q
    first_before zero le lt = lt
    first_before (suc i) le lt = let g = run_good (r.1 + 2) rs i h.3 (omega (arith, le)) in omega (arith, g.0, g.1, lt)

    rest : (i : ℕ) → (0 < suc i → (run_at (r ∷ rs) (suc i - 1)).1 < q) → 0 < i → (run_at rs (i - 1)).1 < q
    rest zero before lt = absurd (omega (arith, lt))
    rest (suc i) before lt =
        let one : suc i - 1 ≡ i = omega arith in
        let two : suc (suc i) - 1 ≡ suc i = omega arith in
        subst (λ k. (run_at rs k).1 < q) (sym one) (subst (λ k. (run_at (r ∷ rs) k).1 < q) two (before (omega arith)))

-- the gap behind a run
pub run_ends : (least : ℕ) (rs : List (ℕ × ℕ)) (i : ℕ) → AreRuns least rs → i < length rs → has (ranks_of_runs rs) (suc (run_at rs i).1) ≡ false
run_ends least [] i h lt = absurd (omega arith)
run_ends least (r ∷ rs) zero h lt =
    has-union (ranks_between r.0 r.1) (ranks_of_runs rs) (suc r.1)
    ∙ (λ k. between_high r.0 r.1 (suc r.1) (omega arith) k || runs_above (r.1 + 2) rs h.3 (suc r.1) (omega arith) k)
run_ends least (r ∷ rs) (suc i) h lt =
    has-union (ranks_between r.0 r.1) (ranks_of_runs rs) (suc (run_at rs i).1)
    ∙ (λ k. between_high r.0 r.1 (suc (run_at rs i).1) (let g = run_good (r.1 + 2) rs i h.3 (omega arith) in omega (arith, g.0, g.1)) k || run_ends (r.1 + 2) rs i h.3 (omega arith) k)

module _ (rs : List (ℕ × ℕ)) (h : AreRuns 0 rs) (i from : ℕ) (le : i ≤ length rs) (before : 0 < i → (run_at rs (i - 1)).1 < from) where
  -- behind the last run there is no rank
  pub none_behind : length rs ≤ i → (q : ℕ) → from ≤ q → has (ranks_of_runs rs) q ≡ false
  none_behind past q up = in_gap 0 rs i q h le (λ some. omega (arith, before some, up)) (λ lt. absurd (omega arith))

  -- the first run that does not end before a rank has the next ranks
  pub found_run : (first : ℕ) → i < length rs → from ≤ (run_at rs i).1 → first ≡ max (run_at rs i).0 from → IsRun (ranks_of_runs rs) from first (run_at rs i).1
  found_run first lt ends is = record {
    start = omega (arith, is);
    some = let g = run_good 0 rs i h lt in omega (arith, is, g.1, ends);
    passed = λ q up below. in_gap 0 rs i q h le (λ some. omega (arith, before some, up)) (λ _. omega (arith, is, up, below));
    within = λ q up to. in_run rs i q lt (omega (arith, is, up)) to;
    ends = run_ends 0 rs i h lt;
  }

-- the last run ends above each rank
pub last_ends : (least : ℕ) (rs : List (ℕ × ℕ)) → AreRuns least rs → 0 < length rs → (q : ℕ) → has (ranks_of_runs rs) q ≡ true → q ≤ (run_at rs (length rs - 1)).1
last_ends least rs h some q one = elim (cases_lt (run_at rs (length rs - 1)).1 q) [
  | inl past ↦ absurd (true≢false (sym one ∙ in_gap least rs (length rs) q h (omega arith) (λ _. past) (λ lt. absurd (omega (arith, lt)))))
  | inr le ↦ omega (arith, le)
]

and_true : (b : Bool) → (b && true) ≡ b
and_true true = refl
and_true false = refl

and_false : (b : Bool) → (b && false) ≡ false
and_false true = refl
and_false false = refl

-- a rank that is no greater than a number is in the part of a set up to there where it is in the set
pub in_part : (s : Ranks) (to q : ℕ) → q ≤ to → has (up_to to s) q ≡ has s q
in_part s to q le = has-those (λ r. nat_le r to) s q ∙ ap (λ b. has s q && b) (le-leb q to le) ∙ and_true (has s q)

-- a greater one is not
pub past_part : (s : Ranks) (to q : ℕ) → to < q → has (up_to to s) q ≡ false
past_part s to q lt = has-those (λ r. nat_le r to) s q ∙ ap (λ b. has s q && b) (lt-leb q to lt) ∙ and_false (has s q)

-- a run of a set that has the same ranks up to a number, cut there, is a run of that part
pub cut_run : (s p : Ranks) (from to first last cut : ℕ) → ((q : ℕ) → q ≤ to → has p q ≡ has s q) → IsRun p from first last → first ≤ to → cut ≡ min last to → IsRun (up_to to s) from first cut
cut_run s p from to first last cut same run le is = record {
  start = run.start;
  some = omega (arith, is, le, run.some);
  passed = λ q up below. in_part s to q (omega (arith, below, le)) ∙ sym (same q (omega (arith, below, le))) ∙ run.passed q up below;
  within = λ q up high. in_part s to q (omega (arith, is, high)) ∙ sym (same q (omega (arith, is, high))) ∙ run.within q up (omega (arith, is, high));
  ends = elim (cases_lt last to) [
    | inl lt ↦ let e : cut ≡ last = omega (arith, is, lt) in ap (λ x. has (up_to to s) (suc x)) e ∙ in_part s to (suc last) (omega (arith, lt)) ∙ sym (same (suc last) (omega (arith, lt))) ∙ run.ends
    | inr past ↦ past_part s to (suc cut) (omega (arith, is, past))
  ];
}

-- a set with no rank from the one number to the other
pub no_run : (s p : Ranks) (from to : ℕ) → ((q : ℕ) → q ≤ to → has p q ≡ has s q) → ((q : ℕ) → from ≤ q → has p q ≡ false) → (q : ℕ) → from ≤ q → q ≤ to → has s q ≡ false
no_run s p from to same none q up le = sym (same q le) ∙ none q up

-- or whose next run begins behind them
pub late_run : (s p : Ranks) (from to first last : ℕ) → ((q : ℕ) → q ≤ to → has p q ≡ has s q) → IsRun p from first last → to < first → (q : ℕ) → from ≤ q → q ≤ to → has s q ≡ false
late_run s p from to first last same run past q up le = sym (same q le) ∙ run.passed q up (omega (arith, le, past))

-- the run at an index of a list of runs
pub pair_at : (xs : List Run) (i : ℕ) → run_at (run_pairs xs) i ≡ run_pair (get_or xs i (record { first = 0; last = 0 }))
pair_at xs i = Rattle.std.proofs.Math.ListN.get_or-map run_pair xs i (record { first = 0; last = 0 })

pub pairs_length : (xs : List Run) → length (run_pairs xs) ≡ length xs
pairs_length xs = length-map xs run_pair

-- a run of a list and those behind it
pub runs_from : (least : ℕ) (xs : List Run) (i : ℕ) → i < length xs → AreRuns least (run_pairs (drop i xs)) → AreRuns least (run_pair (get_or xs i (record { first = 0; last = 0 })) ∷ run_pairs (drop (i + 1) xs))
runs_from least xs i lt h = subst (λ ys. AreRuns least (run_pairs ys)) (drop_more xs i (record { first = 0; last = 0 }) lt) h

-- those behind it are runs, too
pub runs_behind : (xs : List Run) (i : ℕ) → i < length xs → AreRuns 0 (run_pairs (drop i xs)) → AreRuns 0 (run_pairs (drop (i + 1) xs))
runs_behind xs i lt h = let g = runs_from 0 xs i lt h in runs_later 0 ((get_or xs i (record { first = 0; last = 0 })).last + 2) (run_pairs (drop (i + 1) xs)) (omega arith) g.3

-- a run behind all others
pub append_run : (least : ℕ) (rs : List (ℕ × ℕ)) (first last : ℕ) → AreRuns least rs → least ≤ first → (0 < length rs → (run_at rs (length rs - 1)).1 + 1 < first) → first ≤ last → last < RANK_LIMIT → AreRuns least (rs ++ (first, last) ∷ [])
append_run least [] first last h low gap some small = (low, some, small, tt)
append_run least (r ∷ rs) first last h low gap some small =
    let end : (run_at (r ∷ rs) (length rs)).1 + 1 < first = let e : length (r ∷ rs) - 1 ≡ length rs = omega arith in subst (λ k. (run_at (r ∷ rs) k).1 + 1 < first) e (gap (omega arith)) in
    (h.0, h.1, h.2, append_run (r.1 + 2) rs first last h.3 (behind rs h.3 end) (rest rs end) some small)
  where
    behind : (rs : List (ℕ × ℕ)) → AreRuns (r.1 + 2) rs → (run_at (r ∷ rs) (length rs)).1 + 1 < first → r.1 + 2 ≤ first
    behind [] h end = omega (arith, end)
    behind (q ∷ rs) h end = let g = run_good (r.1 + 2) (q ∷ rs) (length rs) h (omega arith) in omega (arith, g.0, g.1, end)

    rest : (rs : List (ℕ × ℕ)) → (run_at (r ∷ rs) (length rs)).1 + 1 < first → 0 < length rs → (run_at rs (length rs - 1)).1 + 1 < first
    rest [] end lt = absurd (omega (arith, lt))
    rest (q ∷ rs) end lt = let e : length (q ∷ rs) - 1 ≡ length rs = omega arith in subst (λ k. (run_at (q ∷ rs) k).1 + 1 < first) (sym e) end
