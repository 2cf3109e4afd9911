-- The runs of a cover, and the numbers that are in them.
use Rattle.std.proofs.Common.{◌≡◌, ℕ, zero, suc, ◌+◌, ◌-◌, ◌<◌, ◌≤◌, Bool, true, false, ◌||◌, List, [], ◌∷◌, ◌++◌, length, get_or, map, drop, append_assoc, refl, sym, ap, ◌∙◌, subst, inl, inr, arith}
use Rattle.std.specs.Prelude.{◌⊎◌}
use Rattle.std.proofs.lemmas.List.{append-nil, drop_more, drop_all}
use Rattle.std.proofs.lemmas.Bool.{cases_lt, true≢false, or_cases, ltb-true}
use Rattle.rank_set.specs.declared.TheConstants.{RANK_LIMIT}
use Rattle.rank_set.specs.declared.Run.{Run}
use Rattle.rank_set.specs.Ranks.{Ranks, has, size, has-none, has-union}
use Rattle.rank_set.specs.Runs.{ranks_between, IsRun, AreRuns}
use Rattle.rank_set.proofs.RunSets.{between_in, between_low, between_high}
use Rattle.rank_set.proofs.RunLists.{runs_above}
use Rattle.rank_places.specs.declared.table.PlacedRun.{PlacedRun}
use Rattle.rank_places.specs.Places.{place}
use Rattle.rank_places.specs.Table.{placed_from, ends_of, cover_of, ArePlaced, inside, source, source_end, source_at, IsFound, IsShift}
use Rattle.rank_places.proofs.Places.{place-le, place-zero, place-end, place-run, place_stays, place_after_run, place_of_first}

-- ---- the table of runs

abbrev run_ends : Run → ℕ × ℕ
run_ends r = (r.first, r.last)

-- runs with their places
pub are_placed : (least p : ℕ) (rs : List Run) → AreRuns least (map run_ends rs) → ArePlaced least p (placed_from p rs)
are_placed least p [] h = tt
are_placed least p (r ∷ rs) h = (h.0, h.1, h.2, refl, are_placed (r.last + 2) (p + (r.last - r.first + 1)) rs h.3)

-- are the same runs
pub placed_ends : (p : ℕ) (rs : List Run) → map ends_of (placed_from p rs) ≡ map run_ends rs
placed_ends p [] = refl
placed_ends p (r ∷ rs) = ap (λ (xs : List (ℕ × ℕ)). (r.first, r.last) ∷ xs) (placed_ends (p + (r.last - r.first + 1)) rs)

-- The table of the runs before one, and the place of that one's first rank.
pub record IsPlacedTo (rs : List Run) (k p : ℕ) (table : List PlacedRun) : Type 0 where
  pub all : table ++ placed_from p (drop k rs) ≡ placed_from 0 rs
  pub rest : (least : ℕ) × (p ≤ least) × AreRuns least (map run_ends (drop k rs))

module _ (rs : List Run) where
  pub placing_starts : AreRuns 0 (map run_ends rs) → IsPlacedTo rs 0 0 []
  placing_starts h = record { all = refl; rest = (0, omega arith, h) }

  module _ (k p : ℕ) (table : List PlacedRun) (h : IsPlacedTo rs k p table) (d : Run) (lt : k < length rs) where
    abbrev next_one : Run
    next_one = get_or rs k d

    rest_from : AreRuns h.rest.0 (map run_ends (next_one ∷ drop (k + 1) rs))
    rest_from = subst (λ xs. AreRuns h.rest.0 (map run_ends xs)) (drop_more rs k d lt) h.rest.2

    pub placing_fits : (next_one.first ≤ next_one.last) × (p ≤ next_one.first) × (next_one.last < RANK_LIMIT)
    placing_fits = (rest_from.1, omega (arith, h.rest.1, rest_from.0), rest_from.2)

    pub placing_goes_on : IsPlacedTo rs (k + 1) (p + (next_one.last - next_one.first + 1)) (table ++ record { first = next_one.first; last = next_one.last; place = p } ∷ [])
    placing_goes_on = record {
      all =
          append_assoc table (record { first = next_one.first; last = next_one.last; place = p } ∷ []) (placed_from (p + (next_one.last - next_one.first + 1)) (drop (k + 1) rs))
          ∙ ap (λ xs. table ++ placed_from p xs) (sym (drop_more rs k d lt)) ∙ h.all;
      rest = (next_one.last + 2, omega (arith, h.rest.1, rest_from.0, rest_from.1), rest_from.3);
    }

  pub placing_ends : (k p : ℕ) (table : List PlacedRun) → IsPlacedTo rs k p table → length rs ≤ k → table ≡ placed_from 0 rs
  placing_ends k p table h le = sym (append-nil table) ∙ ap (λ xs. table ++ placed_from p xs) (sym (drop_all k rs le)) ∙ h.all

are_runs : (least p : ℕ) (rs : List PlacedRun) → ArePlaced least p rs → AreRuns least (map ends_of rs)
are_runs least p [] h = tt
are_runs least p (r ∷ rs) h = (h.0, h.1, h.2, are_runs (r.last + 2) (p + (r.last - r.first + 1)) rs h.4)

-- ---- a run of the table is one of the cover

-- how many ranks the runs have
abbrev total : List PlacedRun → ℕ
total [] = 0
total (r ∷ rs) = (r.last - r.first + 1) + total rs

-- a run of the cover, with the place of its first rank
pub record IsPlaced (cover : Ranks) (r : PlacedRun) : Type 0 where
  pub some : r.first ≤ r.last
  pub below_limit : r.last < RANK_LIMIT
  pub within : (q : ℕ) → r.first ≤ q → q ≤ r.last → has cover q ≡ true
  pub is : place cover r.first ≡ r.place

either_false : (a b : Bool) → a ≡ false → b ≡ false → (a || b) ≡ false
either_false a b e f = λ i. e i || f i

module _ (cover : Ranks) where
  module _ (least p : ℕ) (r : PlacedRun) (rs : List PlacedRun) (h : ArePlaced least p (r ∷ rs)) (same : (q : ℕ) → least ≤ q → has cover q ≡ has (cover_of (r ∷ rs)) q) (start : place cover least ≡ p) where
    parts : (q : ℕ) → least ≤ q → has cover q ≡ (has (ranks_between r.first r.last) q || has (cover_of rs) q)
    parts q le = same q le ∙ has-union (ranks_between r.first r.last) (cover_of rs) q

    later : (q : ℕ) → q < r.last + 2 → has (cover_of rs) q ≡ false
    later q lt = runs_above (r.last + 2) (map ends_of rs) (are_runs (r.last + 2) (p + (r.last - r.first + 1)) rs h.4) q lt

    first_run : IsRun cover least r.first r.last
    first_run =
        let low : least ≤ r.first = h.0 in
        let some : r.first ≤ r.last = h.1 in
        record {
          start = low;
          some = some;
          passed = λ q le lt. parts q le ∙ either_false _ _ (between_low r.first r.last q lt) (later q (omega (arith, lt, some)));
          within = λ q le ge. parts q (omega (arith, le, low)) ∙ ap (λ b. b || has (cover_of rs) q) (between_in r.first r.last q le ge);
          ends = parts (suc r.last) (omega (arith, low, some)) ∙ either_false _ _ (between_high r.first r.last (suc r.last) (omega arith)) (later (suc r.last) (omega arith));
        }

    first_placed : IsPlaced cover r
    first_placed = record {
      some = h.1;
      below_limit = h.2;
      within = first_run.within;
      is = place_of_first cover least r.first r.last first_run ∙ start ∙ sym h.3;
    }

    rest_same : (q : ℕ) → r.last + 2 ≤ q → has cover q ≡ has (cover_of rs) q
    rest_same q le = parts q (omega (arith, le, h.0, h.1)) ∙ ap (λ b. b || has (cover_of rs) q) (between_high r.first r.last q (omega (arith, le)))

    rest_start : place cover (r.last + 2) ≡ p + (r.last - r.first + 1)
    rest_start =
        let e : r.last + 2 ≡ suc (suc r.last) = omega arith in
        let f : suc r.last ≡ r.last + 1 = omega arith in
        ap (place cover) e ∙ place_stays cover (suc r.last) first_run.ends ∙ ap (place cover) f
        ∙ place_after_run cover least r.first r.last first_run ∙ ap (λ n. n + (r.last - r.first + 1)) start

  placed_at : (least p : ℕ) (rs : List PlacedRun) → ArePlaced least p rs → ((q : ℕ) → least ≤ q → has cover q ≡ has (cover_of rs) q) → place cover least ≡ p → (k : ℕ) (d : PlacedRun) → k < length rs → IsPlaced cover (get_or rs k d)
  placed_at least p [] h same start k d lt = absurd (omega (arith, lt))
  placed_at least p (r ∷ rs) h same start zero d lt = first_placed least p r rs h same start
  placed_at least p (r ∷ rs) h same start (suc k) d lt =
      placed_at (r.last + 2) (p + (r.last - r.first + 1)) rs h.4 (rest_same least p r rs h same start) (rest_start least p r rs h same start) k d (omega (arith, lt))

  size_is : (least p : ℕ) (rs : List PlacedRun) → ArePlaced least p rs → ((q : ℕ) → least ≤ q → has cover q ≡ has (cover_of rs) q) → place cover least ≡ p → size cover ≡ p + total rs
  size_is least p [] h same start = let e = place-end cover least (λ q le. same q le ∙ has-none q) in omega (arith, e, start)
  size_is least p (r ∷ rs) h same start =
      let e = size_is (r.last + 2) (p + (r.last - r.first + 1)) rs h.4 (rest_same least p r rs h same start) (rest_start least p r rs h same start) in
      omega (arith, e)

-- the run with an index
pub run_at : (rs : List PlacedRun) → ArePlaced 0 0 rs → (k : ℕ) (d : PlacedRun) → k < length rs → IsPlaced (cover_of rs) (get_or rs k d)
run_at rs h k d lt = placed_at (cover_of rs) 0 0 rs h (λ q le. refl) (place-zero (cover_of rs)) k d lt

-- ---- the run that a number is in

abbrev IsIn : Bool → ℕ → List PlacedRun → Type 0
IsIn back x [] = ⊥
IsIn back x (r ∷ rs) = ((source back r ≤ x) × (x ≤ source_end back r)) ⊎ IsIn back x rs

in_ranks : (x : ℕ) (rs : List PlacedRun) → has (cover_of rs) x ≡ true → IsIn false x rs
in_ranks x [] one = true≢false (sym one ∙ has-none x)
in_ranks x (r ∷ rs) one = elim (or_cases (has (ranks_between r.first r.last) x) (has (cover_of rs) x) (sym (has-union (ranks_between r.first r.last) (cover_of rs) x) ∙ one)) [
  | inl here ↦ inl (elim (cases_lt x r.first) [
    | inl low ↦ absurd (true≢false (sym here ∙ between_low r.first r.last x low))
    | inr up ↦ elim (cases_lt r.last x) [
      | inl past ↦ absurd (true≢false (sym here ∙ between_high r.first r.last x past))
      | inr le ↦ (up, omega (arith, le, up))
    ]
  ])
  | inr more ↦ inr (in_ranks x rs more)
]

in_places : (x least p : ℕ) (rs : List PlacedRun) → ArePlaced least p rs → p ≤ x → x < p + total rs → IsIn true x rs
in_places x least p [] h low high = absurd (omega (arith, low, high))
in_places x least p (r ∷ rs) h low high = elim (cases_lt x (p + (r.last - r.first + 1))) [
  | inl here ↦ inl (omega (arith, low, h.3), omega (arith, here, h.3))
  | inr past ↦ inr (in_places x (r.last + 2) (p + (r.last - r.first + 1)) rs h.4 past (omega (arith, high)))
]

in_from : (back : Bool) (rs : List PlacedRun) → ArePlaced 0 0 rs → (x : ℕ) → inside back (cover_of rs) x ≡ true → IsIn back x rs
in_from false rs h x one = in_ranks x rs one
in_from true rs h x one =
    let lt : x < size (cover_of rs) = ltb-true x (size (cover_of rs)) one in
    in_places x 0 0 rs h (omega arith) (omega (arith, lt, size_is (cover_of rs) 0 0 rs h (λ q le. refl) (place-zero (cover_of rs))))

-- there are runs where a number is in one
pub some_runs : (back : Bool) (rs : List PlacedRun) → ArePlaced 0 0 rs → (x : ℕ) → inside back (cover_of rs) x ≡ true → 0 < length rs
some_runs back rs h x one = by_case rs (in_from back rs h x one)
  where
    by_case : (xs : List PlacedRun) → IsIn back x xs → 0 < length xs
    by_case [] i = absurd i
    by_case (r ∷ xs) i = omega arith

-- from where on the numbers of the runs are
abbrev from_on : Bool → ℕ → ℕ → ℕ
from_on false least p = least
from_on true least p = p

first_from : (back : Bool) (least p : ℕ) (r : PlacedRun) (rs : List PlacedRun) → ArePlaced least p (r ∷ rs) → from_on back least p ≤ source back r
first_from false least p r rs h = h.0
first_from true least p r rs h = omega (arith, h.3)

-- the next run begins past the end of a run
next_from : (back : Bool) (least p : ℕ) (r : PlacedRun) (rs : List PlacedRun) → ArePlaced least p (r ∷ rs) → source_end back r < from_on back (r.last + 2) (p + (r.last - r.first + 1))
next_from false least p r rs h = omega (arith, h.1)
next_from true least p r rs h = omega (arith, h.3)

source_from : (back : Bool) (least p : ℕ) (rs : List PlacedRun) → ArePlaced least p rs → (k : ℕ) → k < length rs → from_on back least p ≤ source_at back rs k
source_from back least p [] h k lt = absurd (omega (arith, lt))
source_from back least p (r ∷ rs) h zero lt = first_from back least p r rs h
source_from back least p (r ∷ rs) h (suc k) lt = omega (arith, first_from back least p r rs h, next_from back least p r rs h, source_from back (r.last + 2) (p + (r.last - r.first + 1)) rs h.4 k (omega (arith, lt)))

first_in : (back : Bool) (least p x : ℕ) (r : PlacedRun) (rs : List PlacedRun) → ArePlaced least p (r ∷ rs) → IsIn back x (r ∷ rs) → source back r ≤ x
first_in back least p x r rs h (inl here) = here.0
first_in back least p x r [] h (inr later) = absurd later
first_in back least p x r (s ∷ rs) h (inr later) =
    omega (arith, next_from back least p r (s ∷ rs) h, first_from back (r.last + 2) (p + (r.last - r.first + 1)) s rs h.4, first_in back (r.last + 2) (p + (r.last - r.first + 1)) x s rs h.4 later)

-- the run that was found has the number
holds : (back : Bool) (least p : ℕ) (rs : List PlacedRun) → ArePlaced least p rs → (x k : ℕ) → IsIn back x rs → IsFound back rs x k → (d : PlacedRun) → (source back (get_or rs k d) ≤ x) × (x ≤ source_end back (get_or rs k d))
holds back least p [] h x k i found d = absurd i
holds back least p (a ∷ rs) h x zero (inl here) found d = here
holds back least p (a ∷ []) h x zero (inr later) found d = absurd later
holds back least p (a ∷ b ∷ rs) h x zero (inr later) found d =
    let lt : x < source back b = found.next (omega arith) in
    absurd (omega (arith, lt, first_in back (a.last + 2) (p + (a.last - a.first + 1)) x b rs h.4 later))
holds back least p (a ∷ rs) h x (suc k) (inl here) found d =
    let within : suc k < suc (length rs) = found.within in
    let up : source_at back rs k ≤ x = found.begun (omega arith) in
    absurd (omega (arith, up, here.1, next_from back least p a rs h, source_from back (a.last + 2) (p + (a.last - a.first + 1)) rs h.4 k (omega (arith, within))))
holds back least p (a ∷ rs) h x (suc k) (inr later) found d =
    let within : suc k < suc (length rs) = found.within in
    let up : source_at back rs k ≤ x = found.begun (omega arith) in
    holds back (a.last + 2) (p + (a.last - a.first + 1)) rs h.4 x k later (record { within = omega (arith, within); begun = λ lt. up; next = λ lt. found.next (omega (arith, lt)) }) d

-- ---- what becomes of a run

module _ (cover : Ranks) (x : ℕ) (r : PlacedRun) (h : IsPlaced cover r) where
  near : r.place ≤ r.first
  near = omega (arith, h.is, place-le cover r.first)

  place_in : (q : ℕ) → r.first ≤ q → q ≤ r.last → place cover q ≡ r.place + (q - r.first)
  place_in q low high =
      let e : r.first + (q - r.first) ≡ q = omega (arith, low) in
      ap (place cover) (sym e) ∙ place-run cover r.first (q - r.first) (λ y le lt. h.within y le (omega (arith, low, high, lt))) ∙ ap (λ n. n + (q - r.first)) h.is

  pub to_shift : (source false r ≤ x) × (x ≤ source_end false r) → IsShift false cover x r.first r.last r.place
  to_shift here = record {
    start = here.0;
    end = omega (arith, here.1, h.some);
    moved = record { below_limit = omega (arith, near, h.some, h.below_limit); moves = λ q low high. (h.within q low high, place_in q low high) };
  }

  pub back_shift : (source true r ≤ x) × (x ≤ source_end true r) → IsShift true cover x r.place (r.place + (r.last - r.first)) r.first
  back_shift here = record {
    start = here.0;
    end = here.1;
    moved = record {
      below_limit = omega (arith, h.some, h.below_limit);
      moves = λ q low high. (h.within (r.first + (q - r.place)) (omega arith) (omega (arith, low, high, h.some)), place_in (r.first + (q - r.place)) (omega arith) (omega (arith, low, high, h.some)) ∙ omega (arith, low));
    };
  }

  pub ends_fit : r.place + (r.last - r.first) < RANK_LIMIT
  ends_fit = omega (arith, near, h.some, h.below_limit)

pub found_in : (back : Bool) (rs : List PlacedRun) → ArePlaced 0 0 rs → (x k : ℕ) → inside back (cover_of rs) x ≡ true → IsFound back rs x k → (d : PlacedRun) → (source back (get_or rs k d) ≤ x) × (x ≤ source_end back (get_or rs k d))
found_in back rs h x k one found d = holds back 0 0 rs h x k (in_from back rs h x one) found d

-- the first number of a run with an index
pub source_is : (back : Bool) (rs : List PlacedRun) (k : ℕ) (d : PlacedRun) → k < length rs → source back (get_or rs k d) ≡ source_at back rs k
source_is back [] k d lt = absurd (omega (arith, lt))
source_is back (a ∷ rs) zero d lt = refl
source_is back (a ∷ rs) (suc k) d lt = source_is back rs k d (omega (arith, lt))

-- where the run that was found is the last, all greater numbers are in it
pub last_in : (back : Bool) (rs : List PlacedRun) → ArePlaced 0 0 rs → (x k : ℕ) → IsFound back rs x k → k + 1 ≡ length rs → (y : ℕ) → x ≤ y → inside back (cover_of rs) y ≡ true → (d : PlacedRun) → y ≤ source_end back (get_or rs k d)
last_in back rs h x k found end y le one d = (found_in back rs h y k one (record { within = found.within; begun = λ lt. omega (arith, found.begun lt, le); next = λ lt. absurd (omega (arith, lt, end)) }) d).1
