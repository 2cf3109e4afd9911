-- Sets that are walked run by run.
use Rattle.std.proofs.Common.{◌≡◌, ℕ, suc, ◌+◌, ◌-◌, ◌<◌, ◌≤◌, nat_lt, nat_le, nat_eq, Bool, true, false, not, Option, None, Some, ◌&&◌, ◌||◌, refl, sym, ap, ◌∙◌, inl, inr, arith}
use Rattle.std.proofs.lemmas.Bool.{cases_Bool, cases_lt, cases_eq, true≢false, lt-ltb, le-ltb, lt-leb, le-leb, eq-eqb, ne_eqb, eqb-true}
use Rattle.rank_set.specs.Ranks.{Ranks, none, has, those, union, is_subset, is_empty, has-none, has-those, has-union, same_ranks, subset_has, subset_from, none_from_size}
use Rattle.std.specs.Prelude.{IfSome, IfNone, is_some}
use Rattle.rank_set.specs.declared.Run.{Run}
use Rattle.rank_set.specs.Runs.{ranks_between, IsRun, up_to}
use Rattle.rank_set.proofs.RunSets.{between_in, between_low, between_high}
use Rattle.rank_set.proofs.RunSearch.{in_part, past_part}

-- a rank of a run lies in it
pub between_parts : (first last q : ℕ) → has (ranks_between first last) q ≡ true → (first ≤ q) × (q ≤ last)
between_parts first last q one = elim (cases_lt q first) [
  | inl low ↦ absurd (true≢false (sym one ∙ between_low first last q low))
  | inr up ↦ elim (cases_lt last q) [
    | inl past ↦ absurd (true≢false (sym one ∙ between_high first last q past))
    | inr to ↦ (up, to)
  ]
]

-- sets that have a rank in common meet
pub meet : (s t : Ranks) (q : ℕ) → has s q ≡ true → has t q ≡ true → is_empty (those (has t) s) ≡ false
meet s t q one two = elim (cases_Bool (is_empty (those (has t) s))) [
  | inl e ↦ absurd (true≢false (sym (λ i. one i && two i) ∙ sym (has-those (has t) s q) ∙ ap (λ u. has u q) (none_from_size (those (has t) s) (eqb-true _ 0 e)) ∙ has-none q))
  | inr e ↦ e
]

-- a set with a rank that the other lacks is no subset of it
pub not_subset : (s t : Ranks) (q : ℕ) → has s q ≡ true → has t q ≡ false → is_subset s t ≡ false
not_subset s t q one other = elim (cases_Bool (is_subset s t)) [
  | inl e ↦ absurd (true≢false (sym (subset_has s t e q one) ∙ other))
  | inr e ↦ e
]

module _ (t : Ranks) (first last : ℕ) where
  -- a run of which a set lacks the first rank
  pub lacks_first : first ≤ last → has t first ≡ false → is_subset (ranks_between first last) t ≡ false
  lacks_first some e = not_subset (ranks_between first last) t first (between_in first last first (omega arith) some) e

  -- a run is in a set exactly if it is the next run up to its last rank
  pub has_run_is : (a b : ℕ) → first ≤ last → IsRun (up_to last t) first a b → (nat_eq a first && nat_eq b last) ≡ is_subset (ranks_between first last) t
  has_run_is a b some run = elim (cases_eq a first) [
    | inl same ↦ elim (cases_eq b last) [
      | inl all ↦ (λ i. eq-eqb a first same i && eq-eqb b last all i) ∙ sym (subset_from (ranks_between first last) t (λ q one.
          let in_it = between_parts first last q one in
          sym (in_part t last q in_it.1) ∙ run.within q (omega (arith, same, in_it.0)) (omega (arith, all, in_it.1))))
      | inr other ↦
          let lt : b < last = elim (cases_lt last b) [
            | inl past ↦ absurd (true≢false (sym (run.within b run.some (omega arith)) ∙ past_part t last b past))
            | inr le ↦ elim (cases_lt b last) [ inl less ↦ less | inr ge ↦ absurd (other (omega (arith, le, ge))) ]
          ] in
          (λ i. eq-eqb a first same i && ne_eqb b last other i)
          ∙ sym (not_subset (ranks_between first last) t (suc b) (between_in first last (suc b) (omega (arith, same, run.some)) (omega (arith, lt))) (sym (in_part t last (suc b) (omega (arith, lt))) ∙ run.ends))
    ]
    | inr other ↦
        ap (λ x. x && nat_eq b last) (ne_eqb a first other)
        ∙ sym (lacks_first some (sym (in_part t last first some) ∙ run.passed first (omega arith) (elim (cases_lt first a) [ inl lt ↦ lt | inr ge ↦ absurd (other (omega (arith, ge, run.start))) ])))
  ]

module _ (s t : Ranks) where
  -- all ranks of the first set below a number are in the second
  abbrev pub IsInBelow : ℕ → Type 0
  IsInBelow from = (q : ℕ) → q < from → has s q ≡ true → has t q ≡ true

  pub in_step : (from first last : ℕ) → IsInBelow from → IsRun s from first last → is_subset (ranks_between first last) t ≡ true → IsInBelow (last + 1)
  in_step from first last done run within = λ q lt one. elim (cases_lt q from) [
    | inl low ↦ done q low one
    | inr up ↦ elim (cases_lt q first) [
      | inl before ↦ absurd (true≢false (sym one ∙ run.passed q up before))
      | inr at ↦ subset_has (ranks_between first last) t within q (between_in first last q at (omega (arith, lt)))
    ]
  ]

  pub in_all : (from : ℕ) → IsInBelow from → ((q : ℕ) → from ≤ q → has s q ≡ false) → is_subset s t ≡ true
  in_all from done none_left = subset_from s t (λ q one. elim (cases_lt q from) [
    | inl low ↦ done q low one
    | inr up ↦ absurd (true≢false (sym one ∙ none_left q up))
  ])

  pub in_fails : (from first last : ℕ) → IsRun s from first last → is_subset (ranks_between first last) t ≡ false → is_subset s t ≡ false
  in_fails from first last run out = elim (cases_Bool (is_subset s t)) [
    | inl all ↦ absurd (true≢false (sym (subset_from (ranks_between first last) t (λ q one. let in_it = between_parts first last q one in subset_has s t all q (run.within q in_it.0 in_it.1))) ∙ out))
    | inr e ↦ e
  ]

  -- no rank of the first set below a number is in the second
  abbrev pub IsOutBelow : ℕ → Type 0
  IsOutBelow from = (q : ℕ) → q < from → has s q ≡ true → has t q ≡ false

  pub out_step : (from first last : ℕ) → IsOutBelow from → IsRun s from first last → ((q : ℕ) → first ≤ q → q ≤ last → has t q ≡ false) → IsOutBelow (last + 1)
  out_step from first last done run none_there = λ q lt one. elim (cases_lt q from) [
    | inl low ↦ done q low one
    | inr up ↦ elim (cases_lt q first) [
      | inl before ↦ absurd (true≢false (sym one ∙ run.passed q up before))
      | inr at ↦ none_there q at (omega (arith, lt))
    ]
  ]

  pub out_all : (from : ℕ) → IsOutBelow from → ((q : ℕ) → from ≤ q → has s q ≡ false) → is_empty (those (has t) s) ≡ true
  out_all from done none_left = ap is_empty (same_ranks (those (has t) s) none (λ q. has-those (has t) s q ∙ no_member q ∙ sym (has-none q)))
    where
      and_false : (b : Bool) → (b && false) ≡ false
      and_false true = refl
      and_false false = refl

      no_member : (q : ℕ) → (has s q && has t q) ≡ false
      no_member q = elim (cases_lt q from) [
        | inl low ↦ elim (cases_Bool (has s q)) [
          | inl one ↦ ap (λ b. has s q && b) (done q low one) ∙ and_false (has s q)
          | inr e ↦ ap (λ b. b && has t q) e
        ]
        | inr up ↦ ap (λ b. b && has t q) (none_left q up)
      ]

  pub out_fails : (from first last a b : ℕ) → IsRun s from first last → IsRun (up_to last t) first a b → is_empty (those (has t) s) ≡ false
  out_fails from first last a b run met =
      let to : a ≤ last = elim (cases_lt last a) [
        | inl past ↦ absurd (true≢false (sym (met.within a (omega arith) met.some) ∙ past_part t last a past))
        | inr le ↦ omega (arith, le)
      ] in
      meet s t a (run.within a met.start to) (sym (in_part t last a to) ∙ met.within a (omega arith) met.some)

  -- the ranks of the first set below a number that are not in the second
  abbrev pub IsRestBelow : Ranks → ℕ → Type 0
  IsRestBelow rest from = (q : ℕ) → has rest q ≡ (has s q && (nat_lt q from && not (has t q)))

  pub rest_start : IsRestBelow none 0
  rest_start q = has-none q ∙ sym (ap (λ b. has s q && (b && not (has t q))) (le-ltb q 0 (omega arith)) ∙ and_false (has s q))
    where
      and_false : (b : Bool) → (b && false) ≡ false
      and_false true = refl
      and_false false = refl

  pub rest_step : (rest more : Ranks) (from first last : ℕ) → IsRestBelow rest from → IsRun s from first last → more ≡ union rest (those (λ r. not (has t r)) (ranks_between first last)) → IsRestBelow more (last + 1)
  rest_step rest more from first last done run is q =
      let all : has more q ≡ ((has s q && (nat_lt q from && not (has t q))) || (has (ranks_between first last) q && not (has t q))) =
      ap (λ u. has u q) is ∙ has-union rest _ q ∙ (λ i. done q i || has-those (λ r. not (has t r)) (ranks_between first last) q i) in
      all ∙ elim (cases_lt q from) [
        | inl low ↦
            (λ i. (has s q && (lt-ltb q from low i && not (has t q))) || (between_low first last q (omega (arith, low, run.start)) i && not (has t q)))
            ∙ or_false (has s q && (true && not (has t q))) ∙ ap (λ b. has s q && (b && not (has t q))) (sym (lt-ltb q (last + 1) (omega (arith, low, run.start, run.some))))
        | inr up ↦ elim (cases_lt q first) [
          | inl before ↦
              (λ i. (run.passed q up before i && (nat_lt q from && not (has t q))) || (between_low first last q before i && not (has t q)))
              ∙ sym (ap (λ b. b && (nat_lt q (last + 1) && not (has t q))) (run.passed q up before))
          | inr at ↦ elim (cases_lt last q) [
            | inl past ↦
                (λ i. (has s q && (le-ltb q from up i && not (has t q))) || (between_high first last q past i && not (has t q)))
                ∙ or_false (has s q && false) ∙ ap (λ b. has s q && (b && not (has t q))) (sym (le-ltb q (last + 1) (omega (arith, past))))
            | inr to ↦
                (λ i. (has s q && (le-ltb q from up i && not (has t q))) || (between_in first last q at to i && not (has t q)))
                ∙ ap (λ b. b || not (has t q)) (and_false (has s q))
                ∙ sym (λ i. run.within q at to i && (lt-ltb q (last + 1) (omega (arith, to)) i && not (has t q)))
          ]
        ]
      ]
    where
      and_false : (b : Bool) → (b && false) ≡ false
      and_false true = refl
      and_false false = refl

      or_false : (b : Bool) → (b || false) ≡ b
      or_false true = refl
      or_false false = refl

  pub rest_all : (rest : Ranks) (from : ℕ) → IsRestBelow rest from → ((q : ℕ) → from ≤ q → has s q ≡ false) → rest ≡ those (λ r. not (has t r)) s
  rest_all rest from done none_left = same_ranks _ _ (λ q. done q ∙ whole q ∙ sym (has-those (λ r. not (has t r)) s q))
    where
      whole : (q : ℕ) → (has s q && (nat_lt q from && not (has t q))) ≡ (has s q && not (has t q))
      whole q = elim (cases_lt q from) [
        | inl low ↦ ap (λ b. has s q && (b && not (has t q))) (lt-ltb q from low)
        | inr up ↦ ap (λ b. b && (nat_lt q from && not (has t q))) (none_left q up) ∙ sym (ap (λ b. b && not (has t q)) (none_left q up))
      ]

-- a rest with no second set: the ranks below a number
module _ (s : Ranks) where
  abbrev pub IsPartBelow : Ranks → ℕ → Type 0
  IsPartBelow part from = (q : ℕ) → has part q ≡ (has s q && nat_lt q from)

  and_false : (b : Bool) → (b && false) ≡ false
  and_false true = refl
  and_false false = refl

  and_true : (b : Bool) → (b && true) ≡ b
  and_true true = refl
  and_true false = refl

  or_false : (b : Bool) → (b || false) ≡ b
  or_false true = refl
  or_false false = refl

  pub part_start : IsPartBelow none 0
  part_start q = has-none q ∙ sym (ap (λ b. has s q && b) (le-ltb q 0 (omega arith)) ∙ and_false (has s q))

  pub part_step : (part more : Ranks) (from first last : ℕ) → IsPartBelow part from → IsRun s from first last → more ≡ union part (ranks_between first last) → IsPartBelow more (last + 1)
  part_step part more from first last done run is q =
      let all : has more q ≡ ((has s q && nat_lt q from) || has (ranks_between first last) q) = ap (λ u. has u q) is ∙ has-union part _ q ∙ ap (λ b. b || has (ranks_between first last) q) (done q) in
      all ∙ elim (cases_lt q from) [
        | inl low ↦
            (λ i. (has s q && lt-ltb q from low i) || between_low first last q (omega (arith, low, run.start)) i)
            ∙ or_false (has s q && true) ∙ ap (λ b. has s q && b) (sym (lt-ltb q (last + 1) (omega (arith, low, run.start, run.some))))
        | inr up ↦ elim (cases_lt q first) [
          | inl before ↦
              (λ i. (run.passed q up before i && nat_lt q from) || between_low first last q before i)
              ∙ sym (ap (λ b. b && nat_lt q (last + 1)) (run.passed q up before))
          | inr at ↦ elim (cases_lt last q) [
            | inl past ↦
                (λ i. (has s q && le-ltb q from up i) || between_high first last q past i)
                ∙ or_false (has s q && false) ∙ ap (λ b. has s q && b) (sym (le-ltb q (last + 1) (omega (arith, past))))
            | inr to ↦
                (λ i. (has s q && le-ltb q from up i) || between_in first last q at to i)
                ∙ ap (λ b. b || true) (and_false (has s q))
                ∙ sym (λ i. run.within q at to i && lt-ltb q (last + 1) (omega (arith, to)) i)
          ]
        ]
      ]

  pub part_all : (part : Ranks) (from : ℕ) → IsPartBelow part from → ((q : ℕ) → from ≤ q → has s q ≡ false) → part ≡ s
  part_all part from done none_left = same_ranks _ _ (λ q. done q ∙ elim (cases_lt q from) [
    | inl low ↦ ap (λ b. has s q && b) (lt-ltb q from low) ∙ and_true (has s q)
    | inr up ↦ ap (λ b. b && nat_lt q from) (none_left q up) ∙ sym (none_left q up)
  ])

-- the gaps that a set leaves in a run, below a number
module _ (t old : Ranks) (first last : ℕ) where
  abbrev pub AreGapsBelow : Ranks → ℕ → Type 0
  AreGapsBelow out from = (q : ℕ) → has out q ≡ (has old q || (nat_le first q && (nat_lt q from && not (has t q))))

  and_false_ : (b : Bool) → (b && false) ≡ false
  and_false_ true = refl
  and_false_ false = refl

  or_false_ : (b : Bool) → (b || false) ≡ b
  or_false_ true = refl
  or_false_ false = refl

  or_true_ : (b : Bool) → (b || true) ≡ true
  or_true_ true = refl
  or_true_ false = refl

  pub gaps_start : AreGapsBelow old first
  gaps_start q = sym (or_false_ (has old q)) ∙ ap (λ b. has old q || b) (sym (elim (cases_lt q first) [
    | inl low ↦ ap (λ b. b && (nat_lt q first && not (has t q))) (lt-leb first q low)
    | inr up ↦ ap (λ b. nat_le first q && (b && not (has t q))) (le-ltb q first up) ∙ and_false_ (nat_le first q)
  ]))

  -- a number further on, where all ranks between are in the gaps that are added, or in the set
  pub gaps_step : (out more : Ranks) (from a to : ℕ) → first ≤ from → from ≤ a → a ≤ to → AreGapsBelow out from
      → ((q : ℕ) → from ≤ q → q < a → has t q ≡ false) → ((q : ℕ) → a ≤ q → q < to → has t q ≡ true)
      → ((q : ℕ) → has more q ≡ (has out q || (nat_le from q && nat_lt q a))) → AreGapsBelow more to
  gaps_step out more from a to up le le_to done gap hole is q =
      is q ∙ ap (λ b. b || (nat_le from q && nat_lt q a)) (done q)
      ∙ elim (cases_lt q from) [
        | inl low ↦
            (λ i. (has old q || (nat_le first q && (lt-ltb q from low i && not (has t q)))) || (lt-leb from q low i && nat_lt q a))
            ∙ or_false_ (has old q || (nat_le first q && (true && not (has t q))))
            ∙ ap (λ b. has old q || (nat_le first q && (b && not (has t q)))) (sym (lt-ltb q to (omega (arith, low, le, le_to))))
        | inr at ↦
            ap (λ b. (has old q || (nat_le first q && (b && not (has t q)))) || (nat_le from q && nat_lt q a)) (le-ltb q from at)
            ∙ ap (λ b. (has old q || b) || (nat_le from q && nat_lt q a)) (and_false_ (nat_le first q))
            ∙ ap (λ b. b || (nat_le from q && nat_lt q a)) (or_false_ (has old q))
            ∙ elim (cases_lt q a) [
              | inl before ↦
                  (λ i. has old q || (le-leb from q at i && lt-ltb q a before i))
                  ∙ sym (λ i. has old q || (le-leb first q (omega (arith, up, at)) i && (lt-ltb q to (omega (arith, before, le_to)) i && not (gap q at before i))))
              | inr past ↦
                  ap (λ b. has old q || (nat_le from q && b)) (le-ltb q a past) ∙ ap (λ b. has old q || b) (and_false_ (nat_le from q))
                  ∙ elim (cases_lt q to) [
                    | inl inner ↦ sym (ap (λ b. has old q || (nat_le first q && (nat_lt q to && not b))) (hole q past inner) ∙ ap (λ b. has old q || (nat_le first q && b)) (and_false_ (nat_lt q to)) ∙ ap (λ b. has old q || b) (and_false_ (nat_le first q)))
                    | inr beyond ↦ sym (ap (λ b. has old q || (nat_le first q && (b && not (has t q)))) (le-ltb q to beyond) ∙ ap (λ b. has old q || b) (and_false_ (nat_le first q)))
                  ]
            ]
      ]

  -- what a run adds
  pub gap_added : (out more : Ranks) (from a : ℕ) → from < a → more ≡ union out (ranks_between from (a - 1)) → (q : ℕ) → has more q ≡ (has out q || (nat_le from q && nat_lt q a))
  gap_added out more from a lt is q = ap (λ u. has u q) is ∙ has-union out (ranks_between from (a - 1)) q ∙ ap (λ b. has out q || b) (elim (cases_lt q from) [
    | inl low ↦ between_low from (a - 1) q low ∙ sym (ap (λ b. b && nat_lt q a) (lt-leb from q low))
    | inr up ↦ elim (cases_lt q a) [
      | inl before ↦ between_in from (a - 1) q up (omega (arith, before)) ∙ sym (λ i. le-leb from q up i && lt-ltb q a before i)
      | inr past ↦ between_high from (a - 1) q (omega (arith, past, lt)) ∙ sym (ap (λ b. nat_le from q && b) (le-ltb q a past) ∙ and_false_ (nat_le from q))
    ]
  ])

  -- nothing is added where there is no gap
  pub no_gap : (out : Ranks) (from a : ℕ) → a ≤ from → (q : ℕ) → has out q ≡ (has out q || (nat_le from q && nat_lt q a))
  no_gap out from a le q = sym (ap (λ b. has out q || b) (elim (cases_lt q from) [
    | inl low ↦ ap (λ b. b && nat_lt q a) (lt-leb from q low)
    | inr up ↦ ap (λ b. nat_le from q && b) (le-ltb q a (omega (arith, up, le))) ∙ and_false_ (nat_le from q)
  ]) ∙ or_false_ (has out q))

  pub gaps_all : (out : Ranks) → first ≤ last → AreGapsBelow out (last + 1) → out ≡ union old (those (λ r. not (has t r)) (ranks_between first last))
  gaps_all out some done = same_ranks _ _ (λ q. done q ∙ ap (λ b. has old q || b) (elim (cases_lt q first) [
    | inl low ↦ ap (λ b. b && (nat_lt q (last + 1) && not (has t q))) (lt-leb first q low) ∙ sym (ap (λ b. b && not (has t q)) (between_low first last q low))
    | inr up ↦ elim (cases_lt last q) [
      | inl past ↦ ap (λ b. nat_le first q && (b && not (has t q))) (le-ltb q (last + 1) (omega (arith, past))) ∙ and_false_ (nat_le first q) ∙ sym (ap (λ b. b && not (has t q)) (between_high first last q past))
      | inr to ↦ (λ i. le-leb first q up i && (lt-ltb q (last + 1) (omega (arith, to)) i && not (has t q))) ∙ sym (ap (λ b. b && not (has t q)) (between_in first last q up to))
    ]
  ] ∙ sym (has-those (λ r. not (has t r)) (ranks_between first last) q)) ∙ sym (has-union old _ q))

-- a run of the part of a set up to a number ends there at the latest
pub cut_end : (s : Ranks) (from to first last : ℕ) → IsRun (up_to to s) from first last → last ≤ to
cut_end s from to first last run = elim (cases_lt to last) [
  | inl past ↦ absurd (true≢false (sym (run.within last run.some (omega arith)) ∙ past_part s to last past))
  | inr le ↦ omega (arith, le)
]

-- the ranks of a run up to a number are in the set
pub cut_has : (s : Ranks) (from to first last q : ℕ) → IsRun (up_to to s) from first last → first ≤ q → q ≤ last → has s q ≡ true
cut_has s from to first last q run up le = sym (in_part s to q (omega (arith, le, cut_end s from to first last run))) ∙ run.within q up le

-- and those before it are not
pub cut_lacks : (s : Ranks) (from to first last q : ℕ) → IsRun (up_to to s) from first last → from ≤ q → q < first → has s q ≡ false
cut_lacks s from to first last q run up lt = sym (in_part s to q (omega (arith, lt, run.some, cut_end s from to first last run))) ∙ run.passed q up lt

-- a run is met where a set has a run within it
pub is_met : (s t : Ranks) (from first last : ℕ) (o : Option Run) → is_some o ≡ true → IsRun s from first last → IfSome o (λ r. IsRun (up_to last t) first r.first r.last) → is_empty (those (has t) s) ≡ false
is_met s t from first last None nothing run met = absurd (true≢false (sym nothing))
is_met s t from first last (Some r) one run met = out_fails s t from first last r.first r.last run met

-- and else is not
pub is_unmet : (t : Ranks) (first last : ℕ) (o : Option Run) → is_some o ≡ false → IfNone o ((q : ℕ) → first ≤ q → q ≤ last → has t q ≡ false) → (q : ℕ) → first ≤ q → q ≤ last → has t q ≡ false
is_unmet t first last None _ unmet = unmet
is_unmet t first last (Some r) one unmet = absurd (true≢false one)

-- each set is a subset of itself
pub subset_itself : (s : Ranks) → is_subset s s ≡ true
subset_itself s = subset_from s s (λ r one. one)

-- sets that are subsets of one another are the same
pub same_by_subsets : (s t : Ranks) → is_subset s t ≡ true → is_subset t s ≡ true → s ≡ t
same_by_subsets s t one two = same_ranks s t (λ q. elim (cases_Bool (has s q)) [
  | inl e ↦ e ∙ sym (subset_has s t one q e)
  | inr e ↦ e ∙ sym (elim (cases_Bool (has t q)) [
    | inl f ↦ absurd (true≢false (sym (subset_has t s two q f) ∙ e))
    | inr f ↦ f
  ])
])

-- what is left of a set without what it has beside another is what it has of the other
pub rest_of_rest : (s t : Ranks) → those (λ r. not (has (those (λ q. not (has t q)) s) r)) s ≡ those (λ r. has t r) s
rest_of_rest s t = same_ranks _ _ (λ q.
    has-those (λ r. not (has (those (λ q. not (has t q)) s) r)) s q ∙ ap (λ b. has s q && not b) (has-those (λ r. not (has t r)) s q)
    ∙ both (has s q) (has t q) ∙ sym (has-those (λ r. has t r) s q))
  where
    both : (a b : Bool) → (a && not (a && not b)) ≡ (a && b)
    both true true = refl
    both true false = refl
    both false b = refl

-- sets have no common rank in either order
pub met_either_way : (s t : Ranks) → is_empty (those (has s) t) ≡ is_empty (those (has t) s)
met_either_way s t = ap is_empty (same_ranks _ _ (λ q. has-those (has s) t q ∙ swap (has t q) (has s q) ∙ sym (has-those (has t) s q)))
  where
    swap : (a b : Bool) → (a && b) ≡ (b && a)
    swap true true = refl
    swap true false = refl
    swap false true = refl
    swap false false = refl

-- nothing is left of a subset
pub no_rest_of_subset : (s t : Ranks) → is_subset s t ≡ true → those (λ r. not (has t r)) s ≡ none
no_rest_of_subset s t all = same_ranks _ _ (λ q. has-those (λ r. not (has t r)) s q ∙ elim (cases_Bool (has s q)) [
  | inl one ↦ ap (λ b. has s q && not b) (subset_has s t all q one) ∙ and_false s (has s q)
  | inr e ↦ ap (λ b. b && not (has t q)) e
] ∙ sym (has-none q))

-- a rank in a gap of the second set is not in it
pub gap_has : (s t : Ranks) (from first last to : ℕ) (o : Option Run) → is_some o ≡ true → IsRun t from first last → to + 1 ≡ first → IfSome o (λ r. IsRun (up_to to s) from r.first r.last) → is_subset s t ≡ false
gap_has s t from first last to None nothing run next met = absurd (true≢false (sym nothing))
gap_has s t from first last to (Some r) one run next met =
    let end = cut_end s from to r.first r.last met in
    not_subset s t r.first (cut_has s from to r.first r.last r.first met (omega arith) met.some) (run.passed r.first met.start (omega (arith, next, end, met.some)))

-- the ranks up to the end of a run are in the second set if its gap has none of the first
pub gap_step : (s t : Ranks) (from first last : ℕ) → IsInBelow s t from → IsRun t from first last → ((q : ℕ) → from ≤ q → q < first → has s q ≡ false) → IsInBelow s t (last + 1)
gap_step s t from first last done run gap = λ q lt one. elim (cases_lt q from) [
  | inl low ↦ done q low one
  | inr up ↦ elim (cases_lt q first) [
    | inl before ↦ absurd (true≢false (sym one ∙ gap q up before))
    | inr at ↦ run.within q at (omega (arith, lt))
  ]
]

-- behind the last run there is a gap
pub last_gap : (s t : Ranks) (from end : ℕ) (o : Option Run) → IsInBelow s t from → ((q : ℕ) → from ≤ q → has t q ≡ false) → ((r : ℕ) → has s r ≡ true → r < end)
    → IfNone o ((q : ℕ) → from ≤ q → q ≤ end → has s q ≡ false) → IfSome o (λ r. IsRun (up_to end s) from r.first r.last) → not (is_some o) ≡ is_subset s t
last_gap s t from end None done none_left small unmet met = sym (subset_from s t (λ q one. elim (cases_lt q from) [
  | inl low ↦ done q low one
  | inr up ↦ absurd (true≢false (sym one ∙ unmet q up (omega (arith, small q one))))
]))
last_gap s t from end (Some r) done none_left small unmet met =
    sym (not_subset s t r.first (cut_has s from end r.first r.last r.first met (omega arith) met.some) (none_left r.first met.start))
