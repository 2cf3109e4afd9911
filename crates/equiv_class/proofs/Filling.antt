-- The ranks of a set go to those of their states, one after another.
use Rattle.std.proofs.Common.{◌≡◌, ℕ, zero, suc, ◌<◌, ◌≤◌, ◌-◌, Bool, true, false, ◌&&◌, ◌||◌, eqb, ltb, List, [], ◌∷◌, length, get_or, replicate, refl, sym, ap, ◌∙◌, inl, inr, arith}
use Rattle.std.proofs.lemmas.Bool.{true≢false, and_from, cases_eq, cases_lt, eq-eqb, ne_eqb, lt-ltb, le-ltb}
use Rattle.std.proofs.Math.Bool.{or-false, or-true}
use Rattle.rank_set.specs.Ranks.{Ranks, none, has, those, union, has-none, has-those, has-union, same_ranks}
use Rattle.rank_set.specs.Runs.{IsRun, ranks_between}
use Rattle.rank_set.proofs.RunSets.{between_in, between_low, between_high}
use Rattle.equiv_class.specs.States.{AreTables}
use Rattle.equiv_class.proofs.Cuts.{those-on}

-- a rank is of the state, and below an end
abbrev pub of_state_below : List ℕ → ℕ → ℕ → ℕ → Bool
of_state_below states k q s = eqb (get_or states s 0) k && ltb s q

-- each state has its ranks below an end
pub record AreFilled (E : Ranks) (states : List ℕ) (q : ℕ) (ranks : ℕ → Ranks) : Type 0 where
  pub filled : (k : ℕ) → ranks k ≡ those (of_state_below states k q) E

and_false : (a b : Bool) → (a && (b && false)) ≡ false
and_false true true = refl
and_false true false = refl
and_false false b = refl

pub fill_start : (E : Ranks) (states : List ℕ) (ranks : ℕ → Ranks) → ((k : ℕ) → ranks k ≡ none) → AreFilled E states 0 ranks
fill_start E states ranks is = record {
  filled = λ k. is k
      ∙ same_ranks _ _ (λ s. has-none s ∙ sym (has-those (of_state_below states k 0) E s ∙ ap (λ b. has E s && (eqb (get_or states s 0) k && b)) (le-ltb s 0 (omega arith))
      ∙ and_false (has E s) (eqb (get_or states s 0) k)));
}

-- where no member lies between, a member is below both ends or below none
pub same_side : (E : Ranks) (from first last : ℕ) → IsRun E from first last → (s : ℕ) → has E s ≡ true → ltb s from ≡ ltb s first
same_side E from first last run s member = elim (cases_lt s from) [
  | inl lt ↦ lt-ltb s from lt ∙ sym (lt-ltb s first (omega (arith, lt, run.start)))
  | inr ge ↦ elim (cases_lt s first) [
    | inl lt ↦ absurd (true≢false (sym member ∙ run.passed s ge lt))
    | inr le ↦ le-ltb s from ge ∙ sym (le-ltb s first le)
  ]
]

-- and nothing changes
pub fill_gap : (E : Ranks) (states : List ℕ) (from first last : ℕ) (ranks : ℕ → Ranks) → IsRun E from first last → AreFilled E states from ranks
    → AreFilled E states first ranks
fill_gap E states from first last ranks run h = record {
  filled = λ k. h.filled k
      ∙ those-on E (of_state_below states k from) (of_state_below states k first) (λ s member. ap (λ b. eqb (get_or states s 0) k && b) (same_side E from first last run s member));
}

-- the ranks from r to before e, which are of one state
module _ (E : Ranks) (states : List ℕ) (r e : ℕ) (some : r < e) (members : (q : ℕ) → r ≤ q → q < e → has E q ≡ true) (same : (q : ℕ) → r ≤ q → q < e → get_or states q 0 ≡ get_or states r 0) where
  -- outside of these ranks the ends make no difference
  outside : (k q : ℕ) → (r ≤ q → q < e → ⊥) → of_state_below states k r q ≡ of_state_below states k e q
  outside k q out = ap (λ b. eqb (get_or states q 0) k && b) (elim (cases_lt q r) [
    | inl lt ↦ lt-ltb q r lt ∙ sym (lt-ltb q e (omega (arith, lt, some)))
    | inr ge ↦ elim (cases_lt q e) [
      | inl lt ↦ absurd (out ge lt)
      | inr past ↦ le-ltb q r ge ∙ sym (le-ltb q e past)
    ]
  ])

  -- the set of their state gets the ranks
  own_set : union (those (of_state_below states (get_or states r 0) r) E) (ranks_between r (e - 1)) ≡ those (of_state_below states (get_or states r 0) e) E
  own_set = same_ranks _ _ (λ q. has-union (those (of_state_below states (get_or states r 0) r) E) (ranks_between r (e - 1)) q
      ∙ ap (λ b. b || has (ranks_between r (e - 1)) q) (has-those (of_state_below states (get_or states r 0) r) E q)
      ∙ each q ∙ sym (has-those (of_state_below states (get_or states r 0) e) E q))
    where
      missed : (q : ℕ) → (r ≤ q → q < e → ⊥) → has (ranks_between r (e - 1)) q ≡ false → ((has E q && of_state_below states (get_or states r 0) r q) || has (ranks_between r (e - 1)) q) ≡ (has E q && of_state_below states (get_or states r 0) e q)
      missed q out none_here =
          ap (λ b. (has E q && of_state_below states (get_or states r 0) r q) || b) none_here
          ∙ or-false (has E q && of_state_below states (get_or states r 0) r q)
          ∙ ap (λ b. has E q && b) (outside (get_or states r 0) q out)

      each : (q : ℕ) → ((has E q && of_state_below states (get_or states r 0) r q) || has (ranks_between r (e - 1)) q) ≡ (has E q && of_state_below states (get_or states r 0) e q)
      each q = elim (cases_lt q r) [
        | inl lt ↦ missed q (λ ge _. omega (arith, lt, ge)) (between_low r (e - 1) q lt)
        | inr ge ↦ elim (cases_lt q e) [
          | inl lt ↦
              ap (λ b. (has E q && of_state_below states (get_or states r 0) r q) || b) (between_in r (e - 1) q ge (omega (arith, lt)))
              ∙ or-true (has E q && of_state_below states (get_or states r 0) r q)
              ∙ sym (and_from (has E q) (of_state_below states (get_or states r 0) e q) (members q ge lt)
              (and_from (eqb (get_or states q 0) (get_or states r 0)) (ltb q e) (eq-eqb _ _ (same q ge lt)) (lt-ltb q e lt)))
          | inr past ↦ missed q (λ _ lt. omega (arith, lt, past)) (between_high r (e - 1) q (omega (arith, past, some)))
        ]
      ]

  -- the others stay
  other_set : (k : ℕ) → (k ≡ get_or states r 0 → ⊥) → those (of_state_below states k r) E ≡ those (of_state_below states k e) E
  other_set k ne = those-on E (of_state_below states k r) (of_state_below states k e) (λ q _. each q)
    where
      each : (q : ℕ) → of_state_below states k r q ≡ of_state_below states k e q
      each q = elim (cases_lt q r) [
        | inl lt ↦ outside k q (λ ge _. omega (arith, lt, ge))
        | inr ge ↦ elim (cases_lt q e) [
          | inl lt ↦
              let other : eqb (get_or states q 0) k ≡ false = ne_eqb _ _ (λ is_k. ne (sym is_k ∙ same q ge lt)) in
              ap (λ b. b && ltb q r) other ∙ sym (ap (λ b. b && ltb q e) other)
          | inr past ↦ outside k q (λ _ lt. omega (arith, lt, past))
        ]
      ]

  pub fill_step : (ranks ranks' : ℕ → Ranks) → ranks' (get_or states r 0) ≡ union (ranks (get_or states r 0)) (ranks_between r (e - 1)) → ((k : ℕ) → (k ≡ get_or states r 0 → ⊥) → ranks' k ≡ ranks k)
      → AreFilled E states r ranks → AreFilled E states e ranks'
  fill_step ranks ranks' own_is others h =
      let own : ℕ = get_or states r 0 in
      record {
        filled = λ k. elim (cases_eq k own) [
          | inl is_own ↦ ap ranks' is_own ∙ own_is ∙ ap (λ S. union S (ranks_between r (e - 1))) (h.filled own) ∙ own_set ∙ ap (λ x. those (of_state_below states x e) E) (sym is_own)
          | inr ne ↦ others k ne ∙ h.filled k ∙ other_set k ne
        ];
      }

-- whether two numbers are equal does not depend on their order
pub turned : (a b : ℕ) → eqb a b ≡ eqb b a
turned a b = elim (cases_eq a b) [ inl e ↦ eq-eqb a b e ∙ sym (eq-eqb b a (sym e)) | inr ne ↦ ne_eqb a b ne ∙ sym (ne_eqb b a (λ e. ne (sym e))) ]

-- when all have gone to their states
pub fill_end : (E : Ranks) (states : List ℕ) (q : ℕ) (ranks : ℕ → Ranks) → AreFilled E states q ranks → ((r : ℕ) → q ≤ r → has E r ≡ false)
    → (k : ℕ) → ranks k ≡ those (λ s. eqb k (get_or states s 0)) E
fill_end E states q ranks h passed k =
    h.filled k ∙ those-on E (of_state_below states k q) (λ s. eqb k (get_or states s 0)) each
  where
    and_true : (b : Bool) → (b && true) ≡ b
    and_true true = refl
    and_true false = refl

    each : (s : ℕ) → has E s ≡ true → of_state_below states k q s ≡ eqb k (get_or states s 0)
    each s in_E = elim (cases_lt s q) [
      | inl lt ↦ ap (λ b. eqb (get_or states s 0) k && b) (lt-ltb s q lt) ∙ and_true (eqb (get_or states s 0) k) ∙ turned (get_or states s 0) k
      | inr ge ↦ absurd (true≢false (sym in_E ∙ passed s ge))
    ]

-- a list of zeros has nothing else
pub zeros : (n r : ℕ) → get_or {A = ℕ} (replicate n 0) r 0 ≡ 0
zeros zero r = refl
zeros (suc n) zero = refl
zeros (suc n) (suc r) = zeros n r

-- at first all ranks have the one state 0
pub tables_start : (states next : List ℕ) → ((r : ℕ) → get_or states r 0 ≡ 0) → next ≡ 0 ∷ [] → AreTables states next
tables_start states next start is_next = record {
  states_within = λ r. omega (arith, start r, ap length is_next);
  next_within = λ k. omega (arith, ap (λ xs. get_or xs k 0) is_next ∙ zeros 1 k, ap length is_next);
}
