-- The ranks of a set move on to new states, one stretch of neighbours after another.
use Rattle.std.proofs.Common.{◌≡◌, ℕ, zero, suc, ◌<◌, ◌≤◌, Bool, true, false, cond, ◌&&◌, eqb, ltb, List, [], ◌∷◌, ◌++◌, length, get_or, set, refl, sym, ap, ◌∙◌, subst, inl, inr, arith}
use Rattle.std.proofs.lemmas.Bool.{true≢false, and_parts, and_from, cases_eq, cases_lt, cases_Bool, eq-eqb, ne_eqb, lt-ltb, le-ltb, ltb-true}
use Rattle.std.proofs.lemmas.List.{get_or-set_same, get_or-set_other, length-set}
use Rattle.rank_set.specs.Ranks.{Ranks, has}
use Rattle.rank_set.specs.Runs.{IsRun}
use Rattle.equiv_class.specs.Classes.{same_answer}
use Rattle.call_path.specs.Path.{Path}
use Rattle.equiv_class.specs.SeenPaths.{same_paths}
use Rattle.equiv_class.specs.States.{AreTables, ArePartedBy, state_after, with_next}

-- a member below an end
abbrev pub member_below : Ranks → ℕ → ℕ → Bool
member_below E q r = has E r && ltb r q

-- some ranks have moved on from the old states to states from `base` on, one for each old state
pub record HaveMoved (moved : ℕ → Bool) (base : ℕ) (old states next : List ℕ) : Type 0 where
  pub room : base ≤ length next
  pub old_below : (r : ℕ) → get_or old r 0 < base
  pub distinct : (j k : ℕ) → base ≤ get_or next j 0 → get_or next j 0 ≡ get_or next k 0 → j ≡ k
  pub stayed : (r : ℕ) → moved r ≡ false → get_or states r 0 ≡ get_or old r 0
  pub new_state : (r : ℕ) → moved r ≡ true → base ≤ get_or states r 0
  pub by_state : (r : ℕ) → moved r ≡ true → get_or next (get_or old r 0) 0 ≡ get_or states r 0

-- it says the same of the same ranks
pub moved_same : (m n : ℕ → Bool) (base : ℕ) (old states next : List ℕ) → ((r : ℕ) → n r ≡ m r) → HaveMoved m base old states next → HaveMoved n base old states next
moved_same m n base old states next same h = record {
  room = h.room;
  old_below = h.old_below;
  distinct = h.distinct;
  stayed = λ r e. h.stayed r (sym (same r) ∙ e);
  new_state = λ r e. h.new_state r (sym (same r) ∙ e);
  by_state = λ r e. h.by_state r (sym (same r) ∙ e);
}

-- a 0 at the end of a table says what the default says
with_zero : (xs : List ℕ) (k : ℕ) → get_or (xs ++ 0 ∷ []) k 0 ≡ get_or xs k 0
with_zero [] zero = refl
with_zero [] (suc k) = refl
with_zero (x ∷ xs) zero = refl
with_zero (x ∷ xs) (suc k) = with_zero xs k

long_one : (xs : List ℕ) → length (xs ++ 0 ∷ []) ≡ suc (length xs)
long_one [] = refl
long_one (x ∷ xs) = ap suc (long_one xs)

module _ (base k : ℕ) (next : List ℕ) (k_in : k < length next) (room : base ≤ length next) where
  abbrev to : ℕ
  to = state_after base k next

  -- the table with the state after k
  pub next_at : get_or (with_next base k next) k 0 ≡ to
  next_at = elim (ltb (get_or next k 0) base) as (λ b. get_or (cond b (set next k (length next) ++ 0 ∷ []) next) k 0 ≡ cond b (length next) (get_or next k 0)) [
    | true ↦ with_zero (set next k (length next)) k ∙ get_or-set_same next k (length next) 0 k_in
    | false ↦ refl
  ]

  pub next_elsewhere : (j : ℕ) → (j ≡ k → ⊥) → get_or (with_next base k next) j 0 ≡ get_or next j 0
  next_elsewhere j ne = elim (ltb (get_or next k 0) base) as (λ b. get_or (cond b (set next k (length next) ++ 0 ∷ []) next) j 0 ≡ get_or next j 0) [
    | true ↦ with_zero (set next k (length next)) j ∙ get_or-set_other next k j (length next) 0 ne
    | false ↦ refl
  ]

  pub longer : length next ≤ length (with_next base k next)
  longer = elim (ltb (get_or next k 0) base) as (λ b. length next ≤ length (cond b (set next k (length next) ++ 0 ∷ []) next)) [
    | true ↦ omega (arith, long_one (set next k (length next)), length-set next k (length next))
    | false ↦ omega arith
  ]

  pub to_from_base : base ≤ to
  to_from_base = elim (cases_lt (get_or next k 0) base) [
    | inl lt ↦ subst (λ b. base ≤ cond b (length next) (get_or next k 0)) (sym (lt-ltb (get_or next k 0) base lt)) room
    | inr ge ↦ subst (λ b. base ≤ cond b (length next) (get_or next k 0)) (sym (le-ltb (get_or next k 0) base ge)) ge
  ]

  pub to_within : ((j : ℕ) → get_or next j 0 < length next) → to < length (with_next base k next)
  to_within within = elim (ltb (get_or next k 0) base) as (λ b. cond b (length next) (get_or next k 0) < length (cond b (set next k (length next) ++ 0 ∷ []) next)) [
    | true ↦ omega (arith, long_one (set next k (length next)), length-set next k (length next))
    | false ↦ within k
  ]

  -- no other state leads there
  pub to_alone : ((j : ℕ) → get_or next j 0 < length next) → ((i j : ℕ) → base ≤ get_or next i 0 → get_or next i 0 ≡ get_or next j 0 → i ≡ j)
      → (j : ℕ) → get_or next j 0 ≡ to → j ≡ k
  to_alone within distinct j same = elim (cases_lt (get_or next k 0) base) [
    | inl lt ↦ absurd (omega (arith, within j, same ∙ ap (λ b. cond b (length next) (get_or next k 0)) (lt-ltb (get_or next k 0) base lt)))
    | inr ge ↦ sym (distinct k j ge (sym (same ∙ ap (λ b. cond b (length next) (get_or next k 0)) (le-ltb (get_or next k 0) base ge))))
  ]

  -- a state from `base` on stays the one after its state
  pub kept : (j : ℕ) → base ≤ get_or next j 0 → get_or (with_next base k next) j 0 ≡ get_or next j 0
  kept j from_base = elim (cases_eq j k) [
    | inl e ↦ subst (λ i. base ≤ get_or next i 0 → get_or (with_next base k next) i 0 ≡ get_or next i 0) (sym e)
        (λ ge. next_at ∙ ap (λ b. cond b (length next) (get_or next k 0)) (le-ltb (get_or next k 0) base ge)) from_base
    | inr ne ↦ next_elsewhere j ne
  ]

-- the ranks from a to before b, which are of one state, move on to the state after it
module _ (base a b : ℕ) (states states' next : List ℕ) (some : a < b) (same : (q : ℕ) → a ≤ q → q < b → get_or states q 0 ≡ get_or states a 0)
    (given : (q : ℕ) → a ≤ q → q < b → get_or states' q 0 ≡ state_after base (get_or states a 0) next) (others : (q : ℕ) → (a ≤ q → q < b → ⊥) → get_or states' q 0 ≡ get_or states q 0)
    (tables : AreTables states next) where
  abbrev own_state : ℕ
  own_state = get_or states a 0

  own_in : own_state < length next
  own_in = tables.states_within a

  -- a rank is one of them or not
  by_rank : (P : Type 0) (q : ℕ) → (a ≤ q → q < b → P) → ((a ≤ q → q < b → ⊥) → P) → P
  by_rank P q inside outside = elim (cases_lt q a) [
    | inl lt ↦ outside (λ ge below. omega (arith, lt, ge))
    | inr ge ↦ elim (cases_lt q b) [
      | inl lt ↦ inside ge lt
      | inr past ↦ outside (λ from below. omega (arith, past, below))
    ]
  ]

  stretch_moved : (m n : ℕ → Bool) (old : List ℕ) → ((q : ℕ) → a ≤ q → q < b → m q ≡ false) → ((q : ℕ) → a ≤ q → q < b → n q ≡ true)
      → ((q : ℕ) → (a ≤ q → q < b → ⊥) → n q ≡ m q) → HaveMoved m base old states next → HaveMoved n base old states' (with_next base own_state next)
  stretch_moved m n old still now unmoved h =
      record {
        room = omega (arith, h.room, longer base own_state next own_in h.room);
        old_below = h.old_below;
        distinct = λ i j from_base same. elim (cases_eq i own_state) [
          | inl ei ↦ elim (cases_eq j own_state) [
            | inl ej ↦ ei ∙ sym ej
            | inr nj ↦ ei ∙ sym (to_alone base own_state next own_in h.room tables.next_within h.distinct j
                (sym (next_elsewhere base own_state next own_in h.room j nj) ∙ sym same ∙ ap (λ x. get_or (with_next base own_state next) x 0) ei ∙ next_at base own_state next own_in h.room))
          ]
          | inr ni ↦ elim (cases_eq j own_state) [
            | inl ej ↦ to_alone base own_state next own_in h.room tables.next_within h.distinct i
                (sym (next_elsewhere base own_state next own_in h.room i ni) ∙ same ∙ ap (λ x. get_or (with_next base own_state next) x 0) ej ∙ next_at base own_state next own_in h.room) ∙ sym ej
            | inr nj ↦ h.distinct i j (subst (λ x. base ≤ x) (next_elsewhere base own_state next own_in h.room i ni) from_base)
                (sym (next_elsewhere base own_state next own_in h.room i ni) ∙ same ∙ next_elsewhere base own_state next own_in h.room j nj)
          ]
        ];
        stayed = λ q e. by_rank (get_or states' q 0 ≡ get_or old q 0) q
            (λ ge lt. absurd (true≢false (sym (now q ge lt) ∙ e)))
            (λ out. others q out ∙ h.stayed q (sym (unmoved q out) ∙ e));
        new_state = λ q e. by_rank (base ≤ get_or states' q 0) q
            (λ ge lt. subst (λ x. base ≤ x) (sym (given q ge lt)) (to_from_base base own_state next own_in h.room))
            (λ out. subst (λ x. base ≤ x) (sym (others q out)) (h.new_state q (sym (unmoved q out) ∙ e)));
        by_state = λ q e. by_rank (get_or (with_next base own_state next) (get_or old q 0) 0 ≡ get_or states' q 0) q
            (λ ge lt. ap (λ x. get_or (with_next base own_state next) x 0) (sym (h.stayed q (still q ge lt)) ∙ same q ge lt) ∙ next_at base own_state next own_in h.room ∙ sym (given q ge lt))
            (λ out.
            let was : m q ≡ true = sym (unmoved q out) ∙ e in
            let led : get_or next (get_or old q 0) 0 ≡ get_or states q 0 = h.by_state q was in
            kept base own_state next own_in h.room (get_or old q 0) (subst (λ x. base ≤ x) (sym led) (h.new_state q was)) ∙ led ∙ sym (others q out));
      }

  -- the tables stay tables
  stretch_tables : base ≤ length next → AreTables states' (with_next base own_state next)
  stretch_tables room =
      let more = longer base own_state next own_in room in
      let good = to_within base own_state next own_in room tables.next_within in
      record {
        states_within = λ q. by_rank (get_or states' q 0 < length (with_next base own_state next)) q
            (λ ge lt. subst (λ x. x < length (with_next base own_state next)) (sym (given q ge lt)) good)
            (λ out. subst (λ x. x < length (with_next base own_state next)) (sym (others q out)) (omega (arith, more, tables.states_within q)));
        next_within = λ j. elim (cases_eq j own_state) [
          | inl e ↦ subst (λ x. x < length (with_next base own_state next)) (sym (ap (λ x. get_or (with_next base own_state next) x 0) e ∙ next_at base own_state next own_in room)) good
          | inr ne ↦ subst (λ x. x < length (with_next base own_state next)) (sym (next_elsewhere base own_state next own_in room j ne)) (omega (arith, more, tables.next_within j))
        ];
      }

-- before the first rank moves
pub move_start : (E : Ranks) (states next : List ℕ) → AreTables states next → HaveMoved (member_below E 0) (length next) states states next
move_start E states next tables = record {
  room = omega arith;
  old_below = tables.states_within;
  distinct = λ j k from_base same. absurd (omega (arith, from_base, tables.next_within j));
  stayed = λ r e. refl;
  new_state = λ r e. absurd (omega (arith, ltb-true r 0 (and_parts (has E r) (ltb r 0) e).1));
  by_state = λ r e. absurd (omega (arith, ltb-true r 0 (and_parts (has E r) (ltb r 0) e).1));
}

-- between two members no rank moves
pub move_gap : (E : Ranks) (from first last base : ℕ) (old states next : List ℕ) → IsRun E from first last → HaveMoved (member_below E from) base old states next
    → HaveMoved (member_below E first) base old states next
move_gap E from first last base old states next run h = moved_same (member_below E from) (member_below E first) base old states next same h
  where
    same : (r : ℕ) → member_below E first r ≡ member_below E from r
    same r = elim (cases_lt r from) [
      | inl lt ↦ ap (λ b. has E r && b) (lt-ltb r first (omega (arith, lt, run.start)) ∙ sym (lt-ltb r from lt))
      | inr ge ↦ elim (cases_lt r first) [
        | inl lt ↦ ap (λ b. b && ltb r first) (run.passed r ge lt) ∙ sym (ap (λ b. b && ltb r from) (run.passed r ge lt))
        | inr le ↦ ap (λ b. has E r && b) (le-ltb r first le ∙ sym (le-ltb r from ge))
      ]
    ]

-- when all have moved
module _ (E : Ranks) (from base : ℕ) (old states next : List ℕ) (passed : (q : ℕ) → from ≤ q → has E q ≡ false) (h : HaveMoved (member_below E from) base old states next) where
  all_moved : (r : ℕ) → has E r ≡ true → member_below E from r ≡ true
  all_moved r member = elim (cases_lt r from) [
    | inl lt ↦ and_from (has E r) (ltb r from) member (lt-ltb r from lt)
    | inr ge ↦ absurd (true≢false (sym member ∙ passed r ge))
  ]

  pub moved_from_base : (r : ℕ) → has E r ≡ true → base ≤ get_or states r 0
  moved_from_base r member = h.new_state r (all_moved r member)

  none_moved : (r : ℕ) → has E r ≡ false → get_or states r 0 ≡ get_or old r 0
  none_moved r other = h.stayed r (ap (λ b. b && ltb r from) other)

  both_moved : (r s : ℕ) → has E r ≡ true → has E s ≡ true → eqb (get_or states r 0) (get_or states s 0) ≡ eqb (get_or old r 0) (get_or old s 0)
  both_moved r s hr hs = elim (cases_eq (get_or old r 0) (get_or old s 0)) [
    | inl e ↦ eq-eqb _ _ (sym (h.by_state r (all_moved r hr)) ∙ ap (λ x. get_or next x 0) e ∙ h.by_state s (all_moved s hs)) ∙ sym (eq-eqb _ _ e)
    | inr ne ↦ ne_eqb _ _ (λ same. ne (h.distinct (get_or old r 0) (get_or old s 0)
        (subst (λ x. base ≤ x) (sym (h.by_state r (all_moved r hr))) (moved_from_base r hr))
        (h.by_state r (all_moved r hr) ∙ same ∙ sym (h.by_state s (all_moved s hs)))))
        ∙ sym (ne_eqb _ _ ne)
  ]

  pub parted : ArePartedBy E old states
  parted r s = elim (cases_Bool (has E r)) [
    | inl hr ↦ elim (cases_Bool (has E s)) [
      | inl hs ↦ both_moved r s hr hs ∙ sym (λ i. same_answer (hr i) (hs i) && eqb (get_or old r 0) (get_or old s 0))
      | inr hs ↦ ne_eqb _ _ (λ e. absurd (omega (arith, moved_from_base r hr, e, none_moved s hs, h.old_below s))) ∙ sym (λ i. same_answer (hr i) (hs i) && eqb (get_or old r 0) (get_or old s 0))
    ]
    | inr hr ↦ elim (cases_Bool (has E s)) [
      | inl hs ↦ ne_eqb _ _ (λ e. absurd (omega (arith, moved_from_base s hs, e, none_moved r hr, h.old_below r))) ∙ sym (λ i. same_answer (hr i) (hs i) && eqb (get_or old r 0) (get_or old s 0))
      | inr hs ↦ (λ i. eqb (none_moved r hr i) (none_moved s hs i)) ∙ sym (λ i. same_answer (hr i) (hs i) && eqb (get_or old r 0) (get_or old s 0))
    ]
  ]

-- neighbouring members of one state move, in a loop
pub members_step : (E : Ranks) (base a b after : ℕ) (old states states' next next' : List ℕ) → a < b → ((q : ℕ) → a ≤ q → q < b → has E q ≡ true)
    → ((q : ℕ) → a ≤ q → q < b → get_or states q 0 ≡ get_or states a 0) → after ≡ state_after base (get_or states a 0) next → next' ≡ with_next base (get_or states a 0) next
    → ((q : ℕ) → a ≤ q → q < b → get_or states' q 0 ≡ after) → ((q : ℕ) → q < a → get_or states' q 0 ≡ get_or states q 0) → ((q : ℕ) → b ≤ q → get_or states' q 0 ≡ get_or states q 0)
    → AreTables states next → HaveMoved (member_below E a) base old states next → AreTables states' next' × HaveMoved (member_below E b) base old states' next'
members_step E base a b after old states states' next next' some members same is_to is_next given below above tables h =
    subst (λ n. AreTables states' n × HaveMoved (member_below E b) base old states' n) (sym is_next) (
      stretch_tables base a b states states' next some same to_given others tables h.room,
      stretch_moved base a b states states' next some same to_given others tables (member_below E a) (member_below E b) old still now unmoved h,
    )
  where
    to_given : (q : ℕ) → a ≤ q → q < b → get_or states' q 0 ≡ state_after base (get_or states a 0) next
    to_given q ge lt = given q ge lt ∙ is_to

    others : (q : ℕ) → (a ≤ q → q < b → ⊥) → get_or states' q 0 ≡ get_or states q 0
    others q out = elim (cases_lt q a) [
      | inl lt ↦ below q lt
      | inr ge ↦ elim (cases_lt q b) [
        | inl lt ↦ absurd (out ge lt)
        | inr past ↦ above q past
      ]
    ]

    still : (q : ℕ) → a ≤ q → q < b → member_below E a q ≡ false
    still q ge lt = ap (λ t. t && ltb q a) (members q ge lt) ∙ le-ltb q a ge

    now : (q : ℕ) → a ≤ q → q < b → member_below E b q ≡ true
    now q ge lt = and_from (has E q) (ltb q b) (members q ge lt) (lt-ltb q b lt)

    unmoved : (q : ℕ) → (a ≤ q → q < b → ⊥) → member_below E b q ≡ member_below E a q
    unmoved q out = elim (cases_lt q a) [
      | inl lt ↦ ap (λ t. has E q && t) (lt-ltb q b (omega (arith, lt, some)) ∙ sym (lt-ltb q a lt))
      | inr ge ↦ elim (cases_lt q b) [
        | inl lt ↦ absurd (out ge lt)
        | inr past ↦ ap (λ t. has E q && t) (le-ltb q b past ∙ sym (le-ltb q a ge))
      ]
    ]

-- before the first set
pub parting_start : (all : List (Path × Ranks)) (states : List ℕ) → ((r : ℕ) → get_or states r 0 ≡ 0) → (r s : ℕ) → (eqb (get_or states r 0) (get_or states s 0) && same_paths r s all) ≡ same_paths r s all
parting_start all states start r s = ap (λ b. b && same_paths r s all) (eq-eqb (get_or states r 0) (get_or states s 0) (start r ∙ sym (start s)))

-- one set after another
pub parting_step : (e : Path × Ranks) (rest es all : List (Path × Ranks)) (old new : List ℕ) → rest ≡ e ∷ es → ArePartedBy e.1 old new
    → ((r s : ℕ) → (eqb (get_or old r 0) (get_or old s 0) && same_paths r s rest) ≡ same_paths r s all)
    → (r s : ℕ) → (eqb (get_or new r 0) (get_or new s 0) && same_paths r s es) ≡ same_paths r s all
parting_step e rest es all old new first is so_far r s =
    ap (λ b. b && same_paths r s es) (is r s) ∙ turn (same_answer (has e.1 r) (has e.1 s)) (eqb (get_or old r 0) (get_or old s 0)) (same_paths r s es)
    ∙ ap (λ xs. eqb (get_or old r 0) (get_or old s 0) && same_paths r s xs) (sym first) ∙ so_far r s
  where
    turn : (a b c : Bool) → ((a && b) && c) ≡ (b && (a && c))
    turn true true c = refl
    turn true false c = refl
    turn false true c = refl
    turn false false c = refl
