-- Journals of any machine: what each step keeps, how long they can be, and the journal that a seed picks.
use Rattle.std.proofs.Common.{◌≡◌, ◌≤◌, ◌<◌, ◌+◌, ◌/◌, ◌%◌, ◌^◌, inl, inr, ℕ, suc, zero, Bool, true, false, List, [], ◌∷◌, ◌++◌, length, refl, sym, ap, subst, ◌∙◌, arith, zero-le, Option, Some, None}
use Rattle.std.specs.Prelude.{slice_get}
use Rattle.std.proofs.lemmas.Bool.{cases_lt, true≢false}
use Rattle.overlay_setup.specs.NodeSets.{In}
use Rattle.stat_plan.proofs.InLists.{append_left, append_right}
use Rattle.stat_plan.specs.Machine.Journals.{next_number, run, IsLegalFrom, IsQuietState, event_by, picked_from, PicksFrom, ArePickedFrom}

-- ---- what each step keeps, each legal journal keeps

pub run_keeps : {S E : Type 0} (P : S → Type 0) (step : S → E → S) (enabled : S → E → Bool) → ((st : S) (e : E) → P st → enabled st e ≡ true → P (step st e)) → (st : S) (es : List E) → P st → IsLegalFrom step enabled st es → P (run step st es)
run_keeps P step enabled keeps st [] h l = h
run_keeps P step enabled keeps st (e ∷ es) h l = run_keeps P step enabled keeps (step st e) es (keeps st e h l.0) l.1

-- ---- where each step lowers a weight, no legal journal has more events than the state weighs

pub run_is_short : {S E : Type 0} (P : S → Type 0) (step : S → E → S) (enabled : S → E → Bool) (w : S → ℕ)
    → ((st : S) (e : E) → P st → enabled st e ≡ true → P (step st e))
    → ((st : S) (e : E) → P st → enabled st e ≡ true → w (step st e) + 1 ≤ w st)
    → (st : S) (es : List E) → P st → IsLegalFrom step enabled st es → length es ≤ w st
run_is_short P step enabled w keeps falls st [] h l = zero-le
run_is_short P step enabled w keeps falls st (e ∷ es) h l =
    let a : w (step st e) + 1 ≤ w st = falls st e h l.0 in
    let b : length es ≤ w (step st e) = run_is_short P step enabled w keeps falls (step st e) es (keeps st e h l.0) l.1 in
    omega arith

-- ---- one event more

pub run_more : {S E : Type 0} (step : S → E → S) (st : S) (es : List E) (e : E) → run step st (es ++ e ∷ []) ≡ step (run step st es) e
run_more step st [] e = refl
run_more step st (f ∷ es) e = run_more step (step st f) es e

pub legal_more : {S E : Type 0} (step : S → E → S) (enabled : S → E → Bool) (st : S) (es : List E) (e : E) → IsLegalFrom step enabled st es → enabled (run step st es) e ≡ true → IsLegalFrom step enabled st (es ++ e ∷ [])
legal_more step enabled st [] e l en = (en, tt)
legal_more step enabled st (f ∷ es) e l en = (l.0, legal_more step enabled (step st f) es e l.1 en)

-- and one event less
pub legal_less : {S E : Type 0} (step : S → E → S) (enabled : S → E → Bool) (st : S) (es : List E) (e : E) → IsLegalFrom step enabled st (es ++ e ∷ []) → IsLegalFrom step enabled st es × (enabled (run step st es) e ≡ true)
legal_less step enabled st [] e l = (tt, l.0)
legal_less step enabled st (f ∷ es) e l = let k = legal_less step enabled (step st f) es e l.1 in ((l.0, k.0), k.1)

-- ---- the pick, where the list of a state has exactly the events that may come

pub record ListsEnabled {S E : Type 0} (P : S → Type 0) (enabled : S → E → Bool) (events : S → List E) : Type 0 where
  pub may_come : (st : S) (e : E) → In e (events st) → enabled st e ≡ true
  pub listed : (st : S) (e : E) → P st → enabled st e ≡ true → In e (events st)

-- where the events that can be named are those of the nodes, node by node, each node's are among them
pub in_below : {E : Type 0} (below own : ℕ → List E) → ((k : ℕ) → below (suc k) ≡ below k ++ own k) → (k n : ℕ) (e : E) → n < k → In e (own n) → In e (below k)
in_below below own more zero n e lt i = absurd (omega arith)
in_below below own more (suc k) n e lt i = subst (In e) (sym (more k)) (elim (cases_lt n k) [
  | inl before ↦ append_left e (below k) (own k) (in_below below own more k n e before i)
  | inr past ↦ let last : n ≡ k = omega (arith, lt, past) in append_right e (below k) (own k) (subst (λ m. In e (own m)) last i)
])

pub get_in : {X : Type 0} (xs : List X) (i : ℕ) (x : X) → slice_get xs i ≡ Some x → In x xs
get_in [] i x e = absurd (cc)
get_in (y ∷ ys) zero x e = inl (cc)
get_in (y ∷ ys) (suc i) x e = inr (get_in ys i x e)

pub get_none : {X : Type 0} (xs : List X) (i : ℕ) → slice_get xs i ≡ None → length xs ≤ i
get_none [] i e = zero-le
get_none (y ∷ ys) zero e = absurd (cc)
get_none (y ∷ ys) (suc i) e = let k : length ys ≤ i = get_none ys i e in omega arith

-- where an index within a list finds nothing, the list is empty
pub none_listed : {X : Type 0} (xs : List X) (i : ℕ) → slice_get xs (i % length xs) ≡ None → xs ≡ []
none_listed [] i e = refl
none_listed (y ∷ ys) i e = let k : length (y ∷ ys) ≤ i % length (y ∷ ys) = get_none (y ∷ ys) (i % length (y ∷ ys)) e in absurd (omega arith)

pub quiet_from_list : {S E : Type 0} (P : S → Type 0) (enabled : S → E → Bool) (events : S → List E) → ListsEnabled P enabled events → (st : S) → P st → events st ≡ [] → IsQuietState enabled st
quiet_from_list P enabled events lists st h none e = by (enabled st e) refl
  where
    by : (b : Bool) → enabled st e ≡ b → b ≡ false
    by true k = absurd (subst (λ l. In e l) none (lists.listed st e h k))
    by false k = refl

pub list_from_quiet : {S E : Type 0} (P : S → Type 0) (enabled : S → E → Bool) (events : S → List E) → ListsEnabled P enabled events → (st : S) → IsQuietState enabled st → events st ≡ []
list_from_quiet {S} {E} P enabled events lists st quiet = go (events st) refl
  where
    go : (es : List E) → events st ≡ es → es ≡ []
    go [] e = refl
    go (x ∷ xs) e = absurd (true≢false (sym (lists.may_come st x (subst (λ l. In x l) (sym e) (inl refl))) ∙ quiet x))

-- picks are legal
pub picks_legal : {S E : Type 0} (P : S → Type 0) (step : S → E → S) (enabled : S → E → Bool) (events : S → List E) → ListsEnabled P enabled events → (x : ℕ) (st : S) (es : List E) (y : ℕ) → PicksFrom step events x st es y → IsLegalFrom step enabled st es
picks_legal P step enabled events lists x st [] y h = tt
picks_legal P step enabled events lists x st (e ∷ es) y h = (lists.may_come st e (get_in (events st) (next_number x / 2 ^ 33 % length (events st)) e h.0), picks_legal P step enabled events lists (next_number x) (step st e) es y h.1)

pub picks_more : {S E : Type 0} (step : S → E → S) (events : S → List E) (x : ℕ) (st : S) (es : List E) (y : ℕ) (e : E) → PicksFrom step events x st es y → event_by (events (run step st es)) (next_number y) ≡ Some e → PicksFrom step events x st (es ++ e ∷ []) (next_number y)
picks_more step events x st [] y e h k = (subst (λ z. event_by (events st) (next_number z) ≡ Some e) (sym h) k, ap next_number h)
picks_more step events x st (f ∷ es) y e h k = (h.0, picks_more step events (next_number x) (step st f) es y e h.1 k)

-- what is picked with more room than the state weighs is picked to the end
pub picked_ends : {S E : Type 0} (P : S → Type 0) (step : S → E → S) (enabled : S → E → Bool) (events : S → List E) (w : S → ℕ)
    → ListsEnabled P enabled events
    → ((st : S) (e : E) → P st → enabled st e ≡ true → P (step st e))
    → ((st : S) (e : E) → P st → enabled st e ≡ true → w (step st e) + 1 ≤ w st)
    → (most x : ℕ) (st : S) → P st → w st < most → ArePickedFrom step events x st (picked_from step events most x st)
picked_ends P step enabled events w lists keeps falls zero x st h lt = absurd (omega arith)
picked_ends {S} {E} P step enabled events w lists keeps falls (suc most) x st h lt = go (event_by (events st) (next_number x)) refl (λ e. picked_ends P step enabled events w lists keeps falls most (next_number x) (step st e))
  where
    go : (o : Option E) → event_by (events st) (next_number x) ≡ o
        → ((e : E) → P (step st e) → w (step st e) < most → ArePickedFrom step events (next_number x) (step st e) (picked_from step events most (next_number x) (step st e)))
        → ArePickedFrom step events x st (elim o [ None ↦ [] | Some e ↦ e ∷ picked_from step events most (next_number x) (step st e) ])
    go None k ih = record { last = x; picks = refl; ends = none_listed (events st) (next_number x / 2 ^ 33) k }
    go (Some e) k ih =
        let en : enabled st e ≡ true = lists.may_come st e (get_in (events st) (next_number x / 2 ^ 33 % length (events st)) e k) in
        let f : w (step st e) + 1 ≤ w st = falls st e h en in
        let r = ih e (keeps st e h en) (omega arith) in
        record { last = r.last; picks = (k, r.picks); ends = r.ends }

-- nothing else is picked to the end
pub picked_is_one : {S E : Type 0} (step : S → E → S) (events : S → List E) (most x : ℕ) (st : S) (es : List E) (y : ℕ) → PicksFrom step events x st es y → events (run step st es) ≡ [] → length es < most → es ≡ picked_from step events most x st
picked_is_one step events zero x st es y h ends lt = absurd (omega arith)
picked_is_one {S} {E} step events (suc most) x st [] y h ends lt = subst (λ (o : Option E). [] ≡ elim o [ None ↦ [] | Some e ↦ e ∷ picked_from step events most (next_number x) (step st e) ]) (sym (subst (λ l. slice_get l (next_number x / 2 ^ 33 % length l) ≡ None) (sym ends) refl)) refl
picked_is_one {S} {E} step events (suc most) x st (e ∷ es) y h ends lt =
    let ih : es ≡ picked_from step events most (next_number x) (step st e) = picked_is_one step events most (next_number x) (step st e) es y h.1 ends (omega arith) in
    subst (λ (o : Option E). e ∷ es ≡ elim o [ None ↦ [] | Some e ↦ e ∷ picked_from step events most (next_number x) (step st e) ]) (sym h.0) (ap (λ l. e ∷ l) ih)

-- ---- a number picks an event, where they are counted

-- where no event may come next, none is picked
pub none_to_pick : {E : Type 0} (es : List E) (number count : ℕ) → count ≡ length es → count ≡ 0 → None ≡ event_by es number
none_to_pick [] number count is e = refl
none_to_pick (x ∷ xs) number count is e = absurd (omega (arith, is, e))

-- else it is the one of that number
pub one_picked : {E : Type 0} (es : List E) (number count : ℕ) (o : Option E) → count ≡ length es → o ≡ slice_get es (number / 2 ^ 33 % count) → o ≡ event_by es number
one_picked es number count o is e = e ∙ ap (λ k. slice_get es (number / 2 ^ 33 % k)) is
