-- The ranks that are expected at each node.
use Rattle.std.proofs.Common.{◌≡◌, ℕ, suc, ◌+◌, ◌<◌, Bool, true, false, ◌||◌, ◌==◌, cond, List, [], ◌∷◌, ◌++◌, map, take, get_or, set, length, refl, sym, ap, subst, ◌∙◌, arith, eqb-true, inl, inr}
use Rattle.std.proofs.lemmas.Bool.{cases_Bool, eqb-false}
use Rattle.std.proofs.lemmas.List.{take_more, map-append, append-nil, length-set, get_or_default, length-map, get_or-set_same, get_or-set_other}
use Rattle.std.proofs.lemmas.List.Elements.{filter-append}
use Rattle.rank_set.specs.Ranks.{Ranks, none, has, union, has-union, same_ranks}
use Rattle.overlay_setup.specs.NodeSets.{member, up_to}
use Rattle.stat_plan.specs.Samples.{ranks_with, all_ranks}
use Rattle.stat_plan.specs.Plans.{Plan, nodes, ranks, ancestors, is_under, is_within, those_within, ranks_on}
use Rattle.stat_plan.specs.Tables.{GainRanks, AreExpected}
use Rattle.stat_plan.proofs.InLists.{member-append, eqb_self}
use Rattle.overlay_setup.proofs.UpTo.{length-up_to, at_table}

or_twice : (a b : Bool) → ((a || b) || b) ≡ (a || b)
or_twice true b = refl
or_twice false true = refl
or_twice false false = refl

-- ranks that are united twice
union_twice : (s t : Ranks) → union (union s t) t ≡ union s t
union_twice s t =
    same_ranks (union (union s t) t) (union s t)
    (λ r. has-union (union s t) t r ∙ ap (λ b. b || has t r) (has-union s t r) ∙ or_twice (has s r) (has t r) ∙ sym (has-union s t r))

twice : (b : Bool) (s t : Ranks) → union (cond b (union s t) s) t ≡ union s t
twice true s t = union_twice s t
twice false s t = refl

with_one : (x : ℕ) (xs : List ℕ) (i a : ℕ) → i < length xs → a ≡ get_or xs i 0 → member x (take (i + 1) xs) ≡ (member x (take i xs) || ((x == a) || false))
with_one x xs i a lt is = ap (member x) (take_more xs i 0 lt ∙ ap (λ b. take i xs ++ b ∷ []) (sym is)) ∙ member-append x (take i xs) (a ∷ [])

or_true : (b : Bool) → (b || true) ≡ true
or_true true = refl
or_true false = refl

or_false : (b : Bool) → (b || false) ≡ b
or_false true = refl
or_false false = refl

-- the set at one place more gains the ranks
pub gain_more : (old new : List Ranks) (at : List ℕ) (i a : ℕ) (more : Ranks) → GainRanks old new (take i at) more → i < length at → a ≡ get_or at i 0 → a < length old → GainRanks old (set new a (union (get_or new a none) more)) (take (i + 1) at) more
gain_more old new at i a more so_far lt is within = record {
  paired = length-set new a (union (get_or new a none) more) ∙ so_far.paired;
  each = λ n below. elim (cases_Bool (n == a)) [
    | (inl same) ↦
        let e : n ≡ a = eqb-true n a same in
        let place : get_or (set new a (union (get_or new a none) more)) a none ≡ union (get_or new a none) more =
        get_or-set_same new a (union (get_or new a none) more) none (subst (λ k. a < k) (sym so_far.paired) within) in
        ap (λ k. get_or (set new a (union (get_or new a none) more)) k none) e ∙ place
        ∙ ap (λ s. union s more) (so_far.each a within) ∙ twice (member a (take i at)) (get_or old a none) more
        ∙ ap (λ k. union (get_or old k none) more) (sym e)
        ∙ sym (ap (λ b. cond b (union (get_or old n none) more) (get_or old n none)) (with_one n at i a lt is ∙ ap (λ b. member n (take i at) || (b || false)) same ∙ or_true (member n (take i at))))
    | (inr other) ↦
        get_or-set_other new a n (union (get_or new a none) more) none (eqb-false n a other)
        ∙ so_far.each n below
        ∙ sym (ap (λ b. cond b (union (get_or old n none) more) (get_or old n none)) (with_one n at i a lt is ∙ ap (λ b. member n (take i at) || (b || false)) other ∙ or_false (member n (take i at))))
  ];
}

-- no place has gained ranks yet
pub gain_none : (old : List Ranks) (more : Ranks) → GainRanks old old [] more
gain_none old more = record { paired = refl; each = λ n below. refl }

ranks_with-push : (C : Ranks) (Ds : List Ranks) (D : Ranks) → ranks_with C (Ds ++ D ∷ []) ≡ union (ranks_with C Ds) D
ranks_with-push C [] D = refl
ranks_with-push C (E ∷ Ds) D = ranks_with-push (union C E) Ds D

-- the ranks of one daemon more
pub ranks_on-push : (p : Plan) (ds : List ℕ) (d : ℕ) → ranks_on p (ds ++ d ∷ []) ≡ union (ranks_on p ds) (ranks p d)
ranks_on-push p ds d = ap all_ranks (map-append (ranks p) ds (d ∷ [])) ∙ ranks_with-push none (map (ranks p) ds) (ranks p d)

flip : (x y : ℕ) → (x == y) ≡ (y == x)
flip x y = elim (cases_Bool (x == y)) [
  | (inl same) ↦ same ∙ sym (ap (λ k. y == k) (eqb-true x y same) ∙ eqb_self y)
  | (inr other) ↦ other ∙ elim (cases_Bool (y == x)) [ (inl same) ↦ absurd (eqb-false x y other (sym (eqb-true y x same))) | (inr differs) ↦ sym differs ]
]

-- a node is within another where that is the node itself or an ancestor
within_is : (p : Plan) (d n : ℕ) → is_within p d n ≡ member n (d ∷ ancestors p d)
unfolding is_within is_under
within_is p d n = ap (λ b. b || member n (ancestors p d)) (flip d n)

those_more : (p : Plan) (ds : List ℕ) (i d n : ℕ) → i < length ds → d ≡ get_or ds i 0 → ranks_on p (those_within p n (take (i + 1) ds)) ≡ cond (member n (d ∷ ancestors p d)) (union (ranks_on p (those_within p n (take i ds))) (ranks p d)) (ranks_on p (those_within p n (take i ds)))
those_more p ds i d n lt is =
    ap (λ xs. ranks_on p (those_within p n xs)) (take_more ds i 0 lt ∙ ap (λ b. take i ds ++ b ∷ []) (sym is))
    ∙ ap (ranks_on p) (filter-append (λ d. is_within p d n) (take i ds) (d ∷ []))
    ∙ by (is_within p d n)
    ∙ ap (λ b. cond b (union (ranks_on p (those_within p n (take i ds))) (ranks p d)) (ranks_on p (those_within p n (take i ds)))) (within_is p d n)
  where
    by : (b : Bool) → ranks_on p (those_within p n (take i ds) ++ cond b (d ∷ []) []) ≡ cond b (union (ranks_on p (those_within p n (take i ds))) (ranks p d)) (ranks_on p (those_within p n (take i ds)))
    by true = ranks_on-push p (those_within p n (take i ds)) d
    by false = ap (ranks_on p) (append-nil (those_within p n (take i ds)))

-- nothing is expected of no daemons
pub expect_none : (p : Plan) (sets : List Ranks) → sets ≡ map (λ _. none) (up_to (nodes p)) → AreExpected p [] sets
expect_none p sets is = record {
  paired = ap length is ∙ length-map (up_to (nodes p)) (λ _. none) ∙ length-up_to (nodes p);
  each = λ n below. ap (λ xs. get_or xs n none) is ∙ at_table (λ _. none) (nodes p) n none below;
}

-- the ranks of one daemon more are expected at it and above it
pub expect_more : (p : Plan) (ds : List ℕ) (i d : ℕ) (old new : List Ranks) → AreExpected p (take i ds) old → i < length ds → d ≡ get_or ds i 0 → GainRanks old new (d ∷ ancestors p d) (ranks p d) → AreExpected p (take (i + 1) ds) new
expect_more p ds i d old new so_far lt is gain = record {
  paired = gain.paired ∙ so_far.paired;
  each = λ n below.
      gain.each n (subst (λ k. n < k) (sym so_far.paired) below)
      ∙ ap (λ s. cond (member n (d ∷ ancestors p d)) (union s (ranks p d)) s) (so_far.each n below)
      ∙ sym (those_more p ds i d n lt is);
}

-- the set at the first place gains the ranks
pub gain_first : (old : List Ranks) (a : ℕ) (more d v : Ranks) → a < length old → v ≡ union (get_or old a d) more → GainRanks old (set old a v) (a ∷ []) more
gain_first old a more d v within is =
    let e : v ≡ union (get_or old a none) more = is ∙ ap (λ s. union s more) (get_or_default old a d none within) in
    subst (λ s. GainRanks old (set old a s) (a ∷ []) more) (sym e) (gain_more old old (a ∷ []) 0 a more (gain_none old more) (omega arith) refl within)

-- the set at a later place gains the ranks
pub gain_next : (old new : List Ranks) (first : ℕ) (at : List ℕ) (i : ℕ) (more d v : Ranks) → GainRanks old new (first ∷ take i at) more → i < length at → get_or at i 0 < length old → v ≡ union (get_or new (get_or at i 0) d) more → GainRanks old (set new (get_or at i 0) v) (first ∷ take (i + 1) at) more
gain_next old new first at i more d v so_far lt within is =
    let e : v ≡ union (get_or new (get_or at i 0) none) more = is ∙ ap (λ s. union s more) (get_or_default new (get_or at i 0) d none (subst (λ k. get_or at i 0 < k) (sym so_far.paired) within)) in
    let one : suc i + 1 ≡ suc (i + 1) = omega arith in
    let all : GainRanks old (set new (get_or at i 0) (union (get_or new (get_or at i 0) none) more)) (take (suc i + 1) (first ∷ at)) more = gain_more old new (first ∷ at) (suc i) (get_or at i 0) more so_far (omega arith) refl within in
    subst (λ s. GainRanks old (set new (get_or at i 0) s) (first ∷ take (i + 1) at) more) (sym e)
    (subst (λ k. GainRanks old (set new (get_or at i 0) (union (get_or new (get_or at i 0) none) more)) (take k (first ∷ at)) more) one all)

-- what stands in the list of placed ranks at a node is the node's
pub ranks_at : (p : Plan) (placed : List Ranks) (n : ℕ) (own : Ranks) → placed ≡ p.placed → n < length placed → own ≡ get_or placed n own → own ≡ ranks p n
unfolding ranks
ranks_at p placed n own is below at = at ∙ get_or_default placed n own none below ∙ ap (λ xs. get_or xs n none) is
