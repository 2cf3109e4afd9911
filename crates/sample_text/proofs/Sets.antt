-- Sets of ranks by node, and the ranks of all of them.
use Rattle.std.proofs.Common.{◌≡◌, ◌≢◌, ◌∙◌, ℕ, zero, suc, ◌<◌, ◌⊎◌, inl, inr, Bool, true, false, ◌&&◌, ◌||◌, List, [], ◌∷◌, ◌++◌, length, get_or, slice_set, slice_index_or, refl, sym, ap, arith, ◌+◌, eqb-true}
use Rattle.std.specs.List.{list_any}
use Rattle.std.proofs.lemmas.Bool.{true≢false}
use Rattle.rank_set.specs.Ranks.{Ranks, none, has, Has, IsSubset, union, those, has-none, has-union, has-those, same_ranks, none_from_size, is_empty}
use Rattle.stat_plan.specs.Invariants.{ArePlacedOnce}
use Rattle.stat_plan.specs.Samples.{ranks_with, all_ranks}
use Rattle.sample_text.specs.Steps.{are_disjoint, add_at}
use Rattle.sample_text.specs.Whole.{empty_sets}

or_false : (a : Bool) → a ≡ (a || false)
or_false true = refl
or_false false = refl

or_parts : (a b c : Bool) → ((a || b) || c) ≡ (a || (b || c))
or_parts true b c = refl
or_parts false b c = refl

or_last : (a b c : Bool) → ((a || b) || c) ≡ ((a || c) || b)
or_last true b c = refl
or_last false true true = refl
or_last false true false = refl
or_last false false true = refl
or_last false false false = refl

-- whether a rank is in one of some sets
abbrev pub in_any : ℕ → List Ranks → Bool
in_any r sets = list_any (λ set. has set r) sets

has-ranks_with : (sets : List Ranks) (set : Ranks) (r : ℕ) → has (ranks_with set sets) r ≡ (has set r || in_any r sets)
has-ranks_with [] set r = or_false (has set r)
has-ranks_with (more ∷ sets) set r = has-ranks_with sets (union set more) r ∙ ap (λ b. b || in_any r sets) (has-union set more r) ∙ or_parts (has set r) (has more r) (in_any r sets)

-- the ranks of all sets are those in one of them
pub has-all_ranks : (sets : List Ranks) (r : ℕ) → has (all_ranks sets) r ≡ in_any r sets
has-all_ranks sets r = has-ranks_with sets none r ∙ ap (λ b. b || in_any r sets) (has-none r)

any-add_at : (sets : List Ranks) (n : ℕ) (ranks : Ranks) (r : ℕ) → n < length sets → in_any r (add_at sets n ranks) ≡ (in_any r sets || has ranks r)
any-add_at [] n ranks r lt = absurd (omega arith)
any-add_at (set ∷ sets) zero ranks r lt = ap (λ b. b || in_any r sets) (has-union set ranks r) ∙ or_last (has set r) (has ranks r) (in_any r sets)
any-add_at (set ∷ sets) (suc n) ranks r lt = ap (λ b. has set r || b) (any-add_at sets n ranks r (omega arith)) ∙ sym (or_parts (has set r) (in_any r sets) (has ranks r))

-- all ranks, where one of the sets gets more
pub all_ranks-add_at : (sets : List Ranks) (n : ℕ) (ranks : Ranks) → n < length sets → union (all_ranks sets) ranks ≡ all_ranks (add_at sets n ranks)
all_ranks-add_at sets n ranks lt =
    same_ranks _ _ (λ r. has-union (all_ranks sets) ranks r ∙ ap (λ b. b || has ranks r) (has-all_ranks sets r) ∙ sym (any-add_at sets n ranks r lt) ∙ sym (has-all_ranks (add_at sets n ranks) r))

-- a set that is written in its place
pub add_at_set : (sets : List Ranks) (n : ℕ) (d ranks : Ranks) → n < length sets → slice_set sets n (union (slice_index_or sets n d) ranks) ≡ add_at sets n ranks
add_at_set [] n d ranks lt = absurd (omega arith)
add_at_set (set ∷ sets) zero d ranks lt = refl
add_at_set (set ∷ sets) (suc n) d ranks lt = ap (λ t. set ∷ t) (add_at_set sets n d ranks (omega arith))

-- as many sets as before
pub length-add_at : (sets : List Ranks) (n : ℕ) (ranks : Ranks) → length (add_at sets n ranks) ≡ length sets
length-add_at [] n ranks = refl
length-add_at (set ∷ sets) zero ranks = refl
length-add_at (set ∷ sets) (suc n) ranks = ap suc (length-add_at sets n ranks)

-- the other sets stay
pub other_set : (sets : List Ranks) (n m : ℕ) (ranks : Ranks) → m ≢ n → get_or (add_at sets n ranks) m none ≡ get_or sets m none
other_set [] n m ranks ne = refl
other_set (set ∷ sets) zero zero ranks ne = absurd (ne refl)
other_set (set ∷ sets) zero (suc m) ranks ne = refl
other_set (set ∷ sets) (suc n) zero ranks ne = refl
other_set (set ∷ sets) (suc n) (suc m) ranks ne = other_set sets n m ranks (λ e. ne (ap suc e))

either : (a b : Bool) → (a || b) ≡ true → (a ≡ true) ⊎ (b ≡ true)
either true b e = inl refl
either false b e = inr e

-- a rank of a set was there before, or is one of those that came
pub there_before : (sets : List Ranks) (n m : ℕ) (ranks : Ranks) (r : ℕ) → Has r (get_or (add_at sets n ranks) m none) → Has r (get_or sets m none) ⊎ ((m ≡ n) × Has r ranks)
there_before [] n m ranks r there = inl there
there_before (set ∷ sets) zero zero ranks r there = by (either (has set r) (has ranks r) (sym (has-union set ranks r) ∙ there))
  where
    by : Has r set ⊎ Has r ranks → Has r set ⊎ ((zero ≡ zero) × Has r ranks)
    by (inl old) = inl old
    by (inr new) = inr (refl, new)
there_before (set ∷ sets) zero (suc m) ranks r there = inl there
there_before (set ∷ sets) (suc n) zero ranks r there = inl there
there_before (set ∷ sets) (suc n) (suc m) ranks r there = by (there_before sets n m ranks r there)
  where
    by : Has r (get_or sets m none) ⊎ ((m ≡ n) × Has r ranks) → Has r (get_or sets m none) ⊎ ((suc m ≡ suc n) × Has r ranks)
    by (inl old) = inl old
    by (inr new) = inr (ap suc new.0, new.1)

-- one of two tests that hold
pub or_first : (a b : Bool) → a ≡ true → (a || b) ≡ true
or_first true b e = refl
or_first false b e = cc

pub or_second : (a b : Bool) → b ≡ true → (a || b) ≡ true
or_second true b e = refl
or_second false b e = e

-- a rank of one set is one of all
pub in_one : (sets : List Ranks) (m r : ℕ) → Has r (get_or sets m none) → in_any r sets ≡ true
in_one [] m r there = absurd (true≢false (sym there ∙ has-none r))
in_one (set ∷ sets) zero r there = or_first (has set r) (in_any r sets) there
in_one (set ∷ sets) (suc m) r there = or_second (has set r) (in_any r sets) (in_one sets m r there)

-- a rank of all is one of a set
pub in_some : (sets : List Ranks) (r : ℕ) → in_any r sets ≡ true → (m : ℕ) × (m < length sets) × Has r (get_or sets m none)
in_some [] r there = absurd (true≢false (sym there))
in_some (set ∷ sets) r there = by (either (has set r) (in_any r sets) there) (in_some sets r)
  where
    by : Has r set ⊎ (in_any r sets ≡ true) → (in_any r sets ≡ true → (m : ℕ) × (m < length sets) × Has r (get_or sets m none)) → (m : ℕ) × (m < suc (length sets)) × Has r (get_or (set ∷ sets) m none)
    by (inl here) later = (0, omega arith, here)
    by (inr rest) later = let l = later rest in let lt = l.1 in (suc l.0, omega arith, l.2)

or_more : (a b c d : Bool) → (a ≡ true → c ≡ true) → (b ≡ true → d ≡ true) → (a || b) ≡ true → (c || d) ≡ true
or_more true b c d first second e = or_first c d (first refl)
or_more false b c d first second e = or_second c d (second e)

any_more : (sets : List Ranks) (n : ℕ) (ranks : Ranks) (r : ℕ) → in_any r sets ≡ true → in_any r (add_at sets n ranks) ≡ true
any_more [] n ranks r there = there
any_more (set ∷ sets) zero ranks r there = or_more (has set r) (in_any r sets) (has (union set ranks) r) (in_any r sets) (λ e. has-union set ranks r ∙ or_first (has set r) (has ranks r) e) (λ e. e) there
any_more (set ∷ sets) (suc n) ranks r there = or_more (has set r) (in_any r sets) (has set r) (in_any r (add_at sets n ranks)) (λ e. e) (any_more sets n ranks r) there

-- no rank is lost
pub all_ranks_grow : (sets : List Ranks) (n : ℕ) (ranks : Ranks) → IsSubset (all_ranks sets) (all_ranks (add_at sets n ranks))
all_ranks_grow sets n ranks r there = has-all_ranks (add_at sets n ranks) r ∙ any_more sets n ranks r (sym (has-all_ranks sets r) ∙ there)

-- of disjoint sets a rank is in one alone
pub not_in_both : (ranks others : Ranks) (r : ℕ) → are_disjoint ranks others ≡ true → Has r ranks → Has r others → ⊥
unfolding are_disjoint
not_in_both ranks others r disjoint one other =
    true≢false (sym ((λ i. one i && other i)) ∙ sym (has-those (has others) ranks r) ∙ ap (λ s. has s r) (none_from_size (those (has others) ranks) (eqb-true _ _ disjoint)) ∙ has-none r)

-- sets are disjoint where no rank is in both
pub disjoint_from : (ranks others : Ranks) → ((r : ℕ) → Has r ranks → Has r others → ⊥) → are_disjoint ranks others ≡ true
unfolding are_disjoint
disjoint_from ranks others distinct =
    ap is_empty (same_ranks (those (has others) ranks) none (λ r. has-those (has others) ranks r ∙ by r (has ranks r) refl (has others r) refl ∙ sym (has-none r)))
  where
    by : (r : ℕ) (a : Bool) → has ranks r ≡ a → (b : Bool) → has others r ≡ b → (a && b) ≡ false
    by r true one true other = absurd (distinct r one other)
    by r true one false other = refl
    by r false one b other = refl

-- ranks that are placed nowhere are placed once more
pub once_more : (sets : List Ranks) (n : ℕ) (ranks : Ranks) → ArePlacedOnce sets → are_disjoint ranks (all_ranks sets) ≡ true → ArePlacedOnce (add_at sets n ranks)
once_more sets n ranks once disjoint m k r at_m at_k = by (there_before sets n m ranks r at_m) (there_before sets n k ranks r at_k)
  where
    clash : (j : ℕ) → Has r (get_or sets j none) → Has r ranks → ⊥
    clash j old new = not_in_both ranks (all_ranks sets) r disjoint new (has-all_ranks sets r ∙ in_one sets j r old)

    by : Has r (get_or sets m none) ⊎ ((m ≡ n) × Has r ranks) → Has r (get_or sets k none) ⊎ ((k ≡ n) × Has r ranks) → m ≡ k
    by (inl a) (inl b) = once m k r a b
    by (inl a) (inr b) = absurd (clash m a b.1)
    by (inr a) (inl b) = absurd (clash k b a.1)
    by (inr a) (inr b) = a.0 ∙ sym b.0

-- so many sets without a rank
pub one_more : (n : ℕ) → empty_sets n ++ none ∷ [] ≡ empty_sets (n + 1)
one_more n = let e : suc n ≡ n + 1 = omega arith in ap empty_sets e

length-append_one : (sets : List Ranks) (set : Ranks) → length (sets ++ set ∷ []) ≡ suc (length sets)
length-append_one [] set = refl
length-append_one (x ∷ sets) set = ap suc (length-append_one sets set)

pub length-empty_sets : (n : ℕ) → length (empty_sets n) ≡ n
length-empty_sets zero = refl
length-empty_sets (suc n) = length-append_one (empty_sets n) none ∙ ap suc (length-empty_sets n)

append_none : (sets : List Ranks) (m : ℕ) → ((k : ℕ) → get_or sets k none ≡ none) → get_or (sets ++ none ∷ []) m none ≡ none
append_none [] zero all = refl
append_none [] (suc m) all = refl
append_none (set ∷ sets) zero all = all zero
append_none (set ∷ sets) (suc m) all = append_none sets m (λ k. all (suc k))

-- they have no rank
pub empty_sets_empty : (n m : ℕ) → get_or (empty_sets n) m none ≡ none
empty_sets_empty zero m = refl
empty_sets_empty (suc n) m = append_none (empty_sets n) m (empty_sets_empty n)

any_none : (sets : List Ranks) (r : ℕ) → ((k : ℕ) → get_or sets k none ≡ none) → in_any r sets ≡ false
any_none [] r all = refl
any_none (set ∷ sets) r all = ap (λ b. b || in_any r sets) (ap (λ s. has s r) (all zero) ∙ has-none r) ∙ any_none sets r (λ k. all (suc k))

pub all_ranks-empty_sets : (n : ℕ) → none ≡ all_ranks (empty_sets n)
all_ranks-empty_sets n = same_ranks none (all_ranks (empty_sets n)) (λ r. has-none r ∙ sym (any_none (empty_sets n) r (empty_sets_empty n)) ∙ sym (has-all_ranks (empty_sets n) r))
