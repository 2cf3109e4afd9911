-- Sets of one rank.
use Rattle.std.proofs.Common.{◌≡◌, ◌≢◌, ◌∙◌, ℕ, true, not, ◌&&◌, nat_lt, sym, ap, arith, inl, inr}
use Rattle.std.proofs.lemmas.Bool.{and_parts, or_right, or_cases, true≢false}
use Rattle.std.proofs.lemmas.Bool.Decides.{nat_tests}
use Rattle.rank_set.specs.Ranks.{Ranks, none, has, Has, IsSubset, has-union, has-none}
use Rattle.rank_set.specs.Runs.{ranks_between}
use Rattle.rank_set.proofs.RunSets.{has-ranks_between}
use Rattle.stat_plan.specs.LineLists.{one_rank}

one_between : (rank : ℕ) → (not (nat_lt rank rank) && not (nat_lt rank rank)) ≡ true
one_between rank = grind (arith, nat_tests)

between_is : (rank r : ℕ) → (not (nat_lt r rank) && not (nat_lt rank r)) ≡ true → r ≡ rank
between_is rank r e =
    let parts = and_parts (not (nat_lt r rank)) (not (nat_lt rank r)) e in
    let a = parts.0 in
    let b = parts.1 in
    grind (arith, nat_tests)

-- it has the rank
pub has_one_rank : (rank : ℕ) → Has rank (one_rank rank)
has_one_rank rank =
    has-union none (ranks_between rank rank) rank
    ∙ or_right (has none rank) (has (ranks_between rank rank) rank) (has-ranks_between rank rank rank ∙ one_between rank)

-- and no other
pub one_rank_is : (rank r : ℕ) → Has r (one_rank rank) → r ≡ rank
one_rank_is rank r there = elim (or_cases (has none r) (has (ranks_between rank rank) r) (sym (has-union none (ranks_between rank rank) r) ∙ there)) [
  | (inl first) ↦ absurd (true≢false (sym first ∙ has-none r))
  | (inr here) ↦ between_is rank r (sym (has-ranks_between rank rank r) ∙ here)
]

pub one_rank_some : (rank : ℕ) → one_rank rank ≢ none
one_rank_some rank e = true≢false (sym (has_one_rank rank) ∙ ap (λ s. has s rank) e ∙ has-none rank)

-- it is part of a set that has the rank
pub one_rank_within : (rank : ℕ) (own : Ranks) → Has rank own → IsSubset (one_rank rank) own
one_rank_within rank own there r one = ap (has own) (one_rank_is rank r one) ∙ there
