-- Runs of a coverage, one after another.
use Rattle.std.proofs.Common.{◌≡◌, ℕ, suc, ◌+◌, Bool, true, false, ◌||◌, refl, sym, ap, ◌∙◌}
use Rattle.rank_set.specs.Ranks.{Ranks, union, has-union, same_ranks, has}
use Rattle.rank_set.specs.Runs.{ranks_between, ranks_of_runs}
use Rattle.rank_set.proofs.WordSets.{union_none}
use Rattle.packet_frame.specs.Fields.{whole, ◌>>=◌, list_form}
use Rattle.packet_frame.specs.Frame.{run_form, first_rank_form, last_rank_form, next_run, after_run}
use Rattle.packet_frame.specs.Scanning.{after_cover, runs_left}
use Rattle.packet_frame.proofs.Binding.{bind_assoc, bind_same, first_and_rest}

or_assoc : (a b c : Bool) → (a || (b || c)) ≡ ((a || b) || c)
or_assoc true b c = refl
or_assoc false b c = refl

pub union_assoc : (s t u : Ranks) → union s (union t u) ≡ union (union s t) u
union_assoc s t u = same_ranks _ _ (λ r.
    has-union s (union t u) r ∙ ap (λ b. has s r || b) (has-union t u r) ∙ or_assoc (has s r) (has t r) (has u r)
    ∙ sym (has-union (union s t) u r ∙ ap (λ b. b || has u r) (has-union s t r)))

module _ (version stream wave : ℕ) (cover : Ranks) where
  -- a run follows
  pub run_follows : (least count left : ℕ) → count ≡ suc left → runs_left version stream wave cover least count ≡ first_rank_form least >>= λ first. last_rank_form first >>= λ last. runs_left version stream wave (union cover (ranks_between first last)) (last + 2) left
  unfolding run_form
  run_follows least count left e =
      ap (runs_left version stream wave cover least) e
      ∙ first_and_rest next_run after_run least left (λ rest. after_cover version stream wave (union cover (ranks_of_runs rest)))
      ∙ bind_assoc (first_rank_form least) (λ first. last_rank_form first >>= λ last. whole (first, last)) _
      ∙ bind_same (first_rank_form least) _ _ (λ first.
      bind_assoc (last_rank_form first) (λ last. whole (first, last)) _
      ∙ bind_same (last_rank_form first) _ _ (λ last.
      bind_same (list_form next_run after_run (last + 2) left) _ _ (λ rest. ap (after_cover version stream wave) (union_assoc cover (ranks_between first last) (ranks_of_runs rest)))))

  -- no run is left
  pub runs_end : (least left : ℕ) → left ≡ 0 → runs_left version stream wave cover least left ≡ after_cover version stream wave cover
  runs_end least left e = ap (runs_left version stream wave cover least) e ∙ ap (after_cover version stream wave) (sym (union_none cover))
