use Rattle.std.proofs.Common.{rules, ◌≡◌, ℕ, ◌≤◌, ◌+◌, ◌-◌, ◌/◌, ◌%◌, List, length, take, min, get_or, sym, ap, ◌∙◌, inl, inr, arith}
use Rattle.std.proofs.lemmas.Bool.{cases_lt}
use Rattle.std.proofs.lemmas.List.{get_or-take, take_all}
use Rattle.rank_set.specs.Ranks.{has}
use Rattle.rank_set.specs.Words.{ranks_in, word_at, is_bit}
use Rattle.rank_set.proofs.WordSets.{has-ranks_in, word_at-below, word_at-from}
use Rattle.rank_set.proofs.RunSearch.{cut_run, no_run, late_run}
use Rattle.rank_set.proofs.words.run_within.Goals as goal

-- the first words have the ranks up to a number, if they are as many as reach there
same_up_to : (o : ℕ) (ws : List ℕ) (to n : ℕ) → n ≡ min ((to / 64 + 1) - o) (length ws) → (q : ℕ) → q ≤ to → has (ranks_in o (take n ws)) q ≡ has (ranks_in o ws) q
same_up_to o ws to n is q le = has-ranks_in o (take n ws) q ∙ ap (λ w. is_bit w (q % 64)) (same_word (q / 64) (omega (arith, le))) ∙ sym (has-ranks_in o ws q)
  where
    same_word : (k : ℕ) → k ≤ to / 64 → word_at o (take n ws) k ≡ word_at o ws k
    same_word k le = elim (cases_lt k o) [
      | inl low ↦ word_at-below o (take n ws) k low ∙ sym (word_at-below o ws k low)
      | inr up ↦ word_at-from o (take n ws) k up ∙ elim (cases_lt (k - o) n) [
        | inl lt ↦ get_or-take n ws (k - o) 0 lt
        | inr past ↦ ap (λ vs. get_or vs (k - o) 0) (take_all n ws (omega (arith, is, past, up, le)))
      ] ∙ sym (word_at-from o ws k up)
    ]

pub returns-in_default-clause-none : goal.returns-in_default-clause-none
returns-in_default-clause-none c =
    let n : c.min-len.result ≡ min ((c.args.to / 64 + 1) - c.args.offset) (length c.args.words.now) = search rules in
    no_run (ranks_in c.args.offset c.args.words.now) (ranks_in c.args.offset (take c.min-len.result c.args.words.now)) c.args.from c.args.to (same_up_to c.args.offset c.args.words.now c.args.to c.min-len.result n) c.in_default.ensures.none

pub returns-then-to-run-clause-none : goal.returns-then-to-run-clause-none
returns-then-to-run-clause-none c =
    let n : c.min-len.result ≡ min ((c.args.to / 64 + 1) - c.args.offset) (length c.args.words.now) = search rules in
    late_run (ranks_in c.args.offset c.args.words.now) (ranks_in c.args.offset (take c.min-len.result c.args.words.now)) c.args.from c.args.to c.in-Some.run'.first c.in-Some.run'.last (same_up_to c.args.offset c.args.words.now c.args.to c.min-len.result n) c.in-Some.ensures.run c.if-to-run.true

pub returns-clause-run : goal.returns-clause-run
returns-clause-run c =
    let n : c.min-len.result ≡ min ((c.args.to / 64 + 1) - c.args.offset) (length c.args.words.now) = search rules in
    cut_run (ranks_in c.args.offset c.args.words.now) (ranks_in c.args.offset (take c.min-len.result c.args.words.now)) c.args.from c.args.to c.in-Some.run'.first c.in-Some.run'.last c.min.result (same_up_to c.args.offset c.args.words.now c.args.to c.min-len.result n) c.in-Some.ensures.run c.if-to-run.false c.min.ensures
