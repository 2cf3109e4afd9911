use Rattle.std.proofs.Common.{◌≡◌, ◌*◌, ◌<◌, ◌≤◌, ◌^◌, ℕ, nat_eq, [], ◌∷◌, ◌∙◌, sym, ap, inl, inr, arith, eq-eqb, ne_eqb}
use Rattle.std.proofs.lemmas.Bool.{cases_eq, cases_Bool, true≢false}
use Rattle.rank_set.specs.declared.TheConstants.{RANK_LIMIT}
use Rattle.rank_set.specs.Ranks.{Ranks, has, Has, is_subset, has-none, subset_from, subset_has}
use Rattle.rank_set.specs.Words.{ranks_in}
use Rattle.rank_set.proofs.OneWord.{empty_word, word_member}
use Rattle.rank_set.proofs.RunWalks.{in_step, in_all, in_fails}
use Rattle.rank_set.proofs.by_runs.covers_word.Goals as goal

-- a word past all that a set can have
past_all : (o w : ℕ) (s : Ranks) → w < 2 ^ 64 → RANK_LIMIT ≤ 64 * o → ((r : ℕ) → Has r s → r < RANK_LIMIT) → nat_eq w 0 ≡ is_subset (ranks_in o (w ∷ [])) s
past_all o w s small past limit = elim (cases_eq w 0) [
  | inl zero ↦ eq-eqb w 0 zero ∙ sym (subset_from (ranks_in o (w ∷ [])) s (λ r one. absurd (true≢false (sym one ∙ ap (λ (t : Ranks). has t r) (empty_word o w zero) ∙ has-none r))))
  | inr other ↦ ne_eqb w 0 other ∙ elim (cases_Bool (is_subset (ranks_in o (w ∷ [])) s)) [
    | inl all ↦ (let m = word_member o w small (omega (arith, other)) in absurd (omega (arith, m.1, past, limit m.0 (subset_has (ranks_in o (w ∷ [])) s all m.0 m.2))))
    | inr e ↦ sym e
  ]
]

pub returns-then-index-ge-WORD_LIMIT : goal.returns-then-index-ge-WORD_LIMIT
returns-then-index-ge-WORD_LIMIT c = past_all c.args.index c.args.word c.args.set.now (omega arith) (omega (arith, c.if-index-ge-WORD_LIMIT.true)) c.invariant.ensures

pub returns-then-not-has_run : goal.returns-then-not-has_run
returns-then-not-has_run c = sym (in_fails (ranks_in c.args.index (c.args.word ∷ [])) c.args.set.now c.loop-run.from c.in-Some.run'.first c.in-Some.run'.last c.in-Some.ensures.run (sym c.has_run.ensures ∙ c.if-not-has_run.true))

pub loop-run-preserved : goal.loop-run-preserved
loop-run-preserved c = record {
  within = omega (arith, c.in-Some.ensures.in_range, c.if-index-ge-WORD_LIMIT.false);
  done = in_step (ranks_in c.args.index (c.args.word ∷ [])) c.args.set.now c.loop-run.from c.in-Some.run'.first c.in-Some.run'.last c.loop-run.invariant.done c.in-Some.ensures.run (sym c.has_run.ensures ∙ c.if-not-has_run.false);
}

pub returns : goal.returns
returns c = sym (in_all (ranks_in c.args.index (c.args.word ∷ [])) c.args.set.now c.loop-run.from c.loop-run.invariant.done c.in_default.ensures.none)
