use Rattle.std.proofs.Common.{◌≡◌, ◌≤◌, ◌<◌, ◌+◌, ◌-◌, ◌/◌, length, sym, ap, ◌∙◌, subst, arith}
use Rattle.smallvec.proofs.SmallVecLemmas.{items-with_items}
use Rattle.rank_set.specs.Words.{run_word, ranks_in, AreWords}
use Rattle.rank_set.proofs.RunSets.{no_run_word, some_run_word, ranks_in-run}
use Rattle.rank_set.proofs.Trimming.{HasBits, covered_bits}
use Rattle.rank_set.proofs.words.add_run.Goals as goal

-- the words with the bits of the run
made : (c : goal.After-words-1) → HasBits c.args.offset.now c.args.words.now.items (run_word c.args.first c.args.last) c.extend_to.new.offset c.or_run.new.words
made c =
    let some : c.args.first ≤ c.args.last = c.requires.not_empty in
    let at : c.args.last / 64 + 1 - 1 ≡ c.args.last / 64 = omega arith in
    covered_bits c.args.offset.now c.args.words.now.items (c.args.first / 64) (c.args.last / 64 + 1) c.extend_to.new.offset c.extend_to.new.words.items c.as_mut_slice.result.now c.or_run.new.words (run_word c.args.first c.args.last)
    c.in_ok-extend_to.ensures.ok (omega arith) c.as_mut_slice.ensures.value c.or_run.auto.words c.or_run.ensures (λ k. (no_run_word c.args.first c.args.last k).0)
    (some_run_word c.args.first c.args.last some).0 (subst (λ k. 0 < run_word c.args.first c.args.last k) (sym at) (some_run_word c.args.first c.args.last some).1)

pub returns-clause-trimmed : goal.returns-clause-trimmed
returns-clause-trimmed c = subst (AreWords c.extend_to.new.offset) (sym (items-with_items c.extend_to.new.words c.or_run.new.words (c.or_run.auto.words ∙ ap length c.as_mut_slice.ensures.value))) (made c).words

pub returns-clause-ok : goal.returns-clause-ok
returns-clause-ok c =
    ap (ranks_in c.extend_to.new.offset) (items-with_items c.extend_to.new.words c.or_run.new.words (c.or_run.auto.words ∙ ap length c.as_mut_slice.ensures.value))
    ∙ ranks_in-run c.args.offset.now c.args.words.now.items c.extend_to.new.offset c.or_run.new.words c.args.first c.args.last (made c).each
