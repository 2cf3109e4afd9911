use Rattle.std.proofs.Common.{◌≡◌, ◌≤◌, ◌<◌, ◌/◌, ◌%◌, ℕ, arith, ap, ◌∙◌, sym, get_or}
use Rattle.rank_table.specs.Numbers.{numbers_of}
use Rattle.rank_table.proofs.Numbers.{run_step, end_at, word_at, word_read}
use Rattle.rank_table.proofs.run_in.Goals as goal

pub returns-then-same-stop-clause-same : goal.returns-then-same-stop-clause-same
returns-then-same-stop-clause-same c =
    let words = c.args.words.now in
    let at = c.loop-at.at in
    let read = word_read words (at / 64) c.index-words-at.result c.index-words-at.is (omega (arith, c.loop-at-test.true, c.requires.in_words)) in
    let here : (i : ℕ) → at % 64 ≤ i → i < c.same_until-same.result → get_or (numbers_of (word_at words (at / 64))) i 0 ≡ c.number_in-number.result = λ i ge lt. ap (λ w. get_or (numbers_of w) i 0) read ∙ c.same_until-same.ensures.same i ge lt in
    run_step words c.number_in-number.result c.args.first at c.min-stop.result c.same_until-same.result (omega (arith, c.min-stop.ensures)) c.same_until-same.ensures.within here c.loop-at.invariant.same

pub returns-then-same-stop-clause-differs : goal.returns-then-same-stop-clause-differs
returns-then-same-stop-clause-differs c below same =
    let words = c.args.words.now in
    let at = c.loop-at.at in
    let read = word_read words (at / 64) c.index-words-at.result c.index-words-at.is (omega (arith, c.loop-at-test.true, c.requires.in_words)) in
    c.same_until-same.ensures.differs c.if-same-stop.true (sym (ap (λ w. get_or (numbers_of w) c.same_until-same.result 0) read)
    ∙ sym (end_at words at c.same_until-same.result (omega (arith, c.if-same-stop.true, c.min-stop.ensures))) ∙ same)

pub loop-at-preserved : goal.loop-at-preserved
loop-at-preserved c =
    let words = c.args.words.now in
    let at = c.loop-at.at in
    let all : c.same_until-same.result ≡ c.min-stop.result = omega (arith, c.if-same-stop.false, c.same_until-same.ensures.within) in
    let read = word_read words (at / 64) c.index-words-at.result c.index-words-at.is (omega (arith, c.loop-at-test.true, c.requires.in_words)) in
    let here : (i : ℕ) → at % 64 ≤ i → i < c.min-stop.result → get_or (numbers_of (word_at words (at / 64))) i 0 ≡ c.number_in-number.result = λ i ge lt. ap (λ w. get_or (numbers_of w) i 0) read ∙ c.same_until-same.ensures.same i ge (omega (arith, lt, all)) in
    record {
      passed = omega (arith, c.loop-at.invariant.passed, c.loop-at-test.true, c.min-stop.ensures);
      within = omega (arith, c.loop-at-test.true, c.min-stop.ensures);
      same = run_step words c.number_in-number.result c.args.first at c.min-stop.result c.min-stop.result (omega (arith, c.min-stop.ensures)) (omega arith) here c.loop-at.invariant.same;
    }
