use Rattle.std.proofs.Common.{◌≡◌, ℕ, ◌+◌, ◌-◌, ◌/◌, ◌≤◌, ◌<◌, List, set, get_or, refl, sym, ap, ◌∙◌, arith}
use Rattle.std.specs.Prelude.{bit_or}
use Rattle.rank_set.specs.Words.{run_word}
use Rattle.rank_set.proofs.RunSets.{no_run_word, whole_word}
use Rattle.rank_set.proofs.Changes.{or_start, changed_step, or_end}
use Rattle.rank_set.proofs.words.or_run.Goals as goal

pub loop-k-init : goal.loop-k-init
loop-k-init c =
    let begins : c.args.offset ≤ c.args.first / 64 = c.requires.begins in
    let n : ℕ = c.args.first / 64 - c.args.offset in
    let e : c.args.offset + n ≡ c.args.first / 64 = omega (arith, begins) in
    changed_step c.args.words.now c.args.words.now (λ j w. bit_or w (run_word c.args.first c.args.last (c.args.offset + j))) n n _ (c.args.first / 64 + 1 - c.args.offset)
    (or_start c.args.words.now (λ j. run_word c.args.first c.args.last (c.args.offset + j)) n (λ j lt. (no_run_word c.args.first c.args.last (c.args.offset + j)).0 (omega (arith, lt, begins)))) refl
    (omega (arith, c.requires.stops, c.requires.not_empty, begins)) (λ k. bit_or (get_or c.args.words.now n 0) ((c.word_of_run.ensures ∙ ap (run_word c.args.first c.args.last) (sym e)) k)) (omega (arith, begins))

pub loop-k-preserved : goal.loop-k-preserved
loop-k-preserved c =
    let begins : c.args.offset ≤ c.args.first / 64 = c.requires.begins in
    let above : c.args.first / 64 + 1 ≤ c.loop-k.k = c.loop-k.auto.k in
    let below : c.loop-k.k < c.args.last / 64 = c.loop-k-test.true in
    let n : ℕ = c.loop-k.k - c.args.offset in
    let e : c.args.offset + n ≡ c.loop-k.k = omega (arith, begins, above) in
    let whole : 18446744073709551615 ≡ run_word c.args.first c.args.last (c.args.offset + n) = sym (ap (run_word c.args.first c.args.last) e ∙ whole_word c.args.first c.args.last c.loop-k.k (omega (arith, above)) (omega (arith, below))) in
    changed_step c.args.words.now c.loop-k.words (λ j w. bit_or w (run_word c.args.first c.args.last (c.args.offset + j))) n n _ (c.loop-k.k + 1 - c.args.offset) c.loop-k.invariant refl
    (omega (arith, below, c.requires.stops, begins, above, c.loop-k.invariant.len)) (ap (bit_or (get_or c.loop-k.words n 0)) whole) (omega (arith, begins, above))

pub returns-then-low-high : goal.returns-then-low-high
returns-then-low-high c =
    let begins : c.args.offset ≤ c.args.first / 64 = c.requires.begins in
    let more : c.args.first / 64 < c.args.last / 64 = c.if-low-high.true in
    let n : ℕ = c.args.last / 64 - c.args.offset in
    let e : c.args.offset + n ≡ c.args.last / 64 = omega (arith, begins, more) in
    let g : ℕ → ℕ → ℕ = λ j w. bit_or w (run_word c.args.first c.args.last (c.args.offset + j)) in
    let at : c.loop-k.k - c.args.offset ≡ n = omega (arith, c.loop-k.auto.k-end, c.loop-k-test.false, more) in
    let new : List ℕ = set c.loop-k.words n (bit_or (get_or c.loop-k.words n 0) c.word_of_run-then-low-high.result) in
    or_end c.args.words.now new (λ j. run_word c.args.first c.args.last (c.args.offset + j)) (n + 1)
    (changed_step c.args.words.now c.loop-k.words g (c.loop-k.k - c.args.offset) n _ (n + 1) c.loop-k.invariant (sym at) (omega (arith, at, begins, more, c.requires.stops, c.loop-k.invariant.len))
    (ap (bit_or (get_or c.loop-k.words n 0)) (c.word_of_run-then-low-high.ensures ∙ ap (run_word c.args.first c.args.last) (sym e)) ∙ ap (λ m. g m (get_or c.loop-k.words m 0)) (sym at)) (omega (arith, at)))
    (λ j le. (no_run_word c.args.first c.args.last (c.args.offset + j)).1 (omega (arith, le, begins, more)))

pub returns-else-low-high : goal.returns-else-low-high
returns-else-low-high c = or_end c.args.words.now c.loop-k.words (λ j. run_word c.args.first c.args.last (c.args.offset + j)) (c.loop-k.k - c.args.offset) c.loop-k.invariant (λ j le. (no_run_word c.args.first c.args.last (c.args.offset + j)).1 (omega (arith, le, c.loop-k.auto.k, c.if-low-high.false)))
