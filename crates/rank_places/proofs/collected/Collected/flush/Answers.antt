use Rattle.std.proofs.Common.{◌≡◌, ◌∙◌, ℕ, ◌+◌, ◌-◌, ◌<◌, ◌≤◌, ◌++◌, [], ◌∷◌, length, length-append, replicate, sym, ap, arith}
use Rattle.std.specs.Vec.{vec_len}
use Rattle.std.proofs.lemmas.Bool.{eqb-true, eqb-false}
use Rattle.std.proofs.lemmas.List.{length-replicate}
use Rattle.rank_set.specs.Words.{ranks_in}
use Rattle.rank_places.proofs.Gathering.{flushed}
use Rattle.rank_places.proofs.collected.Collected.flush.Goals.{then-is_empty, else-is_empty}
use Rattle.rank_places.proofs.collected.Collected.flush.Goals as goal

abbrev zero_word : ℕ
zero_word = 0

pub returns-clause-numbers : goal.returns-clause-numbers
returns-clause-numbers c =
    let old = c.args.self.now in
    let new = c.if-is_empty.self in
    let long : vec_len old.words ≡ length old.words.items = old.words.ok.0 in
    let same : new.words.items ≡ old.words.items = elim c.if-is_empty.branch [
      | then-is_empty w ↦ ap (λ s. s.words.items) w.self-is
      | else-is_empty w ↦ ap (λ s. s.words.items) w.self-is
    ] in
    let index : new.index ≡ old.index = elim c.if-is_empty.branch [
      | then-is_empty w ↦ ap (λ s. s.index) w.self-is
      | else-is_empty w ↦ ap (λ s. s.index) w.self-is
    ] in
    let word : new.word ≡ old.word = elim c.if-is_empty.branch [
      | then-is_empty w ↦ ap (λ s. s.word) w.self-is
      | else-is_empty w ↦ ap (λ s. s.word) w.self-is
    ] in
    let none : length old.words.items ≡ 0 → new.offset ≡ old.index = λ e. elim c.if-is_empty.branch [
      | then-is_empty w ↦ ap (λ s. s.offset) w.self-is
      | else-is_empty w ↦ absurd (eqb-false _ 0 (sym c.is_empty.ensures ∙ w.if-is_empty.false) (long ∙ e))
    ] in
    let some : 0 < length old.words.items → new.offset ≡ old.offset = λ lt. elim c.if-is_empty.branch [
      | then-is_empty w ↦ absurd (omega (arith, lt, long, eqb-true (vec_len old.words) 0 (sym c.is_empty.ensures ∙ w.if-is_empty.true)))
      | else-is_empty w ↦ ap (λ s. s.offset) w.self-is
    ] in
    let before : old.offset + length old.words.items ≤ old.index = c.requires.good.before in
    let n : ℕ = new.index - new.offset - length new.words.items in
    let fits : length new.words.items ≤ new.index - new.offset = elim c.if-is_empty.branch [
      | then-is_empty w ↦ omega (arith, ap length same, long, eqb-true (vec_len old.words) 0 (sym c.is_empty.ensures ∙ w.if-is_empty.true))
      | else-is_empty w ↦ omega (arith, ap length same, index, before, ap (λ s. s.offset) w.self-is)
    ] in
    let is : c.pad.new.words.items ≡ old.words.items ++ replicate n 0 = c.in_ok-pad.ensures ∙ ap (λ xs. xs ++ replicate n 0) same in
    let low : new.offset ≤ old.index = elim c.if-is_empty.branch [
      | then-is_empty w ↦ omega (arith, ap (λ s. s.offset) w.self-is)
      | else-is_empty w ↦ omega (arith, before, ap (λ s. s.offset) w.self-is)
    ] in
    let end : new.offset + length c.pad.new.words.items ≡ old.index =
    omega (arith, ap length is ∙ length-append old.words.items (replicate n 0), length-replicate n zero_word, ap length same, index, low, fits) in
    ap (ranks_in new.offset) (c.in_ok-push.ensures.items ∙ ap (λ w. c.pad.new.words.items ++ w ∷ []) word)
    ∙ flushed old.offset new.offset old.words.items c.pad.new.words.items n old.index old.word none some is end
