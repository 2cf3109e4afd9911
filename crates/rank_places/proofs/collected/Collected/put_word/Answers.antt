use Rattle.std.proofs.Common.{◌≡◌, ◌∙◌, ◌/◌, ◌<◌, ◌≤◌, ◌^◌, true, [], ◌∷◌, length, sym, ap, subst, arith}
use Rattle.rank_set.specs.Ranks.{has, union}
use Rattle.rank_set.specs.Words.{ranks_in}
use Rattle.rank_places.specs.Collected.{collected, IsCollected}
use Rattle.rank_places.proofs.Gathering.{union_assoc, word_or, has_some, some_or, first_word, last_there, union_no_word}
use Rattle.rank_places.proofs.collected.Collected.put_word.Goals.{then-self-ne0+in_ok-flush, else-self-ne0}
use Rattle.rank_places.proofs.collected.Collected.put_word.Goals as goal

pub returns-then-word-eq0-clause-numbers : goal.returns-then-word-eq0-clause-numbers
returns-then-word-eq0-clause-numbers c =
    union_no_word (collected c.args.self.now) c.args.index ∙ ap (λ w. union (collected c.args.self.now) (ranks_in c.args.index (w ∷ []))) (sym c.if-word-eq0.true)

pub returns-then-index-self-clause-good : goal.returns-then-index-self-clause-good
returns-then-index-self-clause-good c = record {
  trimmed = c.requires.good.trimmed;
  before = c.requires.good.before;
  within = c.requires.good.within;
  nothing = λ e. absurd (omega (arith, e, some_or c.args.self.now.word c.args.word (omega (arith, c.if-word-eq0.false)) c.ranges.word.fits));
}

pub returns-then-index-self-clause-numbers : goal.returns-then-index-self-clause-numbers
returns-then-index-self-clause-numbers c =
    let old = c.args.self.now in
    ap (union (ranks_in old.offset old.words.items)) (word_or old.index old.word c.args.word) ∙ sym (union_assoc (ranks_in old.offset old.words.items) (ranks_in old.index (old.word ∷ [])) (ranks_in old.index (c.args.word ∷ [])))
    ∙ ap (λ k. union (collected old) (ranks_in k (c.args.word ∷ []))) (sym c.if-index-self.true)

pub returns-clause-good : goal.returns-clause-good
returns-clause-good c = elim c.if-self-ne0.branch [
  | then-self-ne0+in_ok-flush w ↦
      let old = c.args.self.now in
      let small : old.word < 2 ^ 64 = omega arith in
      let some : 0 < old.word = omega (arith, w.if-self-ne0.true) in
      let one = has_some old.index old.word some small in
      let there : has (collected old) one.0 ≡ true = last_there (ranks_in old.offset old.words.items) (ranks_in old.index (old.word ∷ [])) one.0 one.1 in
      let low : one.0 / 64 ≤ c.args.index = c.requires.above one.0 there in
      subst (λ s. IsCollected (record { offset = s.offset; words = s.words; index = c.args.index; word = c.args.word })) (sym w.self-is) (record {
        trimmed = w.in_ok-flush.ensures.trimmed;
        before = omega (arith, w.in_ok-flush.ensures.end, low, one.2, c.if-index-self.false);
        within = c.requires.within_limit (omega (arith, c.if-word-eq0.false));
        nothing = λ e. absurd (c.if-word-eq0.false e);
      })
  | else-self-ne0 w ↦
      let old = c.args.self.now in
      let none : length old.words.items ≡ 0 = c.requires.good.nothing w.if-self-ne0.false in
      subst (λ s. IsCollected (record { offset = s.offset; words = s.words; index = c.args.index; word = c.args.word })) (sym w.self-is) (record {
        trimmed = c.requires.good.trimmed;
        before = omega (arith, none, c.requires.good.trimmed.nothing none);
        within = c.requires.within_limit (omega (arith, c.if-word-eq0.false));
        nothing = λ e. absurd (c.if-word-eq0.false e);
      })
]

pub returns-clause-numbers : goal.returns-clause-numbers
returns-clause-numbers c = elim c.if-self-ne0.branch [
  | then-self-ne0+in_ok-flush w ↦
      ap (λ s. union (ranks_in s.offset s.words.items) (ranks_in c.args.index (c.args.word ∷ []))) w.self-is
      ∙ ap (λ s. union s (ranks_in c.args.index (c.args.word ∷ []))) w.in_ok-flush.ensures.numbers
  | else-self-ne0 w ↦
      let old = c.args.self.now in
      ap (λ s. union (ranks_in s.offset s.words.items) (ranks_in c.args.index (c.args.word ∷ []))) w.self-is
      ∙ first_word old.offset old.offset old.index old.words.items c.args.index c.args.word (c.requires.good.nothing w.if-self-ne0.false)
      ∙ ap (λ v. union (union (ranks_in old.offset old.words.items) (ranks_in old.index (v ∷ []))) (ranks_in c.args.index (c.args.word ∷ []))) (sym w.if-self-ne0.false)
]
