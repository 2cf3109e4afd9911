use Rattle.std.proofs.Common.{◌≡◌, ◌∙◌, [], ◌∷◌, get_or, ap, subst, arith, true}
use Rattle.std.proofs.lemmas.Result.{IfOk-weaker}
use Rattle.rank_set.specs.Ranks.{has, union}
use Rattle.rank_set.specs.Words.{offset_of, ranks_in}
use Rattle.rank_places.specs.Table.{cover_of, image}
use Rattle.rank_places.specs.Collected.{collected}
use Rattle.rank_places.proofs.WordByWord.{word_inside, word_above, word_more, words_done, words_start}
use Rattle.rank_places.proofs.moving.moved_bits.Goals as goal

pub loop-word-init : goal.loop-word-init
loop-word-init c = record {
  index = omega (arith, c.word_offset-index.ensures);
  moves = c.requires.moves;
  good = c.new-out.ensures.good;
  numbers = words_start (offset_of c.args.set.now) c.args.words.now c.args.way.back (cover_of c.args.way.runs.now) c.args.set.now c.requires.inside c.requires.words (collected c.new-out.result) c.new-out.ensures.none;
}

pub put_moved-requires-clause-within_limit : goal.put_moved-requires-clause-within_limit
put_moved-requires-clause-within_limit c = omega (arith, c.loop-word.invariant.index, c.loop-word-test.true, c.requires.trimmed.within_limit)

pub put_moved-requires-clause-inside : goal.put_moved-requires-clause-inside
put_moved-requires-clause-inside c = λ x one.
    word_inside (offset_of c.args.set.now) c.args.words.now c.args.way.back (cover_of c.args.way.runs.now) c.args.set.now c.requires.inside c.requires.words c.loop-word.word-index x
    (subst (λ k. has (ranks_in k (get_or c.args.words.now c.loop-word.word-index 0 ∷ [])) x ≡ true) c.loop-word.invariant.index one)

pub put_moved-requires-clause-good : goal.put_moved-requires-clause-good
put_moved-requires-clause-good c = c.loop-word.invariant.good

pub put_moved-requires-clause-above : goal.put_moved-requires-clause-above
put_moved-requires-clause-above c = λ q x y there le becomes.
    word_above (offset_of c.args.set.now) c.args.words.now c.args.way.back (cover_of c.args.way.runs.now) c.args.set.now c.requires.inside c.requires.words c.loop-word.word-index (collected c.loop-word.out) c.loop-word.invariant.numbers q x y there
    (omega (arith, le, c.loop-word.invariant.index)) becomes

pub put_moved-requires-clause-moves : goal.put_moved-requires-clause-moves
put_moved-requires-clause-moves c = c.loop-word.invariant.moves

pub overflow_add-index : goal.overflow_add-index
overflow_add-index c = omega (arith, c.loop-word.invariant.index, c.loop-word-test.true, c.requires.trimmed.within_limit)

pub loop-word-preserved : goal.loop-word-preserved
loop-word-preserved c = record {
  index = omega (arith, c.loop-word.invariant.index);
  moves = c.in_ok-run.ensures.moves;
  good = c.in_ok-run.ensures.good;
  numbers =
      word_more (offset_of c.args.set.now) c.args.words.now c.args.way.back (cover_of c.args.way.runs.now) c.args.set.now c.requires.inside c.requires.words c.loop-word.word-index (collected c.loop-word.out) (collected c.put_moved.new.out) c.loop-word-test.true c.loop-word.invariant.numbers
      (c.in_ok-run.ensures.numbers ∙ ap (λ k. union (collected c.loop-word.out) (image c.args.way.back (cover_of c.args.way.runs.now) (ranks_in k (get_or c.args.words.now c.loop-word.word-index 0 ∷ [])))) c.loop-word.invariant.index);
}

pub finish-requires : goal.finish-requires
finish-requires c = c.loop-word.invariant.good

pub returns : goal.returns
returns c =
    IfOk-weaker c.finish.result (λ set. set ≡ collected c.loop-word.out) (λ moved. moved ≡ image c.args.way.back (cover_of c.args.way.runs.now) c.args.set.now)
    (λ set made. made ∙ c.loop-word.invariant.numbers ∙ words_done (offset_of c.args.set.now) c.args.words.now c.args.way.back (cover_of c.args.way.runs.now) c.args.set.now c.requires.inside c.requires.words c.loop-word.word-index c.loop-word-test.false)
    c.finish.ensures
