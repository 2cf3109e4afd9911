use Rattle.std.proofs.Common.{◌∙◌, ℕ, ◌+◌, ◌*◌, ◌<◌, ◌≤◌, [], ◌∷◌, sym, ap, arith, w64}
use Rattle.std.specs.Int.{trailing_zeros}
use Rattle.rank_set.specs.Ranks.{union}
use Rattle.rank_set.specs.Words.{is_bit, ranks_in}
use Rattle.rank_set.proofs.WordSets.{union_none}
use Rattle.rank_places.specs.Table.{cover_of, image}
use Rattle.rank_places.specs.Collected.{collected}
use Rattle.rank_places.proofs.Images.{before_none, before_all, put_next, put_above}
use Rattle.rank_places.proofs.OneWord.{from_word, whole_rest, nothing_left, first_there, first_gap, first_near, bits, bits_in, bits_past, bits_few, next_rest}
use Rattle.rank_places.proofs.moving.put_moved.Goals as goal

pub loop-rest-init : goal.loop-rest-init
loop-rest-init c = record {
  low = omega arith;
  near = omega arith;
  rest = whole_rest c.args.index c.args.word c.ranges.word.fits;
  moves = c.requires.moves;
  good = c.requires.good;
  numbers =
      union_none (collected c.args.out.now)
      ∙ ap (union (collected c.args.out.now)) (sym (before_none c.args.way.back (cover_of c.args.way.runs.now) (ranks_in c.args.index (c.args.word ∷ [])) (64 * c.args.index) (from_word c.args.index c.args.word c.ranges.word.fits)));
}

pub shift_with-run-requires-clause-inside : goal.shift_with-run-requires-clause-inside
shift_with-run-requires-clause-inside c =
    let i = c.loop-rest.invariant in
    c.requires.inside (c.loop-rest.from + trailing_zeros w64 c.loop-rest.rest) (first_there c.args.index c.args.word c.ranges.word.fits c.loop-rest.from c.loop-rest.rest i.low i.rest (omega (arith, c.loop-rest-test.true)))

pub put-requires-clause-below_limit : goal.put-requires-clause-below_limit
put-requires-clause-below_limit c = λ j one.
    let i = c.loop-rest.invariant in
    let le = bits_few c.args.index c.args.word c.ranges.word.fits c.loop-rest.from c.loop-rest.rest i.low i.rest (omega (arith, c.loop-rest-test.true)) c.min-len.result (omega (arith, c.min-len.ensures)) j one in
    omega (arith, le, c.min-len.ensures, c.shift_with-run.ensures.moved.below_limit, c.shift_with-run.ensures.start, c.shift_with-run.ensures.end)

pub put-requires-clause-above : goal.put-requires-clause-above
put-requires-clause-above c =
    let i = c.loop-rest.invariant in
    let some : 0 < c.loop-rest.rest = omega (arith, c.loop-rest-test.true) in
    let first : ℕ = c.loop-rest.from + trailing_zeros w64 c.loop-rest.rest in
    let run = c.shift_with-run.result in
    let fits : first + c.min-len.result ≤ run.last = omega (arith, c.min-len.ensures, c.shift_with-run.ensures.end) in
    put_above c.args.way.back (cover_of c.args.way.runs.now) (ranks_in c.args.index (c.args.word ∷ [])) c.requires.inside c.loop-rest.from first c.min-len.result run.first run.last run.target c.shift_with-run.ensures fits (omega arith)
    (first_gap c.args.index c.args.word c.ranges.word.fits c.loop-rest.from c.loop-rest.rest i.low i.rest some) (collected c.args.out.now) (collected c.loop-rest.out) i.numbers
    (first_there c.args.index c.args.word c.ranges.word.fits c.loop-rest.from c.loop-rest.rest i.low i.rest some) (λ q x y there le becomes. c.requires.above q x y there (omega (arith, le, i.low)) becomes)

pub loop-rest-preserved : goal.loop-rest-preserved
loop-rest-preserved c =
    let i = c.loop-rest.invariant in
    let some : 0 < c.loop-rest.rest = omega (arith, c.loop-rest-test.true) in
    let first : ℕ = c.loop-rest.from + trailing_zeros w64 c.loop-rest.rest in
    let run = c.shift_with-run.result in
    let few : c.min-len.result < 64 = omega (arith, c.min-len.ensures) in
    let fits : first + c.min-len.result ≤ run.last = omega (arith, c.min-len.ensures, c.shift_with-run.ensures.end) in
    record {
      low = omega (arith, i.low);
      near = omega (arith, few, first_near c.args.index c.args.word c.ranges.word.fits c.loop-rest.from c.loop-rest.rest i.low i.rest some);
      rest = next_rest c.args.index c.args.word c.ranges.word.fits c.loop-rest.from c.loop-rest.rest i.low i.rest some c.min-len.result few;
      moves = c.shift_with-run.ensures.moved;
      good = c.in_ok-put.ensures.good;
      numbers =
          put_next c.args.way.back (cover_of c.args.way.runs.now) (ranks_in c.args.index (c.args.word ∷ [])) c.requires.inside c.loop-rest.from first c.min-len.result run.first run.last run.target c.shift_with-run.ensures fits (omega arith)
          (first_gap c.args.index c.args.word c.ranges.word.fits c.loop-rest.from c.loop-rest.rest i.low i.rest some) (collected c.args.out.now) (collected c.loop-rest.out) (collected c.put.new.self)
          (is_bit (bits c.args.index c.args.word c.ranges.word.fits c.loop-rest.from c.loop-rest.rest i.low i.rest some c.min-len.result few)) i.numbers c.in_ok-put.ensures.numbers
          (bits_in c.args.index c.args.word c.ranges.word.fits c.loop-rest.from c.loop-rest.rest i.low i.rest some c.min-len.result few)
          (bits_past c.args.index c.args.word c.ranges.word.fits c.loop-rest.from c.loop-rest.rest i.low i.rest some c.min-len.result few);
    }

pub returns-clause-numbers : goal.returns-clause-numbers
returns-clause-numbers c =
    let i = c.loop-rest.invariant in
    i.numbers
    ∙ ap (λ s. union (collected c.args.out.now) (image c.args.way.back (cover_of c.args.way.runs.now) s))
    (before_all (ranks_in c.args.index (c.args.word ∷ [])) c.loop-rest.from (nothing_left c.args.index c.args.word c.ranges.word.fits c.loop-rest.from c.loop-rest.rest i.low i.rest c.loop-rest-test.false))
