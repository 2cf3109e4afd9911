use Rattle.std.proofs.Common.{◌≡◌, ◌∙◌, ℕ, ◌+◌, ◌-◌, ◌/◌, ◌≤◌, true, sym, ap, arith}
use Rattle.std.proofs.lemmas.Result.{IfOk-weaker}
use Rattle.rank_set.specs.Ranks.{Ranks, has, has-none}
use Rattle.rank_set.specs.Words.{ranks_in, offset_of}
use Rattle.rank_set.specs.WordLists.{words_of}
use Rattle.rank_set.proofs.WordLists.{words_of_make}
use Rattle.rank_places.specs.Table.{cover_of, image}
use Rattle.rank_places.proofs.Images.{image_none}
use Rattle.rank_places.proofs.WholeWords.{whole_words, least_there, least_word}
use Rattle.rank_places.proofs.moving.moved.Goals as goal

pub returns-in_default : goal.returns-in_default
returns-in_default c =
    c.new.ensures ∙ sym (image_none c.args.way.back (cover_of c.args.way.runs.now) c.args.set.now (λ x. ap (λ s. has s x) c.in_default.ensures.none ∙ has-none x))

pub find-at-requires-clause-inside : goal.find-at-requires-clause-inside
find-at-requires-clause-inside c = c.requires.inside c.in-Some.first (least_there c.args.set.now c.in-Some.first c.in-Some.ensures.least).0

pub shift_at-run-requires-clause-inside : goal.shift_at-run-requires-clause-inside
shift_at-run-requires-clause-inside c = c.requires.inside c.in-Some.first (least_there c.args.set.now c.in-Some.first c.in-Some.ensures.least).0

pub returns-then-run : goal.returns-then-run
returns-then-run c =
    let run = c.shift_at-run.result in
    let s : Ranks = c.args.set.now in
    let least = least_there s c.in-Some.first c.in-Some.ensures.least in
    let low : (x : ℕ) → has s x ≡ true → run.first ≤ x = λ x one. omega (arith, c.shift_at-run.ensures.shift.start, least.1 x one) in
    let high : (x : ℕ) → has s x ≡ true → x ≤ run.last = λ x one. c.shift_at-run.ensures.last c.if-at-way.true x (least.1 x one) (c.requires.inside x one) in
    let start : run.first / 64 ≤ offset_of s = omega (arith, least_word s c.in-Some.first c.in-Some.ensures.least, c.shift_at-run.ensures.shift.start) in
    IfOk-weaker c.moved_words.result (λ moved. moved ≡ ranks_in (run.target / 64 + (offset_of s - run.first / 64)) (words_of s)) (λ moved. moved ≡ image c.args.way.back (cover_of c.args.way.runs.now) s)
    (λ moved made. made ∙ whole_words c.args.way.back (cover_of c.args.way.runs.now) s c.requires.inside run.first run.last run.target c.shift_at-run.ensures.shift.moved c.if-run.true low high (offset_of s) (words_of s) (words_of_make s c.invariant.ensures).is start)
    c.moved_words.ensures
