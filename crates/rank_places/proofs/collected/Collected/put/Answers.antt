use Rattle.std.proofs.Common.{◌≡◌, ◌∙◌, ℕ, ◌+◌, ◌-◌, ◌*◌, ◌/◌, ◌%◌, ◌^◌, ◌<◌, [], ◌∷◌, refl, sym, ap, arith}
use Rattle.std.proofs.lemmas.Result.{on_ok_weaker}
use Rattle.rank_set.specs.Ranks.{has, union}
use Rattle.rank_set.specs.Words.{ranks_in}
use Rattle.rank_places.specs.Collected.{collected}
use Rattle.rank_places.proofs.Gathering.{low_within, high_within, high_above, put_both}
use Rattle.rank_places.proofs.collected.Collected.put.Goals as goal

split : (n : ℕ) → n ≡ 64 * (n / 64) + n % 64
split n = omega arith

rest_below : (n : ℕ) → n % 64 < 64
rest_below n = omega arith

pub put_word-requires-clause-within_limit : goal.put_word-requires-clause-within_limit
put_word-requires-clause-within_limit c = low_within c.args.at c.args.bits (c.args.at / 64) (c.args.at % 64) _ _ (split c.args.at) (rest_below c.args.at) c.ranges.bits.fits refl refl c.requires.below_limit

pub put_word-requires-2-clause-within_limit : goal.put_word-requires-2-clause-within_limit
put_word-requires-2-clause-within_limit c = high_within c.args.at c.args.bits (c.args.at / 64) (c.args.at % 64) _ _ (split c.args.at) (rest_below c.args.at) c.ranges.bits.fits refl refl c.requires.below_limit

pub put_word-requires-2-clause-above : goal.put_word-requires-2-clause-above
put_word-requires-2-clause-above c = λ q one.
    high_above c.args.at c.args.bits (c.args.at / 64) (c.args.at % 64) _ _ (split c.args.at) (rest_below c.args.at) c.ranges.bits.fits refl refl (collected c.args.self.now) c.requires.above q
    (sym (ap (λ s. has s q) c.in_ok-put_word.ensures.numbers) ∙ one)

pub returns-clause-numbers : goal.returns-clause-numbers
returns-clause-numbers c =
    on_ok_weaker c.put_word-2.result
    (λ made q.
    ap (λ s. has s q) (made ∙ ap (λ s. union s (ranks_in (c.args.at / 64 + 1) (c.args.bits / 2 / 2 ^ (63 - c.args.at % 64) ∷ []))) c.in_ok-put_word.ensures.numbers)
    ∙ put_both c.args.at c.args.bits (c.args.at / 64) (c.args.at % 64) _ _ (split c.args.at) (rest_below c.args.at) c.ranges.bits.fits refl refl (collected c.args.self.now) q)
    c.put_word-2.ensures.numbers
