use Rattle.std.proofs.Common.{ℕ, ◌≡◌, ◌≢◌, ◌+◌, ◌-◌, ◌/◌, ◌<◌, ◌≤◌, true, arith, refl, sym, subst}
use Rattle.rank_set.specs.declared.TheConstants.{RANK_LIMIT, WORD_LIMIT}
use Rattle.rank_set.specs.Ranks.{Ranks, Has, has, none}
use Rattle.rank_set.specs.Words.{AreWords, offset_of}
use Rattle.rank_set.specs.WordLists.{words_of}
use Rattle.rank_set.proofs.WordLists.{words_of_make}
use Rattle.rank_places.proofs.WholeWords.{moved_trimmed}
use Rattle.rank_places.proofs.moving.moved_words.Goals as goal

-- the words of the set, moved, are within the limit
moved : (s : Ranks) → ((r : ℕ) → Has r s → r < RANK_LIMIT) → s ≢ none → (from to : ℕ) → from ≤ offset_of s
    → ((x : ℕ) → has s x ≡ true → to + (x / 64 - from) < WORD_LIMIT)
    → (offset : ℕ) → offset ≡ offset_of s → AreWords (to + (offset - from)) (words_of s)
moved s small some from to start below offset e =
    let made = words_of_make s small in
    subst (λ o. AreWords (to + (o - from)) (words_of s)) (sym e)
    (moved_trimmed s (words_of s) made.trimmed made.is refl some from to start below)

pub overflow_add-run : goal.overflow_add-run
overflow_add-run c =
    let words = moved c.args.set.now c.invariant.ensures c.requires.some (c.args.run.first / 64) (c.args.run.target / 64)
    c.requires.start c.requires.below_limit c.word_offset.result c.word_offset.ensures in
    record { fits = omega (arith, words.within_limit) }

pub at_word-requires : goal.at_word-requires
at_word-requires c =
    moved c.args.set.now c.invariant.ensures c.requires.some (c.args.run.first / 64) (c.args.run.target / 64)
    c.requires.start c.requires.below_limit c.word_offset.result c.word_offset.ensures
