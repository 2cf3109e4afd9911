use Rattle.std.proofs.Common.{◌≡◌, ◌+◌, ◌-◌, ◌*◌, ◌≤◌, ◌/◌, min, suc, ◌∙◌, arith}
use Rattle.rank_set.proofs.RunSets.{two_masks, run_word_is}
use Rattle.rank_set.proofs.words.word_of_run.Goals.{then-k-first, else-k-first, then-k-last, else-k-last}
use Rattle.rank_set.proofs.words.word_of_run.Goals as goal

pub returns : goal.returns
returns c =
    let some : c.args.first ≤ c.args.last = c.requires.not_empty in
    let begins : c.args.first / 64 ≤ c.args.k = c.requires.begins in
    let stops : c.args.k ≤ c.args.last / 64 = c.requires.stops in
    let from : c.if-k-first.from ≡ c.args.first - 64 * c.args.k = elim c.if-k-first.branch [
      | then-k-first w ↦ omega (arith, w.from-is, w.if-k-first.true, begins)
      | else-k-first w ↦ omega (arith, w.from-is, w.if-k-first.false, begins)
    ] in
    let to : c.if-k-last.to + 1 ≡ min 64 (suc c.args.last - 64 * c.args.k) = elim c.if-k-last.branch [
      | then-k-last w ↦ omega (arith, w.to-is, w.if-k-last.true, stops)
      | else-k-last w ↦ omega (arith, w.to-is, w.if-k-last.false, stops)
    ] in
    two_masks c.if-k-first.from c.if-k-last.to (omega (arith, from, begins)) (omega (arith, to)) ∙ run_word_is c.args.first c.args.last c.args.k c.if-k-first.from c.if-k-last.to from to
