use Rattle.std.proofs.Common.{◌≡◌, ℕ, ◌-◌, List, [], ◌∷◌, ◌++◌, length, replicate, ap, ◌∙◌, arith}
use Rattle.rank_set.specs.Words.{word_at}
use Rattle.rank_set.proofs.Trimming.{padded_word}
use Rattle.rank_set.proofs.words.padded.Goals as goal

-- words that were empty
all_new : (xs ys : List ℕ) (n : ℕ) → xs ≡ [] → ys ≡ xs ++ replicate (n - length xs) 0 → ys ≡ replicate n 0
all_new [] ys n none is = is ∙ ap (λ m. replicate m 0) (let e : n - 0 ≡ n = omega arith in e)
all_new (x ∷ xs) ys n none is = cc

pub returns-clause-same : goal.returns-clause-same
returns-clause-same c = λ k.
    let begun : c.pad.new.words.items ≡ replicate (c.args.offset - c.args.start) 0 =
    all_new c.in_ok-all.all.items c.pad.new.words.items (c.args.offset - c.args.start) c.in_ok-all.ensures.items (c.in_ok-pad.ensures.ok ∙ ap (λ n. c.in_ok-all.all.items ++ replicate (n - length c.in_ok-all.all.items) 0) c.saturating_sub.ensures) in
    let m : ℕ = c.args.stop - c.args.start - length c.extend_from_slice.new.self.items in
    ap (λ xs. word_at c.args.start xs k) (c.in_ok-pad-2.ensures.ok ∙ ap (λ xs. xs ++ replicate m 0) (c.in_ok-extend_from_slice.ensures.ok ∙ ap (λ xs. xs ++ c.args.words.now) begun))
    ∙ padded_word c.args.offset c.args.words.now c.args.start m c.requires.begins k
