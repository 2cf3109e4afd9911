use Rattle.std.proofs.Common.{◌≡◌, length, sym, ◌∙◌, arith}
use Rattle.std.proofs.lemmas.Bool.{eqb-true, eqb-false}
use Rattle.rank_set.proofs.Trimming.{covers_wider}
use Rattle.rank_set.proofs.words.reaching.Goals.{then-is_empty, else-is_empty}
use Rattle.rank_set.proofs.words.reaching.Goals as goal

pub returns : goal.returns
returns c =
    covers_wider c.args.offset c.args.words.now c.args.low c.args.high c.if-is_empty.start c.max-stop.result c.in_ok-all.all.items c.requires.trimmed c.requires.not_empty c.requires.within_limit
    (λ none. elim c.if-is_empty.branch [
      | then-is_empty w ↦ w.start-is
      | else-is_empty w ↦ absurd (eqb-false _ _ (sym c.is_empty.ensures ∙ w.if-is_empty.false) none)
    ])
    (λ some. elim c.if-is_empty.branch [
      | then-is_empty w ↦ (let none : length c.args.words.now ≡ 0 = eqb-true _ _ (sym c.is_empty.ensures ∙ w.if-is_empty.true) in absurd (omega arith))
      | else-is_empty w ↦ w.start-is ∙ w.min-start.ensures
    ])
    c.max-stop.ensures c.in_ok-all.ensures.same c.in_ok-all.ensures.len
