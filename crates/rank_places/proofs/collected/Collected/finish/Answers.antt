use Rattle.std.proofs.Common.{◌≡◌, ◌∙◌, [], ◌∷◌, sym, ap}
use Rattle.std.proofs.lemmas.Result.{IfOk-weaker}
use Rattle.rank_set.specs.Ranks.{union}
use Rattle.rank_set.specs.Words.{ranks_in}
use Rattle.rank_set.proofs.WordSets.{union_none}
use Rattle.rank_places.specs.Collected.{collected}
use Rattle.rank_places.proofs.Gathering.{no_word}
use Rattle.rank_places.proofs.collected.Collected.finish.Goals.{then-self-ne0+in_ok-flush, else-self-ne0}
use Rattle.rank_places.proofs.collected.Collected.finish.Goals as goal

pub returns : goal.returns
returns c =
    let same : ranks_in c.if-self-ne0.self.offset c.if-self-ne0.self.words.items ≡ collected c.args.self = elim c.if-self-ne0.branch [
      | then-self-ne0+in_ok-flush w ↦ ap (λ s. ranks_in s.offset s.words.items) w.self-is ∙ w.in_ok-flush.ensures.numbers
      | else-self-ne0 w ↦
          let old = c.args.self in
          ap (λ s. ranks_in s.offset s.words.items) w.self-is
          ∙ union_none (ranks_in old.offset old.words.items) ∙ ap (union (ranks_in old.offset old.words.items)) (sym (ap (λ v. ranks_in old.index (v ∷ [])) w.if-self-ne0.false ∙ no_word old.index))
    ] in
    IfOk-weaker c.from_words.result (λ set. set ≡ ranks_in c.if-self-ne0.self.offset c.if-self-ne0.self.words.items) (λ set. set ≡ collected c.args.self) (λ set made. made ∙ same) c.from_words.ensures
