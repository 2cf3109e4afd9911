use Rattle.std.proofs.Common.{◌∙◌, ◌<◌, length, get_or, refl, sym, ap, inl, inr, arith}
use Rattle.std.proofs.lemmas.Bool.{cases_lt, eq-eqb, ne_eqb}
use Rattle.std.proofs.lemmas.Option.{slice_get_within}
use Rattle.rank_set.specs.Ranks.{in_order, size}
use Rattle.rank_set.specs.Words.{ranks_in}
use Rattle.rank_set.proofs.Members.{least_in}
use Rattle.rank_set.proofs.WordSets.{no_ranks}
use Rattle.rank_set.proofs.words.has_none.Goals as goal

pub returns : goal.returns
returns c = c.is_empty.ensures ∙ elim (cases_lt 0 (length c.args.words.now)) [
  | inl some ↦
      let first = least_in c.args.offset c.args.words.now (get_or c.args.words.now 0 0) c.requires some refl (omega (arith, c.type_inv.words 0)) in
      let more : 0 < size (ranks_in c.args.offset c.args.words.now) = slice_get_within (in_order (ranks_in c.args.offset c.args.words.now)) 0 _ first in
      ne_eqb (length c.args.words.now) 0 (λ e. absurd (omega (arith, some, e))) ∙ sym (ne_eqb (size (ranks_in c.args.offset c.args.words.now)) 0 (λ e. absurd (omega (arith, more, e))))
  | inr none ↦ eq-eqb (length c.args.words.now) 0 (omega (arith, none)) ∙ sym (eq-eqb _ 0 (ap size (no_ranks c.args.offset c.args.words.now (omega (arith, none)))))
]
