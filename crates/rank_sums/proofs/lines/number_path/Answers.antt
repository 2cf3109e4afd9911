use Rattle.std.proofs.Common.{sym, subst, ap, ◌∙◌, List, [], ℕ, w64}
use Rattle.std.specs.Prelude.{IsTrue}
use Rattle.std.proofs.lemmas.List.Elements.{All-head}
use Rattle.std.specs.Fmt.{signed_decimal}
use Rattle.std.proofs.lemmas.Int.{to_z-of_z}
use Rattle.call_path.specs.Good.{is_good_frame}
use Rattle.rank_sums.proofs.PartPlan.{good_number}
use Rattle.rank_sums.proofs.lines.number_path.Goals as goal

pub push-requires-clause-good : goal.push-requires-clause-good
push-requires-clause-good c =
    subst (λ (f : List ℕ). IsTrue (is_good_frame f)) (sym (c.format.ensures.text ∙ ap signed_decimal (to_z-of_z w64 c.args.number c.ranges.number)))
    (All-head (λ f. IsTrue (is_good_frame f)) (signed_decimal c.args.number) [] (good_number c.args.number c.ranges.number.sfits).good.good)
