use Rattle.std.proofs.Common.{◌∙◌, ◌++◌, ◌∷◌, [], ◌*◌, ap, codes, arith}
use Rattle.std.specs.Fmt.{decimal}
use Rattle.std.specs.List.{flat_map, range_with_len}
use Rattle.generated_job.proofs.Writing.{middle_written}
use Rattle.generated_job.proofs.texts.write_middle.Goals as goal

pub returns : goal.returns
returns c =
    c.in_ok-extend_from_slice-2.ensures.items
    ∙ ap (λ t. t ++ (32 ∷ 59 ∷ 10 ∷ [])) (c.in_ok-write_names.ensures ∙ ap (λ t. t ++ flat_map (λ j. codes " d:" ++ decimal j) (range_with_len (16 * c.args.i) c.min.result)) (c.in_ok-extend_from_slice.ensures.items ∙ ap (λ t. t ++ codes " =>") c.in_ok-write_numbered.ensures))
    ∙ middle_written c.args.out.now.items c.args.size c.args.i c.min.result (omega arith)
