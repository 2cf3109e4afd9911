use Rattle.std.proofs.Common.{◌∙◌, ◌++◌, ◌∷◌, [], ap, map, codes}
use Rattle.std.specs.Fmt.{decimal}
use Rattle.std.specs.List.{flat_map}
use Rattle.generated_job.specs.Texts.{numbers, statement, front_name, middle_name, middle_count, middle_line}
use Rattle.generated_job.proofs.Writing.{lines_more, front_written}
use Rattle.generated_job.proofs.texts.make_topology.Goals as goal

pub loop-i-init : goal.loop-i-init
loop-i-init c =
    c.in_ok-extend_from_slice-2.ensures.items
    ∙ ap (λ t. t ++ (32 ∷ 59 ∷ 10 ∷ [])) (c.in_ok-write_names.ensures ∙ ap (λ t. t ++ flat_map (λ j. codes " m:" ++ decimal j) (numbers c.middle_count-count.result)) (c.in_ok-extend_from_slice.ensures.items ∙ ap (λ t. t ++ codes "fe:0 =>") c.new-out.ensures.items))
    ∙ front_written c.middle_count-count.result
    ∙ ap (λ n. (statement front_name (map middle_name (numbers n)) ++ 10 ∷ []) ++ []) c.middle_count-count.ensures

pub loop-i-preserved : goal.loop-i-preserved
loop-i-preserved c = c.in_ok-write_middle.ensures ∙ ap (λ t. t ++ (middle_line c.args.size c.loop-i.i ++ 10 ∷ [])) c.loop-i.invariant ∙ lines_more (statement front_name (map middle_name (numbers (middle_count c.args.size))) ++ 10 ∷ []) (middle_line c.args.size) c.loop-i.i
