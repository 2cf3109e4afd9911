use Rattle.std.proofs.Common.{◌∙◌, ◌++◌, ◌∷◌, [], ◌+◌, ◌*◌, ap, sym, codes, append_assoc}
use Rattle.std.specs.Fmt.{decimal}
use Rattle.generated_job.proofs.Writing.{in_parts}
use Rattle.generated_job.proofs.texts.write_lose.Goals as goal

pub returns : goal.returns
returns c =
    c.in_ok-extend_from_slice.ensures.items
    ∙ ap (λ t. t ++ (codes " after 20 keep 1" ++ 10 ∷ [])) c.in_ok-write_numbered.ensures
    ∙ in_parts c.args.out.now.items (codes "lose m:") (decimal (2 * c.args.k + 1)) (codes " after 20 keep 1" ++ 10 ∷ [])
    ∙ ap (λ t. c.args.out.now.items ++ (codes "lose m:" ++ t)) (sym (append_assoc (decimal (2 * c.args.k + 1)) (codes " after 20 keep 1") (10 ∷ [])))
