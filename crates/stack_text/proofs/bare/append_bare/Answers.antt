use Rattle.std.proofs.Common.{◌++◌, ◌∙◌, ap, append_assoc, codes, sym}
use Rattle.stack_text.specs.Bare.{bare_text}
use Rattle.stack_text.specs.LineViews.{bare_view}
use Rattle.stack_text.proofs.bare.append_bare.Goals as goal

pub returns-in-Place : goal.returns-in-Place
returns-in-Place c =
    let old = c.args.out.now.items in
    let offset = c.in-Place.offset.now in
    c.append-in-Place-2.ensures.items ∙ ap (λ t. t ++ offset) c.append-in-Place.ensures.items
    ∙ append_assoc old (codes "    []@0x0+0x") offset
    ∙ ap (λ l. old ++ bare_text (bare_view l)) (sym c.in-Place.is)
