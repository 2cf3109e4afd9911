use Rattle.std.proofs.Common.{◌≡◌, ◌∙◌, ap, sym, subst, refl}
use Rattle.std.specs.Cmp.Lexicographic.{same_text}
use Rattle.arena_tree.specs.RowForest.{frame_cmp}
use Rattle.arena_tree.specs.ChainForest.{chain_node}
use Rattle.arena_tree.specs.Steps.{merge_steps}
use Rattle.arena_tree.specs.Reading.{frame_side}
use Rattle.arena_tree.specs.Targets.{LeadsBehind, forest_behind}
use Rattle.arena_tree.proofs.Orders.{cmp_itself}
use Rattle.arena_tree.proofs.GrowingPlaces.{grows_later}
use Rattle.arena_tree.proofs.Trails.{later_itself, leads_there, within_there, inside_there, steps_there, side_there}
use Rattle.arena_tree.proofs.trail.follow.Goals as goal

pub get-requires : goal.get-requires
get-requires c = inside_there c.args.search.nodes.now.items c.args.search.root c.requires.tree c.args.into.now.node c.in-Some.at c.in-Some.ensures.later

pub returns-clause-target : goal.returns-clause-target
returns-clause-target c =
    subst (λ skip. LeadsBehind c.args.search.nodes.now.items c.in-Some.at c.in-Some.at skip) (sym c.if-into-ne0.false)
    (leads_there c.args.search.nodes.now.items c.args.search.root c.requires.tree c.args.into.now.node c.in-Some.at c.in-Some.ensures.later, refl)

pub returns-clause-found : goal.returns-clause-found
returns-clause-found c found =
    let cs = c.args.search.nodes.now.items in
    let at = c.in-Some.at in
    let g = c.args.frame.now in
    let own = c.frame.result.now in
    let later = c.in-Some.ensures.later in
    let same : g ≡ own = same_text g own (sym (sym c.eq.ensures ∙ found)) in
    record {
      side = ap (λ skip. frame_side g (forest_behind cs at at skip)) c.if-into-ne0.false
          ∙ side_there cs c.args.search.root c.requires.tree c.args.into.now.node at later c.get.result.now c.get.ensures own c.frame.ensures.frame g
          ∙ ap (frame_cmp g) (sym same) ∙ cmp_itself g;
      whole_node = c.if-into-ne0.false;
      node = later_itself _ c.args.into.now.node at later;
    }

pub returns-clause-steps : goal.returns-clause-steps
returns-clause-steps c n x gs w u t =
    let cs = c.args.search.nodes.now.items in
    let into = c.args.into.now in
    let at = c.in-Some.at in
    let one = chain_node x c.args.frame.now gs w u t in
    ap (λ skip. merge_steps into.link n (forest_behind cs into.node into.place skip) one) c.if-into-ne0.false
    ∙ steps_there cs c.args.search.root c.requires.tree into.link into.node at c.in-Some.ensures.later c.args.frame.now c.in-Some.ensures.side n x gs w u t
    ∙ ap (λ skip. merge_steps into.link n (forest_behind cs at at skip) one) (sym c.if-into-ne0.false)

pub returns-clause-grows : goal.returns-clause-grows
returns-clause-grows c grows =
    let cs = c.args.search.nodes.now.items in
    let later = c.in-Some.ensures.later in
    grows_later cs c.args.into.now (record { link = c.args.into.now.link; node = c.in-Some.at; skip = c.args.into.now.skip; place = c.in-Some.at })
    (leads_there cs c.args.search.root c.requires.tree c.args.into.now.node c.in-Some.at later) refl refl refl (within_there cs c.args.search.root c.requires.tree c.args.into.now.node c.in-Some.at later) grows
