use Rattle.std.proofs.Common.{◌≡◌, ◌≢◌, ◌<◌, ◌∙◌, ap, sym, subst, refl}
use Rattle.std.specs.Cmp.Lexicographic.{same_text}
use Rattle.arena_tree.specs.RowForest.{frame_cmp}
use Rattle.arena_tree.specs.ChainForest.{count_nodes}
use Rattle.arena_tree.specs.Reading.{forest_at}
use Rattle.arena_tree.specs.Trail.{IsLaterSibling}
use Rattle.arena_tree.proofs.Orders.{cmp_itself}
use Rattle.arena_tree.proofs.Trails.{not_less, inside_there, frames_there, next_there, side_there, fewer_there}
use Rattle.arena_tree.proofs.trail.last_up_to.Goals as goal

pub get-node-requires : goal.get-node-requires
get-node-requires c = inside_there c.args.nodes.now.items c.args.root c.requires.tree c.args.first c.loop-next.next (c.loop-next.invariant.next c.loop-next-test.true)

pub frame-own-requires : goal.frame-own-requires
frame-own-requires c = frames_there c.args.nodes.now.items c.args.root c.requires.tree c.args.first c.loop-next.next (c.loop-next.invariant.next c.loop-next-test.true) c.get-node.result.now c.get-node.ensures

pub returns-then-eq : goal.returns-then-eq
returns-then-eq c =
    let g = c.args.frame.now in
    let own = c.frame-own.result.now in
    let later = c.loop-next.invariant.next c.loop-next-test.true in
    let same : g ≡ own = same_text g own (sym (sym c.eq.ensures ∙ c.if-eq.true)) in
    record {
      later = later;
      side = not_less _ _ (side_there c.args.nodes.now.items c.args.root c.requires.tree c.args.first c.loop-next.next later c.get-node.result.now c.get-node.ensures own c.frame-own.ensures.frame g
          ∙ ap (frame_cmp g) (sym same) ∙ cmp_itself g) refl;
    }

pub returns-in-Equal : goal.returns-in-Equal
returns-in-Equal c =
    let later = c.loop-next.invariant.next c.loop-next-test.true in
    record {
      later = later;
      side = not_less _ _ (side_there c.args.nodes.now.items c.args.root c.requires.tree c.args.first c.loop-next.next later c.get-node.result.now c.get-node.ensures c.frame-own.result.now c.frame-own.ensures.frame c.args.frame.now
          ∙ sym c.cmp.ensures ∙ c.in-Equal.is) refl;
    }

pub loop-next-smaller : goal.loop-next-smaller
loop-next-smaller c =
    subst (λ next. count_nodes (forest_at c.args.nodes.now.items next) < count_nodes (forest_at c.args.nodes.now.items c.loop-next.next)) (sym c.next-next.ensures)
    (fewer_there c.args.nodes.now.items c.args.root c.requires.tree c.args.first c.loop-next.next (c.loop-next.invariant.next c.loop-next-test.true) c.get-node.result.now c.get-node.ensures c.frame-own.result.now c.frame-own.ensures.frame)

pub loop-next-preserved : goal.loop-next-preserved
loop-next-preserved c =
    let later = c.loop-next.invariant.next c.loop-next-test.true in
    record {
      next = subst (λ next. next ≢ 4294967295 → IsLaterSibling (forest_at c.args.nodes.now.items c.args.root) c.args.first next) (sym c.next-next.ensures)
          (next_there c.args.nodes.now.items c.args.root c.requires.tree c.args.first c.loop-next.next later c.get-node.result.now c.get-node.ensures);
      last = record {
        later = later;
        side = not_less _ _ (side_there c.args.nodes.now.items c.args.root c.requires.tree c.args.first c.loop-next.next later c.get-node.result.now c.get-node.ensures c.frame-own.result.now c.frame-own.ensures.frame c.args.frame.now
            ∙ sym c.cmp.ensures ∙ c.in-Greater.is) refl;
      };
    }
