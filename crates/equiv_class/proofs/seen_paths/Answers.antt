use Rattle.std.proofs.Common.{cond, not, [], ◌∷◌, ◌++◌, sym, ap, ◌∙◌, arith}
use Rattle.std.proofs.lemmas.List.{append-nil, map-append}
use Rattle.rank_set.specs.Ranks.{Ranks}
use Rattle.call_path.specs.Path.{Path}
use Rattle.equiv_class.specs.SeenPaths.{entries_view, entry_of}
use Rattle.equiv_class.proofs.Walk.{walk_step}
use Rattle.equiv_class.proofs.seen_paths.Goals as goal

pub loop-row-preserved-in-Continue-branch-4 : goal.loop-row-preserved-in-Continue-branch-4
loop-row-preserved-in-Continue-branch-4 g c =
    let row = c.in-Some.row in
    let h = c.loop-row.invariant in
    let own : Path × Ranks = (c.push.new.self, row.ends.now) in
    let step = walk_step (g.T.PrefixTree.tree c.args.tree.now) c.in_ok-at.ensures.lawful.tree c.loop-row.at.row c.next_row.new.at.row row c.loop-row.frames c.push.new.self (entries_view c.loop-row.seen.items) (entries_view c.push-then-not-is_empty.new.self.items)
    h.below_root c.in-Some.ensures.within c.in-Some.ensures.next c.in-Some.ensures.shows (c.in-Some.ensures.good h.below_root).some h.frames
    (c.in_ok-push.ensures.ok ∙ ap (λ p. p ++ row.frame.now ∷ []) c.cut.ensures) h.seen
    (ap entries_view c.in_ok-push-2.ensures.items ∙ map-append entry_of c.loop-row.seen.items _
    ∙ ap (λ p. let e : Path × Ranks = (p, row.ends.now) in entries_view c.loop-row.seen.items ++ e ∷ []) c.in_ok-path.ensures
    ∙ sym (ap (λ b. entries_view c.loop-row.seen.items ++ cond b (own ∷ []) []) (ap not (sym c.if-not-is_empty.ensures)))) in
    record {
      cursor = c.in-Some.ensures.cursor;
      below_root = omega (arith, h.below_root, c.in-Some.ensures.next);
      frames = step.0;
      seen = step.1;
    }

pub loop-row-preserved : goal.loop-row-preserved
loop-row-preserved g c =
    let row = c.in-Some.row in
    let h = c.loop-row.invariant in
    let own : Path × Ranks = (c.push.new.self, row.ends.now) in
    let step = walk_step (g.T.PrefixTree.tree c.args.tree.now) c.in_ok-at.ensures.lawful.tree c.loop-row.at.row c.next_row.new.at.row row c.loop-row.frames c.push.new.self (entries_view c.loop-row.seen.items) (entries_view c.loop-row.seen.items)
    h.below_root c.in-Some.ensures.within c.in-Some.ensures.next c.in-Some.ensures.shows (c.in-Some.ensures.good h.below_root).some h.frames
    (c.in_ok-push.ensures.ok ∙ ap (λ p. p ++ row.frame.now ∷ []) c.cut.ensures) h.seen
    (sym (append-nil (entries_view c.loop-row.seen.items))
    ∙ sym (ap (λ b. entries_view c.loop-row.seen.items ++ cond b (own ∷ []) []) (ap not (sym c.if-not-is_empty.ensures)))) in
    record {
      cursor = c.in-Some.ensures.cursor;
      below_root = omega (arith, h.below_root, c.in-Some.ensures.next);
      frames = step.0;
      seen = step.1;
    }
