-- A turn of a merge in place: a node of the other tree is merged, with all that is below it.
use Rattle.std.proofs.Common.{◌≡◌, ℕ, ◌+◌, ◌<◌, ◌≤◌, List, [], ◌∷◌, length, drop, refl, sym, ap, ◌∙◌, subst, arith}
use Rattle.std.specs.Prelude.{slice_get, Some}
use Rattle.std.proofs.lemmas.List.{length-drop}
use Rattle.rank_set.specs.Ranks.{Ranks}
use Rattle.call_path.specs.Path.{Path}
use Rattle.call_path.proofs.Orders.{from_frame}
use Rattle.prefix_tree.specs.Tree.{Marks}
use Rattle.arena_tree.specs.declared.target.MergeTarget.{MergeTarget}
use Rattle.arena_tree.specs.NodeViews.{NodeView}
use Rattle.arena_tree.specs.ChainForest.{ChainForest, no_chains, count_rows}
use Rattle.arena_tree.specs.Links.{LinkedNodes}
use Rattle.arena_tree.specs.Steps.{rest_over, rows_added, apply_steps}
use Rattle.arena_tree.specs.Reading.{chain_of, forest_at}
use Rattle.arena_tree.specs.Targets.{target_forest, IsTarget, IsAfter, next_of}
use Rattle.arena_tree.specs.Plans.{target_below}
use Rattle.arena_tree.specs.Growth.{CanGrow, grown, rows_grown, GoesOn, Enters}
use Rattle.arena_tree.proofs.TurnSteps.{side_steps-none}
use Rattle.arena_tree.proofs.SharedFrames.{some_at}
use Rattle.arena_tree.proofs.Planning.{ReadsBehind, reads_behind, target_few, target_frame, after_forest, after_target}
use Rattle.arena_tree.proofs.Sharing.{forest_below, leads_below}

rows_over : (p : ℕ) (fs : Path) (m : Marks) (b : ChainForest) → count_rows (rest_over p fs m b) ≡ length fs + count_rows b
rows_over p [] m b = omega arith
rows_over p (f ∷ fs) m b = omega arith

-- the node that is read
module _ (os : List NodeView) (other : MergeTarget) (to : IsTarget os other) (c : NodeView) (there : slice_get os other.node ≡ Some c) where
  abbrev w : Marks
  w = (c.label, c.ends)

  abbrev b : ChainForest
  b = forest_at os c.first

  abbrev s : ChainForest
  s = forest_at os (next_of other.skip c.next)

  abbrev fs : Path
  fs = drop other.skip c.frames

  pub frame_in : other.skip < length c.frames
  frame_in = target_frame os other.node other.place other.skip c to there

  at : (f : List ℕ) × (slice_get c.frames other.skip ≡ Some f)
  at = some_at c.frames other.skip frame_in

  it : ReadsBehind os other.node other.place other.skip c at.0
  it = reads_behind os other.node other.place other.skip c at.0 to there at.1

  chain : target_forest os other ≡ chain_of other.place fs w b s
  chain = it.is ∙ (λ i. chain_of other.place (sym (from_frame c.frames other.skip at.0 at.1) i) w b s)

  pub rows_are : count_rows (target_forest os other) ≡ length fs + (count_rows b + count_rows s)
  rows_are = let e = ap count_rows it.is in let long = ap length (from_frame c.frames other.skip at.0 at.1) in omega (arith, e, long)

  pub some_rows : 1 ≤ count_rows (target_forest os other)
  some_rows = let long = length-drop other.skip c.frames in omega (arith, rows_are, long, frame_in)

  -- the other tree's target after it
  module _ (after : MergeTarget) (after_is : IsAfter other c.next after) where
    pub later_forest : target_forest os after ≡ s
    later_forest = after_forest os other after c.next after_is

    pub later_leads : IsTarget os after
    later_leads = after_target os other after c.next after_is it.next

    pub later_less : count_rows (target_forest os after) < count_rows (target_forest os other)
    later_less = let e = ap count_rows later_forest in let one = length-drop other.skip c.frames in omega (arith, e, one, rows_are, frame_in)

  -- what is behind its first frames
  module _ (kept : ℕ) (lower : MergeTarget) (lower_is : lower ≡ target_below other (drop kept c.frames) kept other.place c.first) (lt : other.skip < kept) (le : kept ≤ length c.frames) where
    abbrev gs : Path
    gs = drop kept c.frames

    lower_forest : target_forest os lower ≡ rest_over other.place gs w b
    lower_forest = ap (target_forest os) lower_is ∙ forest_below os other c gs kept other.place refl (omega (arith, lt)) there

    pub lower_leads : IsTarget os lower
    lower_leads = subst (IsTarget os) (sym lower_is) (leads_below os other c gs kept other.place refl (omega (arith, lt)) there it.first (target_few os other.node other.place other.skip to))

    lower_rows : count_rows (target_forest os lower) ≡ length gs + count_rows b
    lower_rows = ap count_rows lower_forest ∙ rows_over other.place gs w b

    pub lower_less : count_rows (target_forest os lower) < count_rows (target_forest os other)
    lower_less = let one = length-drop other.skip c.frames in let two = length-drop kept c.frames in omega (arith, one, two, lower_rows, rows_are, lt, le)

    -- the chain of the node is entered
    module _ (frames : Path) (label ends : Ranks) (frames_are : frames ≡ c.frames) (label_is : label ≡ c.label) (ends_are : ends ≡ c.ends)
        (h h1 : LinkedNodes) (into rest below : MergeTarget) (r r1 : ℕ) (entered : Enters h h1 into rest below (drop other.skip frames) (drop kept frames) (label, ends) r r1) where
      enters : Enters h h1 into rest below fs gs w r r1
      enters =
          subst (λ (p : Path). Enters h h1 into rest below (drop other.skip p) (drop kept p) w r r1) frames_are
          (subst (λ (m : Marks). Enters h h1 into rest below (drop other.skip frames) (drop kept frames) m r r1) (λ i. (label_is i, ends_are i)) entered)

      pub nodes_below : length h1.nodes + count_rows (target_forest os lower) ≤ length h.nodes + count_rows (target_forest os other)
      nodes_below = let few = enters.places in omega (arith, few, lower_rows, rows_are)

      pub rows_below : r1 + count_rows (target_forest os lower) ≤ r + count_rows (target_forest os other)
      rows_below = let few = enters.rows in omega (arith, few, lower_rows, rows_are)

      -- and what is behind its first frames is merged below
      module _ (h2 : LinkedNodes) (r2 : ℕ) (made : h2 ≡ grown h1 below (target_forest os lower)) (rows : r2 ≡ r1 + rows_grown h1 below (target_forest os lower))
          (few_nodes : length h2.nodes ≤ length h1.nodes + count_rows (target_forest os lower)) (few_rows : r2 ≤ r1 + count_rows (target_forest os lower)) (after : MergeTarget) (after_is : IsAfter other c.next after) where
        pub nodes_left : length h2.nodes + count_rows (target_forest os after) ≤ length h.nodes + count_rows (target_forest os other)
        nodes_left = let e = ap count_rows (later_forest after after_is) in let few = enters.places in omega (arith, e, few, few_nodes, lower_rows, rows_are)

        pub rows_left : r2 + count_rows (target_forest os after) ≤ r + count_rows (target_forest os other)
        rows_left = let e = ap count_rows (later_forest after after_is) in let few = enters.rows in omega (arith, e, few, few_rows, lower_rows, rows_are)

        module _ (few : length h2.nodes ≤ 4096) where
          on : GoesOn h h2 into rest fs w b r r2
          on = enters.goes_on other.place b h2 r2 (made ∙ ap (grown h1 below) lower_forest) (rows ∙ ap (λ o. r1 + rows_grown h1 below o) lower_forest) few

          pub rest_grows : CanGrow h2.nodes rest
          rest_grows = on.rest_grows

          pub turn_same : grown h2 rest (target_forest os after) ≡ grown h into (target_forest os other)
          turn_same = ap (grown h2 rest) (later_forest after after_is) ∙ sym (on.same other.place s) ∙ ap (grown h into) (sym chain)

          pub turn_rows : r2 + rows_grown h2 rest (target_forest os after) ≡ r + rows_grown h into (target_forest os other)
          turn_rows = ap (λ o. r2 + rows_grown h2 rest o) (later_forest after after_is) ∙ sym (on.rows other.place s) ∙ ap (λ o. r + rows_grown h into o) (sym chain)

-- nothing is left
module _ (h : LinkedNodes) (into : MergeTarget) where
  pub grown_none : grown h into no_chains ≡ h
  grown_none = ap (apply_steps h) (side_steps-none into.link (length h.nodes) (target_forest h.nodes into))

  pub rows_grown_none : rows_grown h into no_chains ≡ 0
  rows_grown_none = ap rows_added (side_steps-none into.link (length h.nodes) (target_forest h.nodes into))
