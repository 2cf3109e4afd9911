-- A walk over the rows of a tree by chains.
use Rattle.std.proofs.Common.{◌≡◌, ℕ, zero, suc, ◌+◌, ◌-◌, ◌<◌, ◌≤◌, List, [], ◌∷◌, ◌++◌, length, drop, map, reverse, refl, sym, ap, ◌∙◌, subst, arith, Some}
use Rattle.std.specs.Prelude.{slice_get, All}
use Rattle.std.specs.Vec.{vec_capacity}
use Rattle.std.specs.FinMap as finmap
use Rattle.std.proofs.lemmas.List.{append_assoc, drop-append-le, length-append}
use Rattle.std.proofs.lemmas.List.Elements.{All-nil, All-cons, All-head, All-tail, All-drop}
use Rattle.std.proofs.Math.Seq.{drop-append_seam}
use Rattle.rank_set.specs.Ranks.{Ranks, none}
use Rattle.call_path.specs.Path.{Path}
use Rattle.call_path.specs.Good.{IsGoodPath}
use Rattle.prefix_tree.specs.Tree.{Marks, Tree, rows_of, frame_of}
use Rattle.prefix_tree.specs.Chains.{shown, rows_shown, chained, IsGoodChain}
use Rattle.prefix_tree.specs.declared.Chain.{Chain}
use Rattle.prefix_tree.specs.declared.Cursor.{Cursor}
use Rattle.prefix_tree.specs.declared.WaitingNode.{WaitingNode}
use Rattle.arena_tree.specs.NodeViews.{NodeView}
use Rattle.arena_tree.specs.RowForest.{forest_rows}
use Rattle.arena_tree.specs.ChainForest.{rows_of_chains}
use Rattle.arena_tree.specs.Reading.{forest_at}
use Rattle.arena_tree.specs.ReadingOrder.{shows, waiting_rows}
use Rattle.arena_tree.specs.TreeView.{ArenaView, tree_view, arena_view, IsArenaTree}
use Rattle.arena_tree.specs.Cursors.{waiting_behind, waiting_forests, waiting_count, AreWaiting, IsRowOfFirst, WalksOn, IsCursor}
use Rattle.arena_tree.proofs.RowShows.{show, shows_rows, node_rows, length-node_rows, all_rows, length-forest}
use Rattle.arena_tree.proofs.Trees.{entries_are}
use Rattle.arena_tree.proofs.Making.{rows_past}
use Rattle.arena_tree.proofs.Views.{tree_is}
use Rattle.arena_tree.proofs.Walking.{drop_of_none, length_drop, row_within, behind_waiting, behind_count, behind_rows, waiting_few, first_row, taken, taken_room}

-- the rows of a chain are a chain
node_chained : (d : ℕ) (fs : Path) (m : Marks) → node_rows d fs m ≡ chained d fs m
node_chained d [] m = refl
node_chained d (f ∷ []) m = refl
node_chained d (f ∷ g ∷ fs) m = ap (λ rows. (d, f, (m.0, none)) ∷ rows) (node_chained (suc d) (g ∷ fs) m)

drop_chain : (d i : ℕ) (fs : Path) (m : Marks) → drop i (node_rows d fs m) ≡ chained (d + i) (drop i fs) m
drop_chain d zero fs m = let n : d ≡ d + 0 = omega arith in node_chained d fs m ∙ ap (λ n. chained n fs m) n
drop_chain d (suc i) [] m = refl
drop_chain d (suc i) (f ∷ fs) m = let n : suc d + i ≡ d + suc i = omega arith in drop_chain (suc d) i fs m ∙ ap (λ n. chained n (drop i fs) m) n

-- lists without their first items
drop_more : {X : Type 0} (i n : ℕ) (xs : List X) → drop n (drop i xs) ≡ drop (i + n) xs
drop_more zero n xs = let e : n ≡ 0 + n = omega arith in ap (λ k. drop k xs) e
drop_more (suc i) n [] = drop_of_none n ∙ sym (drop_of_none (suc i + n))
drop_more (suc i) n (x ∷ xs) = let e : suc (i + n) ≡ suc i + n = omega arith in drop_more i n xs ∙ ap (λ k. drop k (x ∷ xs)) e

past_front : {X : Type 0} (all chain tail : List X) (i : ℕ) → all ≡ chain ++ tail → i ≤ length chain → drop i all ≡ drop i chain ++ drop (length chain) all
past_front all chain tail i is le =
    ap (drop i) is ∙ drop-append-le i chain tail le
    ∙ ap (λ rest. drop i chain ++ rest) (sym (drop-append_seam chain tail) ∙ ap (drop (length chain)) (sym is))

-- the rest of a node's rows, on a walk
module _ (cs : List NodeView) (w : WaitingNode) (ws : List WaitingNode) (i : ℕ) (waits : AreWaiting cs (w ∷ ws)) (frame : IsRowOfFirst cs (w ∷ ws) i) (c : NodeView) (there : slice_get cs w.place ≡ Some c)
    (first row : ℕ) (walk : WalksOn cs first row i (w ∷ ws)) where
  abbrev all : List (ℕ × List ℕ × Marks)
  all = waiting_rows (waiting_forests cs (w ∷ ws))

  abbrev rows : List (ℕ × List ℕ × Marks)
  rows = shows 1 (rows_of_chains (forest_at cs first))

  abbrev chain : List (ℕ × List ℕ × Marks)
  chain = node_rows w.depth c.frames (c.label, c.ends)

  abbrev left : ℕ
  left = length c.frames - i

  -- those behind it
  rest_rows : drop (length c.frames) all ≡ drop (row + left - 1) rows
  rest_rows =
      let within = row_within cs w ws i waits frame c there in
      let below = walk.below_root in
      let whole : length c.frames ≡ i + left = omega (arith, within) in
      let on : row - 1 + left ≡ row + left - 1 = omega (arith, below) in
      ap (λ n. drop n all) whole ∙ sym (drop_more i left all) ∙ ap (drop left) walk.rows ∙ drop_more (row - 1) left rows ∙ ap (λ n. drop n rows) on

  pub chain_then : drop (row - 1) rows ≡ chained (w.depth + i) (drop i c.frames) (c.label, c.ends) ++ drop (row + left - 1) rows
  chain_then =
      let within = row_within cs w ws i waits frame c there in
      let long : length chain ≡ length c.frames = length-node_rows w.depth c.frames (c.label, c.ends) in
      let below = shows (w.depth + length c.frames) (rows_of_chains (forest_at cs c.first)) in
      let later = shows w.depth (rows_of_chains (forest_at cs c.next)) in
      let rest = waiting_rows (waiting_forests cs ws) in
      sym walk.rows
      ∙ past_front all chain ((below ++ later) ++ rest) i (ap (λ rs. rs ++ rest) (all_rows cs w.place c waits.0.leads there w.depth i) ∙ append_assoc chain (below ++ later) rest) (omega (arith, within, long))
      ∙ (λ j. drop_chain w.depth i c.frames (c.label, c.ends) j ++ (ap (λ n. drop n all) long ∙ rest_rows) j)

  pub walk_past : WalksOn cs first (row + left) 0 (waiting_behind c w ws)
  walk_past =
      let past = behind_waiting cs w ws i waits frame c there in
      record {
        below_root = let below = walk.below_root in omega (arith, below);
        waiting = past;
        frame = first_row cs (waiting_behind c w ws) past;
        rows = behind_rows cs w ws i waits frame c there ∙ rest_rows;
      }

-- what a reader sees of rows
rows_seen : (es : List (Path × Marks)) → map shown es ≡ map (show 0) es
rows_seen [] = refl
rows_seen (e ∷ es) = let n : length e.0 ≡ length e.0 + 0 = omega arith in λ j. (n j, frame_of e.0, e.1) ∷ rows_seen es j

-- how deep rows of good paths are
abbrev HasGoodDepth : ℕ × List ℕ × Marks → Type 0
HasGoodDepth x = (0 < x.0) × (x.0 ≤ 128)

good_depths : (es : List (Path × Marks)) → All (λ e. IsGoodPath e.0) es → All HasGoodDepth (map shown es)
good_depths [] h = All-nil HasGoodDepth
good_depths (e ∷ es) h =
    let good = All-head (λ (e : Path × Marks). IsGoodPath e.0) e es h in
    All-cons HasGoodDepth (shown e) (map shown es) (good.some, good.good.within_limit) (good_depths es (All-tail (λ (e : Path × Marks). IsGoodPath e.0) e es h))

chain_depths : (d : ℕ) (fs : Path) (m : Marks) (more : List (ℕ × List ℕ × Marks)) → 0 < length fs → All HasGoodDepth (chained d fs m ++ more) → (0 < d) × (d + length fs ≤ 129)
chain_depths d [] m more lt h = absurd (omega (arith, lt))
chain_depths d (f ∷ []) m more lt h =
    let one = All-head HasGoodDepth (d, f, m) more h in
    let few = one.1 in
    (one.0, omega (arith, few))
chain_depths d (f ∷ g ∷ fs) m more lt h =
    let rows = chained (suc d) (g ∷ fs) m ++ more in
    let one = All-head HasGoodDepth (d, f, (m.0, none)) rows h in
    let rest = chain_depths (suc d) (g ∷ fs) m more (omega arith) (All-tail HasGoodDepth (d, f, (m.0, none)) rows h) in
    let few = rest.1 in
    (one.0, omega (arith, few))

length-chained : (d : ℕ) (fs : Path) (m : Marks) → length (chained d fs m) ≡ length fs
length-chained d [] m = refl
length-chained d (f ∷ []) m = refl
length-chained d (f ∷ g ∷ fs) m = ap suc (length-chained (suc d) (g ∷ fs) m)

-- what a reader sees of the rows of a tree, past the root
module _ (C : Ranks) (cs : List NodeView) (first : ℕ) (t : Tree) (seen : tree_view C cs first ≡ t) (holds : IsArenaTree C cs first) where
  abbrev below : List (ℕ × List ℕ × Marks)
  below = shows 1 (rows_of_chains (forest_at cs first))

  entries_seen : map shown (forest_rows (rows_of_chains (forest_at cs first))) ≡ below
  entries_seen = rows_seen (forest_rows (rows_of_chains (forest_at cs first))) ∙ shows_rows 0 (rows_of_chains (forest_at cs first))

  seen_past : (row : ℕ) → 1 ≤ row → drop row (rows_shown t) ≡ drop (row - 1) below
  seen_past zero le = absurd (omega (arith, le))
  seen_past (suc row) le =
      let n : row ≡ suc row - 1 = omega arith in
      ap (λ (u : Tree). drop row (map shown (finmap.entries u.below))) (sym seen)
      ∙ ap (drop row) (ap (map shown) (entries_are C cs first holds) ∙ entries_seen)
      ∙ ap (λ k. drop k below) n

  depths : (d : ℕ) (fs : Path) (m : Marks) (more : List (ℕ × List ℕ × Marks)) (i : ℕ) → 0 < length fs → drop i below ≡ chained d fs m ++ more → (0 < d) × (d + length fs ≤ 129)
  depths d fs m more i lt is =
      chain_depths d fs m more lt
      (subst (All HasGoodDepth) is (All-drop HasGoodDepth i below (subst (All HasGoodDepth) entries_seen (good_depths (forest_rows (rows_of_chains (forest_at cs first))) holds.good_paths))))

  module _ (d : ℕ) (fs : Path) (m : Marks) (row n : ℕ) (some : 1 ≤ row) (long : n ≡ row + length fs) (lt : 0 < length fs) (is : drop (row - 1) below ≡ chained d fs m ++ drop (n - 1) below) where
    pub chain_seen : drop row (rows_shown t) ≡ chained d fs m ++ drop n (rows_shown t)
    chain_seen = seen_past row some ∙ is ∙ ap (λ more. chained d fs m ++ more) (sym (seen_past n (omega (arith, some, long))))

    pub chain_within : n ≤ length (rows_of t)
    chain_within =
        let all = rows_past C cs first t seen holds in
        let size = length-forest 1 (forest_at cs first) in
        let parts = ap length is ∙ length-append (chained d fs m) (drop (n - 1) below) in
        let front = length-chained d fs m in
        let one = length_drop (row - 1) below in
        let two = length_drop (n - 1) below in
        omega (arith, all, size, parts, front, one, two, some, long, lt)

    pub chain_deep : (0 < d) × (d + length fs ≤ 129)
    chain_deep = depths d fs m (drop (n - 1) below) (row - 1) lt is

-- a cursor of a tree, where a node is taken off
module _ (C : Ranks) (cs : List NodeView) (first : ℕ) (v : ArenaView) (seen : arena_view C cs first ≡ v) (at : Cursor) (held : IsCursor v.nodes v.first at) (others : List WaitingNode) (w : WaitingNode) (items : at.waiting.items ≡ others ++ w ∷ [])
    (c : NodeView) (there : slice_get cs w.place ≡ Some c) where
  walk : WalksOn cs first at.row at.frame (w ∷ reverse others)
  walk = taken C cs first v seen at held others w items

  within : at.frame < length c.frames
  within = row_within cs w (reverse others) at.frame walk.waiting walk.frame c there

  pub room_past : length (waiting_behind c w (reverse others)) ≤ vec_capacity at.waiting
  room_past =
      let few = waiting_few cs (waiting_behind c w (reverse others)) (behind_waiting cs w (reverse others) at.frame walk.waiting walk.frame c there) in
      let count = behind_count cs w (reverse others) at.frame walk.waiting walk.frame c there in
      omega (arith, few, count, taken_room C cs first v seen at held others w items)

  pub cursor_past : (on : Cursor) → on.row ≡ at.row + (length c.frames - at.frame) → reverse on.waiting.items ≡ waiting_behind c w (reverse others) → on.frame ≡ 0 → vec_capacity at.waiting ≤ vec_capacity on.waiting
      → IsCursor v.nodes v.first on
  cursor_past on row waiting frame room =
      let count = behind_count cs w (reverse others) at.frame walk.waiting walk.frame c there in
      let same = ap (waiting_count cs) waiting in
      let past = walk_past cs w (reverse others) at.frame walk.waiting walk.frame c there first at.row walk in
      subst (λ (u : ArenaView). IsCursor u.nodes u.first on) seen
      (record {
        walk = subst (λ n. WalksOn cs first n on.frame (reverse on.waiting.items)) (sym row)
            (subst (λ i. WalksOn cs first (at.row + (length c.frames - at.frame)) i (reverse on.waiting.items)) (sym frame)
            (subst (λ (us : List WaitingNode). WalksOn cs first (at.row + (length c.frames - at.frame)) 0 us) (sym waiting) past));
        room = omega (arith, count, same, taken_room C cs first v seen at held others w items, room);
      })

  -- the chain that is read
  module _ (holds : IsArenaTree C cs first) (n : ℕ) (on : n ≡ at.row + (length c.frames - at.frame)) where
    abbrev rest : Path
    rest = drop at.frame c.frames

    long : n ≡ at.row + length rest
    long = let e = length_drop at.frame c.frames in omega (arith, on, e)

    some : 0 < length rest
    some = let e = length_drop at.frame c.frames in omega (arith, within, e)

    is : drop (at.row - 1) (shows 1 (rows_of_chains (forest_at cs first))) ≡ chained (w.depth + at.frame) rest (c.label, c.ends) ++ drop (n - 1) (shows 1 (rows_of_chains (forest_at cs first)))
    is = chain_then cs w (reverse others) at.frame walk.waiting walk.frame c there first at.row walk ∙ ap (λ k. chained (w.depth + at.frame) rest (c.label, c.ends) ++ drop (k - 1) (shows 1 (rows_of_chains (forest_at cs first)))) (sym on)

    pub rows_read : drop at.row (rows_shown v.tree) ≡ chained (w.depth + at.frame) rest (c.label, c.ends) ++ drop n (rows_shown v.tree)
    rows_read = chain_seen C cs first v.tree (tree_is seen) holds (w.depth + at.frame) rest (c.label, c.ends) at.row n walk.below_root long some is

    pub rows_within : n ≤ length (rows_of v.tree)
    rows_within = chain_within C cs first v.tree (tree_is seen) holds (w.depth + at.frame) rest (c.label, c.ends) at.row n walk.below_root long some is

    pub read_good : (chain : Chain) → chain.depth ≡ w.depth + at.frame → chain.frames.now ≡ c.frames → chain.skip ≡ at.frame → IsGoodChain chain
    read_good chain depth frames skip =
        let deep = chain_deep C cs first v.tree (tree_is seen) holds (w.depth + at.frame) rest (c.label, c.ends) at.row n walk.below_root long some is in
        let above = deep.0 in
        let few = deep.1 in
        let size = ap length frames in
        let e = length_drop at.frame c.frames in
        record {
          not_empty = omega (arith, within, size, skip);
          below_root = omega (arith, depth, above);
          within_limit = omega (arith, depth, few, size, skip, e);
        }
