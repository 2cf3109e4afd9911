-- A walk over the rows of a tree.
use Rattle.std.proofs.Common.{◌≡◌, ◌≢◌, ℕ, zero, suc, ◌+◌, ◌-◌, ◌<◌, ◌≤◌, cond, nat_eq, nat_lt, Bool, true, false, List, [], ◌∷◌, ◌++◌, length, drop, reverse, refl, sym, ap, ◌∙◌, subst, arith, Some}
use Rattle.std.specs.Prelude.{slice_get}
use Rattle.std.specs.Vec.{vec_capacity}
use Rattle.std.proofs.lemmas.Bool.{cond_both, eqb-true, eqb-false, ltb-true, lt-ltb, true≢false}
use Rattle.std.proofs.lemmas.List.{reverse-append, append_assoc, append-nil, length-append}
use Rattle.std.proofs.lemmas.Option.{slice_get_within}
use Rattle.std.proofs.Math.Seq.{drop-append_seam}
use Rattle.rank_set.specs.Ranks.{Ranks}
use Rattle.prefix_tree.specs.declared.Cursor.{Cursor}
use Rattle.prefix_tree.specs.declared.Row.{Row}
use Rattle.prefix_tree.specs.declared.WaitingNode.{WaitingNode}
use Rattle.arena_tree.specs.NodeViews.{NodeView}
use Rattle.arena_tree.specs.ChainForest.{ChainForest, no_chains, chain_node, row_ends, rows_of_chains, count_nodes, count_rows}
use Rattle.arena_tree.specs.Placement.{first_place, no_place}
use Rattle.arena_tree.specs.Reading.{forest_at, LeadsToForest}
use Rattle.arena_tree.specs.ReadingOrder.{shows, waiting_rows, row_seen}
use Rattle.arena_tree.specs.TreeView.{ArenaView, arena_view}
use Rattle.arena_tree.specs.Cursors.{with_link, waiting_behind, waiting_next, frame_next, waiting_forests, waiting_count, AreWaiting, chain_length, IsRowOfFirst, WalksOn, IsCursor}
use Rattle.arena_tree.proofs.Planning.{Reads, reads}
use Rattle.arena_tree.proofs.Reading.{none_in}
use Rattle.arena_tree.proofs.RowShows.{node_rows, length-node_rows, get_front, all_rows, rows_here, nodes_here, row_of_node, length-forest}

-- lists that are walked along
drop_one : {X : Type 0} (i : ℕ) (xs : List X) → drop 1 (drop i xs) ≡ drop (suc i) xs
drop_one zero xs = refl
drop_one (suc i) [] = refl
drop_one (suc i) (x ∷ xs) = drop_one i xs

get_drop : {X : Type 0} (i : ℕ) (xs : List X) → slice_get (drop i xs) 0 ≡ slice_get xs i
get_drop zero xs = refl
get_drop (suc i) [] = refl
get_drop (suc i) (x ∷ xs) = get_drop i xs

drop_none : {X : Type 0} (i : ℕ) (xs : List X) → [] ≡ drop i xs → length xs ≤ i
drop_none i [] e = omega arith
drop_none zero (x ∷ xs) e = let n : 0 ≡ suc (length xs) = ap length e in absurd (omega (arith, n))
drop_none (suc i) (x ∷ xs) e = let n = drop_none i xs e in omega (arith, n)

pub drop_of_none : {X : Type 0} (i : ℕ) → ◌≡◌ {A = List X} (drop i []) []
drop_of_none zero = refl
drop_of_none (suc i) = refl

one_more : {X : Type 0} (xs ys : List X) (i n : ℕ) → 1 ≤ n → drop i xs ≡ drop (n - 1) ys → drop (i + 1) xs ≡ drop (n + 1 - 1) ys
one_more xs ys i n le same =
    let a : i + 1 ≡ suc i = omega arith in
    let b : suc (n - 1) ≡ n + 1 - 1 = omega (arith, le) in
    ap (λ k. drop k xs) a ∙ sym (drop_one i xs) ∙ ap (drop 1) same ∙ drop_one (n - 1) ys ∙ ap (λ k. drop k ys) b

cond_pairs : {A B : Type 0} (P : A → B → Type 0) (b : Bool) (x y : A) (u v : B) → (b ≡ true → P x u) → (b ≡ false → P y v) → P (cond b x y) (cond b u v)
cond_pairs P true x y u v p q = p refl
cond_pairs P false x y u v p q = q refl

has_chain : (k : ChainForest) (at : ℕ) → first_place k ≡ at → at ≢ no_place → 0 < chain_length k
has_chain no_chains at from off = absurd (off (sym from))
has_chain (chain_node a f fs m b s) at from off = omega arith

has_node : (k : ChainForest) (at : ℕ) → first_place k ≡ at → at ≢ no_place → 0 < count_nodes k
has_node no_chains at from off = absurd (off (sym from))
has_node (chain_node a f fs m b s) at from off = omega arith

has_rows : (k : ChainForest) → chain_length k ≤ count_rows k
has_rows no_chains = omega arith
has_rows (chain_node a f fs m b s) = omega arith

pub length_drop : {X : Type 0} (i : ℕ) (xs : List X) → length (drop i xs) ≡ length xs - i
length_drop zero xs = omega arith
length_drop (suc i) [] = omega arith
length_drop (suc i) (x ∷ xs) = let n = length_drop i xs in omega (arith, n)

drop_some : {X : Type 0} (i : ℕ) (xs : List X) (j : ℕ) (ys : List X) → drop i xs ≡ drop j ys → i < length xs → j < length ys
drop_some i xs j ys same lt =
    let e = ap length same in
    let one = length_drop i xs in
    let two = length_drop j ys in
    omega (arith, e, one, two, lt)

no_items : {X : Type 0} (xs : List X) → length xs ≡ 0 → xs ≡ []
no_items [] e = refl
no_items (x ∷ xs) e = absurd (omega (arith, e))

module _ (cs : List NodeView) where
  -- each has a row, and a node
  pub first_row : (ws : List WaitingNode) → AreWaiting cs ws → IsRowOfFirst cs ws 0
  first_row [] h = tt
  first_row (w ∷ ws) h = has_chain (forest_at cs w.place) w.place h.0.leads.begins h.0.node

  pub waiting_few : (ws : List WaitingNode) → AreWaiting cs ws → length ws ≤ waiting_count cs ws
  waiting_few [] h = omega arith
  waiting_few (w ∷ ws) h =
      let one = has_node (forest_at cs w.place) w.place h.0.leads.begins h.0.node in
      let more = waiting_few ws h.1 in
      omega (arith, one, more)

  -- a link more
  module _ (at d : ℕ) (ws : List WaitingNode) (leads : LeadsToForest cs at) where
    none_there : nat_eq at no_place ≡ true → forest_at cs at ≡ no_chains
    none_there e = ap (forest_at cs) (eqb-true at no_place e) ∙ none_in cs leads.within_limit

    pub link_rows : waiting_rows (waiting_forests cs (with_link at d ws)) ≡ shows d (rows_of_chains (forest_at cs at)) ++ waiting_rows (waiting_forests cs ws)
    link_rows =
        cond_both (nat_eq at no_place) _ _ (λ (us : List WaitingNode). waiting_rows (waiting_forests cs us) ≡ shows d (rows_of_chains (forest_at cs at)) ++ waiting_rows (waiting_forests cs ws))
        (λ e. ap (λ k. shows d (rows_of_chains k) ++ waiting_rows (waiting_forests cs ws)) (sym (none_there e))) (λ _. refl)

    pub link_count : waiting_count cs (with_link at d ws) ≡ count_nodes (forest_at cs at) + waiting_count cs ws
    link_count =
        cond_both (nat_eq at no_place) _ _ (λ (us : List WaitingNode). waiting_count cs us ≡ count_nodes (forest_at cs at) + waiting_count cs ws)
        (λ e. let n = ap count_nodes (none_there e) in omega (arith, n)) (λ _. refl)

    pub link_waiting : d + count_rows (forest_at cs at) ≤ 8192 → AreWaiting cs ws → AreWaiting cs (with_link at d ws)
    link_waiting deep h =
        cond_both (nat_eq at no_place) _ _ (AreWaiting cs) (λ _. h) (λ e. (record { leads = leads; node = eqb-false at no_place e; depth = deep }, h))

  -- a row of the first node that waits
  module _ (w : WaitingNode) (ws : List WaitingNode) (i : ℕ) (waits : AreWaiting cs (w ∷ ws)) (frame : IsRowOfFirst cs (w ∷ ws) i) (c : NodeView) (there : slice_get cs w.place ≡ Some c) where
    it : Reads cs w.place c
    it = reads cs w.place c waits.0.leads there

    pub chain_here : chain_length (forest_at cs w.place) ≡ length c.frames
    chain_here = ap chain_length it.is ∙ ap length (sym it.frames)

    pub row_within : i < length c.frames
    row_within = omega (arith, frame, chain_here)

    pub behind_waiting : AreWaiting cs (waiting_behind c w ws)
    behind_waiting =
        let rows = rows_here cs w.place c waits.0.leads there w.depth i in
        let deep = waits.0.depth in
        link_waiting c.first (w.depth + length c.frames) (with_link c.next w.depth ws) it.first (omega (arith, rows, deep))
        (link_waiting c.next w.depth ws it.next (omega (arith, rows, deep)) waits.1)

    pub behind_count : waiting_count cs (waiting_behind c w ws) ≤ waiting_count cs (w ∷ ws)
    behind_count =
        let nodes = nodes_here cs w.place c waits.0.leads there w.depth i in
        let one = link_count c.first (w.depth + length c.frames) (with_link c.next w.depth ws) it.first in
        let two = link_count c.next w.depth ws it.next in
        omega (arith, nodes, one, two)

    pub behind_rows : waiting_rows (waiting_forests cs (waiting_behind c w ws)) ≡ drop (length c.frames) (waiting_rows (waiting_forests cs (w ∷ ws)))
    behind_rows =
        let chain = node_rows w.depth c.frames (c.label, c.ends) in
        let below = shows (w.depth + length c.frames) (rows_of_chains (forest_at cs c.first)) in
        let later = shows w.depth (rows_of_chains (forest_at cs c.next)) in
        let rest = waiting_rows (waiting_forests cs ws) in
        link_rows c.first (w.depth + length c.frames) (with_link c.next w.depth ws) it.first
        ∙ ap (λ rs. below ++ rs) (link_rows c.next w.depth ws it.next)
        ∙ sym (append_assoc below later rest)
        ∙ sym (drop-append_seam chain ((below ++ later) ++ rest))
        ∙ ap (λ n. drop n (chain ++ ((below ++ later) ++ rest))) (length-node_rows w.depth c.frames (c.label, c.ends))
        ∙ ap (drop (length c.frames)) (sym (append_assoc chain (below ++ later) rest))
        ∙ ap (λ rs. drop (length c.frames) (rs ++ rest)) (sym (all_rows cs w.place c waits.0.leads there w.depth i))

    pub next_waiting : AreWaiting cs (waiting_next c w i ws)
    next_waiting = cond_both (nat_lt (i + 1) (length c.frames)) _ _ (AreWaiting cs) (λ _. waits) (λ _. behind_waiting)

    pub next_count : waiting_count cs (waiting_next c w i ws) ≤ waiting_count cs (w ∷ ws)
    next_count = cond_both (nat_lt (i + 1) (length c.frames)) _ _ (λ us. waiting_count cs us ≤ waiting_count cs (w ∷ ws)) (λ _. omega arith) (λ _. behind_count)

    pub next_few : length (waiting_next c w i ws) ≤ waiting_count cs (w ∷ ws)
    next_few = let few = waiting_few (waiting_next c w i ws) next_waiting in omega (arith, few, next_count)

    last_here : nat_lt (i + 1) (length c.frames) ≡ false → length c.frames ≡ i + 1
    last_here e = omega (arith, row_within, over)
      where
        over : i + 1 < length c.frames → ⊥
        over lt = true≢false (sym (lt-ltb (i + 1) (length c.frames) lt) ∙ e)

    -- on a walk
    module _ (first row : ℕ) (walk : WalksOn cs first row i (w ∷ ws)) where
      pub walk_next : WalksOn cs first (row + 1) (frame_next c i) (waiting_next c w i ws)
      walk_next =
          let all = waiting_rows (waiting_forests cs (w ∷ ws)) in
          let rows = shows 1 (rows_of_chains (forest_at cs first)) in
          let on = one_more all rows i row walk.below_root walk.rows in
          cond_pairs (λ (us : List WaitingNode) j. WalksOn cs first (row + 1) j us) (nat_lt (i + 1) (length c.frames)) (w ∷ ws) (waiting_behind c w ws) (i + 1) 0
          (λ e. record {
            below_root = omega arith;
            waiting = waits;
            frame = let lt = ltb-true (i + 1) (length c.frames) e in omega (arith, lt, chain_here);
            rows = on;
          })
          (λ e. record {
            below_root = omega arith;
            waiting = behind_waiting;
            frame = first_row (waiting_behind c w ws) behind_waiting;
            rows = behind_rows ∙ ap (λ n. drop n all) (last_here e) ∙ on;
          })

      -- there is a row more
      pub row_below : count_rows (forest_at cs first) ≤ 2048 → row < 4096
      row_below few =
          let own = shows w.depth (rows_of_chains (forest_at cs w.place)) in
          let rest = waiting_rows (waiting_forests cs ws) in
          let rows = shows 1 (rows_of_chains (forest_at cs first)) in
          let long = length-forest 1 (forest_at cs first) in
          let all = length-forest w.depth (forest_at cs w.place) in
          let one = has_rows (forest_at cs w.place) in
          let some = drop_some i (own ++ rest) (row - 1) rows walk.rows (omega (arith, length-append own rest, all, one, frame)) in
          omega (arith, some, long, few)

      pub row_next : (r : Row) → r.depth ≡ w.depth + i → slice_get c.frames i ≡ Some r.frame.now → r.label.now ≡ c.label → r.ends.now ≡ row_ends (drop (i + 1) c.frames) c.ends
          → slice_get (shows 1 (rows_of_chains (forest_at cs first))) (row - 1) ≡ Some (row_seen r)
      row_next r depth frame label ends =
          let own = shows w.depth (rows_of_chains (forest_at cs w.place)) in
          let rest = waiting_rows (waiting_forests cs ws) in
          let here : slice_get own i ≡ Some (row_seen r) = row_of_node cs w.place c waits.0.leads there w.depth i r depth frame label ends in
          let rows = shows 1 (rows_of_chains (forest_at cs first)) in
          sym (get_drop (row - 1) rows) ∙ ap (λ rs. slice_get rs 0) (sym walk.rows) ∙ get_drop i (own ++ rest) ∙ get_front own rest i (slice_get_within own i (row_seen r) here) ∙ here

  -- a cursor at the first row
  pub walk_begins : (first : ℕ) → LeadsToForest cs first → 1 + count_rows (forest_at cs first) ≤ 8192 → WalksOn cs first 1 0 (with_link first 1 [])
  walk_begins first leads deep =
      let waits = link_waiting first 1 [] leads deep tt in
      record {
        below_root = omega arith;
        waiting = waits;
        frame = first_row (with_link first 1 []) waits;
        rows = link_rows first 1 [] leads ∙ append-nil (shows 1 (rows_of_chains (forest_at cs first)));
      }

-- a cursor of a tree
module _ (C : Ranks) (cs : List NodeView) (first : ℕ) (t : ArenaView) (seen : arena_view C cs first ≡ t) (at : Cursor) (held : IsCursor t.nodes t.first at) where
  here : IsCursor cs first at
  here = subst (λ (v : ArenaView). IsCursor v.nodes v.first at) (sym seen) held

  -- past the last row
  pub walk_over : (left : List WaitingNode) → at.waiting.items ≡ left ++ [] → length left ≡ 0 → count_rows (forest_at cs first) < at.row
  walk_over left items none =
      let same = ap (λ us. drop at.frame (waiting_rows (waiting_forests cs (reverse us)))) (items ∙ append-nil left ∙ no_items left none) in
      let over = drop_none (at.row - 1) (shows 1 (rows_of_chains (forest_at cs first))) (sym (same ∙ drop_of_none at.frame) ∙ here.walk.rows) in
      let long = length-forest 1 (forest_at cs first) in
      let le = here.walk.below_root in
      omega (arith, over, long, le)

  -- where a node is taken off
  module _ (left : List WaitingNode) (w : WaitingNode) (items : at.waiting.items ≡ left ++ w ∷ []) where
    turned : reverse at.waiting.items ≡ w ∷ reverse left
    turned = ap reverse items ∙ reverse-append left (w ∷ [])

    pub taken : WalksOn cs first at.row at.frame (w ∷ reverse left)
    taken = subst (WalksOn cs first at.row at.frame) turned here.walk

    pub taken_room : waiting_count cs (w ∷ reverse left) ≤ vec_capacity at.waiting
    taken_room = subst (λ (us : List WaitingNode). waiting_count cs us ≤ vec_capacity at.waiting) turned here.room

    -- and read
    module _ (c : NodeView) (there : slice_get cs w.place ≡ Some c) where
      pub frame_within : at.frame < length c.frames
      frame_within = row_within cs w (reverse left) at.frame taken.waiting taken.frame c there

      pub room_next : length (waiting_next c w at.frame (reverse left)) ≤ vec_capacity at.waiting
      room_next = let few = next_few cs w (reverse left) at.frame taken.waiting taken.frame c there in omega (arith, few, taken_room)

      pub row_few : count_rows (forest_at cs first) ≤ 2048 → at.row < 4096
      row_few few = row_below cs w (reverse left) at.frame taken.waiting taken.frame c there first at.row taken few

      pub cursor_next : (on : Cursor) → on.row ≡ at.row + 1 → reverse on.waiting.items ≡ waiting_next c w at.frame (reverse left) → on.frame ≡ frame_next c at.frame → vec_capacity at.waiting ≤ vec_capacity on.waiting
          → IsCursor t.nodes t.first on
      cursor_next on row waiting frame room =
          let count = next_count cs w (reverse left) at.frame taken.waiting taken.frame c there in
          let same = ap (waiting_count cs) waiting in
          let next : WalksOn cs first (at.row + 1) (frame_next c at.frame) (waiting_next c w at.frame (reverse left)) = walk_next cs w (reverse left) at.frame taken.waiting taken.frame c there first at.row taken in
          subst (λ (v : ArenaView). IsCursor v.nodes v.first on) seen
          (record {
            walk = subst (λ n. WalksOn cs first n on.frame (reverse on.waiting.items)) (sym row)
                (subst (λ i. WalksOn cs first (at.row + 1) i (reverse on.waiting.items)) (sym frame)
                (subst (λ (us : List WaitingNode). WalksOn cs first (at.row + 1) (frame_next c at.frame) us) (sym waiting) next));
            room = omega (arith, count, same, taken_room, room);
          })

      pub found : (r : Row) → r.depth ≡ w.depth + at.frame → slice_get c.frames at.frame ≡ Some r.frame.now → r.label.now ≡ c.label → r.ends.now ≡ row_ends (drop (at.frame + 1) c.frames) c.ends
          → slice_get (shows 1 (rows_of_chains (forest_at cs first))) (at.row - 1) ≡ Some (row_seen r)
      found = row_next cs w (reverse left) at.frame taken.waiting taken.frame c there first at.row taken
