-- What is still to be added to a tree.
use Rattle.std.proofs.Common.{◌≡◌, ◌≢◌, ℕ, ◌<◌, Bool, true, false, ◌&&◌, ◌||◌, List, [], ◌++◌, get_or, refl, sym, ap, subst, ◌∙◌, arith}
use Rattle.std.proofs.lemmas.Bool.{true≢false}
use Rattle.std.proofs.lemmas.List.{append-nil}
use Rattle.rank_set.specs.Ranks.{Ranks, none, has, size, in_order, is_empty, is_subset, subset_from, union, has-union, none_from_size}
use Rattle.call_path.specs.Path.{Path, is_path}
use Rattle.call_path.specs.Pairs.{Pairs, pairs_at, is_pair}
use Rattle.prefix_tree.specs.Tree.{Tree, tree_of, added, count_below}
use Rattle.prefix_tree.proofs.PairLemmas.{is_pair-append, any-pairs_of_set}
use Rattle.prefix_tree.proofs.TreeLaws.{added_adds}
use Rattle.stat_plan.specs.StackLines.{line_of}
use Rattle.stat_plan.specs.declared.samples.StackLine.{StackLine}
use Rattle.merge_filter.specs.Gathering.{HasRoomFor, TakesLine, with_pending}
use Rattle.merge_filter.specs.declared.own_tree.Pending.{Pending}
use Rattle.merge_filter.proofs.Standing.{covers}

-- ranks that are some
pub some_ranks : (s : Ranks) → is_empty s ≡ false → s ≢ none
some_ranks s some same = true≢false (sym (ap is_empty same) ∙ some)

-- nothing is still to be added
pub nothing_pending : (P : Pairs) (paths : List Path) (x : Pending) → size x.ranks ≡ 0 → with_pending P paths x ≡ P
nothing_pending P paths x empty = ap (λ (s : Ranks). P ++ pairs_at (in_order s) (get_or paths x.path [])) (none_from_size x.ranks empty) ∙ append-nil P

-- what is still to be added is of the tree's ranks
pub room_lies : (t : Tree) (paths : List Path) (x : Pending) → HasRoomFor t paths x → is_subset x.ranks t.coverage ≡ true
room_lies t paths x room = subst (λ s. is_subset x.ranks s ≡ true) (sym (covers t room.pairs room.own room.is)) (subset_from x.ranks room.own room.lies)

-- there is room for it
pub not_full : (t : Tree) (paths : List Path) (x : Pending) (path : Path) → path ≡ get_or paths x.path [] → HasRoomFor t paths x → 2048 < count_below (added t x.ranks path) → ⊥
not_full t paths x path is room full =
    let same : added t x.ranks path ≡ tree_of (with_pending room.pairs paths x) room.own = added_adds t x.ranks path room.pairs room.own room.is ∙ ap (λ q. tree_of (room.pairs ++ pairs_at (in_order x.ranks) q) room.own) is in
    let within = room.within in
    let over : 2048 < count_below (tree_of (with_pending room.pairs paths x) room.own) = subst (λ u. 2048 < count_below u) same full in
    omega (arith, within, over)

-- whether a pair is one of these, or still to be added
pub is_pair-pending : (P : Pairs) (paths : List Path) (x : Pending) (r : ℕ) (q : Path) → is_pair (with_pending P paths x) r q ≡ (is_pair P r q || (has x.ranks r && is_path q (get_or paths x.path [])))
is_pair-pending P paths x r q =
    is_pair-append P (pairs_at (in_order x.ranks) (get_or paths x.path [])) r q
    ∙ ap (λ b. is_pair P r q || b) (any-pairs_of_set (is_path q) x.ranks (get_or paths x.path []) r)

module _ (P : Pairs) (own : Ranks) (paths : List Path) (line : StackLine) (old new : Pending) where
  regroup : (p o h c : Bool) → (p || ((o || h) && c)) ≡ ((p || (o && c)) || (h && c))
  regroup true o h c = refl
  regroup false true h true = refl
  regroup false true true false = refl
  regroup false true false false = refl
  regroup false false h c = refl

  -- the line's ranks join those that are still to be added
  pub joins : (t : Tree) → t ≡ tree_of P own → line.path ≡ old.path → new.path ≡ old.path → new.ranks ≡ union old.ranks line.ranks → TakesLine P own paths (line_of paths line) line.path old new t
  joins t tree one path ranks = record {
    pairs = P;
    is = tree;
    number = path ∙ sym one;
    each = λ r q.
        is_pair-pending P paths new r q
        ∙ (λ i. is_pair P r q || (has (ranks i) r && is_path q (get_or paths (path i) [])))
        ∙ ap (λ b. is_pair P r q || (b && is_path q (get_or paths old.path []))) (has-union old.ranks line.ranks r)
        ∙ regroup (is_pair P r q) (has old.ranks r) (has line.ranks r) (is_path q (get_or paths old.path []))
        ∙ (λ i. sym (is_pair-pending P paths old r q) i || (has line.ranks r && is_path q (get_or paths (sym one i) [])));
  }

  -- they are the next that are to be added
  pub comes_next : (u : Tree) → u ≡ tree_of (with_pending P paths old) own → new.path ≡ line.path → new.ranks ≡ line.ranks → TakesLine P own paths (line_of paths line) line.path old new u
  comes_next u tree path ranks = record {
    pairs = with_pending P paths old;
    is = tree;
    number = path;
    each = λ r q.
        is_pair-pending (with_pending P paths old) paths new r q
        ∙ (λ i. is_pair (with_pending P paths old) r q || (has (ranks i) r && is_path q (get_or paths (path i) [])));
  }
