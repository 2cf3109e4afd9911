-- Lines gathered one after another.
use Rattle.std.proofs.Common.{◌≡◌, ℕ, ◌+◌, ◌<◌, ◌≤◌, Bool, true, false, ◌&&◌, ◌||◌, cond, List, [], ◌∷◌, ◌++◌, take, get_or, length, refl, sym, ap, subst, ◌∙◌, arith}
use Rattle.std.specs.List.{list_any, AllByRecursion}
use Rattle.std.proofs.lemmas.Bool.{true≢false, or_right, and_from, and_parts}
use Rattle.std.proofs.lemmas.List.{append-nil, map-append, take_more}
use Rattle.std.proofs.lemmas.List.Elements.{filter-append}
use Rattle.std.proofs.lemmas.List.Folds.{list_any-append}
use Rattle.rank_set.specs.Ranks.{Ranks, none, has, Has, has-none, IsSubset, size}
use Rattle.call_path.specs.Path.{Path, is_path}
use Rattle.call_path.specs.Pairs.{Pairs, is_pair, is_below}
use Rattle.call_path.proofs.PathLemmas.{is_path-itself}
use Rattle.prefix_tree.specs.Tree.{Tree, tree_of, count_below}
use Rattle.prefix_tree.proofs.PairLemmas.{pair_from_passes, passes-from_pair}
use Rattle.prefix_tree.proofs.TreeLaws.{tree_of-same_pairs}
use Rattle.overlay_setup.specs.NodeSets.{In}
use Rattle.stat_plan.specs.Samples.{SampleLine, samples_of, wave_lines}
use Rattle.overlay_setup.specs.Scripts.{is_in_wave}
use Rattle.stat_plan.specs.StackLines.{line_of, lines_of}
use Rattle.stat_plan.specs.declared.samples.StackLine.{StackLine}
use Rattle.stat_plan.proofs.FirstOver.{all_in}
use Rattle.stat_plan.proofs.InLists.{any_from_in, in_filter, in_from_any, in_from_filter, in_from_map, in_map, in_take}
use Rattle.merge_filter.specs.Gathering.{AreGathered, HasRoomFor, TakesLine, with_pending}
use Rattle.merge_filter.specs.declared.own_tree.Pending.{Pending}
use Rattle.merge_filter.proofs.Pendings.{is_pair-pending, nothing_pending}
use Rattle.merge_filter.proofs.Prefixes.{count-more}
use Rattle.merge_filter.proofs.WaveSamples.{is_pair-samples_of, line_says}

-- no line is gathered yet
pub gathered_none : (own : Ranks) (paths : List Path) (x : Pending) (t : Tree) → t ≡ tree_of [] own → x.ranks ≡ none → AreGathered [] own paths x t
gathered_none own paths x t is empty = record {
  pairs = [];
  is = is;
  path = λ r there. absurd (true≢false (sym there ∙ ap (λ s. has s r) empty ∙ has-none r));
  each = λ r q. ap (λ P. is_pair P r q) (nothing_pending [] paths x (ap size empty));
}

module _ (k w : ℕ) (paths : List Path) (lines : List StackLine) where
  -- the lines of the wave among the first n
  abbrev pub first_lines : ℕ → List SampleLine
  first_lines n = wave_lines k w (lines_of paths (take n lines))

  -- they are lines of the wave
  among_all : (n r : ℕ) (q : Path) → is_pair (samples_of (first_lines n)) r q ≡ true → (line : StackLine) × ((is_pair (samples_of (wave_lines k w (lines_of paths lines))) r q ≡ true) × (In line lines × Has r line.ranks))
  among_all n r q there =
      let all = wave_lines k w (lines_of paths lines) in
      let found = in_from_any (line_says r q) (first_lines n) (sym (is_pair-samples_of (first_lines n) r q) ∙ there) in
      let kept = in_from_filter (λ (l : SampleLine). is_in_wave k w l.time) found.0 (lines_of paths (take n lines)) found.1.0 in
      let from = in_from_map (line_of paths) (take n lines) found.0 kept.0 in
      let line = in_take from.0 n lines from.1.0 in
      let listed : In found.0 all = in_filter (λ (l : SampleLine). is_in_wave k w l.time) found.0 (lines_of paths lines) (subst (λ l. In l (lines_of paths lines)) (sym from.1.1) (in_map (line_of paths) from.0 lines line)) kept.1 in
      (from.0, (is_pair-samples_of all r q ∙ any_from_in (line_says r q) found.0 all listed found.1.1, (line, ap (λ (l : SampleLine). has l.ranks r) (sym from.1.1) ∙ (and_parts (has found.0.ranks r) (is_path q found.0.path) found.1.1).0)))

  -- there is room for what is still to be added
  pub room_from : (own : Ranks) (n : ℕ) (x : Pending) (t : Tree) → AllByRecursion (λ line. IsSubset line.ranks own) lines → count_below (tree_of (samples_of (wave_lines k w (lines_of paths lines))) own) ≤ 2048 → AreGathered (first_lines n) own paths x t → HasRoomFor t paths x
  room_from own n x t lie within gathered =
      let V : Pairs = with_pending gathered.pairs paths x in
      let S : Pairs = samples_of (wave_lines k w (lines_of paths lines)) in
      let fewer = count-more V S own own
      (λ r p there.
      let pair = pair_from_passes V r p there in
      passes-from_pair S r p pair.path (among_all n r pair.path (sym (gathered.each r pair.path) ∙ pair.seen_in)).1.0 pair.starts)
      (λ r there. there) in
      record {
        own = own;
        pairs = gathered.pairs;
        is = gathered.is;
        lies = λ r there.
            let path = get_or paths x.path [] in
            let seen = sym (gathered.each r path) ∙ is_pair-pending gathered.pairs paths x r path ∙ or_right (is_pair gathered.pairs r path) (has x.ranks r && is_path path path) (and_from (has x.ranks r) (is_path path path) there (is_path-itself path)) in
            let line = among_all n r path seen in
            all_in (λ (l : StackLine). IsSubset l.ranks own) lines line.0 lie line.1.1.0 r line.1.1.1;
        within = omega (arith, fewer, within);
        path = gathered.path;
      }

  module _ (n : ℕ) (line : StackLine) (lt : n < length lines) (is : line ≡ get_or lines n line) where
    one_more : first_lines (n + 1) ≡ first_lines n ++ wave_lines k w (line_of paths line ∷ [])
    one_more =
        ap (λ ls. wave_lines k w (lines_of paths ls)) (take_more lines n line lt ∙ ap (λ l. take n lines ++ l ∷ []) (sym is))
        ∙ ap (wave_lines k w) (map-append (line_of paths) (take n lines) (line ∷ []))
        ∙ filter-append (λ (l : SampleLine). is_in_wave k w l.time) (lines_of paths (take n lines)) (line_of paths line ∷ [])

    -- a line at another time is no line of the wave
    pub gathered_skip : (own : Ranks) (x : Pending) (t : Tree) → is_in_wave k w line.time ≡ false → AreGathered (first_lines n) own paths x t → AreGathered (first_lines (n + 1)) own paths x t
    gathered_skip own x t other so_far =
        subst (λ ls. AreGathered ls own paths x t) (sym (one_more ∙ ap (λ b. first_lines n ++ cond b (line_of paths line ∷ []) []) other ∙ append-nil (first_lines n))) so_far

    -- a line of the wave is gathered
    pub gathered_more : (own : Ranks) (old new : Pending) (t u : Tree) → line.path < length paths → is_in_wave k w line.time ≡ true → (so_far : AreGathered (first_lines n) own paths old t) → TakesLine so_far.pairs own paths (line_of paths line) line.path old new u
        → AreGathered (first_lines (n + 1)) own paths new u
    gathered_more own old new t u below time so_far more =
        subst (λ ls. AreGathered ls own paths new u) (sym (one_more ∙ ap (λ b. first_lines n ++ cond b (line_of paths line ∷ []) []) time)) (record {
          pairs = more.pairs;
          is = more.is;
          path = λ r there. subst (λ m. m < length paths) (sym more.number) below;
          each = λ r q.
              more.each r q
              ∙ ap (λ b. b || line_says r q (line_of paths line)) (so_far.each r q ∙ is_pair-samples_of (first_lines n) r q)
              ∙ ap (λ b. list_any (line_says r q) (first_lines n) || b) (sym (or_none (line_says r q (line_of paths line))))
              ∙ sym (is_pair-samples_of (first_lines n ++ line_of paths line ∷ []) r q ∙ list_any-append (line_says r q) (first_lines n) (line_of paths line ∷ []));
        })
      where
        or_none : (b : Bool) → (b || false) ≡ b
        or_none true = refl
        or_none false = refl

-- all lines are gathered
pub gathered_all : (lines : List SampleLine) (own : Ranks) (paths : List Path) (x : Pending) (t u : Tree) → (gathered : AreGathered lines own paths x t) → u ≡ tree_of (with_pending gathered.pairs paths x) own → u ≡ tree_of (samples_of lines) own
gathered_all lines own paths x t u gathered is =
    is ∙ tree_of-same_pairs (with_pending gathered.pairs paths x) (samples_of lines) own (λ p r. ap (λ b. is_below p && (has own r && b)) (gathered.each r p))
