-- The lines of a wave, with their paths.
use Rattle.std.proofs.Common.{◌≡◌, ◌≢◌, ℕ, ◌<◌, true, ◌&&◌, nat_eq, List, [], get_or, length, refl, sym, ap, subst, ◌∙◌, eqb-true, eq-eqb}
use Rattle.std.specs.List.{AllByRecursion}
use Rattle.std.proofs.lemmas.Bool.{and_parts, and_from, or_left}
use Rattle.rank_set.specs.Ranks.{Ranks, none, has, Has, IsSubset}
use Rattle.rank_set.proofs.SomeMember.{some_member}
use Rattle.call_path.specs.Path.{Path, is_path}
use Rattle.stat_plan.specs.Invariants.{AreSamples, IsSampleLine}
use Rattle.overlay_setup.specs.NodeSets.{In}
use Rattle.stat_plan.specs.OwnLines.{AreParted, AreWaveLines, AreWaveRows, ListPlacedRanks, is_in, is_seen, line_sees, lists, ranks_at, row_at, sees}
use Rattle.stat_plan.specs.Plans.{sampled}
use Rattle.stat_plan.specs.Samples.{SampleLine}
use Rattle.overlay_setup.specs.Scripts.{is_in_wave}
use Rattle.stat_plan.specs.StackLines.{PathIndicesInRange, line_of, lines_of}
use Rattle.stat_plan.specs.declared.samples.StackLine.{StackLine}
use Rattle.stat_plan.proofs.Elements.{all_from}
use Rattle.stat_plan.proofs.FirstOver.{all_in}
use Rattle.stat_plan.proofs.InLists.{any_from_in, in_from_any, in_from_map, in_map}
use Rattle.stat_plan.proofs.Sharing.{both_ways, lists_itself}

-- each line lists a rank, and placed ones alone
pub placed_ranks : (placed : List Ranks) (paths : List Path) (lines : List StackLine) → AreSamples (sampled placed (lines_of paths lines)) → ListPlacedRanks placed lines
placed_ranks placed paths lines are = all_from _ lines (λ line there.
    let good = all_in (IsSampleLine placed) (lines_of paths lines) (line_of paths line) are.lines (in_map (line_of paths) line lines there) in
    (good.some, good.placed_ranks))

-- ---- a row, and the spread lines

-- a line lists a rank at a time
record ListsAt (lines : List StackLine) (r t i : ℕ) : Type 0 where
  pub line : StackLine
  pub there : In line lines
  pub rank : Has r line.ranks
  pub path : line.path ≡ i

lists_at : (lines : List StackLine) (r time path : ℕ) → is_in lines r time path ≡ true → ListsAt lines r time path
lists_at lines r time path e =
    let found = in_from_any (λ (line : StackLine). lists line r time path) lines e in
    let parts = and_parts (has found.0.ranks r) (nat_eq found.0.time time && nat_eq found.0.path path) found.1.1 in
    let same = and_parts (nat_eq found.0.time time) (nat_eq found.0.path path) parts.1 in
    record { line = found.0; there = found.1.0; rank = parts.0; path = eqb-true found.0.path path same.1 }

is_in_from : (lines : List StackLine) (line : StackLine) (r : ℕ) → In line lines → Has r line.ranks → is_in lines r line.time line.path ≡ true
is_in_from lines line r there rank = any_from_in (λ (l : StackLine). lists l r line.time line.path) line lines there (lists_itself line r rank)

module _ (placed : List Ranks) (paths : List Path) (lines spread : List StackLine) (rows : List (List StackLine)) (are : AreParted placed lines spread rows) (in_range : PathIndicesInRange paths lines) where
  -- a row's lines list the node's ranks alone
  pub row_within : (n : ℕ) → n < length placed → AllByRecursion (λ line. IsSubset line.ranks (ranks_at placed n)) (row_at rows n)
  row_within n below = all_from (λ (l : StackLine). IsSubset l.ranks (ranks_at placed n)) (row_at rows n) (λ l there r rank.
      (and_parts (has (ranks_at placed n) r) (is_in lines r l.time l.path) (sym (are.each n r l.time l.path below) ∙ or_left (is_in (row_at rows n) r l.time l.path) (has (ranks_at placed n) r && is_in spread r l.time l.path) (is_in_from (row_at rows n) l r there rank))).0)

  -- their paths have numbers in range
  pub row_in_range : (n : ℕ) → n < length placed → PathIndicesInRange paths (row_at rows n)
  row_in_range n below = all_from (λ (l : StackLine). l.path < length paths) (row_at rows n) (λ l there.
      let rank = some_member l.ranks (all_in (λ (l : StackLine). l.ranks ≢ none) (row_at rows n) l (are.not_empty n below) there) in
      let both = and_parts (has (ranks_at placed n) rank.0) (is_in lines rank.0 l.time l.path) (sym (are.each n rank.0 l.time l.path below) ∙ or_left (is_in (row_at rows n) rank.0 l.time l.path) (has (ranks_at placed n) rank.0 && is_in spread rank.0 l.time l.path) (is_in_from (row_at rows n) l rank.0 there rank.1)) in
      let from = lists_at lines rank.0 l.time l.path both.1 in
      subst (λ k. k < length paths) from.path (all_in (λ (l : StackLine). l.path < length paths) lines from.line in_range from.there))

  -- and so have those of the spread lines
  pub spread_in_range : PathIndicesInRange paths spread
  spread_in_range = all_from (λ (l : StackLine). l.path < length paths) spread (λ l there.
      let rank = some_member l.ranks (all_in (λ (l : StackLine). l.ranks ≢ none) spread l are.spread_not_empty there) in
      let from = lists_at lines rank.0 l.time l.path (are.spread_within rank.0 l.time l.path (is_in_from spread l rank.0 there rank.1)) in
      subst (λ k. k < length paths) from.path (all_in (λ (l : StackLine). l.path < length paths) lines from.line in_range from.there))

-- ---- by paths in place of their numbers

-- a line with its path that lists a rank
seen_path_from : (k w : ℕ) (paths : List Path) (lines : List StackLine) (r : ℕ) (p : Path) → is_seen k w (lines_of paths lines) r p ≡ true
    → (line : StackLine) × (In line lines × (Has r line.ranks × ((is_in_wave k w line.time ≡ true) × (is_path p (get_or paths line.path []) ≡ true))))
seen_path_from k w paths lines r p e =
    let found = in_from_any (λ (line : SampleLine). has line.ranks r && (is_in_wave k w line.time && is_path p line.path)) (lines_of paths lines) e in
    let from = in_from_map (line_of paths) lines found.0 found.1.0 in
    let test = ap (λ (line : SampleLine). has line.ranks r && (is_in_wave k w line.time && is_path p line.path)) (sym from.1.1) ∙ found.1.1 in
    let parts = and_parts (has from.0.ranks r) (is_in_wave k w from.0.time && is_path p (get_or paths from.0.path [])) test in
    let at = and_parts (is_in_wave k w from.0.time) (is_path p (get_or paths from.0.path [])) parts.1 in
    (from.0, (from.1.0, (parts.0, (at.0, at.1))))

seen_path_to : (k w : ℕ) (paths : List Path) (lines : List StackLine) (line : StackLine) (r : ℕ) (p : Path) → In line lines → Has r line.ranks → is_in_wave k w line.time ≡ true → is_path p (get_or paths line.path []) ≡ true → is_seen k w (lines_of paths lines) r p ≡ true
seen_path_to k w paths lines line r p there rank time path =
    any_from_in (λ (line : SampleLine). has line.ranks r && (is_in_wave k w line.time && is_path p line.path)) (line_of paths line) (lines_of paths lines) (in_map (line_of paths) line lines there)
    (and_from (has line.ranks r) (is_in_wave k w line.time && is_path p (get_or paths line.path [])) rank (and_from (is_in_wave k w line.time) (is_path p (get_or paths line.path [])) time path))

-- lines that list as much by numbers
carried : (k w : ℕ) (paths : List Path) (some others : List StackLine) (r : ℕ) (p : Path) → ((path : ℕ) → sees k w some r path ≡ true → sees k w others r path ≡ true) → is_seen k w (lines_of paths some) r p ≡ true → is_seen k w (lines_of paths others) r p ≡ true
carried k w paths some others r p same e =
    let from = seen_path_from k w paths some r p e in
    let line = from.0 in
    let at = any_from_in (λ (l : StackLine). line_sees k w l r line.path) line some from.1.0 (and_from (has line.ranks r) (is_in_wave k w line.time && nat_eq line.path line.path) from.1.1.0 (and_from (is_in_wave k w line.time) (nat_eq line.path line.path) from.1.1.1.0 (eq-eqb line.path line.path refl))) in
    let other = in_from_any (λ (l : StackLine). line_sees k w l r line.path) others (same line.path at) in
    let parts = and_parts (has other.0.ranks r) (is_in_wave k w other.0.time && nat_eq other.0.path line.path) other.1.1 in
    let there = and_parts (is_in_wave k w other.0.time) (nat_eq other.0.path line.path) parts.1 in
    seen_path_to k w paths others other.0 r p other.1.0 parts.0 there.0 (ap (λ i. is_path p (get_or paths i [])) (eqb-true other.0.path line.path there.1) ∙ from.1.1.1.1)

-- lines that have a wave's samples by numbers have them by paths
pub wave_lines_are : (k w : ℕ) (own : Ranks) (paths : List Path) (lines some : List StackLine) → AreWaveRows k w own lines some → AreWaveLines k w own (lines_of paths lines) (lines_of paths some)
wave_lines_are k w own paths lines some are = record {
  within = all_from (λ (l : SampleLine). IsSubset l.ranks own) (lines_of paths some) (λ l there.
      let from = in_from_map (line_of paths) some l there in
      subst (λ s. IsSubset s own) (ap (λ (l : SampleLine). l.ranks) (sym from.1.1)) (all_in (λ (l : StackLine). IsSubset l.ranks own) some from.0 are.within from.1.0));
  each = λ r p. both_ways _ _
      (λ there.
      let line = seen_path_from k w paths some r p there in
      let rank = all_in (λ (l : StackLine). IsSubset l.ranks own) some line.0 are.within line.1.0 r line.1.1.0 in
      and_from (has own r) (is_seen k w (lines_of paths lines) r p) rank
      (carried k w paths some lines r p (λ path one. (and_parts (has own r) (sees k w lines r path) (sym (are.each r path) ∙ one)).1) there))
      (λ both.
      let parts = and_parts (has own r) (is_seen k w (lines_of paths lines) r p) both in
      carried k w paths lines some r p (λ path one. are.each r path ∙ and_from (has own r) (sees k w lines r path) parts.0 one) parts.1);
}
