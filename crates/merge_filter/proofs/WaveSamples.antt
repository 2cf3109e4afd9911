-- What the samples of a wave are, by the lines that list them.
use Rattle.std.proofs.Common.{◌≡◌, ℕ, ◌<◌, Bool, true, false, ◌&&◌, ◌||◌, List, [], ◌∷◌, length, map, refl, sym, ap, subst, ◌∙◌}
use Rattle.std.specs.List.{list_any, AllByRecursion}
use Rattle.std.proofs.lemmas.Bool.{and_parts, and_from}
use Rattle.std.proofs.lemmas.List.{get_or-map, length-map}
use Rattle.rank_set.specs.Ranks.{Ranks, has, Has, IsSubset, in_order, those, has-those}
use Rattle.call_path.specs.Functions.{func}
use Rattle.call_path.specs.Path.{Path, is_path}
use Rattle.call_path.specs.Pairs.{pairs_at, is_pair, HasNoEmptyPath, is_below}
use Rattle.call_path.proofs.PathLemmas.{is_path-exact, is_path-itself}
use Rattle.prefix_tree.specs.Joined.{AreSamePairs}
use Rattle.prefix_tree.specs.Tree.{tree_of}
use Rattle.prefix_tree.proofs.TreeLaws.{tree_of-same_pairs}
use Rattle.prefix_tree.proofs.PairLemmas.{is_pair-append, any-pairs_of_set}
use Rattle.stat_plan.specs.Invariants.{IsPlan, IsSampleLine}
use Rattle.overlay_setup.specs.NodeSets.{In}
use Rattle.stat_plan.specs.OwnLines.{AreWaveLines, is_seen}
use Rattle.stat_plan.specs.Plans.{Plan, grain, sample_count, samples, stream_ranks}
use Rattle.stat_plan.specs.Samples.{SampleLine, path_by, samples_of, seen_by, wave_lines}
use Rattle.overlay_setup.specs.Scripts.{is_in_wave}
use Rattle.stat_plan.specs.StackLines.{PathIndicesInRange, line_of, lines_of}
use Rattle.stat_plan.specs.declared.samples.StackLine.{StackLine}
use Rattle.overlay_setup.specs.declared.script.Grain.{Grain}
use Rattle.overlay_setup.specs.declared.script.Grain.TheVariants.{Line, Function}
use Rattle.stat_plan.proofs.Elements.{all_from}
use Rattle.stat_plan.proofs.FirstOver.{all_in}
use Rattle.stat_plan.proofs.InLists.{any_from_in, in_filter, in_from_any, in_from_filter, in_from_map, in_map}

-- a line's rank was seen in this very path
abbrev pub line_says : ℕ → Path → SampleLine → Bool
line_says r p line = has line.ranks r && is_path p line.path

-- what the samples of some lines say
pub is_pair-samples_of : (lines : List SampleLine) (r : ℕ) (p : Path) → is_pair (samples_of lines) r p ≡ list_any (line_says r p) lines
is_pair-samples_of [] r p = refl
is_pair-samples_of (line ∷ lines) r p =
    is_pair-append (pairs_at (in_order line.ranks) line.path) (samples_of lines) r p
    ∙ ap (λ b. b || is_pair (samples_of lines) r p) (any-pairs_of_set (is_path p) line.ranks line.path r)
    ∙ ap (λ b. line_says r p line || b) (is_pair-samples_of lines r p)

-- a line with its path by a grain
abbrev pub by_grain : Grain → SampleLine → SampleLine
by_grain g line = record { time = line.time; ranks = line.ranks; path = path_by g line.path }

-- lines whose paths have numbers, with the paths by a grain
pub lines_by_grain : (g : Grain) (paths : List Path) (lines : List StackLine) → PathIndicesInRange paths lines → lines_of (map (path_by g) paths) lines ≡ map (by_grain g) (lines_of paths lines)
lines_by_grain g paths [] in_range = refl
lines_by_grain g paths (line ∷ lines) in_range =
    λ i. record { time = line.time; ranks = line.ranks; path = get_or-map (path_by g) paths line.path [] [] in_range.0 i } ∷ lines_by_grain g paths lines in_range.1 i

-- a line at a time of the wave lists a rank in a path that is q by the grain
pub record ListsRank (lines : List SampleLine) (k w : ℕ) (g : Grain) (r : ℕ) (q : Path) : Type 0 where
  pub line : SampleLine
  pub there : In line lines
  pub time : is_in_wave k w line.time ≡ true
  pub rank : Has r line.ranks
  pub path : is_path q (path_by g line.path) ≡ true

from_seen : (k w : ℕ) (lines : List SampleLine) (r : ℕ) (p : Path) → is_seen k w lines r p ≡ true → (line : SampleLine) × (In line lines × (Has r line.ranks × ((is_in_wave k w line.time ≡ true) × (line.path ≡ p))))
from_seen k w lines r p e =
    let found = in_from_any (λ (line : SampleLine). has line.ranks r && (is_in_wave k w line.time && is_path p line.path)) lines e in
    let parts = and_parts (has found.0.ranks r) (is_in_wave k w found.0.time && is_path p found.0.path) found.1.1 in
    let same = and_parts (is_in_wave k w found.0.time) (is_path p found.0.path) parts.1 in
    (found.0, (found.1.0, (parts.0, (same.0, sym (is_path-exact p found.0.path same.1)))))

to_seen : (k w : ℕ) (lines : List SampleLine) (line : SampleLine) (r : ℕ) → In line lines → Has r line.ranks → is_in_wave k w line.time ≡ true → is_seen k w lines r line.path ≡ true
to_seen k w lines line r there rank time =
    any_from_in (λ (other : SampleLine). has other.ranks r && (is_in_wave k w other.time && is_path line.path other.path)) line lines there
    (and_from (has line.ranks r) (is_in_wave k w line.time && is_path line.path line.path) rank
    (and_from (is_in_wave k w line.time) (is_path line.path line.path) time (is_path-itself line.path)))

-- lines that list as much in the wave
moved : (ls bs : List SampleLine) (k w : ℕ) (g : Grain) (r : ℕ) (q : Path) → ((p : Path) → is_seen k w ls r p ≡ is_seen k w bs r p) → ListsRank ls k w g r q → ListsRank bs k w g r q
moved ls bs k w g r q same l =
    let found = from_seen k w bs r l.line.path (sym (same l.line.path) ∙ to_seen k w ls l.line r l.there l.rank l.time) in
    record {
      line = found.0;
      there = found.1.0;
      time = found.1.1.1.0;
      rank = found.1.1.0;
      path = ap (λ p. is_path q (path_by g p)) found.1.1.1.1 ∙ l.path;
    }

module _ (lines : List SampleLine) (k w : ℕ) (g : Grain) (r : ℕ) (q : Path) where
  abbrev own_lines : List SampleLine
  own_lines = wave_lines k w (map (by_grain g) lines)

  own_from : is_pair (samples_of own_lines) r q ≡ true → ListsRank lines k w g r q
  own_from there =
      let found = in_from_any (line_says r q) own_lines (sym (is_pair-samples_of own_lines r q) ∙ there) in
      let kept = in_from_filter (λ (l : SampleLine). is_in_wave k w l.time) found.0 (map (by_grain g) lines) found.1.0 in
      let from = in_from_map (by_grain g) lines found.0 kept.0 in
      let parts = and_parts (has found.0.ranks r) (is_path q found.0.path) found.1.1 in
      record {
        line = from.0;
        there = from.1.0;
        time = ap (λ (l : SampleLine). is_in_wave k w l.time) (sym from.1.1) ∙ kept.1;
        rank = ap (λ (l : SampleLine). has l.ranks r) (sym from.1.1) ∙ parts.0;
        path = ap (λ (l : SampleLine). is_path q l.path) (sym from.1.1) ∙ parts.1;
      }

  own_to : ListsRank lines k w g r q → is_pair (samples_of own_lines) r q ≡ true
  own_to l =
      is_pair-samples_of own_lines r q
      ∙ any_from_in (line_says r q) (by_grain g l.line) own_lines
      (in_filter (λ (l : SampleLine). is_in_wave k w l.time) (by_grain g l.line) (map (by_grain g) lines) (in_map (by_grain g) l.line lines l.there) l.time)
      (and_from (has l.line.ranks r) (is_path q (path_by g l.line.path)) l.rank l.path)

  module _ (own : Ranks) where
    abbrev stream_lines : List SampleLine
    stream_lines = map (seen_by g own) (wave_lines k w lines)

    pub stream_from : is_pair (samples_of stream_lines) r q ≡ true → ListsRank lines k w g r q
    stream_from there =
        let found = in_from_any (line_says r q) stream_lines (sym (is_pair-samples_of stream_lines r q) ∙ there) in
        let from = in_from_map (seen_by g own) (wave_lines k w lines) found.0 found.1.0 in
        let kept = in_from_filter (λ (l : SampleLine). is_in_wave k w l.time) from.0 lines from.1.0 in
        let parts = and_parts (has found.0.ranks r) (is_path q found.0.path) found.1.1 in
        let rank = and_parts (has from.0.ranks r) (has own r) (sym (has-those (has own) from.0.ranks r) ∙ ap (λ (l : SampleLine). has l.ranks r) (sym from.1.1) ∙ parts.0) in
        record {
          line = from.0;
          there = kept.0;
          time = kept.1;
          rank = rank.0;
          path = ap (λ (l : SampleLine). is_path q l.path) (sym from.1.1) ∙ parts.1;
        }

    stream_to : Has r own → ListsRank lines k w g r q → is_pair (samples_of stream_lines) r q ≡ true
    stream_to in_own l =
        is_pair-samples_of stream_lines r q
        ∙ any_from_in (line_says r q) (seen_by g own l.line) stream_lines
        (in_map (seen_by g own) l.line (wave_lines k w lines) (in_filter (λ (l : SampleLine). is_in_wave k w l.time) l.line lines l.there l.time))
        (and_from (has (those (has own) l.line.ranks) r) (is_path q (path_by g l.line.path))
        (has-those (has own) l.line.ranks r ∙ and_from (has l.line.ranks r) (has own r) l.rank in_own)
        l.path)

pub both_ways : (a b : Bool) → (a ≡ true → b ≡ true) → (b ≡ true → a ≡ true) → a ≡ b
both_ways true b there back = sym (there refl)
both_ways false true there back = back refl
both_ways false false there back = refl

pub where_true : (h a b : Bool) → (h ≡ true → a ≡ b) → (h && a) ≡ (h && b)
where_true true a b same = same refl
where_true false a b same = refl

-- lines that list of some ranks of the stream what the plan's lines list put the same pairs as the samples of the wave
pub same_samples : (p : Plan) (s w : ℕ) (own : Ranks) (lines : List SampleLine) → IsSubset own (stream_ranks p s) → ((r : ℕ) (q : Path) → Has r own → is_seen (sample_count p s) w lines r q ≡ is_seen (sample_count p s) w p.lines r q)
    → AreSamePairs (samples_of (wave_lines (sample_count p s) w (map (by_grain (grain p s)) lines))) (samples p s w) own
unfolding samples
same_samples p s w own lines lies same q r =
    let k = sample_count p s in
    let g = grain p s in
    ap (λ b. is_below q && b) (where_true (has own r) _ _ (λ in_own. both_ways _ _
    (λ there. stream_to p.lines k w g r q (stream_ranks p s) (lies r in_own) (moved lines p.lines k w g r q (λ p. same r p in_own) (own_from lines k w g r q there)))
    (λ there. own_to lines k w g r q (moved p.lines lines k w g r q (λ p. sym (same r p in_own)) (stream_from p.lines k w g r q (stream_ranks p s) there)))))

length_by : (g : Grain) (p : Path) → length (path_by g p) ≡ length p
length_by Line p = refl
length_by Function p = length-map p func

-- no sample of a wave has an empty path
pub samples_have_paths : (p : Plan) → IsPlan p → (s w : ℕ) → HasNoEmptyPath (samples p s w)
unfolding samples
samples_have_paths p plan s w r q there =
    let listed = stream_from p.lines (sample_count p s) w (grain p s) r q (stream_ranks p s) there in
    let good = all_in (IsSampleLine p.placed) p.lines listed.line plan.samples.lines listed.there in
    subst (λ (p : Path). 0 < length p) (sym (is_path-exact q (path_by (grain p s) listed.line.path) listed.path))
    (subst (λ n. 0 < n) (sym (length_by (grain p s) listed.line.path)) good.path.some)

-- lines of a wave list the ranks alone that they have the samples of
pub wave_lines_lie : (k w : ℕ) (own : Ranks) (all : List SampleLine) (paths : List Path) (lines : List StackLine) → AreWaveLines k w own all (lines_of paths lines) → AllByRecursion (λ line. IsSubset line.ranks own) lines
wave_lines_lie k w own all paths lines are = all_from (λ (line : StackLine). IsSubset line.ranks own) lines (λ line there.
    all_in (λ (line : SampleLine). IsSubset line.ranks own) (lines_of paths lines) (line_of paths line) are.within (in_map (line_of paths) line lines there))

-- their tree is that of the wave's samples over these ranks
pub wave_tree_is : (p : Plan) (s w k : ℕ) (g : Grain) (paths by : List Path) (lines : List StackLine) (own : Ranks) → IsSubset own (stream_ranks p s) → k ≡ sample_count p s → g ≡ grain p s
    → AreWaveLines k w own p.lines (lines_of paths lines) → PathIndicesInRange paths lines → by ≡ map (path_by g) paths
    → tree_of (samples_of (wave_lines k w (lines_of by lines))) own ≡ tree_of (samples p s w) own
wave_tree_is p s w k g paths by lines own lies count sees are in_range by_is =
    (λ i. tree_of (samples_of (wave_lines (count i) w (lines_of ((by_is ∙ ap (λ g. map (path_by g) paths) sees) i) lines))) own)
    ∙ ap (λ ls. tree_of (samples_of (wave_lines (sample_count p s) w ls)) own) (lines_by_grain (grain p s) paths lines in_range)
    ∙ tree_of-same_pairs _ _ own (same_samples p s w own (lines_of paths lines) lies
    (λ r q in_own. let here = subst (λ k. AreWaveLines k w own p.lines (lines_of paths lines)) count are in here.each r q ∙ ap (λ b. b && is_seen (sample_count p s) w p.lines r q) in_own))
