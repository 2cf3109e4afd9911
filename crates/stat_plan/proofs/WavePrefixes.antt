-- The prefixes of a wave's samples are those of the paths that its lines list a rank in.
use Rattle.std.proofs.Common.{◌≡◌, ℕ, suc, zero, ◌<◌, ◌≤◌, Bool, true, false, not, cond, ◌&&◌, ◌||◌, nat_eq, nat_le, List, [], ◌∷◌, ◌++◌, filter, get_or, length, map, replicate, None, refl, sym, ap, subst, ◌∙◌, arith, inl, inr, eqb-true}
use Rattle.std.specs.Prelude.{find}
use Rattle.std.specs.List.{list_any, flat_map}
use Rattle.std.specs.Set.{distinct_count}
use Rattle.std.proofs.lemmas.Bool.{true≢false, and_parts, and_from, le-leb, leb-true}
use Rattle.std.proofs.lemmas.Cmp.{eq_by_cmp_equiv}
use Rattle.std.proofs.lemmas.List.{get_or-map, get_or-replicate, length-map}
use Rattle.std.proofs.lemmas.Option.{get_or_from_slice_get}
use Rattle.std.proofs.lemmas.List.Folds.{list_any-append}
use Rattle.std.proofs.lemmas.Map.Made.{length-from_keys, length-le_from_is_member}
use Rattle.rank_set.specs.Ranks.{Ranks, has, in_order, those}
use Rattle.rank_set.proofs.Ordered.{in_order-those}
use Rattle.call_path.specs.Functions.{func}
use Rattle.call_path.specs.Pairs.{Pairs, is_below, pairs_at, prefixes, prefixes_of}
use Rattle.call_path.specs.Path.{Path, is_path, is_prefix, path_cmp_total}
use Rattle.call_path.proofs.PathLemmas.{any-prefixes, is_path-itself}
use Rattle.stat_plan.specs.Limits.{first_over, is_over, is_within_limit, wave_is_within}
use Rattle.overlay_setup.specs.NodeSets.{In}
use Rattle.stat_plan.specs.PathOrder.{AreSeen, IsOrderOf, numbered, seen_paths, share_rank}
use Rattle.stat_plan.specs.Plans.{Plan, grain, sample_count, samples, stream_ranks, waves_of}
use Rattle.stat_plan.specs.Samples.{SampleLine, path_by, prefix_count, samples_of, seen_by, wave_lines}
use Rattle.overlay_setup.specs.Scripts.{is_in_wave}
use Rattle.stat_plan.specs.StackLines.{PathIndicesInRange, line_of, lines_of}
use Rattle.stat_plan.specs.declared.samples.StackLine.{StackLine}
use Rattle.overlay_setup.specs.declared.script.Grain.{Grain}
use Rattle.overlay_setup.specs.declared.script.Grain.TheVariants.{Line, Function}
use Rattle.stat_plan.proofs.Counting.{any-all_prefixes, dedup, frame_itself, same_frame}
use Rattle.stat_plan.proofs.FirstOver.{all_in}
use Rattle.stat_plan.proofs.InLists.{any_from_in, append_left, append_right, in_append, in_at, in_filter, in_from_any, in_from_filter, in_from_map, in_map, place_of}

-- lists of the same paths have as many distinct ones
pub count_same : (xs ys : List Path) → ((x : Path) → list_any (is_path x) xs ≡ list_any (is_path x) ys) → distinct_count is_path xs ≡ distinct_count is_path ys
count_same xs ys same =
    let d = dedup xs in
    sym d.number ∙ length-from_keys (eq_by_cmp_equiv path_cmp_total) d.keys ys d.distinct (λ x. d.members x ∙ same x)

pub in_flat_map : {X Y : Type 0} (f : X → List Y) (y : Y) (x : X) (xs : List X) → In x xs → In y (f x) → In y (flat_map f xs)
in_flat_map f y x [] there one = absurd there
in_flat_map f y x (z ∷ xs) (inl e) one = append_left y (f z) (flat_map f xs) (subst (λ v. In y (f v)) e one)
in_flat_map f y x (z ∷ xs) (inr there) one = append_right y (f z) (flat_map f xs) (in_flat_map f y x xs there one)

pub in_from_flat_map : {X Y : Type 0} (f : X → List Y) (y : Y) (xs : List X) → In y (flat_map f xs) → (x : X) × (In x xs × In y (f x))
in_from_flat_map f y [] there = absurd there
in_from_flat_map f y (x ∷ xs) there = elim (in_append y (f x) (flat_map f xs) there) [
  | (inl here) ↦ (x, (inl refl, here))
  | (inr later) ↦ let rest = in_from_flat_map f y xs later in (rest.0, (inr rest.1.0, rest.1.1))
]

in_pairs_at : (r : ℕ) (rs : List ℕ) (p : Path) → In r rs → In (r, p) (pairs_at rs p)
in_pairs_at r [] p there = absurd there
in_pairs_at r (s ∷ rs) p (inl e) = inl (λ i. (e i, p))
in_pairs_at r (s ∷ rs) p (inr there) = inr (in_pairs_at r rs p there)

in_from_pairs_at : (e : ℕ × Path) (rs : List ℕ) (p : Path) → In e (pairs_at rs p) → In e.0 rs × (e.1 ≡ p)
in_from_pairs_at e [] p there = absurd there
in_from_pairs_at e (s ∷ rs) p (inl is) = (inl (ap (λ (d : ℕ × Path). d.0) is), ap (λ (d : ℕ × Path). d.1) is)
in_from_pairs_at e (s ∷ rs) p (inr there) = let rest = in_from_pairs_at e rs p there in (inr rest.0, rest.1)

-- a path is among the prefixes of some pairs
pub any-prefixes_of : (P : Pairs) (x : Path) → list_any (is_path x) (prefixes_of P) ≡ (is_below x && list_any (is_prefix x) (map (λ e. e.1) P))
any-prefixes_of [] x = sym (Rattle.call_path.proofs.PathLemmas.and_false (is_below x))
any-prefixes_of (e ∷ P) x =
    list_any-append (is_path x) (prefixes e.1) (prefixes_of P)
    ∙ (λ i. any-prefixes e.1 x i || any-prefixes_of P x i)
    ∙ factor (is_below x) (is_prefix x e.1) (list_any (is_prefix x) (map (λ d. d.1) P))
  where
    factor : (a b c : Bool) → ((a && b) || (a && c)) ≡ (a && (b || c))
    factor true b c = refl
    factor false b c = refl

both_ways : (a b : Bool) → (a ≡ true → b ≡ true) → (b ≡ true → a ≡ true) → a ≡ b
both_ways true b there back = sym (there refl)
both_ways false true there back = back refl
both_ways false false there back = refl

-- a line at a time of the wave lists a rank of `own` in path i
pub record Lists (lines : List StackLine) (k w : ℕ) (own : Ranks) (i : ℕ) : Type 0 where
  pub line : StackLine
  pub there : In line lines
  pub path : line.path ≡ i
  pub time : is_in_wave k w line.time ≡ true
  pub rank : ℕ
  pub listed : In rank (in_order line.ranks)
  pub own_rank : has own rank ≡ true

lists_from : (lines : List StackLine) (k w : ℕ) (own : Ranks) (i : ℕ) → list_any (λ line. nat_eq line.path i && (is_in_wave k w line.time && share_rank line.ranks own)) lines ≡ true → Lists lines k w own i
lists_from lines k w own i e =
    let found = in_from_any (λ (line : StackLine). nat_eq line.path i && (is_in_wave k w line.time && share_rank line.ranks own)) lines e in
    let parts = and_parts (nat_eq found.0.path i) (is_in_wave k w found.0.time && share_rank found.0.ranks own) found.1.1 in
    let more = and_parts (is_in_wave k w found.0.time) (share_rank found.0.ranks own) parts.1 in
    let rank = in_from_any (has own) (in_order found.0.ranks) more.1 in
    record { line = found.0; there = found.1.0; path = eqb-true found.0.path i parts.0; time = more.0; rank = rank.0; listed = rank.1.0; own_rank = rank.1.1 }

from_lists : (lines : List StackLine) (k w : ℕ) (own : Ranks) (i : ℕ) → Lists lines k w own i → list_any (λ line. nat_eq line.path i && (is_in_wave k w line.time && share_rank line.ranks own)) lines ≡ true
from_lists lines k w own i l =
    any_from_in (λ (line : StackLine). nat_eq line.path i && (is_in_wave k w line.time && share_rank line.ranks own)) l.line lines l.there
    (and_from (nat_eq l.line.path i) (is_in_wave k w l.line.time && share_rank l.line.ranks own) (Rattle.std.proofs.Common.eq-eqb l.line.path i l.path)
    (and_from (is_in_wave k w l.line.time) (share_rank l.line.ranks own) l.time (any_from_in (has own) l.rank (in_order l.line.ranks) l.listed l.own_rank)))

module _ (paths : List Path) (lines : List StackLine) (k w : ℕ) (g : Grain) (own : Ranks) where
  abbrev sampled : Pairs
  sampled = samples_of (map (seen_by g own) (wave_lines k w (lines_of paths lines)))

  abbrev path_of_line : ℕ → Path
  path_of_line i = path_by g (get_or paths i [])

  -- what a line lists is a sample
  pub sample_from : (i : ℕ) → Lists lines k w own i → In (path_of_line i) (map (λ e. e.1) sampled)
  sample_from i l =
      let line : SampleLine = line_of paths l.line in
      let seen : SampleLine = seen_by g own line in
      let of_wave : In line (wave_lines k w (lines_of paths lines)) = in_filter (λ (s : SampleLine). is_in_wave k w s.time) line (lines_of paths lines) (in_map (line_of paths) l.line lines l.there) l.time in
      let rank : In l.rank (in_order seen.ranks) = subst (In l.rank) (sym (in_order-those (has own) l.line.ranks)) (in_filter (has own) l.rank (in_order l.line.ranks) l.listed l.own_rank) in
      let pair : In (l.rank, seen.path) sampled =
      in_flat_map (λ (s : SampleLine). pairs_at (in_order s.ranks) s.path) (l.rank, seen.path) seen (map (seen_by g own) (wave_lines k w (lines_of paths lines))) (in_map (seen_by g own) line (wave_lines k w (lines_of paths lines)) of_wave)
      (in_pairs_at l.rank (in_order seen.ranks) seen.path rank) in
      subst (λ q. In q (map (λ (e : ℕ × Path). e.1) sampled)) (ap path_of_line l.path) (in_map (λ (e : ℕ × Path). e.1) (l.rank, seen.path) sampled pair)

  -- and each sample is listed by a line
  pub from_sample : (q : Path) → In q (map (λ e. e.1) sampled) → (i : ℕ) × (Lists lines k w own i × (q ≡ path_of_line i))
  from_sample q there =
      let pair = in_from_map (λ (e : ℕ × Path). e.1) sampled q there in
      let seen = in_from_flat_map (λ (s : SampleLine). pairs_at (in_order s.ranks) s.path) pair.0 (map (seen_by g own) (wave_lines k w (lines_of paths lines))) pair.1.0 in
      let line = in_from_map (seen_by g own) (wave_lines k w (lines_of paths lines)) seen.0 seen.1.0 in
      let wave = in_from_filter (λ (s : SampleLine). is_in_wave k w s.time) line.0 (lines_of paths lines) line.1.0 in
      let stack = in_from_map (line_of paths) lines line.0 wave.0 in
      let at = in_from_pairs_at pair.0 (in_order seen.0.ranks) seen.0.path seen.1.1 in
      let ranks : seen.0.ranks ≡ those (has own) stack.0.ranks = ap (λ (s : SampleLine). s.ranks) line.1.1 ∙ ap (λ (s : SampleLine). those (has own) s.ranks) stack.1.1 in
      let rank = in_from_filter (has own) pair.0.0 (in_order stack.0.ranks) (subst (In pair.0.0) (ap in_order ranks ∙ in_order-those (has own) stack.0.ranks) at.0) in (
        stack.0.path,
        (
          record {
            line = stack.0;
            there = stack.1.0;
            path = refl;
            time = ap (λ (s : SampleLine). is_in_wave k w s.time) (sym stack.1.1) ∙ wave.1;
            rank = pair.0.0;
            listed = rank.0;
            own_rank = rank.1;
          },
          pair.1.1 ∙ at.1 ∙ ap (λ (s : SampleLine). s.path) line.1.1 ∙ ap (λ (s : SampleLine). path_by g s.path) stack.1.1,
        ),
      )

  module _ (in_range : PathIndicesInRange paths lines) where
    in_paths : (i : ℕ) → Lists lines k w own i → i < length paths
    in_paths i l = subst (λ n. n < length paths) l.path (all_in (λ (s : StackLine). s.path < length paths) lines l.line in_range l.there)

    -- the paths that are seen have the prefixes of the samples
    pub wave_count : (order : List ℕ) (seen : List Bool) → IsOrderOf (map (path_by g) paths) order → length seen ≡ length paths → AreSeen lines k w own seen
        → distinct_count is_path (flat_map prefixes (seen_paths (numbered (map (path_by g) paths) order) seen)) ≡ prefix_count sampled
    wave_count order seen is long are =
        count_same (flat_map prefixes (seen_paths (numbered (map (path_by g) paths) order) seen)) (prefixes_of sampled)
        (λ x. any-all_prefixes (seen_paths (numbered (map (path_by g) paths) order) seen) x ∙ ap (λ b. is_below x && b) (both_ways _ _ (there x) (back x)) ∙ sym (any-prefixes_of sampled x))
      where
        there : (x : Path) → list_any (is_prefix x) (seen_paths (numbered (map (path_by g) paths) order) seen) ≡ true → list_any (is_prefix x) (map (λ e. e.1) sampled) ≡ true
        there x e =
            let q = in_from_any (is_prefix x) (seen_paths (numbered (map (path_by g) paths) order) seen) e in
            let entry = in_from_map (λ (d : Path × ℕ). d.0) (filter (λ (d : Path × ℕ). get_or seen d.1 false) (numbered (map (path_by g) paths) order)) q.0 q.1.0 in
            let kept = in_from_filter (λ (d : Path × ℕ). get_or seen d.1 false) entry.0 (numbered (map (path_by g) paths) order) entry.1.0 in
            let number = is.numbered entry.0 kept.0 in
            let below : entry.0.1 < length paths = subst (λ n. entry.0.1 < n) (length-map paths (path_by g)) number.0 in
            let lists = lists_from lines k w own entry.0.1 (sym (are.each entry.0.1 (subst (λ n. entry.0.1 < n) (sym long) below)) ∙ kept.1) in
            let path : q.0 ≡ path_of_line entry.0.1 = entry.1.1 ∙ number.1 ∙ get_or-map (path_by g) paths entry.0.1 [] [] below in
            any_from_in (is_prefix x) (path_of_line entry.0.1) (map (λ (d : ℕ × Path). d.1) sampled) (sample_from entry.0.1 lists) (subst (λ p. is_prefix x p ≡ true) path q.1.1)

        back : (x : Path) → list_any (is_prefix x) (map (λ e. e.1) sampled) ≡ true → list_any (is_prefix x) (seen_paths (numbered (map (path_by g) paths) order) seen) ≡ true
        back x e =
            let q = in_from_any (is_prefix x) (map (λ (d : ℕ × Path). d.1) sampled) e in
            let from = from_sample q.0 q.1.0 in
            let i = from.0 in
            let below = in_paths i from.1.0 in
            let known : get_or seen i false ≡ true = are.each i (subst (λ n. i < n) (sym long) below) ∙ from_lists lines k w own i from.1.0 in
            let entry : Path × ℕ = (get_or (map (path_by g) paths) i [], i) in
            let listed : In entry (numbered (map (path_by g) paths) order) = is.complete i (subst (λ n. i < n) (sym (length-map paths (path_by g))) below) in
            let kept = in_filter (λ (d : Path × ℕ). get_or seen d.1 false) entry (numbered (map (path_by g) paths) order) listed known in
            let path : q.0 ≡ entry.0 = from.1.1 ∙ sym (get_or-map (path_by g) paths i [] [] below) in
            any_from_in (is_prefix x) entry.0 (seen_paths (numbered (map (path_by g) paths) order) seen) (in_map (λ (d : Path × ℕ). d.0) entry (filter (λ (d : Path × ℕ). get_or seen d.1 false) (numbered (map (path_by g) paths) order)) kept)
            (subst (λ p. is_prefix x p ≡ true) path q.1.1)

    -- a prefix of a path as it is seen is a prefix of the path, seen so
    seen_prefix : (g : Grain) (x p : Path) → is_prefix x (path_by g p) ≡ true → (y : Path) × ((is_prefix y p ≡ true) × (x ≡ path_by g y))
    seen_prefix Line x p e = (x, (e, refl))
    seen_prefix Function x p e = unmapped x p e
      where
        unmapped : (x p : Path) → is_prefix x (map func p) ≡ true → (y : Path) × ((is_prefix y p ≡ true) × (x ≡ map func y))
        unmapped [] p e = ([], (refl, refl))
        unmapped (h ∷ x) [] e = absurd (true≢false (sym e))
        unmapped (h ∷ x) (f ∷ p) e =
            let parts = and_parts _ (is_prefix x (map func p)) e in
            let rest = unmapped x p parts.1 in
            (f ∷ rest.0, (and_from _ (is_prefix rest.0 p) (frame_itself f) rest.1.0, λ i. same_frame h (func f) parts.0 i ∷ rest.1.1 i))

    below_seen : (g : Grain) (x y : Path) → is_below x ≡ true → x ≡ path_by g y → is_below y ≡ true
    below_seen g x (f ∷ y) below is = refl
    below_seen Line x [] below is = absurd (true≢false (sym below ∙ ap is_below is))
    below_seen Function x [] below is = absurd (true≢false (sym below ∙ ap is_below is))

    -- where all paths together are within the limit, the samples are
    pub wave_within_all : nat_le (distinct_count is_path (flat_map prefixes paths)) 2048 ≡ true → is_within_limit sampled ≡ true
    wave_within_all within =
        let all = dedup (flat_map prefixes paths) in
        let some = dedup (prefixes_of sampled) in
        let fewer : length some.keys ≤ length (map (path_by g) all.keys) = length-le_from_is_member (eq_by_cmp_equiv path_cmp_total) some.keys (map (path_by g) all.keys) some.distinct (λ x there. one x (sym (some.members x) ∙ there) (λ y. all.members y)) in
        let long = length-map all.keys (path_by g) in
        let few = leb-true _ 2048 within in
        let total = all.number in
        let number = some.number in
        le-leb (prefix_count sampled) 2048 (omega (arith, fewer, long, few, total, number))
      where
        one : (x : Path) → list_any (is_path x) (prefixes_of sampled) ≡ true → ((y : Path) → list_any (is_path y) (dedup (flat_map prefixes paths)).keys ≡ list_any (is_path y) (flat_map prefixes paths)) → list_any (is_path x) (map (path_by g) (dedup (flat_map prefixes paths)).keys) ≡ true
        one x there members =
            let parts = and_parts (is_below x) (list_any (is_prefix x) (map (λ (d : ℕ × Path). d.1) sampled)) (sym (any-prefixes_of sampled x) ∙ there) in
            let q = in_from_any (is_prefix x) (map (λ (d : ℕ × Path). d.1) sampled) parts.1 in
            let from = from_sample q.0 q.1.0 in
            let p : Path = get_or paths from.0 [] in
            let listed : In p paths = in_at paths from.0 [] (in_paths from.0 from.1.0) in
            let y = seen_prefix g x p (subst (λ s. is_prefix x s ≡ true) from.1.1 q.1.1) in
            let among : list_any (is_path y.0) (flat_map prefixes paths) ≡ true =
            any-all_prefixes paths y.0 ∙ and_from (is_below y.0) (list_any (is_prefix y.0) paths) (below_seen g x y.0 parts.0 y.1.1) (any_from_in (is_prefix y.0) p paths listed y.1.0) in
            let key = in_from_any (is_path y.0) (dedup (flat_map prefixes paths)).keys (members y.0 ∙ among) in
            let same : y.0 ≡ key.0 = Rattle.call_path.proofs.PathLemmas.is_path-exact y.0 key.0 key.1.1 in
            any_from_in (is_path x) (path_by g key.0) (map (path_by g) (dedup (flat_map prefixes paths)).keys) (in_map (path_by g) key.0 (dedup (flat_map prefixes paths)).keys key.1.0)
            (subst (λ z. is_path x z ≡ true) (y.1.1 ∙ ap (path_by g) same) (is_path-itself x))

find_none : {X : Type 0} (test : X → Bool) (xs : List X) → ((x : X) → test x ≡ false) → find test xs ≡ None
find_none test [] none = refl
find_none {X} test (x ∷ xs) none = ap (λ b. cond b (Rattle.std.proofs.Common.Some x) (find test xs)) (none x) ∙ find_none test xs none

-- then no wave of a plan is over it
pub none_over : (p : Plan) (paths : List Path) (lines : List StackLine) → PathIndicesInRange paths lines → lines_of paths lines ≡ p.lines → nat_le (distinct_count is_path (flat_map prefixes paths)) 2048 ≡ true → first_over p ≡ None
unfolding wave_is_within samples
none_over p paths lines in_range are within =
    find_none (is_over p) (waves_of p.streams) (λ v.
    ap not (ap (λ ls. is_within_limit (samples_of (map (seen_by (grain p v.0) (stream_ranks p v.0)) (wave_lines (sample_count p v.0) v.1 ls)))) (sym are)
    ∙ wave_within_all paths lines (sample_count p v.0) v.1 (grain p v.0) (stream_ranks p v.0) in_range within))

-- where all paths are seen, the prefixes are those of all
pub all_seen : (paths : List Path) (order : List ℕ) (seen : List Bool) → IsOrderOf paths order → seen ≡ replicate (length paths) true
    → distinct_count is_path (flat_map prefixes (seen_paths (numbered paths order) seen)) ≡ distinct_count is_path (flat_map prefixes paths)
all_seen paths order seen is all =
    count_same (flat_map prefixes (seen_paths (numbered paths order) seen)) (flat_map prefixes paths)
    (λ x. any-all_prefixes (seen_paths (numbered paths order) seen) x ∙ ap (λ b. is_below x && b) (both_ways _ _ (there x) (back x)) ∙ sym (any-all_prefixes paths x))
  where
    there : (x : Path) → list_any (is_prefix x) (seen_paths (numbered paths order) seen) ≡ true → list_any (is_prefix x) paths ≡ true
    there x e =
        let q = in_from_any (is_prefix x) (seen_paths (numbered paths order) seen) e in
        let entry = in_from_map (λ (d : Path × ℕ). d.0) (filter (λ (d : Path × ℕ). get_or seen d.1 false) (numbered paths order)) q.0 q.1.0 in
        let kept = in_from_filter (λ (d : Path × ℕ). get_or seen d.1 false) entry.0 (numbered paths order) entry.1.0 in
        let number = is.numbered entry.0 kept.0 in
        any_from_in (is_prefix x) (get_or paths entry.0.1 []) paths (in_at paths entry.0.1 [] number.0) (subst (λ p. is_prefix x p ≡ true) (entry.1.1 ∙ number.1) q.1.1)

    back : (x : Path) → list_any (is_prefix x) paths ≡ true → list_any (is_prefix x) (seen_paths (numbered paths order) seen) ≡ true
    back x e =
        let q = in_from_any (is_prefix x) paths e in
        let place = place_of q.0 paths q.1.0 in
        let i = place.0 in
        let path : q.0 ≡ get_or paths i [] = sym (get_or_from_slice_get paths i q.0 [] place.1.1) in
        let known : get_or seen i false ≡ true = ap (λ bs. get_or bs i false) all ∙ get_or-replicate (length paths) i true false place.1.0 in
        let kept = in_filter (λ (d : Path × ℕ). get_or seen d.1 false) (get_or paths i [], i) (numbered paths order) (is.complete i place.1.0) known in
        any_from_in (is_prefix x) (get_or paths i []) (seen_paths (numbered paths order) seen) (in_map (λ (d : Path × ℕ). d.0) (get_or paths i [], i) (filter (λ (d : Path × ℕ). get_or seen d.1 false) (numbered paths order)) kept)
        (subst (λ p. is_prefix x p ≡ true) path q.1.1)

-- paths as a stream by lines sees them
pub by_line : (paths : List Path) → map (path_by Line) paths ≡ paths
by_line [] = refl
by_line (p ∷ ps) = ap (λ qs. p ∷ qs) (by_line ps)
