-- The samples of the plan of parts are the parts.
use Rattle.std.proofs.Common.{◌≡◌, ◌⊎◌, inl, inr, ℕ, zero, suc, ◌<◌, ◌≤◌, ◌*◌, ◌+◌, ◌^◌, true, ◌&&◌, ◌==◌, List, [], ◌∷◌, map, ap, refl, sym, ◌∙◌, Option, Some, None, subst, arith, le-leb, lt-ltb}
use Rattle.std.proofs.Math.IntN.{ℤ, pos, negsuc}
use lib.Signed.{mag}
use Rattle.std.specs.Prelude.{nat_le, nat_lt, nat_eq, find}
use Rattle.std.specs.List.{list_any}
use Rattle.std.specs.Fmt.{signed_decimal}
use Rattle.std.proofs.lemmas.Fmt.{decimal_is_IsNumeral}
use Rattle.std.specs.Fmt.{decimal}
use Rattle.std.specs.Str.Parse.{AllDigits}
use Rattle.std.proofs.lemmas.Str.Parse.{digit_at}
use Rattle.std.proofs.lemmas.Bool.{true≢false, and_parts, and_from, or_cases}
use Rattle.rank_set.specs.Ranks.{Ranks, none, has, Has, in_order, set_of, those, union, has-those, has-none, has-union, has-set_of}
use Rattle.call_path.specs.Path.{Path, is_path}
use Rattle.call_path.specs.Pairs.{pairs_at, is_pair}
use Rattle.call_path.proofs.PathLemmas.{is_path-exact, is_path-itself}
use Rattle.call_path.proofs.Functions.{HasNoMark, unmarked_path}
use Rattle.prefix_tree.proofs.PairLemmas.{any-flat_map, any-pairs_of_set}
use Rattle.overlay_setup.specs.NodeSets.{In}
use Rattle.overlay_setup.specs.declared.script.Grain.{Grain}
use Rattle.overlay_setup.specs.declared.script.Grain.TheVariants.{Line, Function}
use Rattle.overlay_setup.specs.Scripts.{Stream, IsStream, is_in_wave}
use Rattle.stat_plan.specs.Plans.{Plan, daemons, ranks, grain, sample_count, samples, stream_of, stream_ranks, waves_of, seen_lines}
use Rattle.stat_plan.specs.Samples.{SampleLine, samples_of, seen_by, wave_lines, path_by, ranks_with}
use Rattle.stat_plan.specs.Invariants.{IsPlan}
use Rattle.stat_plan.proofs.FirstOver.{all_in, found_in}
use Rattle.stat_plan.proofs.WavePrefixes.{in_flat_map, in_from_flat_map}
use Rattle.stat_plan.proofs.LookupLemmas.{daemon_lies}
use Rattle.stat_plan.proofs.InLists.{any_in, in_any, in_filter, in_from_filter, any_from_in, in_from_any, in_map, in_from_map}
use Rattle.rank_sums.specs.declared.fold.Fold.{Fold}
use Rattle.value_text.specs.Numbers.{Numbers}
use Rattle.rank_sums.specs.Parts.{PartsFit, part_at}
use Rattle.rank_sums.specs.PartTrees.{leader, number_path, IsPartOf, SaysPart, CarriesParts}
use Rattle.rank_sums.specs.PartPlans.{number_line, line_if, part_line, wave_parts, part_lines, part_plan}
use Rattle.rank_sums.proofs.Wholes.{sole}
use Rattle.rank_sums.proofs.Carried.{leads_has}

-- ---- ranks of a stream

daemon_with : (p : Plan) (ds : List ℕ) (start : Ranks) (r : ℕ) → Has r (ranks_with start (map (ranks p) ds)) → Has r start ⊎ ((d : ℕ) × (In d ds × Has r (ranks p d)))
daemon_with p [] start r h = inl h
daemon_with p (d ∷ ds) start r h = elim (daemon_with p ds (union start (ranks p d)) r h) [
  | inl u ↦ elim (or_cases (has start r) (has (ranks p d) r) (sym (has-union start (ranks p d) r) ∙ u)) [
    | inl a ↦ inl a
    | inr b ↦ inr (d, (inl refl, b))
  ]
  | inr x ↦ inr (x.0, (inr x.1.0, x.1.1))
]

-- a rank of a stream is one of a daemon of the stream
pub stream_daemon : (p : Plan) (s r : ℕ) → Has r (stream_ranks p s) → (d : ℕ) × (In d (daemons p s) × Has r (ranks p d))
unfolding stream_ranks
stream_daemon p s r h = elim (daemon_with p (daemons p s) none r h) [
  | inl u ↦ absurd (true≢false (sym u ∙ has-none r))
  | inr x ↦ x
]

-- ---- one line

pub one_member : (r q : ℕ) → Has q (set_of (r ∷ [])) → q ≡ r
one_member r q h = elim (any_in q (r ∷ []) (sym (has-set_of (r ∷ []) q) ∙ h)) [ inl e ↦ e | inr i ↦ absurd i ]

pub member_of_one : (r : ℕ) → Has r (set_of (r ∷ []))
member_of_one r = has-set_of (r ∷ []) r ∙ in_any r (r ∷ []) (inl refl)

-- the text of a number has no mark of a line
unmarked_digits : (ds : List ℕ) → AllDigits 10 ds → HasNoMark ds
unmarked_digits ds d k lt e = let r = digit_at ds k d lt in absurd (omega (arith, r, e))

unmarked_number : (z : ℤ) → mag z < 2 ^ 63 → HasNoMark (signed_decimal z)
unmarked_number (pos n) small k lt e = unmarked_digits (decimal n) (decimal_is_IsNumeral n (omega arith)).0.1 k lt e
unmarked_number (negsuc n) small zero lt e = absurd (omega (arith, e))
unmarked_number (negsuc n) small (suc k) lt e = unmarked_digits (decimal (suc n)) (decimal_is_IsNumeral (suc n) (omega arith)).0.1 k (omega (arith, lt)) e

-- every stream sees it alike
seen_alike : (g : Grain) (z : ℤ) → mag z < 2 ^ 63 → path_by g (number_path z) ≡ number_path z
seen_alike Line z small = refl
seen_alike Function z small = unmarked_path (number_path z) (unmarked_number z small)

-- what a line of a part says
line_is : (time : ℕ) (o : Option ℕ) (z : Option ℤ) (line : SampleLine) → In line (line_if time o z) → (r : ℕ) × (n : ℤ) × (o ≡ Some r) × (z ≡ Some n) × (line ≡ number_line time r n)
line_is time None z line i = absurd i
line_is time (Some r) None line i = absurd i
line_is time (Some r) (Some n) line (inl e) = (r, n, refl, refl, e)
line_is time (Some r) (Some n) line (inr i) = absurd i

-- ---- the samples of a wave

-- a pair of some samples is of one of their lines
pair_line : (lines : List SampleLine) (r : ℕ) (q : Path) → is_pair (samples_of lines) r q ≡ true → (line : SampleLine) × (In line lines × (Has r line.ranks × (q ≡ line.path)))
pair_line lines r q h =
    let found = in_from_any (λ line. list_any (λ e. nat_eq e.0 r && is_path q e.1) (pairs_at (in_order line.ranks) line.path)) lines (sym (any-flat_map (λ e. nat_eq e.0 r && is_path q e.1) (λ line. pairs_at (in_order line.ranks) line.path) lines) ∙ h) in
    let both = and_parts (has found.0.ranks r) (is_path q found.0.path) (sym (any-pairs_of_set (is_path q) found.0.ranks found.0.path r) ∙ found.1.1) in
    (found.0, (found.1.0, (both.0, is_path-exact q found.0.path both.1)))

-- and each rank of a line has a pair
line_pair : (lines : List SampleLine) (line : SampleLine) (r : ℕ) → In line lines → Has r line.ranks → is_pair (samples_of lines) r line.path ≡ true
line_pair lines line r i h =
    any-flat_map (λ e. nat_eq e.0 r && is_path line.path e.1) (λ x. pairs_at (in_order x.ranks) x.path) lines
    ∙ any_from_in (λ x. list_any (λ e. nat_eq e.0 r && is_path line.path e.1) (pairs_at (in_order x.ranks) x.path)) line lines i
    (any-pairs_of_set (is_path line.path) line.ranks line.path r ∙ and_from (has line.ranks r) (is_path line.path line.path) h (is_path-itself line.path))

-- a stream with a daemon has sample times
some_samples : (p : Plan) (s d : ℕ) → IsPlan p → In d (daemons p s) → 1 ≤ sample_count p s
unfolding daemons sample_count stream_of
some_samples p s d plan = go (find (λ x. x.number == s) p.streams) refl
  where
    go : (o : Option Stream) → find (λ x. x.number == s) p.streams ≡ o → In d (elim o [ None ↦ [] | Some x ↦ x.daemons ]) → 1 ≤ elim o [ None ↦ 0 | Some x ↦ x.samples ]
    go None e i = absurd i
    go (Some x) e i = (all_in IsStream p.streams x plan.script.streams (found_in (λ x. x.number == s) p.streams x e)).has_samples

first_time : (k w : ℕ) → 1 ≤ k → is_in_wave k w (w * k) ≡ true
first_time k w some = and_from (nat_le (w * k) (w * k)) (nat_lt (w * k) (w * k + k)) (le-leb (w * k) (w * k) (omega arith)) (lt-ltb (w * k) (w * k + k) (omega arith))

-- a line of the plan of parts
pub record IsPartLine (p : Plan) (v : Numbers) (f : Fold) (line : SampleLine) : Type 0 where
  pub stream : ℕ
  pub daemon : ℕ
  pub time : ℕ
  pub rank : ℕ
  pub number : ℤ
  pub named : IsPartOf p v f stream daemon rank number
  pub is : line ≡ number_line time rank number

of_line : (p : Plan) (v : Numbers) (f : Fold) (s d time : ℕ) (line : SampleLine) → In d (daemons p s) → In line (part_line p v f time d) → IsPartLine p v f line
of_line p v f s d time line listed i =
    let is = line_is time (leader p d) (part_at p v f d) line i in
    record { stream = s; daemon = d; time = time; rank = is.0; number = is.1; named = record { listed = listed; part = is.3; leads = is.2 }; is = is.4 }

of_wave : (p : Plan) (v : Numbers) (f : Fold) (u : ℕ × ℕ) (line : SampleLine) → In line (wave_parts p v f u) → IsPartLine p v f line
of_wave p v f u line i =
    let d = in_from_flat_map (part_line p v f (u.1 * sample_count p u.0)) line (daemons p u.0) i in
    of_line p v f u.0 d.0 (u.1 * sample_count p u.0) line d.1.0 d.1.1

pub part_line_of : (p : Plan) (v : Numbers) (f : Fold) (line : SampleLine) → In line (part_lines p v f) → IsPartLine p v f line
part_line_of p v f line i =
    let u = in_from_flat_map (wave_parts p v f) line (waves_of p.streams) i in
    of_wave p v f u.0 line u.1.1

-- a rank of a stream in a line of a part is the leader of one of the stream's daemons
line_says : (p : Plan) (v : Numbers) (f : Fold) (s : ℕ) (g : Grain) (line : SampleLine) (r : ℕ) (q : Path) → IsPlan p → PartsFit p v f
    → IsPartLine p v f line → Has r (those (has (stream_ranks p s)) line.ranks) → q ≡ path_by g line.path → SaysPart p v f s r q
line_says p v f s g line r q plan small of h is =
    let both = and_parts (has line.ranks r) (has (stream_ranks p s) r) (sym (has-those (has (stream_ranks p s)) line.ranks r) ∙ h) in
    let e : r ≡ of.rank = one_member of.rank r (subst (λ (x : SampleLine). Has r x.ranks) of.is both.0) in
    let d = stream_daemon p s r both.1 in
    let same : d.0 ≡ of.daemon = sole p d.0 of.daemon r plan d.1.1 (subst (λ x. Has x (ranks p of.daemon)) (sym e) (leads_has p of.daemon of.rank of.named.leads)) in
    record {
      daemon = of.daemon;
      number = of.number;
      of = record { listed = subst (λ x. In x (daemons p s)) same d.1.0; part = of.named.part; leads = of.named.leads ∙ ap Some (sym e) };
      path = is ∙ ap (λ (x : SampleLine). path_by g x.path) of.is ∙ seen_alike g of.number (small of.daemon of.number of.named.part);
    }

seen_says : (p : Plan) (v : Numbers) (f : Fold) (s : ℕ) (g : Grain) (x line : SampleLine) (r : ℕ) (q : Path) → IsPlan p → PartsFit p v f
    → In line (part_lines p v f) → x ≡ seen_by g (stream_ranks p s) line → Has r x.ranks → q ≡ x.path → SaysPart p v f s r q
seen_says p v f s g x line r q plan small i is h path =
    line_says p v f s g line r q plan small (part_line_of p v f line i) (subst (λ (y : SampleLine). Has r y.ranks) is h) (path ∙ ap (λ (y : SampleLine). y.path) is)

-- a pair says a part
pair_says : (p : Plan) (v : Numbers) (f : Fold) (s w : ℕ) → IsPlan p → PartsFit p v f → (r : ℕ) (q : Path) → is_pair (samples (part_plan p v f) s w) r q ≡ true → SaysPart p v f s r q
unfolding samples grain sample_count stream_ranks daemons stream_of ranks
pair_says p v f s w plan small r q h =
    let at = pair_line (seen_lines (part_plan p v f) s w) r q h in
    let seen = in_from_map (seen_by (grain p s) (stream_ranks p s)) (wave_lines (sample_count p s) w (part_lines p v f)) at.0 at.1.0 in
    let listed = in_from_filter (λ (x : SampleLine). is_in_wave (sample_count p s) w x.time) seen.0 (part_lines p v f) seen.1.0 in
    seen_says p v f s (grain p s) at.0 seen.0 r q plan small listed.0 seen.1.1 at.1.1.0 at.1.1.1

-- a part's line is among those of its wave
line_there : (p : Plan) (v : Numbers) (f : Fold) (s w d r : ℕ) (z : ℤ) → In (s, w) (waves_of p.streams) → IsPartOf p v f s d r z → In (number_line (w * sample_count p s) r z) (part_lines p v f)
line_there p v f s w d r z named of =
    in_flat_map (wave_parts p v f) (number_line (w * sample_count p s) r z) (s, w) (waves_of p.streams) named
    (in_flat_map (part_line p v f (w * sample_count p s)) (number_line (w * sample_count p s) r z) d (daemons p s) of.listed
    (subst (λ o. In (number_line (w * sample_count p s) r z) (line_if (w * sample_count p s) o (part_at p v f d))) (sym of.leads)
    (subst (λ o. In (number_line (w * sample_count p s) r z) (line_if (w * sample_count p s) (Some r) o)) (sym of.part) (inl refl))))

-- each part has its pair
part_has_pair : (p : Plan) (v : Numbers) (f : Fold) (s w d r : ℕ) (z : ℤ) → IsPlan p → mag z < 2 ^ 63 → In (s, w) (waves_of p.streams) → IsPartOf p v f s d r z → is_pair (samples (part_plan p v f) s w) r (number_path z) ≡ true
unfolding samples grain sample_count stream_ranks daemons stream_of ranks
part_has_pair p v f s w d r z plan small named of =
    let line : SampleLine = number_line (w * sample_count p s) r z in
    let seen : SampleLine = seen_by (grain p s) (stream_ranks p s) line in
    let there = in_map (seen_by (grain p s) (stream_ranks p s)) line (wave_lines (sample_count p s) w (part_lines p v f))
    (in_filter (λ (x : SampleLine). is_in_wave (sample_count p s) w x.time) line (part_lines p v f) (line_there p v f s w d r z named of) (first_time (sample_count p s) w (some_samples p s d plan of.listed))) in
    let h : Has r seen.ranks = has-those (has (stream_ranks p s)) line.ranks r ∙ and_from (has line.ranks r) (has (stream_ranks p s) r) (member_of_one r) (daemon_lies p s d of.listed r (leads_has p d r of.leads)) in
    subst (λ q. is_pair (samples_of (seen_lines (part_plan p v f) s w)) r q ≡ true) (seen_alike (grain p s) z small) (line_pair (seen_lines (part_plan p v f) s w) seen r there h)

-- the samples of a wave of the plan of parts are the parts of the stream's daemons
pub samples_carry : (p : Plan) (v : Numbers) (f : Fold) (s w : ℕ) → IsPlan p → PartsFit p v f → In (s, w) (waves_of p.streams) → CarriesParts p v f s (samples (part_plan p v f) s w)
samples_carry p v f s w plan small named = record {
  says = pair_says p v f s w plan small;
  complete = λ d r z of. part_has_pair p v f s w d r z plan (small d z of.part) named of;
}
