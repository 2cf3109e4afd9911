-- The plan of parts is a plan.
use Rattle.std.proofs.Common.{◌≡◌, ◌≢◌, ◌⊎◌, inl, inr, ℕ, zero, suc, ◌<◌, ◌≤◌, ◌*◌, ◌+◌, ◌^◌, true, ◌&&◌, ◌||◌, ◌==◌, List, [], ◌∷◌, map, ap, refl, sym, ◌∙◌, Option, Some, None, subst, arith, le-leb, lt-ltb, length, length-append, mul-le-mul, eq-eqb}
use Rattle.std.proofs.Math.IntN.{ℤ, pos, negsuc}
use lib.Signed.{mag}
use Rattle.std.specs.Prelude.{nat_le, nat_lt, nat_eq, not, find, IsTrue}
use Rattle.std.specs.List.{list_any, list_all, flat_map, AllByRecursion}
use Rattle.std.specs.Fmt.{decimal, signed_decimal}
use Rattle.std.specs.Str.Parse.{AllDigits}
use Rattle.std.proofs.lemmas.Fmt.{decimal_is_IsNumeral, length_signed_le}
use Rattle.std.proofs.lemmas.Str.Parse.{digit_from_value}
use Rattle.std.proofs.lemmas.Bool.{true≢false, and_parts, and_from, ne_eqb, or_right}
use Rattle.std.specs.Set.{distinct_count}
use Rattle.std.proofs.lemmas.Map.Made.{distinct_count-le}
use Rattle.std.proofs.lemmas.List.Elements.{All-cons, All-nil}
use Rattle.std.specs.Prelude.{slice_index_or}
use Rattle.rank_set.specs.Ranks.{Ranks, none, has, Has, IsSubset, in_order, set_of, union, has-none, has-union}
use Rattle.call_path.specs.Pairs.{Pairs, is_pair, prefixes, prefixes_of}
use Rattle.call_path.proofs.PathLemmas.{is_path-exact, is_path-itself}
use Rattle.stat_plan.proofs.FirstOver.{all_in, found_in}
use Rattle.stat_plan.proofs.WavePrefixes.{count_same, in_flat_map, in_from_flat_map}
use Rattle.stat_plan.proofs.Sharing.{both_ways}
use Rattle.call_path.specs.Path.{Path, is_path}
use Rattle.call_path.specs.Good.{is_plain, is_good_frame, IsGoodPath}
use Rattle.overlay_setup.specs.NodeSets.{In, up_to}
use Rattle.overlay_setup.specs.Scripts.{Stream, IsStream}
use Rattle.overlay_setup.specs.declared.topology.TheConstants.{NODE_LIMIT}
use Rattle.stat_plan.specs.Plans.{Plan, nodes, daemons, ranks, sample_count, samples, stream_of, waves_of}
use Rattle.stat_plan.specs.Samples.{SampleLine, prefix_count, all_ranks, ranks_with}
use Rattle.stat_plan.specs.Invariants.{IsPlan, IsSampleLine}
use Rattle.stat_plan.specs.declared.samples.TheConstants.{LINE_LIMIT}
use Rattle.stat_plan.proofs.InLists.{in_append, in_from_map, up_to_below, any_from_in, in_from_any}
use Rattle.stat_plan.proofs.PlanFacts.{plan_facts}
use Rattle.rank_sums.specs.declared.fold.Fold.{Fold}
use Rattle.value_text.specs.Numbers.{Numbers, number_of}
use Rattle.rank_sums.specs.Folds.{counted_at}
use Rattle.rank_sums.specs.Parts.{PartsFit, part_at}
use Rattle.rank_sums.specs.PartTrees.{leader, number_path, CarriesParts}
use Rattle.rank_sums.specs.PartPlans.{line_if, part_line, wave_parts, part_lines, part_plan}
use Rattle.stat_plan.proofs.FewWaves.{waves_of_plan}
use Rattle.rank_sums.proofs.Carried.{leads_has, no_leader, none_some}
use Rattle.rank_sums.proofs.PartSamples.{IsPartLine, part_line_of, member_of_one, one_member, samples_carry}

pub all_from_in : {X : Type 0} (P : X → Type 0) (xs : List X) → ((x : X) → In x xs → P x) → AllByRecursion P xs
all_from_in P [] h = tt
all_from_in P (x ∷ xs) h = (h x (inl refl), all_from_in P xs (λ y i. h y (inr i)))

-- ---- how many lines

length_flat : {X Y : Type 0} (f : X → List Y) (m : ℕ) (xs : List X) → ((x : X) → In x xs → length (f x) ≤ m) → length (flat_map f xs) ≤ length xs * m
length_flat f m [] h = omega arith
length_flat f m (x ∷ xs) h =
    let a : length (flat_map f (x ∷ xs)) ≡ length (f x) + length (flat_map f xs) = length-append (f x) (flat_map f xs) in
    let b : length (f x) ≤ m = h x (inl refl) in
    let c : length (flat_map f xs) ≤ length xs * m = length_flat f m xs (λ y i. h y (inr i)) in
    omega arith

one_line : (time : ℕ) (o : Option ℕ) (z : Option ℤ) → length (line_if time o z) ≤ 1
one_line time None z = omega arith
one_line time (Some r) None = omega arith
one_line time (Some r) (Some z) = omega arith

lines_within : (p : Plan) (v : Numbers) (f : Fold) → IsPlan p → length (part_lines p v f) ≤ LINE_LIMIT
lines_within p v f plan =
    let a = length_flat (wave_parts p v f) 512 (waves_of p.streams) (λ u i. wave u) in
    let b = waves_of_plan p plan in
    omega (arith, a, b)
  where
    wave : (u : ℕ × ℕ) → length (wave_parts p v f u) ≤ 512
    wave u =
        let a = length_flat (part_line p v f (u.1 * sample_count p u.0)) 1 (daemons p u.0) (λ d i. one_line (u.1 * sample_count p u.0) (leader p d) (part_at p v f d)) in
        let b = (plan_facts p plan).few_daemons u.0 in
        let c : nodes p ≤ NODE_LIMIT = plan.topology.within_limit in
        omega (arith, a, b, c)

-- ---- when

wave_below : (xs : List Stream) (s w : ℕ) → AllByRecursion IsStream xs → In (s, w) (waves_of xs) → w < 16
wave_below [] s w all i = absurd i
wave_below (x ∷ xs) s w all i = elim (in_append (s, w) (map (λ y. (x.number, y)) (up_to x.waves)) (waves_of xs) i) [
  | inl here ↦
      let a = in_from_map (λ y. (x.number, y)) (up_to x.waves) (s, w) here in
      let b : a.0 < x.waves = up_to_below x.waves a.0 a.1.0 in
      let c : x.waves ≤ 16 = all.0.waves_within_limit in
      let e : w ≡ a.0 = ap (λ (y : ℕ × ℕ). y.1) a.1.1 in
      omega arith
  | inr later ↦ wave_below xs s w all.1 later
]

few_samples : (p : Plan) (s : ℕ) → IsPlan p → sample_count p s ≤ 64
unfolding sample_count stream_of
few_samples p s plan = go (find (λ x. x.number == s) p.streams) refl
  where
    go : (o : Option Stream) → find (λ x. x.number == s) p.streams ≡ o → elim o [ None ↦ 0 | Some x ↦ x.samples ] ≤ 64
    go None e = omega arith
    go (Some x) e = (all_in IsStream p.streams x plan.script.streams (found_in (λ x. x.number == s) p.streams x e)).samples_within_limit

time_of : (time : ℕ) (o : Option ℕ) (z : Option ℤ) (line : SampleLine) → In line (line_if time o z) → line.time ≡ time
time_of time None z line i = absurd i
time_of time (Some r) None line i = absurd i
time_of time (Some r) (Some z) line (inl e) = ap (λ (x : SampleLine). x.time) e
time_of time (Some r) (Some z) line (inr i) = absurd i

times_within : (p : Plan) (v : Numbers) (f : Fold) (line : SampleLine) → IsPlan p → In line (part_lines p v f) → line.time ≤ 65535
times_within p v f line plan i =
    let u = in_from_flat_map (wave_parts p v f) line (waves_of p.streams) i in
    let d = in_from_flat_map (part_line p v f (u.0.1 * sample_count p u.0.0)) line (daemons p u.0.0) u.1.1 in
    within u.0.1 (sample_count p u.0.0) line.time (time_of (u.0.1 * sample_count p u.0.0) (leader p d.0) (part_at p v f d.0) line d.1.1) (wave_below p.streams u.0.0 u.0.1 plan.script.streams u.1.0) (few_samples p u.0.0 plan)
  where
    within : (w k t : ℕ) → t ≡ w * k → w < 16 → k ≤ 64 → t ≤ 65535
    within w k t e a b = let w16 : w ≤ 16 = omega arith in let c : w * k ≤ 16 * 64 = mul-le-mul w16 b in omega (arith, e, c)

-- ---- good paths

plain_digits : (ds : List ℕ) → AllDigits 10 ds → list_all is_plain ds ≡ true
plain_digits [] d = refl
plain_digits (c ∷ cs) d =
    let k = digit_from_value c d.0 in
    and_from (is_plain c) (list_all is_plain cs)
    (and_from (nat_le 32 c) (not (nat_eq c 127) && not (nat_eq c 59)) (le-leb 32 c (omega (arith, k)))
    (and_from (not (nat_eq c 127)) (not (nat_eq c 59)) (ap not (ne_eqb c 127 (λ e. omega (arith, k, e)))) (ap not (ne_eqb c 59 (λ e. omega (arith, k, e))))))
    (plain_digits cs d.1)

plain_number : (z : ℤ) → mag z < 2 ^ 63 → (0 < length (signed_decimal z)) × (list_all is_plain (signed_decimal z) ≡ true)
plain_number (pos n) small = let k = decimal_is_IsNumeral n (omega arith) in (k.0.0, plain_digits (decimal n) k.0.1)
plain_number (negsuc n) small = let k = decimal_is_IsNumeral (suc n) (omega arith) in (omega arith, plain_digits (decimal (suc n)) k.0.1)

pub good_number : (z : ℤ) → mag z < 2 ^ 63 → IsGoodPath (number_path z)
good_number z small =
    let plain = plain_number z small in
    let short : length (signed_decimal z) ≤ 20 + 1 = length_signed_le 20 z (omega (arith, small)) small in
    let frame : is_good_frame (signed_decimal z) ≡ true =
    and_from (nat_lt 0 (length (signed_decimal z))) (nat_le (length (signed_decimal z)) 1023 && list_all is_plain (signed_decimal z)) (lt-ltb 0 (length (signed_decimal z)) plain.0)
    (and_from (nat_le (length (signed_decimal z)) 1023) (list_all is_plain (signed_decimal z)) (le-leb (length (signed_decimal z)) 1023 (omega (arith, short))) plain.1) in
    record {
      some = omega arith;
      good = record { within_limit = omega arith; good = All-cons (λ f. IsTrue (is_good_frame f)) (signed_decimal z) [] frame (All-nil (λ f. IsTrue (is_good_frame f))) };
    }

-- ---- each line

in_placed : (sets : List Ranks) (start : Ranks) (d r : ℕ) → Has r start ⊎ Has r (slice_index_or sets d none) → Has r (ranks_with start sets)
in_placed [] start d r (inl h) = h
in_placed [] start d r (inr h) = absurd (true≢false (sym h ∙ has-none r))
in_placed (x ∷ sets) start d r (inl h) = in_placed sets (union start x) d r (inl (has-union start x r ∙ ap (λ b. b || has x r) h))
in_placed (x ∷ sets) start zero r (inr h) = in_placed sets (union start x) zero r (inl (has-union start x r ∙ or_right (has start r) (has x r) h))
in_placed (x ∷ sets) start (suc d) r (inr h) = in_placed sets (union start x) d r (inr h)

placed_on : (p : Plan) (d r : ℕ) → Has r (ranks p d) → Has r (all_ranks p.placed)
unfolding ranks
placed_on p d r h = in_placed p.placed none d r (inr h)

not_none : (r : ℕ) (C : Ranks) → Has r C → C ≢ none
not_none r C h e = true≢false (sym h ∙ ap (λ x. has x r) e ∙ has-none r)

line_good : (p : Plan) (v : Numbers) (f : Fold) (line : SampleLine) → IsPlan p → PartsFit p v f → In line (part_lines p v f) → IsSampleLine p.placed line
line_good p v f line plan small i =
    let of : IsPartLine p v f line = part_line_of p v f line i in
    record {
      time = times_within p v f line plan i;
      some = subst (λ (x : SampleLine). x.ranks ≢ none) (sym of.is) (not_none of.rank (set_of (of.rank ∷ [])) (member_of_one of.rank));
      placed_ranks = subst (λ (x : SampleLine). IsSubset x.ranks (all_ranks p.placed)) (sym of.is) (λ q h. subst (λ y. Has y (all_ranks p.placed)) (sym (one_member of.rank q h)) (placed_on p of.daemon of.rank (leads_has p of.daemon of.rank of.named.leads)));
      path = subst (λ (x : SampleLine). IsGoodPath x.path) (sym of.is) (good_number of.number (small of.daemon of.number of.named.part));
    }

-- ---- how many prefixes

path_if : Option ℤ → List Path
path_if None = []
path_if (Some z) = number_path z ∷ []

part_paths : Plan → Numbers → Fold → ℕ → List Path
part_paths p v f s = flat_map (λ d. path_if (part_at p v f d)) (daemons p s)

in_path_if : (z : Option ℤ) (q : Path) → In q (path_if z) → (n : ℤ) × ((z ≡ Some n) × (q ≡ number_path n))
unfolding path_if
in_path_if None q i = absurd i
in_path_if (Some n) q (inl e) = (n, (refl, e))
in_path_if (Some n) q (inr i) = absurd i

one_path : (z : Option ℤ) → length (path_if z) ≤ 1
unfolding path_if
one_path None = omega arith
one_path (Some z) = omega arith

some_leader : (p : Plan) (v : Numbers) (f : Fold) (d : ℕ) (z : ℤ) → part_at p v f d ≡ Some z → (r : ℕ) × (leader p d ≡ Some r)
some_leader p v f d z part = go (leader p d) refl
  where
    go : (o : Option ℕ) → leader p d ≡ o → (r : ℕ) × (leader p d ≡ Some r)
    go None e = absurd (none_some (sym (no_leader (λ r. counted_at f (number_of v r)) f (in_order (ranks p d)) e) ∙ part))
    go (Some r) e = (r, e)

module _ (p : Plan) (v : Numbers) (f : Fold) (s : ℕ) (P : Pairs) (carries : CarriesParts p v f s P) where
  listed_prefix : (x : Path) → list_any (is_path x) (prefixes_of P) ≡ true → list_any (is_path x) (part_paths p v f s) ≡ true
  unfolding part_paths path_if
  listed_prefix x h =
      let y = in_from_any (is_path x) (prefixes_of P) h in
      let e = in_from_flat_map (λ (e : ℕ × Path). prefixes e.1) y.0 P y.1.0 in
      let pair : is_pair P e.0.0 e.0.1 ≡ true = any_from_in (λ (d : ℕ × Path). nat_eq d.0 e.0.0 && is_path e.0.1 d.1) e.0 P e.1.0 (and_from (nat_eq e.0.0 e.0.0) (is_path e.0.1 e.0.1) (eq-eqb e.0.0 e.0.0 refl) (is_path-itself e.0.1)) in
      let says = carries.says e.0.0 e.0.1 pair in
      let is : y.0 ≡ number_path says.number = only y.0 says.number (subst (λ (q : Path). In y.0 (prefixes q)) says.path e.1.1) in
      any_from_in (is_path x) (number_path says.number) (part_paths p v f s)
      (in_flat_map (λ d. path_if (part_at p v f d)) (number_path says.number) says.daemon (daemons p s) says.of.listed (there says.daemon says.number says.of.part))
      (subst (λ q. is_path x q ≡ true) is y.1.1)
    where
      only : (y : Path) (z : ℤ) → In y (prefixes (number_path z)) → y ≡ number_path z
      only y z (inl e) = e
      only y z (inr i) = absurd i

      there : (d : ℕ) (z : ℤ) → part_at p v f d ≡ Some z → In (number_path z) (path_if (part_at p v f d))
      there d z e = subst (λ o. In (number_path z) (path_if o)) (sym e) (inl refl)

  prefix_listed : (x : Path) → list_any (is_path x) (part_paths p v f s) ≡ true → list_any (is_path x) (prefixes_of P) ≡ true
  unfolding part_paths
  prefix_listed x h =
      let y = in_from_any (is_path x) (part_paths p v f s) h in
      let d = in_from_flat_map (λ d. path_if (part_at p v f d)) y.0 (daemons p s) y.1.0 in
      let n = in_path_if (part_at p v f d.0) y.0 d.1.1 in
      let r = some_leader p v f d.0 n.0 n.1.0 in
      let pair = carries.complete d.0 r.0 n.0 (record { listed = d.1.0; part = n.1.0; leads = r.1 }) in
      let e = in_from_any (λ (e : ℕ × Path). nat_eq e.0 r.0 && is_path (number_path n.0) e.1) P pair in
      let is : number_path n.0 ≡ e.0.1 = is_path-exact (number_path n.0) e.0.1 (and_parts (nat_eq e.0.0 r.0) (is_path (number_path n.0) e.0.1) e.1.1).1 in
      any_from_in (is_path x) (number_path n.0) (prefixes_of P)
      (in_flat_map (λ (e : ℕ × Path). prefixes e.1) (number_path n.0) e.0 P e.1.0 (subst (λ (q : Path). In (number_path n.0) (prefixes q)) is (inl refl)))
      (subst (λ q. is_path x q ≡ true) n.1.1 y.1.1)

  few_paths : prefix_count P ≤ length (daemons p s)
  unfolding part_paths
  few_paths =
      let same : distinct_count is_path (prefixes_of P) ≡ distinct_count is_path (part_paths p v f s) = count_same (prefixes_of P) (part_paths p v f s) (λ x. both_ways (list_any (is_path x) (prefixes_of P)) (list_any (is_path x) (part_paths p v f s)) (listed_prefix x) (prefix_listed x)) in
      let most : distinct_count is_path (part_paths p v f s) ≤ length (part_paths p v f s) = distinct_count-le is_path (part_paths p v f s) in
      let each : length (part_paths p v f s) ≤ length (daemons p s) * 1 = length_flat (λ d. path_if (part_at p v f d)) 1 (daemons p s) (λ d i. one_path (part_at p v f d)) in
      omega (arith, same, most, each)

-- ---- the plan

pub part_plan_is_plan : (p : Plan) (v : Numbers) (f : Fold) → IsPlan p → PartsFit p v f → IsPlan (part_plan p v f)
part_plan_is_plan p v f plan small = record {
  topology = plan.topology;
  samples = record { once = plan.samples.once; within_limit = lines_within p v f plan; lines = all_from_in (IsSampleLine p.placed) (part_lines p v f) (λ line i. line_good p v f line plan small i) };
  script = plan.script;
  samples_fit = record { paired = plan.samples_fit.paired; on_daemons = plan.samples_fit.on_daemons; nowhere_else = plan.samples_fit.nowhere_else };
  script_fits = plan.script_fits;
  within = λ s w named.
      let few = few_paths p v f s (samples (part_plan p v f) s w) (samples_carry p v f s w plan small named) in
      let a = (plan_facts p plan).few_daemons s in
      let b : nodes p ≤ NODE_LIMIT = plan.topology.within_limit in
      omega (arith, few, a, b);
}
