-- Where every stream waits for all its daemons and loses none of them, the releases of a run are the direct ones: only the
-- lost nodes that they name may differ, and no text shows these.
use Rattle.std.proofs.Common.{◌≡◌, ◌⊎◌, inl, inr, ℕ, suc, ◌+◌, ◌<◌, ◌==◌, ◌&&◌, List, [], ◌∷◌, ◌++◌, map, length, refl, sym, ap, subst, ◌∙◌, arith, append_assoc, length-append, eq-eqb, eqb-true}
use Rattle.std.specs.Prelude.{⊤, true, codes, filter, not}
use Rattle.std.specs.Cmp.{nat_cmp_is}
use Rattle.std.specs.List.{AllByRecursion, flat_map}
use Rattle.std.specs.List.Sorted.{IsStrictlySortedBy}
use Rattle.std.specs.Ordering.{nat_cmp, ordering_then}
use Rattle.std.specs.declared.cmp.Ordering.TheVariants.{Less, Equal}
use Rattle.std.proofs.lemmas.Bool.{and_from, and_parts, cond-false, cond-true, true≢false}
use Rattle.std.proofs.lemmas.List.Elements.{filter-append}
use Rattle.std.proofs.lemmas.List.Sorted.{IsPermutation-refl, IsPermutation-sym}
use Rattle.serde_json.specs.Data.{string}
use Rattle.serde_json.specs.Written.{compact_text}
use Rattle.rank_set.specs.Ranks.{Ranks, IsSubset, has, has-those, is_empty, none, size-none}
use Rattle.std.proofs.lemmas.Map.Keys.{IsDistinct-from_sorted}
use Rattle.prefix_tree.specs.Tree.{tree_of}
use Rattle.stat_plan.specs.Invariants.{IsPlan}
use Rattle.overlay_setup.specs.NodeSets.{In, IsStrictlyIncreasing, up_to}
use Rattle.stat_plan.specs.Plans.{Plan, daemons, ranks, samples, stream_ranks, waves_of}
use Rattle.overlay_setup.specs.Scripts.{Stream}
use Rattle.overlay_setup.specs.declared.script.Fault.{Fault}
use Rattle.stat_plan.proofs.FirstOver.{all_in}
use Rattle.stat_plan.proofs.InLists.{in_append, in_filter, in_from_filter, in_from_map, in_map}
use Rattle.overlay_event.specs.declared.event.Event.{Event}
use Rattle.overlay_core.specs.declared.release.Kind.TheVariants.{Final}
use Rattle.overlay_core.specs.History.{of_wave}
use Rattle.overlay_core.specs.Nodes.{Release}
use Rattle.overlay_core.specs.Runs.{after}
use Rattle.overlay_core.specs.TreeReleases.{AreNumberedInOrder, TreeRelease, bare_release, bare_releases}
use Rattle.overlay_core.specs.Whole.{HasOneRelease, LosesNoDaemon}
use Rattle.overlay_core.proofs.Ended.{waits_for_all}
use Rattle.overlay_core.proofs.RankSets.{none_from_subset}
use Rattle.stat_plan.proofs.Ascending.{up_to_increases}
use Rattle.stat_plan.proofs.PlanFacts.{plan_facts}
use Rattle.stat_plan.proofs.LookupLemmas.{daemon_lies, stream_of_wave}
use Rattle.stat_plan.proofs.Elements.{all_from}
use Rattle.overlay_core.proofs.Releases.{legal_log}
use Rattle.front_end.specs.ReleaseText.{classes_in, heading, kind_text, missing, missing_line, release_text, ranks_line, tree_and_classes}
use Rattle.front_end.specs.Report.{AllStreamsWait, AreDistinct, AreReleasesOf, IsDirect, IsReport, IsSortedCopy, fault_line, release_cmp, report_text}
use Rattle.wide_merge.specs.Waves.{direct_release, direct_releases}
use Rattle.front_end.specs.JsonValues.{classes_data, tree_data}
use Rattle.json_text.specs.Values.{count, list_of, object_of, ranks_data}
use Rattle.front_end.specs.JsonReport.{IsJsonReport, all_missing_data, fault_data, has_missing, missing_data, release_data, report_data}
use Rattle.front_end.proofs.Numbered.{first_number, rest_numbered}
use Rattle.front_end.proofs.Orders.{in_permutation, one_order, release_cmp_total}

-- ---- the waves of a plan increase

-- one wave is of an earlier stream than the other, or an earlier one of the same stream
abbrev Precedes : ℕ × ℕ → ℕ × ℕ → Type 0
Precedes v u = (v.0 < u.0) ⊎ ((v.0 ≡ u.0) × (v.1 < u.1))

abbrev WavesRise : List (ℕ × ℕ) → Type 0
WavesRise [] = ⊤
WavesRise (v ∷ vs) = ((u : ℕ × ℕ) → In u vs → Precedes v u) × WavesRise vs

waves_append : (vs us : List (ℕ × ℕ)) → WavesRise vs → WavesRise us → ((v u : ℕ × ℕ) → In v vs → In u us → Precedes v u) → WavesRise (vs ++ us)
waves_append [] us up up' across = up'
waves_append (v ∷ vs) us up up' across = (
  (λ u i. elim (in_append u vs us i) [ inl j ↦ up.0 u j | inr j ↦ across v u (inl refl) j ]),
  waves_append vs us up.1 up' (λ a b i j. across a b (inr i) j),
)

stream_waves : (s : ℕ) (ws : List ℕ) → IsStrictlyIncreasing ws → WavesRise (map (λ w. (s, w)) ws)
stream_waves s [] up = tt
stream_waves s (w ∷ ws) up = (
  (λ u i.
      let from = in_from_map (λ (k : ℕ). (s, k)) ws u i in
      subst (λ (x : ℕ × ℕ). Precedes (s, w) x) (sym from.1.1) (inr (refl, up.0 from.0 from.1.0))),
  stream_waves s ws up.1,
)

waves_increase : (xs : List Stream) → IsStrictlyIncreasing (map (λ x. x.number) xs) → WavesRise (waves_of xs)
waves_increase [] up = tt
waves_increase (x ∷ xs) up =
    waves_append (map (λ w. (x.number, w)) (up_to x.waves)) (waves_of xs) (stream_waves x.number (up_to x.waves) (up_to_increases x.waves)) (waves_increase xs up.1)
    (λ v u i j.
    let from = in_from_map (λ (w : ℕ). (x.number, w)) (up_to x.waves) v i in
    subst (λ (a : ℕ × ℕ). Precedes a u) (sym from.1.1) (inl (up.0 u.0 (stream_of_wave xs u j))))

-- ---- so the direct releases do

before_is_less : (p : Plan) (v u : ℕ × ℕ) → Precedes v u → release_cmp (direct_release p v) (direct_release p u) ≡ Less
before_is_less p v u (inl lt) =
    let less : nat_cmp v.0 u.0 ≡ Less = sym (nat_cmp_is v.0 u.0 Less lt) in
    λ i. ordering_then (ordering_then (less i) (nat_cmp v.1 u.1)) (nat_cmp 1 1)
before_is_less p v u (inr later) =
    let same : nat_cmp v.0 u.0 ≡ Equal = sym (nat_cmp_is v.0 u.0 Equal later.0) in
    let less : nat_cmp v.1 u.1 ≡ Less = sym (nat_cmp_is v.1 u.1 Less later.1) in
    λ i. ordering_then (ordering_then (same i) (less i)) (nat_cmp 1 1)

direct_increase : (p : Plan) (vs : List (ℕ × ℕ)) → WavesRise vs → IsStrictlySortedBy release_cmp (map (direct_release p) vs)
unfolding IsStrictlySortedBy
direct_increase p [] up = tt
direct_increase p (v ∷ vs) up = (
  all_from (λ r. release_cmp (direct_release p v) r ≡ Less) (map (direct_release p) vs)
      (λ r i.
      let from = in_from_map (direct_release p) vs r i in
      subst (λ (x : TreeRelease). release_cmp (direct_release p v) x ≡ Less) (sym from.1.1) (before_is_less p v from.0 (up.0 from.0 from.1.0))),
  direct_increase p vs up.1,
)

-- so no two of them are of the same wave
pub direct_are_distinct : (p : Plan) → IsPlan p → AreDistinct (direct_releases p)
direct_are_distinct p plan = IsDistinct-from_sorted release_cmp (direct_releases p) (direct_increase p (waves_of p.streams) (waves_increase p.streams plan.script.streams_increase))

-- ---- each release is the direct one of its wave

-- a wave's only release is its first
only_number : (earlier : List Release) (rs : List TreeRelease) (r : TreeRelease) → AreNumberedInOrder earlier rs → In r rs → length (of_wave r.stream r.wave (earlier ++ bare_releases rs)) ≡ 1 → r.number ≡ 1
only_number earlier [] r numbered there one = absurd there
only_number earlier (x ∷ rs) r numbered (inl is) one =
    let next : x.number ≡ suc (length (of_wave x.stream x.wave earlier)) = first_number earlier x rs numbered in
    let single : length (of_wave x.stream x.wave (earlier ++ bare_releases (x ∷ rs))) ≡ 1 = subst (λ (y : TreeRelease). length (of_wave y.stream y.wave (earlier ++ bare_releases (x ∷ rs))) ≡ 1) is one in
    let parts : length (of_wave x.stream x.wave (earlier ++ bare_releases (x ∷ rs))) ≡ length (of_wave x.stream x.wave earlier) + length (of_wave x.stream x.wave (bare_releases (x ∷ rs)))
    = ap (λ (qs : List Release). length qs) (filter-append (λ (q : Release). (q.stream == x.stream) && (q.wave == x.wave)) earlier (bare_releases (x ∷ rs))) ∙ length-append (of_wave x.stream x.wave earlier) (of_wave x.stream x.wave (bare_releases (x ∷ rs))) in
    let here : length (of_wave x.stream x.wave (bare_releases (x ∷ rs))) ≡ suc (length (of_wave x.stream x.wave (bare_releases rs)))
    = ap (λ (qs : List Release). length qs) (cond-true ((x.stream == x.stream) && (x.wave == x.wave)) (bare_release x ∷ of_wave x.stream x.wave (bare_releases rs)) (of_wave x.stream x.wave (bare_releases rs))
    (and_from (x.stream == x.stream) (x.wave == x.wave) (eq-eqb x.stream x.stream refl) (eq-eqb x.wave x.wave refl))) in
    let first : x.number ≡ 1 = omega arith in
    ap (λ (y : TreeRelease). y.number) is ∙ first
only_number earlier (x ∷ rs) r numbered (inr there) one =
    only_number (earlier ++ bare_release x ∷ []) rs r (rest_numbered earlier x rs numbered) there
    (ap (λ (qs : List Release). length (of_wave r.stream r.wave qs)) (append_assoc earlier (bare_release x ∷ []) (bare_releases rs)) ∙ one)

only_one : {X : Type 0} (x y : X) → In x (y ∷ []) → x ≡ y
only_one x y (inl is) = is
only_one x y (inr none) = absurd none

-- ---- a release of all ranks of its stream shows no lost node

none_missing : (p : Plan) (covered : Ranks) (d : ℕ) → IsSubset (ranks p d) covered → is_empty (missing p covered d) ≡ true
none_missing p covered d within =
    let no_rank : missing p covered d ≡ none = none_from_subset (missing p covered d) (λ r h.
    let parts = and_parts (has (ranks p d) r) (not (has covered r)) (sym (has-those (λ r. not (has covered r)) (ranks p d) r) ∙ h) in
    absurd (true≢false (sym parts.1 ∙ ap not (within r parts.0)))) in
    ap is_empty no_rank ∙ ap (λ n. n == 0) size-none

no_missing_lines : (p : Plan) (covered : Ranks) (lost ds : List ℕ) → ((d : ℕ) → In d ds → is_empty (missing p covered d) ≡ true) → flat_map (missing_line p covered lost) ds ≡ []
no_missing_lines p covered lost [] all = refl
no_missing_lines p covered lost (d ∷ ds) all =
    let line : missing_line p covered lost d ≡ [] = cond-true (is_empty (missing p covered d)) [] _ (all d (inl refl)) in
    let rest : flat_map (missing_line p covered lost) ds ≡ [] = no_missing_lines p covered lost ds (λ x i. all x (inr i)) in
    λ i. line i ++ rest i

no_missing_daemons : (p : Plan) (covered : Ranks) (ds : List ℕ) → ((d : ℕ) → In d ds → is_empty (missing p covered d) ≡ true) → filter (has_missing p covered) ds ≡ []
no_missing_daemons p covered [] all = refl
no_missing_daemons p covered (d ∷ ds) all =
    cond-false (has_missing p covered d) (d ∷ filter (has_missing p covered) ds) (filter (has_missing p covered) ds) (ap not (all d (inl refl))) ∙ no_missing_daemons p covered ds (λ x i. all x (inr i))

-- the release, without the lost nodes that it names
abbrev unlost : TreeRelease → TreeRelease
unlost r = record { stream = r.stream; wave = r.wave; number = r.number; kind = r.kind; tree = r.tree; lost = [] }

all_are_covered : (p : Plan) (r : TreeRelease) → r.tree.coverage ≡ stream_ranks p r.stream → (d : ℕ) → In d (daemons p r.stream) → is_empty (missing p r.tree.coverage d) ≡ true
all_are_covered p r all d i = none_missing p r.tree.coverage d (subst (λ c. IsSubset (ranks p d) c) (sym all) (daemon_lies p r.stream d i))

same_text : (p : Plan) (r : TreeRelease) → r.tree.coverage ≡ stream_ranks p r.stream → release_text p r ≡ release_text p (unlost r)
unfolding release_text
same_text p r all =
    let covered = all_are_covered p r all in
    ap (λ lines. heading r ++ ranks_line (codes "covered ") r.tree.coverage ++ lines ++ tree_and_classes r.tree (classes_in r.tree))
    (no_missing_lines p r.tree.coverage r.lost (daemons p r.stream) covered ∙ sym (no_missing_lines p r.tree.coverage [] (daemons p r.stream) covered))

same_data : (p : Plan) (r : TreeRelease) → r.tree.coverage ≡ stream_ranks p r.stream → release_data p r ≡ release_data p (unlost r)
unfolding release_data
same_data p r all =
    let none : filter (has_missing p r.tree.coverage) (daemons p r.stream) ≡ [] = no_missing_daemons p r.tree.coverage (daemons p r.stream) (all_are_covered p r all) in
    let listed : all_missing_data p r.tree.coverage r.lost (daemons p r.stream) ≡ all_missing_data p r.tree.coverage [] (daemons p r.stream)
    = ap (λ ds. list_of (map (missing_data p r.tree.coverage r.lost) ds)) none ∙ sym (ap (λ ds. list_of (map (missing_data p r.tree.coverage []) ds)) none) in
    ap (λ d. object_of ((codes "classes", classes_data (classes_in r.tree)) ∷ (codes "covered", ranks_data r.tree.coverage) ∷ (codes "kind", string (kind_text r.kind)) ∷ (codes "missing", d) ∷ (codes "number", count r.number) ∷ (codes "stream", count r.stream) ∷ (codes "tree", tree_data r.tree) ∷ (codes "wave", count r.wave) ∷ [])) listed

-- what each release of a list gives, its copy without lost nodes gives too
each_same : {X : Type 0} (f : TreeRelease → X) (rs : List TreeRelease) → ((r : TreeRelease) → In r rs → f r ≡ f (unlost r)) → map f rs ≡ map f (map unlost rs)
each_same f [] same = refl
each_same f (r ∷ rs) same = λ i. same r (inl refl) i ∷ each_same f rs (λ x j. same x (inr j)) i

all_texts : (f : TreeRelease → List ℕ) (rs : List TreeRelease) → ((r : TreeRelease) → In r rs → f r ≡ f (unlost r)) → flat_map f rs ≡ flat_map f (map unlost rs)
all_texts f [] same = refl
all_texts f (r ∷ rs) same = λ i. same r (inl refl) i ++ all_texts f rs (λ x j. same x (inr j)) i

-- their order is the same
less_than_all : (a : TreeRelease) (rs : List TreeRelease) → AllByRecursion (λ b. release_cmp a b ≡ Less) rs → AllByRecursion (λ b. release_cmp (unlost a) b ≡ Less) (map unlost rs)
less_than_all a [] all = tt
less_than_all a (r ∷ rs) all = (all.0, less_than_all a rs all.1)

unlost_increase : (rs : List TreeRelease) → IsStrictlySortedBy release_cmp rs → IsStrictlySortedBy release_cmp (map unlost rs)
unfolding IsStrictlySortedBy
unlost_increase [] up = tt
unlost_increase (r ∷ rs) up = (less_than_all r rs up.0, unlost_increase rs up.1)

-- a release of a wave of the plan, of all ranks of its stream, that is the direct one but for the lost nodes that it names
record IsDirectRelease (p : Plan) (r : TreeRelease) : Type 0 where
  wave : In (r.stream, r.wave) (waves_of p.streams)
  covers : r.tree.coverage ≡ stream_ranks p r.stream
  direct : unlost r ≡ direct_release p (r.stream, r.wave)

module _ (p : Plan) (journal : List Event) (releases : List TreeRelease) (plan : IsPlan p) (waits : AllStreamsWait p) (safe : (s : ℕ) → LosesNoDaemon p journal s) (run : AreReleasesOf p journal releases) where
  -- each wave has one release
  one_release : (s w : ℕ) → In (s, w) (waves_of p.streams) → HasOneRelease p s (of_wave s w (after p journal).releases)
  one_release s w wave = waits_for_all p journal s w (plan_facts p plan) run.whole (waits s w wave) (safe s) wave

  is_direct : (r : TreeRelease) → In r releases → IsDirectRelease p r
  is_direct r there =
      let facts = plan_facts p plan in
      let bare : In (bare_release r) (after p journal).releases = subst (λ (qs : List Release). In (bare_release r) qs) run.reached (in_map bare_release r releases there) in
      let wave = (legal_log p journal facts run.whole.0 (bare_release r) bare).named in
      let one = one_release r.stream r.wave wave in
      let among : In (bare_release r) (of_wave r.stream r.wave (after p journal).releases)
      = in_filter (λ (q : Release). (q.stream == r.stream) && (q.wave == r.wave)) (bare_release r) (after p journal).releases bare
      (and_from (r.stream == r.stream) (r.wave == r.wave) (eq-eqb r.stream r.stream refl) (eq-eqb r.wave r.wave refl)) in
      let is : bare_release r ≡ one.only = only_one (bare_release r) one.only (subst (λ (qs : List Release). In (bare_release r) qs) one.all among) in
      let kind : r.kind ≡ Final = ap (λ (q : Release). q.kind) is ∙ one.kind in
      let coverage : r.tree.coverage ≡ stream_ranks p r.stream = ap (λ (q : Release). q.covered) is ∙ one.covers in
      let tree : r.tree ≡ tree_of (samples p r.stream r.wave) (stream_ranks p r.stream) = (all_in (IsDirect p) releases r run.direct there).tree ∙ ap (tree_of (samples p r.stream r.wave)) coverage in
      let number : r.number ≡ 1 = only_number [] releases r run.numbered there (ap (λ (qs : List Release). length (of_wave r.stream r.wave qs)) run.reached ∙ ap (λ (qs : List Release). length qs) one.all) in
      record {
        wave = wave;
        covers = coverage;
        direct = λ i. record { stream = r.stream; wave = r.wave; number = number i; kind = kind i; tree = tree i; lost = [] };
      }

  -- each wave of the plan has its direct release
  has_direct : (s w : ℕ) → In (s, w) (waves_of p.streams) → (r : TreeRelease) × In r releases × (unlost r ≡ direct_release p (s, w))
  has_direct s w wave =
      let one = one_release s w wave in
      let among : In one.only (of_wave s w (after p journal).releases) = subst (λ (qs : List Release). In one.only qs) (sym one.all) (inl refl) in
      let found = in_from_filter (λ (q : Release). (q.stream == s) && (q.wave == w)) one.only (after p journal).releases among in
      let places = and_parts (one.only.stream == s) (one.only.wave == w) found.1 in
      let from = in_from_map bare_release releases one.only (subst (λ (qs : List Release). In one.only qs) (sym run.reached) found.0) in
      let of_stream : from.0.stream ≡ s = ap (λ (q : Release). q.stream) (sym from.1.1) ∙ eqb-true one.only.stream s places.0 in
      let of_wave : from.0.wave ≡ w = ap (λ (q : Release). q.wave) (sym from.1.1) ∙ eqb-true one.only.wave w places.1 in
      let is : unlost from.0 ≡ direct_release p (s, w) = (is_direct from.0 from.1.0).direct ∙ (λ i. direct_release p (of_stream i, of_wave i)) in
      (from.0, from.1.0, is)

  increasing : IsStrictlySortedBy release_cmp (direct_releases p)
  increasing = direct_increase p (waves_of p.streams) (waves_increase p.streams plan.script.streams_increase)

  -- in order, the releases are the direct ones
  are_direct : (ordered : List TreeRelease) → IsSortedCopy releases ordered → map unlost ordered ≡ direct_releases p
  are_direct ordered copy =
      one_order release_cmp release_cmp_total (map unlost ordered) (direct_releases p) (unlost_increase ordered copy.increasing) increasing
      (λ x i.
      let from = in_from_map unlost ordered x i in
      let direct = is_direct from.0 (in_permutation releases ordered copy.same from.0 from.1.0) in
      subst (λ (r : TreeRelease). In r (direct_releases p)) (sym (from.1.1 ∙ direct.direct)) (in_map (direct_release p) (from.0.stream, from.0.wave) (waves_of p.streams) direct.wave))
      (λ x i.
      let from = in_from_map (direct_release p) (waves_of p.streams) x i in
      let release = has_direct from.0.0 from.0.1 from.1.0 in
      subst (λ (r : TreeRelease). In r (map unlost ordered)) (release.2 ∙ sym from.1.1)
      (in_map unlost release.0 ordered (in_permutation ordered releases (IsPermutation-sym releases ordered copy.same) release.0 release.1)))

  all_covered : (ordered : List TreeRelease) → IsSortedCopy releases ordered → (r : TreeRelease) → In r ordered → r.tree.coverage ≡ stream_ranks p r.stream
  all_covered ordered copy r i = (is_direct r (in_permutation releases ordered copy.same r i)).covers

  as_they_stand : IsSortedCopy (direct_releases p) (direct_releases p)
  as_they_stand = record { same = IsPermutation-refl (direct_releases p); increasing = increasing }

  -- so the report is that of the direct releases
  pub direct_where_all_wait : (faults : List Fault) (lost text : List ℕ) → IsReport p faults releases lost text → IsReport p faults (direct_releases p) lost text
  unfolding report_text
  direct_where_all_wait faults lost text report =
      let texts : flat_map (release_text p) report.ordered ≡ flat_map (release_text p) (direct_releases p)
      = all_texts (release_text p) report.ordered (λ r i. same_text p r (all_covered report.ordered report.in_order r i)) ∙ ap (flat_map (release_text p)) (are_direct report.ordered report.in_order) in
      record {
        ordered = direct_releases p;
        in_order = as_they_stand;
        is = report.is ∙ ap (λ ys. ys ++ flat_map (fault_line p lost) faults ++ codes "end\n") texts;
      }

  -- and so is the one as JSON
  pub direct_json_where_all_wait : (faults : List Fault) (lost text : List ℕ) → IsJsonReport p faults releases lost text → IsJsonReport p faults (direct_releases p) lost text
  unfolding report_data
  direct_json_where_all_wait faults lost text report =
      let values : map (release_data p) report.ordered ≡ map (release_data p) (direct_releases p)
      = each_same (release_data p) report.ordered (λ r i. same_data p r (all_covered report.ordered report.in_order r i)) ∙ ap (map (release_data p)) (are_direct report.ordered report.in_order) in
      record {
        ordered = direct_releases p;
        in_order = as_they_stand;
        is = report.is ∙ ap (λ ds. compact_text (object_of ((codes "faults", list_of (map (fault_data p lost) faults)) ∷ (codes "releases", list_of ds) ∷ [])) ++ 10 ∷ []) values;
      }
