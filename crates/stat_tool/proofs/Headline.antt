-- How a run ends, and what its report says.
use Rattle.std.proofs.Common.{◌≡◌, ◌≢◌, inl, ◌==◌, ◌&&◌, ℕ, Bool, false, List, [], ◌∷◌, map, refl, sym, ap, subst, ◌∙◌, eqb-true}
use Rattle.std.specs.List.{AllByRecursion}
use Rattle.std.proofs.lemmas.Bool.{and_parts}
use Rattle.rank_set.specs.Ranks.{Ranks, none}
use Rattle.prefix_tree.specs.Tree.{tree_of}
use Rattle.equiv_class.proofs.SamePairs.{classes_of_tree}
use Rattle.overlay_setup.specs.NodeSets.{In}
use Rattle.overlay_setup.specs.declared.script.Fault.{Fault}
use Rattle.stat_plan.specs.Invariants.{IsPlan}
use Rattle.stat_plan.specs.Plans.{Plan, daemons, front, samples, waves_of}
use Rattle.overlay_event.specs.declared.event.Event.{Event}
use Rattle.merge_filter.proofs.WaveSamples.{samples_have_paths}
use Rattle.overlay_core.specs.History.{of_wave, ByKind, IsHistory, MissesOnlyLost}
use Rattle.overlay_core.specs.declared.release.Kind.{Kind}
use Rattle.overlay_core.specs.declared.release.Kind.TheVariants.{Partial, Final}
use Rattle.stat_plan.specs.Machine.Waves.{Wave, is_open}
use Rattle.overlay_core.specs.Nodes.{Release}
use Rattle.overlay_core.specs.Runs.{IsLegal, IsWhole, after}
use Rattle.overlay_core.specs.TreeReleases.{AreNumberedInOrder, TreeRelease, bare_releases, numbers_after}
use Rattle.overlay_core.specs.Whole.{EndsFinally, LosesNoDaemon}
use Rattle.overlay_core.proofs.Ended.{all_of_stream, whole_has_ended, waits_for_all}
use Rattle.overlay_core.proofs.Whole.{legal_is_sound}
use Rattle.stat_plan.proofs.PlanFacts.{plan_facts}
use Rattle.stat_plan.proofs.InLists.{append_right, in_from_filter}
use Rattle.overlay_core.proofs.Releases.{legal_log}
use Rattle.overlay_node.specs.Outputs.{ReleaseFits}
use Rattle.front_end.specs.Report.{AllStreamsWait, AreReleasesOf, IsDirect}
use Rattle.wide_merge.specs.Waves.{direct_releases}
use Rattle.front_end.proofs.Direct.{direct_where_all_wait, direct_json_where_all_wait}
use Rattle.front_end.proofs.Orders.{reports_same, json_reports_same}
use Rattle.stat_words.specs.declared.words.ReportForm.{ReportForm}
use Rattle.stat_words.specs.declared.words.ReportForm.TheVariants.{Text, Json}
use Rattle.stat_tool.specs.Reports.{AreAfter, AreReleased, CoveragesGrow, EndsWaves, EndsWithAll, IsReportIn, IsReportOf, losses_of}

-- ---- each wave ends with all ranks of its stream

ends_with_all : (p : Plan) (journal : List Event) → IsPlan p → IsWhole p journal → (s w : ℕ) → In (s, w) (waves_of p.streams) → LosesNoDaemon p journal s → EndsWithAll p s (of_wave s w (after p journal).releases)
ends_with_all p journal plan whole s w wave none_lost =
    let ended : EndsFinally p journal s (of_wave s w (after p journal).releases) = (whole_has_ended p journal (plan_facts p plan) whole).final s w wave in
    let among : In ended.final (of_wave s w (after p journal).releases) = subst (λ (rs : List Release). In ended.final rs) (sym ended.all) (append_right ended.final ended.before (ended.final ∷ []) (inl refl)) in
    let found = in_from_filter (λ (r : Release). (r.stream == s) && (r.wave == w)) ended.final (after p journal).releases among in
    let own : ended.final.stream ≡ s = eqb-true ended.final.stream s (and_parts (ended.final.stream == s) (ended.final.wave == w) found.1).0 in
    let sound = legal_log p journal (plan_facts p plan) whole.0 ended.final found.0 in
    record {
      before = ended.before;
      last = ended.final;
      all = ended.all;
      partial = ended.partial;
      final = ended.kind;
      covers = all_of_stream p s ended.final.covered
          (λ r has. let from = sound.whole r has in (from.daemon, subst (λ (s : ℕ). In from.daemon (daemons p s)) own from.place.listed, from.holds))
          (λ d there. ended.covers d there (none_lost d there));
    }

-- ---- each release is of the samples

all_direct : (p : Plan) → IsPlan p → (releases : List TreeRelease) → AllByRecursion (ReleaseFits p) releases → AllByRecursion (IsDirect p) releases
all_direct p is [] fit = tt
all_direct p is (r ∷ rs) fit = (
  record { tree = fit.0.tree; classes = classes_of_tree (samples p r.stream r.wave) r.tree.coverage r.tree (samples_have_paths p is r.stream r.wave) fit.0.tree },
  all_direct p is rs fit.1,
)

-- ---- coverages grow

final_is_not_partial : Final ≡ Partial → ⊥
final_is_not_partial e = absurd (subst (λ (k : Kind). ByKind k ⊥ (Unit {0})) e tt)

coverages_grow : (p : Plan) (alive : ℕ → Bool) (s : ℕ) (last : Ranks) (rs : List Release) (v : Wave) → IsHistory p alive s last rs v → CoveragesGrow last rs
coverages_grow p alive s last [] v h = tt
coverages_grow p alive s last (r ∷ rs) v h = by r.kind refl h.1 (λ more. coverages_grow p alive s r.covered rs v more)
  where
    by : (k : Kind) → r.kind ≡ k → ByKind k ((last ≢ r.covered) × IsHistory p alive s r.covered rs v) (MissesOnlyLost p alive s r.covered r.lost × (rs ≡ []) × (is_open v ≡ false)) → (IsHistory p alive s r.covered rs v → CoveragesGrow r.covered rs) → CoveragesGrow last (r ∷ rs)
    by Partial is more rest = (h.0, (λ _. more.0), rest more.1)
    by Final is more rest = (h.0, (λ e. absurd (final_is_not_partial (sym is ∙ e))), subst (λ (qs : List Release). CoveragesGrow r.covered qs) (sym more.1) tt)

-- ---- the report of a journal

-- what is known of the releases of a net that a journal leads to
pub record ReleaseFacts (p : Plan) (journal : List Event) (releases : List TreeRelease) : Type 0 where
  pub plan : IsPlan p
  pub legal : IsLegal p journal
  pub reached : bare_releases releases ≡ (after p journal).releases
  pub numbered : AreNumberedInOrder [] releases
  pub trees : AllByRecursion (ReleaseFits p) releases

-- so they are the releases after the journal
pub are_after : (p : Plan) (journal : List Event) (releases : List TreeRelease) → IsPlan p → IsLegal p journal → bare_releases releases ≡ (after p journal).releases → AreNumberedInOrder [] releases → AreAfter p journal releases
are_after p journal releases is legal reached numbered =
    let plan = plan_facts p is in
    record {
      legal = legal;
      reached = reached;
      numbered = numbered;
      sound = λ r there. legal_log p journal plan legal r (subst (λ (rs : List Release). In r rs) reached there);
      grow = λ s w. subst (λ (rs : List Release). CoveragesGrow none (of_wave s w rs)) (sym reached)
          (coverages_grow p (after p journal).alive s none (of_wave s w (after p journal).releases) (((after p journal).node (front p)).book s w) ((legal_is_sound p journal plan legal).history.releases s w));
    }

-- with their trees
pub are_released : (p : Plan) (journal : List Event) (releases : List TreeRelease) → ReleaseFacts p journal releases → AreReleased p journal releases
are_released p journal releases facts = record {
  bare = are_after p journal releases facts.plan facts.legal facts.reached facts.numbered;
  direct = all_direct p facts.plan releases facts.trees;
}

-- a whole journal ends each wave
pub ends_waves : (p : Plan) (journal : List Event) → IsPlan p → IsWhole p journal → EndsWaves p journal
ends_waves p journal plan whole =
    let facts = plan_facts p plan in
    record {
      whole = whole;
      waves = (whole_has_ended p journal facts whole).final;
      whole_waves = λ s w wave none_lost. ends_with_all p journal plan whole s w wave none_lost;
      once = λ s w wave waits none_lost. waits_for_all p journal s w facts whole waits none_lost wave;
    }

-- ---- there is one report of a journal

abbrev first_or : TreeRelease → List TreeRelease → TreeRelease
first_or r [] = r
first_or r (q ∷ qs) = q

abbrev rest_of : {X : Type 0} → List X → List X
rest_of [] = []
rest_of (x ∷ xs) = xs

abbrev first_bare : Release → List Release → Release
first_bare r [] = r
first_bare r (q ∷ qs) = q

abbrev first_number : ℕ → List ℕ → ℕ
first_number n [] = n
first_number n (m ∷ ms) = m

-- the machine's releases and the numbers say all of releases that are direct merges
one_release_list : (p : Plan) (rs qs : List TreeRelease) → bare_releases rs ≡ bare_releases qs → map (λ (r : TreeRelease). r.number) rs ≡ map (λ (r : TreeRelease). r.number) qs
    → AllByRecursion (IsDirect p) rs → AllByRecursion (IsDirect p) qs → rs ≡ qs
one_release_list p [] [] bare numbers direct direct' = refl
one_release_list p [] (q ∷ qs) bare numbers direct direct' = absurd (cc)
one_release_list p (r ∷ rs) [] bare numbers direct direct' = absurd (cc)
one_release_list p (r ∷ rs) (q ∷ qs) bare numbers direct direct' =
    let blank : Release = record { stream = r.stream; wave = r.wave; covered = r.tree.coverage; kind = r.kind; lost = r.lost } in
    let same = ap (first_bare blank) bare in
    let stream : r.stream ≡ q.stream = ap (λ (x : Release). x.stream) same in
    let wave : r.wave ≡ q.wave = ap (λ (x : Release). x.wave) same in
    let covered : r.tree.coverage ≡ q.tree.coverage = ap (λ (x : Release). x.covered) same in
    let kind : r.kind ≡ q.kind = ap (λ (x : Release). x.kind) same in
    let lost : r.lost ≡ q.lost = ap (λ (x : Release). x.lost) same in
    let number : r.number ≡ q.number = ap (first_number 0) numbers in
    let tree : r.tree ≡ q.tree = direct.0.tree ∙ (λ i. tree_of (samples p (stream i) (wave i)) (covered i)) ∙ sym direct'.0.tree in
    let rest : rs ≡ qs = one_release_list p rs qs (ap rest_of bare) (ap rest_of numbers) direct.1 direct'.1 in
    λ i. record { stream = stream i; wave = wave i; number = number i; kind = kind i; tree = tree i; lost = lost i } ∷ rest i

-- in either form there is one report of the same releases
same_in : (form : ReportForm) (p : Plan) (faults : List Fault) (releases : List TreeRelease) (lost text other : List ℕ) → IsReportIn form p faults releases lost text → IsReportIn form p faults releases lost other → text ≡ other
same_in Text p faults releases lost text other first second = reports_same p faults releases lost text other first second
same_in Json p faults releases lost text other first second = json_reports_same p faults releases lost text other first second

pub one_report : (p : Plan) (form : ReportForm) (journal : List Event) (text other : List ℕ) → IsReportOf p form journal text → IsReportOf p form journal other → text ≡ other
one_report p form journal text other first second =
    let bare : bare_releases first.releases ≡ bare_releases second.releases = first.released.bare.reached ∙ sym second.released.bare.reached in
    let numbers : map (λ (r : TreeRelease). r.number) first.releases ≡ map (λ (r : TreeRelease). r.number) second.releases
    = first.released.bare.numbered ∙ ap (numbers_after []) bare ∙ sym second.released.bare.numbered in
    let same : first.releases ≡ second.releases = one_release_list p first.releases second.releases bare numbers first.released.direct second.released.direct in
    same_in form p p.faults second.releases (losses_of journal) text other
    (subst (λ (rs : List TreeRelease). IsReportIn form p p.faults rs (losses_of journal) text) same first.text) second.text

-- ---- the report where all streams wait

waits_in : (form : ReportForm) (p : Plan) (journal : List Event) (releases : List TreeRelease) (lost text : List ℕ) → IsPlan p → AllStreamsWait p → ((s : ℕ) → LosesNoDaemon p journal s) → AreReleasesOf p journal releases
    → IsReportIn form p p.faults releases lost text → IsReportIn form p p.faults (direct_releases p) lost text
waits_in Text p journal releases lost text plan waits none_lost run report = direct_where_all_wait p journal releases plan waits none_lost run p.faults lost text report
waits_in Json p journal releases lost text plan waits none_lost run report = direct_json_where_all_wait p journal releases plan waits none_lost run p.faults lost text report

-- where every stream waits for all and no daemon is lost, it is that of the direct releases
pub direct_where_waiting : (p : Plan) (form : ReportForm) (journal : List Event) (text : List ℕ) → IsPlan p → IsWhole p journal → IsReportOf p form journal text → AllStreamsWait p → ((s : ℕ) → LosesNoDaemon p journal s)
    → IsReportIn form p p.faults (direct_releases p) (losses_of journal) text
direct_where_waiting p form journal text plan whole report waits none_lost =
    waits_in form p journal report.releases (losses_of journal) text plan waits none_lost
    (record { whole = whole; reached = report.released.bare.reached; numbered = report.released.bare.numbered; direct = report.released.direct }) report.text
