-- From a net that a journal leads to, and its report, to the output of a job.
use Rattle.std.proofs.Common.{◌≡◌, ℕ, false, List, [], ◌∷◌, Option, Some, None, take, refl, sym, ap, subst, ◌∙◌}
use Rattle.std.specs.Prelude.{slice_get}
use Rattle.std.specs.List.{AllByRecursion}
use Rattle.stat_plan.specs.Invariants.{IsPlan}
use Rattle.stat_plan.specs.Plans.{Plan}
use Rattle.overlay_event.specs.declared.event.Event.{Event}
use Rattle.overlay_core.specs.Machine.{State, start, is_enabled, enabled_events}
use Rattle.overlay_core.specs.Runs.{after, IsLegal, IsQuiet, IsWhole}
use Rattle.overlay_core.specs.TreeReleases.{AreNumberedInOrder, TreeRelease, bare_releases}
use Rattle.overlay_core.specs.Whole.{LosesNoDaemon}
use Rattle.tree_view.specs.Reading.{view_of}
use Rattle.tree_view.specs.Views.{TreeView}
use Rattle.front_end.specs.Report.{AllStreamsWait}
use Rattle.generated_job.specs.Job.{job_plan}
use Rattle.generated_job.specs.Summary.{HasTreeOfSamples, summary_of, summary_text}
use Rattle.generated_job.proofs.OfJournal.{is_of_journal}
use Rattle.overlay_core.proofs.Journals.{quiet_where_empty}
use Rattle.stat_plan.proofs.PlanFacts.{plan_facts}
use Rattle.overlay_core.specs.Pick.{picked}
use Rattle.overlay_core.proofs.Picks.{list_from_quiet, picked_is_whole}
use Rattle.overlay_node.specs.Outputs.{ReleaseFits}
use Rattle.overlay_net.specs.Nets.{NetView, IsReachedBy, state_of}
use Rattle.overlay_run.specs.Boards.{IsWholeRun}
use Rattle.journal_text.specs.Reading.{ReadJournal, journal_of}
use Rattle.journal_text.specs.Text.{journal_text}
use Rattle.journal_text.proofs.ReadBack.{read_back}
use Rattle.stat_plan.proofs.Elements.{all_from}
use Rattle.value_text.specs.Numbers.{Numbers}
use Rattle.rank_sums.specs.Folds.{fold_of}
use Rattle.rank_sums.specs.PartTrees.{SaysNumbersWithin}
use Rattle.rank_sums.specs.Sums.{AreMergedReleases, AreSums, IsMerged, IsPartPlan}
use Rattle.rank_sums.specs.declared.fold.Fold.{Fold}
use Rattle.front_end.specs.SumsReport.{SayNumbers, tree_value}
use Rattle.stat_words.specs.Words.{AskedView}
use Rattle.stat_words.specs.declared.words.ReportForm.{ReportForm}
use Rattle.stat_words.specs.declared.words.RunReport.{RunReport}
use Rattle.stat_words.specs.declared.words.RunReport.TheVariants.{Releases, Frames}
use Rattle.job_files.specs.Tasks.{RunOutput, ReplayTask}
use Rattle.stat_tool.specs.Call.{IsEventRefusal, IsJobRefusal}
use Rattle.job_files.specs.NextStep.{Answers, Does, by_bad_line, by_refused, first_refused, replay_step}
use Rattle.stat_tool.specs.Outputs.{HasRun, HasSummary, HasSums, HasView, IsReplay, IsReplayed}
use Rattle.stat_tool.specs.Reports.{AreReleased, EndsWaves, IsDirectIn, IsSumsReportIn, ViewsSamples, IsWrittenIn, IsWrittenOf}
use Rattle.stat_tool.proofs.Headline.{are_after, are_released, direct_where_waiting, ends_waves, one_report}
use Rattle.stat_tool.proofs.Forms.{sums_say}
use Rattle.stat_tool.proofs.JournalTexts.{accepted, legal_are_of, refused_at}
use Rattle.job_files.specs.declared.status.Status.{Status}
use Rattle.job_files.specs.declared.status.Status.TheVariants.{Done, BadWords, DeskFault, BadInput, OverLimit, SinkFault, OutOfMemory, BadJournal, Unfinished, BadFrames}

-- what a net has released are the releases after the journal that leads to it
released_of_net : (v : NetView) (p : Plan) (journal : List Event) (releases : List TreeRelease) → IsPlan p → v.plan ≡ p → IsReachedBy v journal → releases ≡ v.releases → AreReleased p journal releases
released_of_net v p journal releases plan same reached are =
    subst (AreReleased p journal) (sym are)
    (are_released p journal v.releases (record {
      plan = plan;
      legal = subst (λ (p : Plan). IsLegal p journal) same reached.legal;
      reached = ap (λ (st : State). st.releases) reached.state ∙ ap (λ (p : Plan). (after p journal).releases) same;
      numbered = reached.numbered;
      trees = subst (λ (p : Plan). AllByRecursion (ReleaseFits p) v.releases) same reached.trees;
    }))

-- what a net has released makes what is wanted of the journal that leads to it
written_of_net : (v : NetView) (p : Plan) (wanted : RunReport) (journal : List Event) (releases : List TreeRelease) (text : List ℕ) → IsPlan p → v.plan ≡ p → IsReachedBy v journal → releases ≡ v.releases
    → IsWrittenIn wanted p releases journal text → IsWrittenOf p wanted journal text
written_of_net v p (Releases form) journal releases text plan same reached are report =
    record { releases = releases; released = released_of_net v p journal releases plan same reached are; text = report }
written_of_net v p Frames journal releases text plan same reached are log = record { legal = subst (λ (p : Plan). IsLegal p journal) same reached.legal; frames = log }

-- so do the releases of a whole run
written_of_run : (p : Plan) (wanted : RunReport) (journal : List Event) (releases : List TreeRelease) (text : List ℕ) → IsPlan p → IsWholeRun p journal releases → IsWrittenIn wanted p releases journal text → IsWrittenOf p wanted journal text
written_of_run p (Releases form) journal releases text plan run report =
    record {
      releases = releases;
      released = are_released p journal releases (record { plan = plan; legal = run.whole.0; reached = run.released; numbered = run.numbered; trees = run.trees });
      text = report;
    }
written_of_run p Frames journal releases text plan run log = record { legal = run.whole.0; frames = log }

-- there is one text of what is wanted of a journal
one_text : (p : Plan) (wanted : RunReport) (journal : List Event) (text other : List ℕ) → IsWrittenOf p wanted journal text → IsWrittenOf p wanted journal other → text ≡ other
one_text p (Releases form) journal text other first second = one_report p form journal text other first second
one_text p Frames journal text other first second = first.frames ∙ sym second.frames

-- where every stream waits for all and no daemon is lost, a report is that of the direct merge
direct_in : (p : Plan) (wanted : RunReport) (journal : List Event) (text : List ℕ) → IsPlan p → IsWhole p journal → IsWrittenOf p wanted journal text → AllStreamsWait p → ((s : ℕ) → LosesNoDaemon p journal s) → IsDirectIn wanted p journal text
direct_in p (Releases form) journal text plan whole report waits none_lost = direct_where_waiting p form journal text plan whole report waits none_lost
direct_in p Frames journal text plan whole log waits none_lost = tt

-- where nothing is found first there is nothing
none_there : (es : List Event) → None ≡ slice_get es 0 → es ≡ []
none_there [] is = refl
none_there (f ∷ es) is = absurd (cc)

-- ---- replays

-- what may come first, where a journal that is a whole one ends
nothing_first : (p : Plan) (journal : List Event) → IsQuiet p (after p journal) → slice_get (enabled_events p (after p journal)) 0 ≡ None
nothing_first p journal quiet = ap (λ (es : List Event). slice_get es 0) (list_from_quiet p (after p journal) quiet)

-- a whole journal's text is replayed, and the same report comes of it
pub is_replayed : (p : Plan) (wanted : RunReport) (output : RunOutput) → IsPlan p → IsWhole p output.journal → output.journal_text ≡ journal_text p output.journal → IsWrittenOf p wanted output.journal output.report → IsReplayed p wanted output
is_replayed p wanted output plan whole written report =
    let back : journal_of p output.journal_text ≡ record { events = output.journal; bad = None }
    = ap (journal_of p) written ∙ read_back p plan output.journal (legal_are_of p output.journal plan whole.0) in
    record {
      read_back = back;
      accepted = ap (replay_step p wanted) back ∙ ap (by_refused p wanted (record { events = output.journal; bad = None })) (accepted p output.journal whole.0);
      same = λ replay is. (
        is.unfinished ∙ nothing_first p output.journal whole.1,
        one_text p wanted output.journal replay.report output.report is.report report,
      );
    }

-- the output of a replay that has come to the end of its journal
pub has_replay : (v : NetView) (p : Plan) (wanted : RunReport) (releases : List TreeRelease) (output : RunOutput) → IsPlan p → v.plan ≡ p → IsReachedBy v output.journal → output.unfinished ≡ slice_get (enabled_events v.plan (state_of v)) 0
    → releases ≡ v.releases → IsWrittenIn wanted p releases output.journal output.report → output.journal_text ≡ [] → IsReplay p output.journal wanted output
has_replay v p wanted releases output plan same reached first are report unwritten =
    let legal : IsLegal p output.journal = subst (λ (p : Plan). IsLegal p output.journal) same reached.legal in
    let next : output.unfinished ≡ slice_get (enabled_events p (after p output.journal)) 0
    = first ∙ ap (λ (st : State). slice_get (enabled_events v.plan st) 0) reached.state ∙ ap (λ (p : Plan). slice_get (enabled_events p (after p output.journal)) 0) same in
    record {
      plan = plan;
      journal = refl;
      report = written_of_net v p wanted output.journal releases output.report plan same reached are report;
      unfinished = next;
      ended = λ none. ends_waves p output.journal plan (legal, (quiet_where_empty p output.journal (plan_facts p plan) legal).1 (none_there (enabled_events p (after p output.journal)) (sym none ∙ next)));
      unwritten = unwritten;
    }

-- ---- runs

-- a net after which nothing is enabled has the releases of a whole run
pub net_has_run : (v : NetView) (p : Plan) (journal : List Event) (releases : List TreeRelease) → v.plan ≡ p → IsReachedBy v journal → IsQuiet p (after p journal) → releases ≡ v.releases → IsWholeRun p journal releases
net_has_run v p journal releases same reached quiet are = record {
  whole = (subst (λ (p : Plan). IsLegal p journal) same reached.legal, quiet);
  released = ap bare_releases are ∙ ap (λ (st : State). st.releases) reached.state ∙ ap (λ (p : Plan). (after p journal).releases) same;
  numbered = subst (λ (rs : List TreeRelease). AreNumberedInOrder [] rs) (sym are) reached.numbered;
  trees = subst (λ (rs : List TreeRelease). AllByRecursion (ReleaseFits p) rs) (sym are) (subst (λ (p : Plan). AllByRecursion (ReleaseFits p) v.releases) same reached.trees);
}

-- the output of a whole run
pub has_run : (p : Plan) (wanted : RunReport) (releases : List TreeRelease) (output : RunOutput) → IsPlan p → IsWholeRun p output.journal releases
    → IsWrittenIn wanted p releases output.journal output.report → output.journal_text ≡ journal_text p output.journal → output.unfinished ≡ None → HasRun p wanted output
has_run p wanted releases output plan run report written finished =
    let is : IsWrittenOf p wanted output.journal output.report = written_of_run p wanted output.journal releases output.report plan run report in
    record {
      plan = plan;
      report = is;
      ended = ends_waves p output.journal plan run.whole;
      finished = finished;
      written = written;
      replayed = is_replayed p wanted output plan run.whole written is;
      all_wait = direct_in p wanted output.journal output.report plan run.whole is;
    }

-- ---- what the code's answers cite

-- the first event of a replay that is refused
pub event_refused : (v : NetView) (p : Plan) (journal : List Event) (n : ℕ) (e : Event) → v.plan ≡ p → IsReachedBy v (take n journal) → slice_get journal n ≡ Some e → is_enabled v.plan (state_of v) e ≡ false → first_refused p (start p) journal ≡ Some n
event_refused v p journal n e same reached at not =
    refused_at p journal n e (subst (λ (p : Plan). IsLegal p (take n journal)) same reached.legal) at
    (subst (λ (p : Plan). is_enabled p (after p (take n journal)) e ≡ false) same (subst (λ (st : State). is_enabled v.plan st e ≡ false) reached.state not))

-- the journal that a seed picks leaves nothing enabled
pub picked_is_quiet : (q p : Plan) (seed : ℕ) (journal : List Event) → IsPlan p → q ≡ p → journal ≡ picked q seed → IsQuiet p (after p journal)
picked_is_quiet q p seed journal plan same is = subst (λ (es : List Event). IsQuiet p (after p es)) (sym (is ∙ ap (λ (p : Plan). picked p seed) same)) (picked_is_whole p seed (plan_facts p plan)).1

-- where a journal is read to its end and no event is refused, it is replayed
pub replay_accepted : (p : Plan) (wanted : RunReport) (read : ReadJournal) → first_refused p (start p) read.events ≡ None → read.bad ≡ None → replay_step p wanted read ≡ Does (ReplayTask p read.events wanted)
replay_accepted p wanted read accepted whole = ap (by_refused p wanted read) accepted ∙ ap (by_bad_line p wanted read.events) whole

-- at a bad line it isn't
pub replay_bad : (p : Plan) (wanted : RunReport) (read : ReadJournal) (i : ℕ) → first_refused p (start p) read.events ≡ None → read.bad ≡ Some i → replay_step p wanted read ≡ Answers (BadJournal i)
replay_bad p wanted read i accepted bad = ap (by_refused p wanted read) accepted ∙ ap (by_bad_line p wanted read.events) bad

-- the journal of a net is accepted
pub net_accepted : (v : NetView) (p : Plan) (journal : List Event) → v.plan ≡ p → IsReachedBy v journal → first_refused p (start p) journal ≡ None
net_accepted v p journal same reached = accepted p journal (subst (λ (p : Plan). IsLegal p journal) same reached.legal)

-- an event that is refused comes before a bad line
pub refusal_of_events : (p : Plan) (wanted : RunReport) (read : ReadJournal) (status : Status) → IsEventRefusal (first_refused p (start p) read.events) status → IsJobRefusal (replay_step p wanted read) status
refusal_of_events p wanted read OutOfMemory r = tt
refusal_of_events p wanted read (BadJournal i) r = ap (by_refused p wanted read) r
refusal_of_events p wanted read (OverLimit file line what most) r = absurd r
refusal_of_events p wanted read (DeskFault role) r = absurd r
refusal_of_events p wanted read (BadInput file line reason) r = absurd r
refusal_of_events p wanted read Done r = absurd r
refusal_of_events p wanted read (BadWords fault) r = absurd r
refusal_of_events p wanted read (SinkFault target) r = absurd r
refusal_of_events p wanted read (Unfinished e) r = absurd r
refusal_of_events p wanted read (BadFrames at reason) r = absurd r

-- where none is named there is none
pub no_bad_line : (bad : Option ℕ) → ((i : ℕ) → bad ≡ Some i → ⊥) → bad ≡ None
no_bad_line None other = refl
no_bad_line (Some i) other = absurd (other i refl)

-- a replay that has come to its end
pub replay_made : (p : Plan) (wanted : RunReport) (read : ReadJournal) (output : RunOutput) → first_refused p (start p) read.events ≡ None → read.bad ≡ None → output.journal ≡ read.events → IsReplay p read.events wanted output
    → (replay_step p wanted read ≡ Does (ReplayTask p output.journal wanted)) × IsReplay p output.journal wanted output
replay_made p wanted read output accepted whole same is = (
  replay_accepted p wanted read accepted whole ∙ ap (λ (es : List Event). Does (ReplayTask p es wanted)) (sym same),
  subst (λ (es : List Event). IsReplay p es wanted output) (sym same) is,
)

-- ---- views

-- the output of a view of a run whose events a seed has picked
pub has_view : (v : NetView) (q p : Plan) (seed : ℕ) (wanted : AskedView) (view : TreeView) (releases : List TreeRelease) (output : RunOutput) → view_of wanted.by wanted.argument ≡ Some view → IsPlan p → q ≡ p → v.plan ≡ q
    → output.journal ≡ picked q seed → IsReachedBy v output.journal → releases ≡ v.releases
    → ViewsSamples wanted view releases output.report
    → output.unfinished ≡ None → output.journal_text ≡ [] → HasView p seed wanted output
has_view v q p seed wanted view releases output is_view plan of_plan of_net picks reached given text finished unwritten =
    let released : AreReleased p output.journal releases = released_of_net v p output.journal releases plan (of_net ∙ of_plan) reached given in
    record {
      plan = plan;
      journal = picks ∙ ap (λ (p : Plan). picked p seed) of_plan;
      report = record { view = view; asked = is_view; releases = releases; released = released; text = text p plan released.direct };
      ended = ends_waves p output.journal plan (released.bare.legal, picked_is_quiet q p seed output.journal plan of_plan picks);
      finished = finished;
      unwritten = unwritten;
    }

-- ---- sums

-- the output of the sums of a run whose events a seed has picked, where the parts of the plan's daemons were sampled
pub has_sums : (v : NetView) (p parts : Plan) (n : Numbers) (f : Fold) (form : ReportForm) (seed : ℕ) (releases : List TreeRelease) (output : RunOutput) → IsPlan p → v.plan ≡ parts → picked parts seed ≡ picked p seed
    → output.journal ≡ picked parts seed → IsReachedBy v output.journal → releases ≡ v.releases → AreSums p n f output.journal releases
    → IsSumsReportIn form f (tree_value f) releases output.report
    → output.unfinished ≡ None → output.journal_text ≡ [] → HasSums p n seed f form output
has_sums v p parts n f form seed releases output plan of_net same picks reached given sums text finished unwritten =
    let journal : output.journal ≡ picked p seed = picks ∙ same in
    record {
      plan = plan;
      journal = journal;
      report = record {
        releases = releases;
        released = are_after p output.journal releases plan sums.legal sums.released (subst (AreNumberedInOrder []) (sym given) reached.numbered);
        text = sums_say form f (λ r. fold_of f n r.tree.coverage) releases output.report sums.values text;
      };
      ended = ends_waves p output.journal plan (sums.legal, picked_is_quiet p p seed output.journal plan refl journal);
      finished = finished;
      unwritten = unwritten;
    }

-- the releases of a net of parts are sums
pub net_sums : (v : NetView) (p parts : Plan) (n : Numbers) (f : Fold) (journal : List Event) (releases : List TreeRelease) → IsPartPlan p n f parts → v.plan ≡ parts → IsReachedBy v journal → releases ≡ v.releases
    → ((p parts : Plan) (n : Numbers) (f : Fold) (journal : List Event) (rs : List TreeRelease) → IsPartPlan p n f parts → AreMergedReleases parts journal rs → AreSums p n f journal rs)
    → AreSums p n f journal releases
net_sums v p parts n f journal releases of of_net reached given exact =
    exact p parts n f journal releases of record {
      legal = subst (λ (p : Plan). IsLegal p journal) of_net reached.legal;
      released = ap bare_releases given ∙ ap (λ (st : State). st.releases) reached.state ∙ ap (λ (p : Plan). (after p journal).releases) of_net;
      merged = subst (AllByRecursion (IsMerged parts)) (sym given) (subst (λ (p : Plan). AllByRecursion (IsMerged p) v.releases) of_net reached.trees);
    }

-- so their trees say numbers
pub sums_read : (p : Plan) (n : Numbers) (f : Fold) (journal : List Event) (releases : List TreeRelease) → AreSums p n f journal releases → SayNumbers f releases
sums_read p n f journal releases sums = all_from (λ (r : TreeRelease). SaysNumbersWithin f r.tree) releases sums.readable

-- ---- generated jobs

trees_of_samples : (p : Plan) (rs : List TreeRelease) → AllByRecursion (ReleaseFits p) rs → AllByRecursion (HasTreeOfSamples p) rs
trees_of_samples p [] fit = tt
trees_of_samples p (r ∷ rs) fit = (fit.0.tree, trees_of_samples p rs fit.1)

-- the summary of a generated job whose events its seed has picked
pub has_summary : (v : NetView) (q p : Plan) (size n seed : ℕ) (releases : List TreeRelease) (output : RunOutput) → n ≡ size → p ≡ job_plan seed n → IsPlan p → q ≡ p → v.plan ≡ q
    → output.journal ≡ picked q seed → IsReachedBy v output.journal → releases ≡ v.releases → output.report ≡ summary_text seed n output.journal releases → output.unfinished ≡ None → output.journal_text ≡ []
    → HasSummary size seed output
has_summary v q p size n seed releases output same_size is plan of_plan of_net picks reached given text finished unwritten =
    let job : Plan = job_plan seed n in
    let all : v.plan ≡ job = of_net ∙ of_plan ∙ is in
    let is_plan : IsPlan job = subst IsPlan is plan in
    let picked_by : output.journal ≡ picked job seed = picks ∙ ap (λ (p : Plan). picked p seed) (of_plan ∙ is) in
    let whole : IsWhole job output.journal = subst (λ (es : List Event). IsWhole job es) (sym picked_by) (picked_is_whole job seed (plan_facts job is_plan)) in
    let bare : bare_releases releases ≡ (after job output.journal).releases
    = ap bare_releases given ∙ ap (λ (st : State). st.releases) reached.state ∙ ap (λ (p : Plan). (after p output.journal).releases) all in
    let trees : AllByRecursion (HasTreeOfSamples job) releases
    = subst (λ (rs : List TreeRelease). AllByRecursion (HasTreeOfSamples job) rs) (sym given) (trees_of_samples job v.releases (subst (λ (p : Plan). AllByRecursion (ReleaseFits p) v.releases) all reached.trees)) in
    record {
      journal = picked_by ∙ ap (λ k. picked (job_plan seed k) seed) same_size;
      ended = subst (λ k. EndsWaves (job_plan seed k) output.journal) same_size (ends_waves job output.journal is_plan whole);
      report = text ∙ is_of_journal seed n output.journal releases bare trees ∙ ap (λ k. summary_of seed k output.journal) same_size;
      finished = finished;
      unwritten = unwritten;
    }
