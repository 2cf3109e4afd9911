-- From a plan and the output of its job to what the files of a mode lead to.
use Rattle.std.proofs.Common.{◌≡◌, ◌<◌, ◌≤◌, inl, inr, ℕ, zero, suc, List, [], ◌∷◌, ◌++◌, Option, Err, length, refl, sym, ap, subst, ◌∙◌, arith, append-nil}
use Rattle.std.specs.Prelude.{Result, Some, slice_get, take}
use Rattle.stat_plan.specs.Plans.{Plan}
use Rattle.stat_plan.proofs.InLists.{append_left}
use Rattle.overlay_event.specs.declared.event.Event.{Event}
use Rattle.capture_text.specs.Captures.{capture_of}
use Rattle.journal_text.specs.Reading.{ReadJournal}
use Rattle.value_text.specs.Numbers.{Numbers}
use Rattle.stat_words.specs.Words.{AskedSums, Names}
use Rattle.stat_words.specs.Words.{Replay, Sums, Frames}
use Rattle.stat_words.specs.declared.words.RunReport.{RunReport}
use Rattle.stat_desk.specs.Change.{Change}
use Rattle.stat_desk.specs.Desk.{Bytes, DeskSeen, HasGiven, ReadResult, TooLong}
use Rattle.stat_tool.specs.Call.{HasJournal, HasNoJournal, IsCaptureRefusal, IsJobRefusal, IsWhyItStops, LeadsTo, Prepared, Prevented}
use Rattle.job_files.specs.Reading.{HasRead, IsPlanned, IsStopped, Prevents, Refuses, StopsAt, ReadsAs, WantsFile}
use Rattle.job_files.specs.Files.{NamedFile, limit_of, names_in, plan_files}
use Rattle.job_files.specs.Tasks.{Task, ReplayTask, SumsTask, CaptureTask, RunOutput}
use Rattle.job_files.specs.NextStep.{AfterPlan, Answers, AreReadResults, Does, Step, Wants, at_capture, at_journal, at_values, by_capture, by_values, plan_step, replay_step, too_long, values_of}
use Rattle.stat_tool.specs.Outputs.{HasOutput}
use Rattle.job_files.specs.Status.{refusal_of}
use Rattle.text_lines.specs.declared.text_error.TextError.{TextError}
use Rattle.job_files.proofs.Stopping.{IsNext, from, given_asked, read_one_more, stops, unread}
use Rattle.job_files.specs.declared.status.FileRole.{FileRole}
use Rattle.job_files.specs.declared.status.FileRole.TheVariants.{Journal, Capture, Values}
use Rattle.job_files.specs.declared.status.Status.{Status}
use Rattle.job_files.specs.declared.status.Status.TheVariants.{Done, BadWords, DeskFault, BadInput, OverLimit, SinkFault, OutOfMemory, BadJournal, Unfinished, BadFrames}

-- a call that stops at one of the files stops where there are more
prevents_less : (files more : List NamedFile) (desk : Change DeskSeen) (next : Step) (status : Status) → Prevents files desk next status → Prevents (files ++ more) desk next status
prevents_less files more desk next OutOfMemory r = tt
prevents_less files more desk next (DeskFault role) r = (r.0, record { name = r.1.name; is_named = append_left (role, r.1.name) files more r.1.is_named; counted = r.1.counted; last = r.1.last })
prevents_less files more desk next (BadInput file line reason) r = r
prevents_less files more desk next (OverLimit file line what most) r = r
prevents_less files more desk next (BadJournal i) r = r
prevents_less files more desk next (BadFrames at reason) r = r
prevents_less files more desk next Done r = absurd r
prevents_less files more desk next (BadWords fault) r = absurd r
prevents_less files more desk next (SinkFault target) r = absurd r
prevents_less files more desk next (Unfinished e) r = absurd r

-- what the files gave, where there are more
read_less : (contents : List ℕ → Option (List ℕ)) (files more : List NamedFile) (results : List ReadResult) → AreReadResults contents files results → AreReadResults contents (files ++ more) results
read_less contents files more [] read = tt
read_less contents [] more (g ∷ gs) read = absurd read
read_less contents (f ∷ files) more (g ∷ gs) read = (read.0, read_less contents files more gs read.1)

no_more_than_files : (contents : List ℕ → Option (List ℕ)) (files : List NamedFile) (results : List ReadResult) → AreReadResults contents files results → length results ≤ length (names_in files)
no_more_than_files contents files [] read = omega (arith)
no_more_than_files contents [] (g ∷ gs) read = absurd read
no_more_than_files contents (f ∷ files) (g ∷ gs) read = omega (arith, no_more_than_files contents files gs read.1)

not_more : (k m : ℕ) (n l : ℕ) → ((k : ℕ) → k ≤ n → k ≤ l → k ≤ m) → k ≤ suc n → k ≤ suc l → k ≤ suc m
not_more zero m n l all below within = omega (arith)
not_more (suc k) m n l all below within = omega (arith, all k (omega (arith, below)) (omega (arith, within)))

-- the first of some names are the first of more
take_less : (n : ℕ) (names more : List (List ℕ)) → (m : ℕ) × ((m ≤ n) × ((take n names ≡ take m (names ++ more)) × ((k : ℕ) → k ≤ n → k ≤ length names → k ≤ m)))
take_less zero [] [] = (0, (omega (arith), (refl, λ k below within. below)))
take_less zero [] (x ∷ more) = (0, (omega (arith), (refl, λ k below within. below)))
take_less zero (name ∷ names) more = (0, (omega (arith), (refl, λ k below within. below)))
take_less (suc n) [] [] = (0, (omega (arith), (refl, λ k below within. within)))
take_less (suc n) [] (x ∷ more) = (0, (omega (arith), (refl, λ k below within. within)))
take_less (suc n) (name ∷ names) more =
    let less = take_less n names more in (
      suc less.0,
      (omega (arith, less.1.0), (ap (λ (all : List (List ℕ)). name ∷ all) less.1.1.0, λ k below within. not_more k less.0 n (length names) less.1.1.1 below within)),
    )

-- a file among some files, where there are more
get_left : (files more : List NamedFile) (i : ℕ) (f : NamedFile) → slice_get files i ≡ Some f → slice_get (files ++ more) i ≡ Some f
get_left [] more zero f is = absurd (cc)
get_left [] more (suc i) f is = absurd (cc)
get_left (g ∷ files) more zero f is = is
get_left (g ∷ files) more (suc i) f is = get_left files more i f is

-- ---- where there is no plan, whatever the mode

-- of a mode that reads the files of a plan alone
pub task_stops : (names : Names) (task : Plan → Task) (desk : Change DeskSeen) (status : Status) → IsStopped (plan_files names) desk status
    → IsWhyItStops (plan_files names) (λ results. plan_step results (λ p rest. Does (task p))) desk status
task_stops names task desk status s = (s.0, s.1 (λ p rest. Does (task p)))

-- of a mode that reads one file more
abbrev pub files_and : Names → FileRole → List ℕ → List NamedFile
files_and names role name = plan_files names ++ (role, name) ∷ []

-- what the files gave is why the call stops
abbrev pub StopsLast : Names → FileRole → List ℕ → AfterPlan → Change DeskSeen → Status → Type 0
StopsLast names role name after = IsWhyItStops (files_and names role name) (λ results. plan_step results after)

pub last_stops : (names : Names) (role : FileRole) (name : List ℕ) (after : AfterPlan) (desk : Change DeskSeen) (status : Status) → IsStopped (plan_files names) desk status → StopsLast names role name after desk status
last_stops names role name after desk status s =
    let read = (s.1 after).0 in
    let less = take_less read.count (names_in (plan_files names)) (name ∷ []) in (
      s.0,
      (
        record {
          gave = read.gave;
          contents = read_less desk.before.contents (plan_files names) ((role, name) ∷ []) s.0 read.contents;
          count = less.0;
          asked = read.asked ∙ ap (λ (all : List (List ℕ)). desk.before.reads ++ all) less.1.1.0;
          each_gave = (
            less.1.1.1 (length s.0) read.each_gave.0 (no_more_than_files desk.before.contents (plan_files names) s.0 read.contents),
            omega (arith, less.1.0, read.each_gave.1),
          );
          in_turn = λ i lt. let turn = read.in_turn i (omega (arith, lt, less.1.0)) in (turn.0, (get_left (plan_files names) ((role, name) ∷ []) i turn.0 turn.1.0, turn.1.1));
        },
        prevents_less (plan_files names) ((role, name) ∷ []) desk (plan_step s.0 after) status (s.1 after).1,
      ),
    )

-- ---- where there is one

step_at : (names : Names) (desk : Change DeskSeen) (p : Plan) (planned : IsPlanned names desk p) (after : AfterPlan)
    → plan_step (Bytes planned.topology ∷ Bytes planned.samples ∷ Bytes planned.script ∷ []) after ≡ after p []
step_at names desk p planned after = planned.step [] after

-- the files of a plan, where no more is read
pub all_read : (names : Names) (after : AfterPlan) (desk : Change DeskSeen) (p : Plan) (planned : IsPlanned names desk p)
    → HasRead (plan_files names) (λ results. plan_step results after) desk (Bytes planned.topology ∷ Bytes planned.samples ∷ Bytes planned.script ∷ [])
all_read names after desk p planned = record { gave = planned.gave; contents = planned.contents; count = 3; asked = planned.asked; each_gave = (omega (arith), omega (arith)); in_turn = planned.in_turn after }

-- of a mode that reads the files of a plan alone
pub task_prepared : (names : Names) (task : Plan → Task) (desk : Change DeskSeen) (p : Plan) (output : RunOutput) → IsPlanned names desk p → HasOutput (task p) output
    → LeadsTo (plan_files names) (λ results. plan_step results (λ p rest. Does (task p))) desk output
task_prepared names task desk p output planned has = record {
  results = Bytes planned.topology ∷ Bytes planned.samples ∷ Bytes planned.script ∷ [];
  read = all_read names (λ p rest. Does (task p)) desk p planned;
  all_read = planned.asked;
  task = task p;
  step = step_at names desk p planned (λ p rest. Does (task p));
  is_output = has;
}

-- the same, where memory runs out then
pub task_no_memory : (names : Names) (task : Plan → Task) (desk : Change DeskSeen) (p : Plan) → IsPlanned names desk p
    → IsWhyItStops (plan_files names) (λ results. plan_step results (λ p rest. Does (task p))) desk OutOfMemory
task_no_memory names task desk p planned = (Bytes planned.topology ∷ Bytes planned.samples ∷ Bytes planned.script ∷ [], (all_read names (λ p rest. Does (task p)) desk p planned, tt))

-- ---- the file behind those of a plan

module _ (names : Names) (role : FileRole) (name : List ℕ) (after : AfterPlan) (wants : (p : Plan) → after p [] ≡ Wants role) (long : (p : Plan) (bytes : List ℕ) → after p (TooLong bytes ∷ []) ≡ Answers (too_long role))
    (first mid now : DeskSeen) (p : Plan) (planned : IsPlanned names (from first mid) p) where
  abbrev steps : Unit {0} → List ReadResult → Step
  steps i results = plan_step results after

  abbrev before : List ReadResult
  before = Bytes planned.topology ∷ Bytes planned.samples ∷ Bytes planned.script ∷ []

  last_turn : (i : Unit {0}) (n : ℕ) → n < 4 → WantsFile (files_and names role name) n (plan_step (take n before) after)
  last_turn i zero lt = planned.in_turn after 0 (omega (arith))
  last_turn i (suc zero) lt = planned.in_turn after 1 (omega (arith))
  last_turn i (suc (suc zero)) lt = planned.in_turn after 2 (omega (arith))
  last_turn i (suc (suc (suc zero))) lt = ((role, name), (refl, planned.step [] after ∙ wants p))
  last_turn i (suc (suc (suc (suc n)))) lt = absurd (omega (arith, lt))

  last_next : IsNext steps (files_and names role name) first mid role name before
  last_next = record {
    same_faults = planned.same_faults;
    same_contents = planned.same_contents;
    gave = planned.gave;
    asked = planned.asked;
    is_named = inr (inr (inr (inl refl)));
    is_next = refl;
    in_turn = last_turn;
    wants = λ i. planned.step [] after ∙ wants p;
    contents = (planned.contents.0, (planned.contents.1.0, (planned.contents.1.1.0, tt)));
    more = λ g more. (planned.contents.0, (planned.contents.1.0, (planned.contents.1.1.0, (more, tt))));
  }

  -- where it was not read
  pub last_unread : (status : Status) → Refuses role name (from mid now) status → StopsLast names role name after (from first now) status
  last_unread status r =
      let s = unread steps (files_and names role name) first mid now role name before last_next (λ bytes i. planned.step (TooLong bytes ∷ []) after ∙ long p bytes) status r in
      (s.0, s.1 tt)

  -- where it was read
  pub last_read : (bytes : List ℕ) → HasGiven (from mid now) name (limit_of role) (Bytes bytes)
      → HasRead (files_and names role name) (λ results. plan_step results after) (from first now) (Bytes planned.topology ∷ Bytes planned.samples ∷ Bytes planned.script ∷ Bytes bytes ∷ [])
  last_read bytes given = read_one_more steps (files_and names role name) first mid now role name before last_next (Bytes bytes) given tt

  -- where its text has an error
  pub last_refused : {A : Type 0} (read_as : List ℕ → Result A TextError) → ((bytes : List ℕ) (e : TextError) → read_as bytes ≡ Err e → after p (Bytes bytes ∷ []) ≡ Answers (refusal_of role e))
      → (status : Status) → StopsAt read_as role name (from mid now) status → StopsLast names role name after (from first now) status
  last_refused read_as bad status r =
      let s = stops steps (files_and names role name) first mid now role name before last_next (λ bytes i. planned.step (TooLong bytes ∷ []) after ∙ long p bytes)
      read_as (λ bytes e is i. planned.step (Bytes bytes ∷ []) after ∙ bad bytes e is) status r in
      (s.0, s.1 tt)

  -- memory ran out behind it
  pub last_no_memory : (bytes : List ℕ) → HasGiven (from mid now) name (limit_of role) (Bytes bytes) → StopsLast names role name after (from first now) OutOfMemory
  last_no_memory bytes given = (before ++ Bytes bytes ∷ [], (last_read bytes given, tt))

  -- the job that it leads to
  pub last_prepared : (bytes : List ℕ) (task : Task) (output : RunOutput) → HasGiven (from mid now) name (limit_of role) (Bytes bytes) → after p (Bytes bytes ∷ []) ≡ Does task → HasOutput task output
      → LeadsTo (files_and names role name) (λ results. plan_step results after) (from first now) output
  last_prepared bytes task output given leads has = record {
    results = before ++ Bytes bytes ∷ [];
    read = last_read bytes given;
    all_read = given_asked steps (files_and names role name) first mid now role name before last_next (Bytes bytes) given;
    task = task;
    step = planned.step (Bytes bytes ∷ []) after ∙ leads;
    is_output = has;
  }

-- ---- the journal

module _ (names : Names) (journal : List ℕ) (wanted : RunReport) (first mid now : DeskSeen) (p : Plan) (planned : IsPlanned names (from first mid) p) where
  -- where the journal was not read
  pub journal_stops : (status : Status) → HasNoJournal (from mid now) journal status → Prevented (Replay names journal wanted) (from first now) status
  journal_stops status (inl r) = last_unread names Journal journal (at_journal wanted) (λ p. refl) (λ p bytes. refl) first mid now p planned status r
  journal_stops status (inr r) = subst (Prevented (Replay names journal wanted) (from first now)) (sym r.0)
      (last_no_memory names Journal journal (at_journal wanted) (λ p. refl) (λ p bytes. refl) first mid now p planned r.1.0 r.1.1)

  module _ (events_read : ReadJournal) (has : HasJournal (from mid now) journal p events_read) where
    pub replay_prepared : (events : List Event) (output : RunOutput) → replay_step p wanted events_read ≡ Does (ReplayTask p events wanted) → HasOutput (ReplayTask p events wanted) output → Prepared (Replay names journal wanted) (from first now) output
    replay_prepared events output leads is =
        last_prepared names Journal journal (at_journal wanted) (λ p. refl) (λ p bytes. refl) first mid now p planned has.0 (ReplayTask p events wanted) output has.1.0 (ap (replay_step p wanted) has.1.1 ∙ leads) is

    -- why it is not replayed to its end
    pub replay_refused : (status : Status) → IsJobRefusal (replay_step p wanted events_read) status → Prevented (Replay names journal wanted) (from first now) status
    replay_refused OutOfMemory r = last_no_memory names Journal journal (at_journal wanted) (λ p. refl) (λ p bytes. refl) first mid now p planned has.0 has.1.0
    replay_refused (BadJournal i) r = (
      Bytes planned.topology ∷ Bytes planned.samples ∷ Bytes planned.script ∷ Bytes has.0 ∷ [],
      (
        last_read names Journal journal (at_journal wanted) (λ p. refl) (λ p bytes. refl) first mid now p planned has.0 has.1.0,
        planned.step (Bytes has.0 ∷ []) (at_journal wanted) ∙ ap (replay_step p wanted) has.1.1 ∙ r,
      ),
    )
    replay_refused (OverLimit file line what most) r = absurd r
    replay_refused (DeskFault role) r = absurd r
    replay_refused (BadInput file line reason) r = absurd r
    replay_refused Done r = absurd r
    replay_refused (BadWords fault) r = absurd r
    replay_refused (SinkFault target) r = absurd r
    replay_refused (Unfinished e) r = absurd r
    replay_refused (BadFrames at reason) r = absurd r

-- ---- the numbers of the ranks

module _ (names : Names) (seed : ℕ) (wanted : AskedSums) (first mid now : DeskSeen) (p : Plan) (planned : IsPlanned names (from first mid) p) where
  -- where they were not read, or have an error
  pub values_stop : (status : Status) → StopsAt (values_of p) Values wanted.values (from mid now) status → Prevented (Sums names seed wanted) (from first now) status
  values_stop status r =
      last_refused names Values wanted.values (at_values seed wanted) (λ p. refl) (λ p bytes. refl) first mid now p planned (values_of p) (λ bytes e is. ap (by_values p seed wanted) is) status r

  module _ (v : Numbers) (has : ReadsAs (from mid now) wanted.values (limit_of Values) (values_of p) v) where
    pub sums_prepared : (output : RunOutput) → HasOutput (SumsTask p v seed wanted.fold wanted.form) output → Prepared (Sums names seed wanted) (from first now) output
    sums_prepared output is =
        last_prepared names Values wanted.values (at_values seed wanted) (λ p. refl) (λ p bytes. refl) first mid now p planned has.0 (SumsTask p v seed wanted.fold wanted.form) output has.1.0 (ap (by_values p seed wanted) has.1.1) is

    pub sums_no_memory : Prevented (Sums names seed wanted) (from first now) OutOfMemory
    sums_no_memory = last_no_memory names Values wanted.values (at_values seed wanted) (λ p. refl) (λ p bytes. refl) first mid now p planned has.0 has.1.0

-- ---- the capture

module _ (capture : List ℕ) (first now : DeskSeen) where
  abbrev captures : Unit {0} → List ReadResult → Step
  captures i = at_capture

  capture_turn : (i : Unit {0}) (n : ℕ) → n < 1 → WantsFile ((Capture, capture) ∷ []) n (at_capture (take n []))
  capture_turn i zero lt = ((Capture, capture), (refl, refl))
  capture_turn i (suc n) lt = absurd (omega (arith, lt))

  capture_next : IsNext captures ((Capture, capture) ∷ []) first first Capture capture []
  capture_next = record {
    same_faults = refl;
    same_contents = refl;
    gave = sym (append-nil first.gave);
    asked = sym (append-nil first.reads);
    is_named = inl refl;
    is_next = refl;
    in_turn = capture_turn;
    wants = λ i. refl;
    contents = tt;
    more = λ g agrees. (agrees, tt);
  }

  -- where it was not read
  pub capture_stops : (status : Status) → Refuses Capture capture (from first now) status → Prevented (Frames capture) (from first now) status
  capture_stops status r =
      let s = unread captures ((Capture, capture) ∷ []) first first now Capture capture [] capture_next (λ bytes i. refl) status r in
      (s.0, s.1 tt)

  module _ (bytes : List ℕ) (given : HasGiven (from first now) capture (limit_of Capture) (Bytes bytes)) where
    capture_read : HasRead ((Capture, capture) ∷ []) at_capture (from first now) (Bytes bytes ∷ [])
    capture_read = read_one_more captures ((Capture, capture) ∷ []) first first now Capture capture [] capture_next (Bytes bytes) given tt

    pub capture_prepared : (output : RunOutput) → by_capture bytes (capture_of bytes) ≡ Does (CaptureTask bytes) → HasOutput (CaptureTask bytes) output → Prepared (Frames capture) (from first now) output
    capture_prepared output leads is = record {
      results = Bytes bytes ∷ [];
      read = capture_read;
      all_read = given_asked captures ((Capture, capture) ∷ []) first first now Capture capture [] capture_next (Bytes bytes) given;
      task = CaptureTask bytes;
      step = leads;
      is_output = is;
    }

    -- why it is not printed
    pub capture_refused : (status : Status) → IsCaptureRefusal (by_capture bytes (capture_of bytes)) status → Prevented (Frames capture) (from first now) status
    capture_refused OutOfMemory r = (Bytes bytes ∷ [], (capture_read, tt))
    capture_refused (BadFrames at reason) r = (Bytes bytes ∷ [], (capture_read, r))
    capture_refused (BadJournal i) r = absurd r
    capture_refused (OverLimit file line what most) r = absurd r
    capture_refused (DeskFault role) r = absurd r
    capture_refused (BadInput file line reason) r = absurd r
    capture_refused Done r = absurd r
    capture_refused (BadWords fault) r = absurd r
    capture_refused (SinkFault target) r = absurd r
    capture_refused (Unfinished e) r = absurd r

-- ---- no file

-- a desk that was not asked for anything
pub not_asked : (next : List ReadResult → Step) (first : DeskSeen) → HasRead [] next (from first first) []
not_asked next first = record { gave = sym (append-nil first.gave); contents = tt; count = 0; asked = sym (append-nil first.reads); each_gave = (omega (arith), omega (arith)); in_turn = λ i lt. absurd (omega (arith, lt)) }
