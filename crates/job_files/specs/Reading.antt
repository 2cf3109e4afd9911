-- What was read of the files of a call, and why a call stops at one of them.
use Rattle.std.specs.Prelude.{◌≡◌, ◌⊎◌, ◌<◌, ◌≤◌, ◌+◌, length, ℕ, List, [], ◌∷◌, ◌++◌, take, slice_get, Some, Result, Ok, Err}
use Rattle.overlay_setup.specs.NodeSets.{In}
use Rattle.stat_desk.specs.Change.{Change}
use Rattle.stat_desk.specs.Desk.{Bytes, DeskSeen, HasGiven, HasNotRead, MayHaveAsked, ReadResult}
use Rattle.stat_desk.specs.Faults.{next_count}
use Rattle.stat_desk.specs.declared.desk.DeskError.TheVariants.{Failed, TooLong as IsTooLong}
use Rattle.stat_plan.specs.Plans.{Plan}
use Rattle.text_lines.specs.declared.text_error.TextError.{TextError}
use Rattle.stat_words.specs.Words.{Names}
use Rattle.job_files.specs.Files.{NamedFile, limit_of, names_in, plan_files}
use Rattle.job_files.specs.NextStep.{AfterPlan, Answers, AreReadResults, Step, Wants, plan_step, too_long}
use Rattle.job_files.specs.Status.{refusal_of}
use Rattle.job_files.specs.declared.status.FileRole.{FileRole}
use Rattle.job_files.specs.declared.status.Status.{Status}
use Rattle.job_files.specs.declared.status.Status.TheVariants.{DeskFault, BadInput, OverLimit, OutOfMemory, BadJournal, BadFrames}

-- this step reads the file of this number among these
abbrev pub WantsFile : List NamedFile → ℕ → Step → Type 0
WantsFile files i step = (f : NamedFile) × ((slice_get files i ≡ Some f) × (step ≡ Wants f.0))

-- Files were asked for in turn, from the first of these on: each where what the files before it gave leads to reading it. They
-- gave just these results, which are the files' contents, where these are known; the last one may have given nothing.
pub record HasRead (files : List NamedFile) (next : List ReadResult → Step) (desk : Change DeskSeen) (results : List ReadResult) : Type 0 where
  pub gave : desk.now.gave ≡ desk.before.gave ++ results
  pub contents : AreReadResults desk.before.contents files results
  pub count : ℕ
  pub asked : desk.now.reads ≡ desk.before.reads ++ take count (names_in files)
  pub each_gave : (length results ≤ count) × (count ≤ length results + 1)
  pub in_turn : (i : ℕ) → i < count → WantsFile files i (next (take i results))

-- the desk counted a fault at this file, and none before it
pub record FailsAt (files : List NamedFile) (desk : Change DeskSeen) (role : FileRole) : Type 0 where
  pub name : List ℕ
  pub is_named : In (role, name) files
  pub counted : desk.now.faults ≡ next_count desk.before.faults
  pub last : desk.now.last_fault ≡ Some name

-- Why a call stops before it writes: it is out of memory; the file that it reads next could not be read; or the files lead to
-- this very answer.
abbrev pub Prevents : List NamedFile → Change DeskSeen → Step → Status → Type 0
Prevents files desk next OutOfMemory = Unit {0}
Prevents files desk next (DeskFault role) = (next ≡ Wants role) × FailsAt files desk role
Prevents files desk next (BadInput file line reason) = next ≡ Answers (BadInput file line reason)
Prevents files desk next (OverLimit file line what most) = next ≡ Answers (OverLimit file line what most)
Prevents files desk next (BadJournal i) = next ≡ Answers (BadJournal i)
Prevents files desk next (BadFrames at reason) = next ≡ Answers (BadFrames at reason)
Prevents files desk next status = ⊥

-- ---- one file, and the three of a plan: no clause of the top call cites what follows

-- why one file could not be read
abbrev pub Refuses : FileRole → List ℕ → Change DeskSeen → Status → Type 0
Refuses role name desk OutOfMemory = MayHaveAsked desk name
Refuses role name desk (DeskFault r) = (r ≡ role) × HasNotRead desk name (limit_of role) Failed
Refuses role name desk (OverLimit file line what most) =
    (OverLimit file line what most ≡ too_long role) × HasNotRead desk name (limit_of role) IsTooLong
Refuses role name desk status = ⊥

-- the file of this name was read as this
abbrev pub ReadsAs : {A : Type 0} → Change DeskSeen → List ℕ → ℕ → (List ℕ → Result A TextError) → A → Type 0
ReadsAs desk name limit read x = (bytes : List ℕ) × (HasGiven desk name limit (Bytes bytes) × (read bytes ≡ Ok x))

-- why a text that was read has no value: memory ran out, or its first error makes this status
abbrev pub IsBadText : {A : Type 0} → (List ℕ → Result A TextError) → FileRole → List ℕ → Status → Type 0
IsBadText read role bytes status = (status ≡ OutOfMemory) ⊎ ((e : TextError) × ((read bytes ≡ Err e) × (refusal_of role e ≡ status)))

-- why a file gives no value: it could not be read, or its text has none
abbrev pub StopsAt : {A : Type 0} → (List ℕ → Result A TextError) → FileRole → List ℕ → Change DeskSeen → Status → Type 0
StopsAt read role name desk status = Refuses role name desk status
    ⊎ ((bytes : List ℕ) × (HasGiven desk name (limit_of role) (Bytes bytes) × IsBadText read role bytes status))

-- the files of a plan gave all their bytes, each in its turn, and these lead to this plan, whatever comes after it
pub record IsPlanned (names : Names) (desk : Change DeskSeen) (p : Plan) : Type 0 where
  pub topology : List ℕ
  pub samples : List ℕ
  pub script : List ℕ
  pub same_faults : desk.now.faults ≡ desk.before.faults
  pub same_contents : desk.now.contents ≡ desk.before.contents
  pub gave : desk.now.gave ≡ desk.before.gave ++ Bytes topology ∷ Bytes samples ∷ Bytes script ∷ []
  pub asked : desk.now.reads ≡ desk.before.reads ++ names_in (plan_files names)
  pub contents : AreReadResults desk.before.contents (plan_files names) (Bytes topology ∷ Bytes samples ∷ Bytes script ∷ [])
  pub in_turn : (after : AfterPlan) (i : ℕ) → i < 3
      → WantsFile (plan_files names) i (plan_step (take i (Bytes topology ∷ Bytes samples ∷ Bytes script ∷ [])) after)
  pub step : (rest : List ReadResult) (after : AfterPlan)
      → plan_step (Bytes topology ∷ Bytes samples ∷ Bytes script ∷ rest) after ≡ after p rest

-- what the files of a plan gave is why the call stops, whatever comes after a plan
abbrev pub IsStopped : List NamedFile → Change DeskSeen → Status → Type 0
IsStopped files desk status = (results : List ReadResult) × ((after : AfterPlan)
    → HasRead files (λ results. plan_step results after) desk results × Prevents files desk (plan_step results after) status)

-- why three good files give no plan: it passes the limit of prefixes, or memory is out
abbrev pub IsPlanRefusal : (AfterPlan → Step) → Status → Type 0
IsPlanRefusal next OutOfMemory = Unit {0}
IsPlanRefusal next (OverLimit file line what most) = (after : AfterPlan) → next after ≡ Answers (OverLimit file line what most)
IsPlanRefusal next status = ⊥
