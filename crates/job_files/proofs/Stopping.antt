-- From what one file gave to what all files gave, and to why the call stops.
use Rattle.std.proofs.Common.{◌≡◌, ◌≢◌, ◌<◌, ◌≤◌, inl, inr, ℕ, zero, suc, List, [], ◌∷◌, ◌++◌, Option, Ok, Err, length, refl, sym, ap, subst, ◌∙◌, arith, append-nil}
use Rattle.std.specs.Prelude.{Result, IfErr, IfOk, take}
use Rattle.std.proofs.lemmas.List.{append_assoc, length-append}
use Rattle.overlay_setup.specs.NodeSets.{In}
use Rattle.overlay_setup.specs.Scripts.{Scripted}
use Rattle.overlay_setup.specs.Topologies.{Nodes}
use Rattle.stat_desk.specs.Change.{Change}
use Rattle.stat_desk.specs.Desk.{Agrees, Bytes, DeskSeen, HasGiven, ReadResult, TooLong}
use Rattle.stat_desk.specs.Faults.{next_count}
use Rattle.stat_plan.specs.Plans.{Plan, Sampled, plan_of}
use Rattle.text_lines.specs.declared.text_error.TextError.{TextError}
use Rattle.text_lines.specs.declared.text_error.TextError.TheVariants.{Bad, Over, OutOfMemory as NoMemory}
use Rattle.topology_text.specs.Whole.{topology_of}
use Rattle.sample_text.specs.Whole.{samples_of_text}
use Rattle.script_text.specs.Whole.{script_of}
use Rattle.stat_words.specs.Words.{Names}
use Rattle.job_files.specs.Reading.{HasRead, IsBadText, IsPlanRefusal, IsPlanned, IsStopped, Prevents, Refuses, StopsAt, ReadsAs, WantsFile}
use Rattle.job_files.specs.Files.{NamedFile, limit_of, names_in, plan_files}
use Rattle.job_files.specs.NextStep.{AfterPlan, Answers, AreReadResults, Step, Wants, at_samples, at_script, by_samples, by_script, by_topology, plan_step, with_plan, too_long}
use Rattle.job_files.specs.Status.{refusal_of}
use Rattle.job_files.specs.declared.status.FileRole.{FileRole}
use Rattle.job_files.specs.declared.status.FileRole.TheVariants.{Topology, Samples, Script}
use Rattle.job_files.specs.declared.status.Status.{Status}
use Rattle.job_files.specs.declared.status.Status.TheVariants.{Done, BadWords, DeskFault, BadInput, OverLimit, SinkFault, OutOfMemory, BadJournal, Unfinished, BadFrames}

-- what follows from an error, and from a value
pub if_err : {A B : Type 0} (r : Result A B) (P Q : B → Type 0) → ((e : B) → P e → Q e) → IfErr r P → IfErr r Q
if_err (Ok x) P Q f h = tt
if_err (Err e) P Q f h = f e h

pub if_ok : {A B : Type 0} (r : Result A B) (P Q : A → Type 0) → ((x : A) → P x → Q x) → IfOk r P → IfOk r Q
if_ok (Ok x) P Q f h = f x h
if_ok (Err e) P Q f h = tt

-- a text that was refused
pub stops_refused : {A : Type 0} (read : List ℕ → Result A TextError) (role : FileRole) (name : List ℕ) (desk : Change DeskSeen) (error : TextError) (bytes text : List ℕ) (status : Status)
    → status ≡ refusal_of role error → HasGiven desk name (limit_of role) (Bytes bytes) → text ≡ bytes → (error ≢ NoMemory → read text ≡ Err error) → StopsAt read role name desk status
stops_refused read role name desk (Bad line reason) bytes text status is gave same says =
    inr (bytes, (gave, inr (Bad line reason, (ap read (sym same) ∙ says (λ e. cc), sym is))))
stops_refused read role name desk (Over line what most) bytes text status is gave same says =
    inr (bytes, (gave, inr (Over line what most, (ap read (sym same) ∙ says (λ e. cc), sym is))))
stops_refused read role name desk NoMemory bytes text status is gave same says = inr (bytes, (gave, inl is))

-- a text's error is the answer
error_prevents : (files : List NamedFile) (desk : Change DeskSeen) (next : Step) (role : FileRole) (error : TextError) → next ≡ Answers (refusal_of role error) → Prevents files desk next (refusal_of role error)
error_prevents files desk next role (Bad line reason) is = is
error_prevents files desk next role (Over line what most) is = is
error_prevents files desk next role NoMemory is = tt

-- ---- the reads so far

take_front : (n : ℕ) (xs ys : List ReadResult) → n ≤ length xs → take n (xs ++ ys) ≡ take n xs
take_front zero [] ys le = refl
take_front zero (x ∷ xs) ys le = refl
take_front (suc n) [] ys le = absurd (omega (arith, le))
take_front (suc n) (x ∷ xs) ys le = ap (λ (zs : List ReadResult). x ∷ zs) (take_front n xs ys (omega (arith, le)))

-- a desk that was this at first, and is that now
abbrev pub from : DeskSeen → DeskSeen → Change DeskSeen
from first now = record { before = first; now = now }

-- Files gave these results, each in its turn, and this file is the next to be read: what the desk is now, by what it was at
-- first. `I` is what the steps leave open.
pub record IsNext {I : Type 0} (next : I → List ReadResult → Step) (files : List NamedFile) (first now : DeskSeen) (role : FileRole) (name : List ℕ) (before : List ReadResult) : Type 0 where
  pub same_faults : now.faults ≡ first.faults
  pub same_contents : now.contents ≡ first.contents
  pub gave : now.gave ≡ first.gave ++ before
  pub asked : now.reads ≡ first.reads ++ take (length before) (names_in files)
  pub is_named : In (role, name) files
  pub is_next : take (suc (length before)) (names_in files) ≡ take (length before) (names_in files) ++ name ∷ []
  pub in_turn : (after : I) (i : ℕ) → i < suc (length before) → WantsFile files i (next after (take i before))
  pub wants : (after : I) → next after before ≡ Wants role
  pub contents : AreReadResults first.contents files before
  pub more : (g : ReadResult) → Agrees (first.contents name) (limit_of role) g → AreReadResults first.contents files (before ++ g ∷ [])

-- what the files gave is why the call stops, by each of these ways from what was read to a step
abbrev pub IsStoppedBy : {I : Type 0} → (I → List ReadResult → Step) → List NamedFile → Change DeskSeen → Status → Type 0
IsStoppedBy {I} next files desk status = (results : List ReadResult) × ((after : I) → HasRead files (next after) desk results × Prevents files desk (next after results) status)

module _ {I : Type 0} (next : I → List ReadResult → Step) (files : List NamedFile) (first mid now : DeskSeen) (role : FileRole) (name : List ℕ) (before : List ReadResult)
    (is : IsNext next files first mid role name before) where
  -- the file was not asked for
  read_no_more : now ≡ mid → (after : I) → HasRead files (next after) (from first now) before
  read_no_more same after = record {
    gave = ap (λ (d : DeskSeen). d.gave) same ∙ is.gave;
    contents = is.contents;
    count = length before;
    asked = ap (λ (d : DeskSeen). d.reads) same ∙ is.asked;
    each_gave = (omega (arith), omega (arith));
    in_turn = λ i lt. is.in_turn after i (omega (arith, lt));
  }

  pub all_asked : now.reads ≡ mid.reads ++ name ∷ [] → now.reads ≡ first.reads ++ take (suc (length before)) (names_in files)
  all_asked asked = asked ∙ ap (λ (names : List (List ℕ)). names ++ name ∷ []) is.asked ∙ append_assoc first.reads (take (length before) (names_in files)) (name ∷ [])
      ∙ ap (λ (names : List (List ℕ)). first.reads ++ names) (sym is.is_next)

  -- it was asked for, and gave nothing
  read_nothing : now.gave ≡ mid.gave → now.reads ≡ mid.reads ++ name ∷ [] → (after : I) → HasRead files (next after) (from first now) before
  read_nothing same asked after = record { gave = same ∙ is.gave; contents = is.contents; count = suc (length before); asked = all_asked asked; each_gave = (omega (arith), omega (arith)); in_turn = is.in_turn after }

  module _ (g : ReadResult) (given : HasGiven (from mid now) name (limit_of role) g) where
    pub given_faults : now.faults ≡ first.faults
    given_faults = ap (λ (d : DeskSeen). d.faults) given.noted ∙ is.same_faults

    pub given_contents : now.contents ≡ first.contents
    given_contents = ap (λ (d : DeskSeen). d.contents) given.noted ∙ is.same_contents

    pub all_given : now.gave ≡ first.gave ++ (before ++ g ∷ [])
    all_given = ap (λ (d : DeskSeen). d.gave) given.noted ∙ ap (λ (results : List ReadResult). results ++ g ∷ []) is.gave ∙ append_assoc first.gave before (g ∷ [])

    pub given_asked : now.reads ≡ first.reads ++ take (suc (length before)) (names_in files)
    given_asked = all_asked (ap (λ (d : DeskSeen). d.reads) given.noted)

    pub given_agrees : Agrees (first.contents name) (limit_of role) g
    given_agrees = subst (λ (t : List ℕ → Option (List ℕ)). Agrees (t name) (limit_of role) g) is.same_contents given.agrees

    -- it gave this
    pub read_one_more : (after : I) → HasRead files (next after) (from first now) (before ++ g ∷ [])
    read_one_more after = record {
      gave = all_given;
      contents = is.more g given_agrees;
      count = suc (length before);
      asked = given_asked;
      each_gave = (omega (arith, length-append before (g ∷ [])), omega (arith, length-append before (g ∷ [])));
      in_turn = λ i lt. let turn = is.in_turn after i lt in (turn.0, (turn.1.0, ap (next after) (take_front i before (g ∷ []) (omega (arith, lt))) ∙ turn.1.1));
    }

  module _ (long : (bytes : List ℕ) (after : I) → next after (before ++ TooLong bytes ∷ []) ≡ Answers (too_long role)) where
    -- the call stops where the file can't be read
    pub unread : (status : Status) → Refuses role name (from mid now) status → IsStoppedBy next files (from first now) status
    unread OutOfMemory (inl same) = (before, λ after. (read_no_more same after, tt))
    unread OutOfMemory (inr asked) = (before, λ after. (read_nothing (ap (λ (d : DeskSeen). d.gave) asked) (ap (λ (d : DeskSeen). d.reads) asked) after, tt))
    unread (DeskFault at) r = (
      before,
      λ after. (
        read_nothing (ap (λ (d : DeskSeen). d.gave) r.1) (ap (λ (d : DeskSeen). d.reads) r.1) after,
        (
          is.wants after ∙ ap Wants (sym r.0),
          record {
            name = name;
            is_named = subst (λ (q : FileRole). In (q, name) files) (sym r.0) is.is_named;
            counted = ap (λ (d : DeskSeen). d.faults) r.1 ∙ ap next_count is.same_faults;
            last = ap (λ (d : DeskSeen). d.last_fault) r.1;
          },
        ),
      ),
    )
    unread (OverLimit file line what most) r =
        (before ++ TooLong r.1.0 ∷ [], λ after. (read_one_more (TooLong r.1.0) r.1.1 after, long r.1.0 after ∙ ap Answers (sym r.0)))
    unread Done r = absurd r
    unread (BadWords fault) r = absurd r
    unread (BadInput file line reason) r = absurd r
    unread (SinkFault target) r = absurd r
    unread (BadJournal i) r = absurd r
    unread (Unfinished e) r = absurd r
    unread (BadFrames at reason) r = absurd r

    module _ {A : Type 0} (read : List ℕ → Result A TextError)
        (bad : (bytes : List ℕ) (e : TextError) → read bytes ≡ Err e → (after : I) → next after (before ++ Bytes bytes ∷ []) ≡ Answers (refusal_of role e)) where
      refused : (status : Status) (bytes : List ℕ) → HasGiven (from mid now) name (limit_of role) (Bytes bytes) → IsBadText read role bytes status → IsStoppedBy next files (from first now) status
      refused status bytes given (inl memory) = subst (IsStoppedBy next files (from first now)) (sym memory) (before ++ Bytes bytes ∷ [], λ after. (read_one_more (Bytes bytes) given after, tt))
      refused status bytes given (inr e) = subst (IsStoppedBy next files (from first now)) e.1.1
          (before ++ Bytes bytes ∷ [], λ after. (read_one_more (Bytes bytes) given after, error_prevents files (from first now) (next after (before ++ Bytes bytes ∷ [])) role e.0 (bad bytes e.0 e.1.0 after)))

      -- or where it has no value
      pub stops : (status : Status) → StopsAt read role name (from mid now) status → IsStoppedBy next files (from first now) status
      stops status (inl r) = unread status r
      stops status (inr r) = refused status r.0 r.1.0 r.1.1

-- ---- the three files

-- the ways to go on behind the files of a plan
abbrev by_plan : AfterPlan → List ReadResult → Step
by_plan after results = plan_step results after

topology_turn : (names : Names) (after : AfterPlan) (i : ℕ) → i < 1 → WantsFile (plan_files names) i (plan_step (take i []) after)
topology_turn names after zero lt = ((Topology, names.topology), (refl, refl))
topology_turn names after (suc i) lt = absurd (omega (arith, lt))

topology_next : (names : Names) (first : DeskSeen) → IsNext by_plan (plan_files names) first first Topology names.topology []
topology_next names first = record {
  same_faults = refl;
  same_contents = refl;
  gave = sym (append-nil first.gave);
  asked = sym (append-nil first.reads);
  is_named = inl refl;
  is_next = refl;
  in_turn = topology_turn names;
  wants = λ after. refl;
  contents = tt;
  more = λ g agrees. (agrees, tt);
}

-- where the topology was not read
pub stops_topology : (names : Names) (first now : DeskSeen) (status : Status) → StopsAt topology_of Topology names.topology (from first now) status → IsStopped (plan_files names) (from first now) status
stops_topology names first now status r =
    stops by_plan (plan_files names) first first now Topology names.topology [] (topology_next names first) (λ bytes after. refl)
    topology_of (λ bytes e is after. ap (λ o. by_topology o [] after) is) status r

module _ (names : Names) (first one : DeskSeen) (t : Nodes) (topology : ReadsAs (from first one) names.topology (limit_of Topology) topology_of t) where
  -- the steps from the samples on
  with_nodes : (rest : List ReadResult) (after : AfterPlan) → plan_step (Bytes topology.0 ∷ rest) after ≡ at_samples t rest after
  with_nodes rest after = ap (λ o. by_topology o rest after) topology.1.1

  samples_turn : (after : AfterPlan) (i : ℕ) → i < 2 → WantsFile (plan_files names) i (plan_step (take i (Bytes topology.0 ∷ [])) after)
  samples_turn after zero lt = ((Topology, names.topology), (refl, refl))
  samples_turn after (suc zero) lt = ((Samples, names.samples), (refl, with_nodes [] after))
  samples_turn after (suc (suc i)) lt = absurd (omega (arith, lt))

  samples_next : IsNext by_plan (plan_files names) first one Samples names.samples (Bytes topology.0 ∷ [])
  samples_next =
      let agrees = given_agrees by_plan (plan_files names) first first one Topology names.topology [] (topology_next names first) (Bytes topology.0) topology.1.0 in
      record {
        same_faults = given_faults by_plan (plan_files names) first first one Topology names.topology [] (topology_next names first) (Bytes topology.0) topology.1.0;
        same_contents = given_contents by_plan (plan_files names) first first one Topology names.topology [] (topology_next names first) (Bytes topology.0) topology.1.0;
        gave = all_given by_plan (plan_files names) first first one Topology names.topology [] (topology_next names first) (Bytes topology.0) topology.1.0;
        asked = given_asked by_plan (plan_files names) first first one Topology names.topology [] (topology_next names first) (Bytes topology.0) topology.1.0;
        is_named = inr (inl refl);
        is_next = refl;
        in_turn = samples_turn;
        wants = with_nodes [];
        contents = (agrees, tt);
        more = λ g more. (agrees, (more, tt));
      }

  -- where the samples were not read
  pub stops_samples : (now : DeskSeen) (status : Status) → StopsAt (samples_of_text t) Samples names.samples (from one now) status → IsStopped (plan_files names) (from first now) status
  stops_samples now status r =
      stops by_plan (plan_files names) first one now Samples names.samples (Bytes topology.0 ∷ []) samples_next (λ bytes. with_nodes (TooLong bytes ∷ []))
      (samples_of_text t) (λ bytes e is after. with_nodes (Bytes bytes ∷ []) after ∙ ap (λ o. by_samples t o [] after) is) status r

  module _ (two : DeskSeen) (s : Sampled) (samples : ReadsAs (from one two) names.samples (limit_of Samples) (samples_of_text t) s) where
    -- the steps from the script on
    with_samples : (rest : List ReadResult) (after : AfterPlan) → plan_step (Bytes topology.0 ∷ Bytes samples.0 ∷ rest) after ≡ at_script t s rest after
    with_samples rest after = with_nodes (Bytes samples.0 ∷ rest) after ∙ ap (λ o. by_samples t o rest after) samples.1.1

    script_turn : (after : AfterPlan) (i : ℕ) → i < 3 → WantsFile (plan_files names) i (plan_step (take i (Bytes topology.0 ∷ Bytes samples.0 ∷ [])) after)
    script_turn after zero lt = ((Topology, names.topology), (refl, refl))
    script_turn after (suc zero) lt = ((Samples, names.samples), (refl, with_nodes [] after))
    script_turn after (suc (suc zero)) lt = ((Script, names.script), (refl, with_samples [] after))
    script_turn after (suc (suc (suc i))) lt = absurd (omega (arith, lt))

    script_next : IsNext by_plan (plan_files names) first two Script names.script (Bytes topology.0 ∷ Bytes samples.0 ∷ [])
    script_next =
        let first_agrees = samples_next.contents.0 in
        let agrees = given_agrees by_plan (plan_files names) first one two Samples names.samples (Bytes topology.0 ∷ []) samples_next (Bytes samples.0) samples.1.0 in
        record {
          same_faults = given_faults by_plan (plan_files names) first one two Samples names.samples (Bytes topology.0 ∷ []) samples_next (Bytes samples.0) samples.1.0;
          same_contents = given_contents by_plan (plan_files names) first one two Samples names.samples (Bytes topology.0 ∷ []) samples_next (Bytes samples.0) samples.1.0;
          gave = all_given by_plan (plan_files names) first one two Samples names.samples (Bytes topology.0 ∷ []) samples_next (Bytes samples.0) samples.1.0;
          asked = given_asked by_plan (plan_files names) first one two Samples names.samples (Bytes topology.0 ∷ []) samples_next (Bytes samples.0) samples.1.0;
          is_named = inr (inr (inl refl));
          is_next = refl;
          in_turn = script_turn;
          wants = with_samples [];
          contents = (first_agrees, (agrees, tt));
          more = λ g more. (first_agrees, (agrees, (more, tt)));
        }

    -- where the script was not read
    pub stops_script : (now : DeskSeen) (status : Status) → StopsAt (script_of t) Script names.script (from two now) status → IsStopped (plan_files names) (from first now) status
    stops_script now status r =
        stops by_plan (plan_files names) first two now Script names.script (Bytes topology.0 ∷ Bytes samples.0 ∷ []) script_next (λ bytes. with_samples (TooLong bytes ∷ []))
        (script_of t) (λ bytes e is after. with_samples (Bytes bytes ∷ []) after ∙ ap (λ o. by_script t s o [] after) is) status r

    module _ (three : DeskSeen) (c : Scripted) (script : ReadsAs (from two three) names.script (limit_of Script) (script_of t) c) where
      -- what the three files gave
      abbrev all_results : List ReadResult
      all_results = Bytes topology.0 ∷ Bytes samples.0 ∷ Bytes script.0 ∷ []

      all_are_read : (after : AfterPlan) → HasRead (plan_files names) (by_plan after) (from first three) all_results
      all_are_read after = read_one_more by_plan (plan_files names) first two three Script names.script (Bytes topology.0 ∷ Bytes samples.0 ∷ []) script_next (Bytes script.0) script.1.0 after

      -- where they lead
      with_script : (rest : List ReadResult) (after : AfterPlan) → plan_step (Bytes topology.0 ∷ Bytes samples.0 ∷ Bytes script.0 ∷ rest) after ≡ with_plan (plan_of t s c) rest after
      with_script rest after = with_samples (Bytes script.0 ∷ rest) after ∙ ap (λ o. by_script t s o rest after) script.1.1

      -- why a good plan is not run is why the call stops
      pub stops_plan : (status : Status) → IsPlanRefusal (with_plan (plan_of t s c) []) status → IsStopped (plan_files names) (from first three) status
      stops_plan OutOfMemory r = (all_results, λ after. (all_are_read after, tt))
      stops_plan (OverLimit file line what most) r = (all_results, λ after. (all_are_read after, with_script [] after ∙ r after))
      stops_plan (DeskFault role) r = absurd r
      stops_plan (BadInput file line reason) r = absurd r
      stops_plan Done r = absurd r
      stops_plan (BadWords fault) r = absurd r
      stops_plan (SinkFault target) r = absurd r
      stops_plan (BadJournal i) r = absurd r
      stops_plan (Unfinished e) r = absurd r
      stops_plan (BadFrames at reason) r = absurd r

      plan_turn : (after : AfterPlan) (i : ℕ) → i < 3 → WantsFile (plan_files names) i (plan_step (take i all_results) after)
      plan_turn after zero lt = ((Topology, names.topology), (refl, refl))
      plan_turn after (suc zero) lt = ((Samples, names.samples), (refl, with_nodes [] after))
      plan_turn after (suc (suc zero)) lt = ((Script, names.script), (refl, with_samples [] after))
      plan_turn after (suc (suc (suc i))) lt = absurd (omega (arith, lt))

      -- the plan that is run
      pub planned : (plan : Plan) → ((rest : List ReadResult) (after : AfterPlan) → with_plan (plan_of t s c) rest after ≡ after plan rest) → IsPlanned names (from first three) plan
      planned plan is = record {
        topology = topology.0;
        samples = samples.0;
        script = script.0;
        same_faults = given_faults by_plan (plan_files names) first two three Script names.script (Bytes topology.0 ∷ Bytes samples.0 ∷ []) script_next (Bytes script.0) script.1.0;
        same_contents = given_contents by_plan (plan_files names) first two three Script names.script (Bytes topology.0 ∷ Bytes samples.0 ∷ []) script_next (Bytes script.0) script.1.0;
        gave = all_given by_plan (plan_files names) first two three Script names.script (Bytes topology.0 ∷ Bytes samples.0 ∷ []) script_next (Bytes script.0) script.1.0;
        asked = given_asked by_plan (plan_files names) first two three Script names.script (Bytes topology.0 ∷ Bytes samples.0 ∷ []) script_next (Bytes script.0) script.1.0;
        contents = script_next.more (Bytes script.0) (given_agrees by_plan (plan_files names) first two three Script names.script (Bytes topology.0 ∷ Bytes samples.0 ∷ []) script_next (Bytes script.0) script.1.0);
        in_turn = plan_turn;
        step = λ rest after. with_script rest after ∙ is rest after;
      }
