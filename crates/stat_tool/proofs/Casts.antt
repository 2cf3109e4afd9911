-- From the net of a cast, after the events that a seed picks, to the output of the job.
use Rattle.std.proofs.Common.{◌≡◌, ℕ, List, [], None, ap, ◌∙◌}
use Rattle.stat_plan.specs.Invariants.{IsPlan}
use Rattle.stat_plan.specs.Plans.{Plan}
use Rattle.control_cast.specs.declared.event.CastEvent.{CastEvent}
use Rattle.control_cast.specs.Casts.{ObeysAll, ObeysInOrder}
use Rattle.control_cast.specs.Machine.{State, after, IsLegal, IsQuiet}
use Rattle.control_cast.specs.Picked.{picked}
use Rattle.cast_text.specs.CastText.{journal_text, report_text}
use Rattle.job_files.specs.Tasks.{RunOutput}
use Rattle.stat_tool.specs.Outputs.{HasCast}

-- the laws of the journal that a seed picks
pub record PickedLaws (p : Plan) (commands seed : ℕ) : Type 0 where
  pub legal : IsLegal p commands (picked p commands seed)
  pub quiet : IsQuiet p commands (after p (picked p commands seed))
  pub in_order : ObeysInOrder p (after p (picked p commands seed))
  pub all : ObeysAll p commands (after p (picked p commands seed))

-- the events are those of the plan, and of as many commands as were asked for
pub events_of : (p q : Plan) (commands k seed : ℕ) (events : List CastEvent) → q ≡ p → k ≡ commands → events ≡ picked q k seed → events ≡ picked p commands seed
events_of p q commands k seed events plan count is = is ∙ (λ i. picked (plan i) (count i) seed)

pub has_cast : (p q : Plan) (commands k seed : ℕ) (events : List CastEvent) (st : State) (output : RunOutput) → IsPlan p → q ≡ p → k ≡ commands → events ≡ picked q k seed → st ≡ after q events
    → output.report ≡ report_text q k st → output.journal_text ≡ journal_text p events → output.unfinished ≡ None → output.journal ≡ [] → PickedLaws p commands seed → HasCast p seed commands output
has_cast p q commands k seed events st output is_plan plan count is reached report written finished journal laws =
    let picks : events ≡ picked p commands seed = events_of p q commands k seed events plan count is in
    let state : st ≡ after p (picked p commands seed) = reached ∙ (λ i. after (plan i) (picks i)) in
    record {
      plan = is_plan;
      report = report ∙ (λ i. report_text (plan i) (count i) (state i));
      written = written ∙ ap (journal_text p) picks;
      legal = laws.legal;
      quiet = laws.quiet;
      in_order = laws.in_order;
      all = laws.all;
      finished = finished;
      journal = journal;
    }
