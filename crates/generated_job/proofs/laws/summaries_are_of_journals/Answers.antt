use Rattle.generated_job.proofs.OfJournal.{is_of_journal}
use Rattle.generated_job.proofs.laws.summaries_are_of_journals.Goals as goal

pub returns : goal.returns
returns c = is_of_journal
