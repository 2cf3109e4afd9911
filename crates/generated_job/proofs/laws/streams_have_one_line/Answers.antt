use Rattle.generated_job.proofs.OneLine.{streams_have_one}
use Rattle.generated_job.proofs.laws.streams_have_one_line.Goals as goal

pub returns : goal.returns
returns c = λ seed n s below plan journal releases released whole. streams_have_one seed n s journal releases below plan whole released
