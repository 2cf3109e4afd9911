use Rattle.generated_job.proofs.Topology.{topology_is}
use Rattle.generated_job.proofs.Samples.{samples_is}
use Rattle.generated_job.proofs.Script.{script_is}
use Rattle.generated_job.proofs.laws.texts_are_read.Goals as goal

pub returns : goal.returns
returns c = record { topology = topology_is; samples = samples_is; script = script_is }
