use Rattle.generated_job.proofs.Numbers.{node_count, rank_count, line_count}
use Rattle.generated_job.proofs.laws.plans_are_so_large.Goals as goal

pub returns : goal.returns
returns c = record { nodes = node_count; ranks = rank_count; lines = line_count }
