-- The plan of the generated job with a seed and a size, part by part.
use Rattle.std.specs.Prelude.{ℕ, ◌+◌, ◌*◌, ◌/◌, [], ◌∷◌, ◌++◌, map, None, Some}
use Rattle.std.specs.List.{range_with_len}
use Rattle.rank_set.specs.Ranks.{Ranks, none}
use Rattle.rank_set.specs.Runs.{ranks_between}
use Rattle.overlay_setup.specs.Scripts.{Scripted, scripted, stream}
use Rattle.overlay_setup.specs.Topologies.{Nodes, topology}
use Rattle.overlay_setup.specs.declared.script.Fault.{Fault}
use Rattle.overlay_setup.specs.declared.script.Grain.TheVariants.{Line}
use Rattle.overlay_setup.specs.declared.script.Mode.TheVariants.{WaitForAll, DontWait}
use Rattle.stat_plan.specs.Plans.{Plan, Sampled, plan_of, sampled}
use Rattle.stat_plan.specs.Samples.{SampleLine}
use Rattle.generated_job.specs.Texts.{numbers, front_name, middle_name, daemon_name, middle_count, sampled_path}

-- The nodes, where there are this many middle ones. The front end is node 0, middle node i is node 1 + i, and daemon j
-- is node 1 + count + j, under middle node j / 16.
abbrev pub nodes_with : ℕ → ℕ → Nodes
nodes_with size count =
    topology (front_name ∷ map middle_name (numbers count) ++ map daemon_name (numbers size))
    (None ∷ map (λ i. Some 0) (numbers count) ++ map (λ j. Some (1 + j / 16)) (numbers size))

-- the nodes
abbrev pub job_nodes : ℕ → Nodes
job_nodes size = nodes_with size (middle_count size)

-- the 64 ranks of daemon j
abbrev pub daemon_ranks : ℕ → Ranks
daemon_ranks j = ranks_between (64 * j) (64 * j + 63)

-- the sample of rank r at time t
abbrev pub sample_of : ℕ → ℕ → ℕ → SampleLine
sample_of seed t r = record { time = t; ranks = ranks_between r r; path = sampled_path seed t r }

-- The samples, where there are this many middle nodes. The front end and the middle nodes have no rank; each rank is
-- sampled at time 0, and then each at time 1.
abbrev pub samples_with : ℕ → ℕ → ℕ → Sampled
samples_with seed size count =
    sampled (map (λ i. none) (numbers (1 + count)) ++ map daemon_ranks (numbers size))
    (map (sample_of seed 0) (numbers (64 * size)) ++ map (sample_of seed 1) (numbers (64 * size)))

-- the samples
abbrev pub job_samples : ℕ → ℕ → Sampled
job_samples seed size = samples_with seed size (middle_count size)

-- the loss of middle node 2 * k + 1
abbrev pub loss : ℕ → Fault
loss k = record { node = 1 + (2 * k + 1); after = 20; keep = 1 }

-- The script, where there are this many middle nodes: a stream that waits and one that doesn't, each of all daemons,
-- and the loss of each middle node with an odd number.
abbrev pub script_with : ℕ → ℕ → Scripted
script_with size count =
    scripted
    (stream 0 WaitForAll 1 2 Line (range_with_len (1 + count) size)
    ∷ stream 1 DontWait 1 1 Line (range_with_len (1 + count) size) ∷ [])
    (map loss (numbers (count / 2)))

-- the script
abbrev pub job_script : ℕ → Scripted
job_script size = script_with size (middle_count size)

-- the plan
abbrev pub job_plan : ℕ → ℕ → Plan
job_plan seed size = plan_of (job_nodes size) (job_samples seed size) (job_script size)
