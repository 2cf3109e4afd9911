-- The three files of a job, as they are read.
use Rattle.overlay_setup.specs.Scripts.{ScriptFits}
use Rattle.stat_plan.specs.Invariants.{SamplesFit}
use Rattle.stat_plan.specs.Plans.{Plan, plan_of}
use Rattle.stat_plan.specs.declared.files.Files.{Files}

-- the plan of what the files say
abbrev pub plan_in : Files → Plan
plan_in files = plan_of files.topology.now files.samples.now files.script.now

-- the samples and the script fit the nodes
pub record DoFit (files : Files) : Type 0 where
  pub samples : SamplesFit files.topology.now files.samples.now
  pub script : ScriptFits files.topology.now files.script.now
