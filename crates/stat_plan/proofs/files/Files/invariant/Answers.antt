use Rattle.stat_plan.proofs.files.Files.invariant.Goals as goal

pub returns : goal.returns
returns c = record {
  topology = c.invariant.ensures;
  samples = c.invariant-2.ensures;
  script = c.invariant-3.ensures;
  samples_fit = c.requires.samples;
  script_fits = c.requires.script;
}
