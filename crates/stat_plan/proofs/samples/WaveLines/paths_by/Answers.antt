use Rattle.std.proofs.Common.{sym, ap, ◌∙◌, map}
use Rattle.stat_plan.specs.Samples.{path_by}
use Rattle.stat_plan.proofs.WavePrefixes.{by_line}
use Rattle.stat_plan.proofs.samples.WaveLines.paths_by.Goals as goal

pub returns-in-Line : goal.returns-in-Line
returns-in-Line c = sym (ap (λ g. map (path_by g) c.args.self.now.paths.now) c.in-Line.is ∙ by_line c.args.self.now.paths.now)
