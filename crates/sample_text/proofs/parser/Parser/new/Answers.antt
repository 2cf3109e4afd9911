use Rattle.std.proofs.Common.{◌∙◌, length, sym, ap, subst, arith}
use Rattle.stat_plan.specs.Samples.{all_ranks}
use Rattle.stat_plan.specs.StackLines.{PathIndicesInRange}
use Rattle.sample_text.proofs.Sets.{all_ranks-empty_sets, length-empty_sets}
use Rattle.sample_text.proofs.parser.Parser.new.Goals as goal

pub returns-clause-consistent : goal.returns-clause-consistent
returns-clause-consistent c = record {
  paired = ap length c.in_ok-empty_sets.ensures ∙ length-empty_sets c.nodes.result ∙ c.nodes.ensures;
  placed = c.new.ensures ∙ all_ranks-empty_sets c.nodes.result ∙ ap all_ranks (sym c.in_ok-empty_sets.ensures);
  paths = c.new-2.ensures.holds;
  numbered = subst (PathIndicesInRange c.new-2.result.paths.items) (sym c.new-3.ensures) tt;
  no_more_than_lines = omega (arith, c.new-2.ensures.empty);
}
