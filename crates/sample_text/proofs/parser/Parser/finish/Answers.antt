use Rattle.std.proofs.Common.{◌∙◌, sym, ap, subst}
use Rattle.stat_plan.specs.Invariants.{SamplesFit}
use Rattle.stat_plan.specs.Plans.{sampled}
use Rattle.stat_plan.specs.StackLines.{lines_of}
use Rattle.sample_text.specs.ParserViews.{parser_view, parser_nodes}
use Rattle.sample_text.specs.Whole.{lacks_rank}
use Rattle.sample_text.proofs.InvariantLemmas.{fits}
use Rattle.sample_text.proofs.parser.Parser.finish.Goals as goal

pub returns-clause-fits : goal.returns-clause-fits
returns-clause-fits c =
    subst (SamplesFit (parser_nodes c.args.self))
    (sym (c.in_ok-new.ensures ∙ ap (λ ps. sampled c.args.self.placed.items (lines_of ps c.args.self.lines)) c.into_paths-paths.ensures))
    (fits (parser_nodes c.args.self) (parser_view c.args.self) c.requires.invariant (ap (lacks_rank (parser_nodes c.args.self).parents 0) (sym c.deref.ensures.value) ∙ sym c.lacks_rank.ensures ∙ c.if-lacks_rank.false))
