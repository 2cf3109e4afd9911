use Rattle.std.proofs.Common.{◌∙◌, [], ap, refl, sym}
use Rattle.sample_text.specs.ParserViews.{parser_nodes}
use Rattle.sample_text.specs.Whole.{nothing_parsed}
use Rattle.sample_text.proofs.Feeding.{parsed_nothing}
use Rattle.sample_text.proofs.feeder.Feeder.new.Goals as goal

pub returns-clause-read : goal.returns-clause-read
returns-clause-read c = record {
  whole = [];
  joined = sym c.new-2.ensures.items;
  parsed = parsed_nothing (parser_nodes c.in_ok-new.field-0) c.in_ok-new.field-0 c.in_ok-new.ensures.consistent refl (c.in_ok-new.ensures.view ∙ ap nothing_parsed (sym c.in_ok-new.ensures.nodes));
}
