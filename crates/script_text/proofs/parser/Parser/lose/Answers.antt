use Rattle.std.proofs.Common.{◌∙◌, sym, ap, not, nat_lt}
use Rattle.std.specs.List.{insert, prefix_len}
use Rattle.text_lines.specs.Lines.{words}
use Rattle.overlay_setup.specs.declared.script.Fault.{Fault}
use Rattle.script_text.specs.ParserViews.{parser_view, lose_view}
use Rattle.script_text.specs.Words.{lose_words}
use Rattle.script_text.specs.Losses.{fault_of}
use Rattle.script_text.proofs.Placing.{placed}
use Rattle.script_text.proofs.WholeScript.{lose_one}
use Rattle.script_text.proofs.parser.Parser.lose.Goals as goal

pub returns-clause-ok : goal.returns-clause-ok
returns-clause-ok c =
    let f = c.in_ok-fault.fault in
    let faults = c.args.self.now.faults.items in
    lose_one c.args.self.now.topology.now (parser_view c.args.self.now) c.args.line_number (lose_words (words c.args.line.now)) (lose_view c.in-Some.words) f c.insert.new.self.items c.in-Some.ensures
    (ap (λ fs. fault_of c.args.self.now.topology.now fs c.args.line_number (lose_view c.in-Some.words)) (sym c.deref.ensures.value) ∙ c.in_ok-fault.ensures.ok)
    (c.in_ok-insert.ensures.items
    ∙ ap (λ n. insert faults n f) (c.faults_to-index.ensures.value ∙ ap (prefix_len (λ (g : Fault). not (nat_lt f.node g.node))) c.deref-2.ensures.value) ∙ placed (λ (g : Fault). g.node) f faults)
