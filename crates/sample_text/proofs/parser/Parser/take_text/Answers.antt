use Rattle.std.proofs.Common.{◌≡◌, sym, subst, Result, Ok, Err}
use Rattle.std.specs.Prelude.{OnOk}
use Rattle.text_lines.specs.Parsing.{IsErrorOf}
use Rattle.text_lines.specs.declared.text_error.TextError.{TextError}
use Rattle.sample_text.specs.ParserViews.{parser_nodes, parser_view}
use Rattle.sample_text.proofs.parser.Parser.take_text.Goals as goal

both : {A : Type 0} (r : Result A TextError) (P Q : Type 0) → OnOk r P → Q → OnOk r (P × Q)
both (Ok x) P Q p q = (p, q)
both (Err e) P Q p q = tt

pub returns-in-Some-clause-taken : goal.returns-in-Some-clause-taken
returns-in-Some-clause-taken c =
    both c.one_rank.result _ _
    (subst (λ r. OnOk c.one_rank.result (r ≡ Ok (parser_view c.one_rank.new.self)))
    (sym (c.in-Some.ensures.sample (parser_nodes c.args.self.now) (parser_view c.args.self.now) c.args.line_number)) c.one_rank.ensures.ok)
    c.one_rank.ensures.nodes

pub returns-in-Some-clause-refused : goal.returns-in-Some-clause-refused
returns-in-Some-clause-refused c =
    subst (λ r. IsErrorOf c.one_rank.result r)
    (sym (c.in-Some.ensures.sample (parser_nodes c.args.self.now) (parser_view c.args.self.now) c.args.line_number)) c.one_rank.ensures.err
