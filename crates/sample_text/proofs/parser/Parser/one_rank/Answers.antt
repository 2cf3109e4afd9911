use Rattle.std.proofs.Common.{◌≡◌, ◌∙◌, sym, ap, subst, Ok, Err}
use Rattle.std.specs.Prelude.{OnOk}
use Rattle.rank_set.specs.Ranks.{none, union}
use Rattle.rank_set.specs.Runs.{ranks_between}
use Rattle.text_lines.specs.Parsing.{IsErrorOf}
use Rattle.sample_text.specs.ParserViews.{parser_view}
use Rattle.sample_text.specs.Steps.{if_room, with_sample}
use Rattle.sample_text.proofs.Room.{is_many, are_few}
use Rattle.sample_text.proofs.Steps.{no_room, room}
use Rattle.sample_text.proofs.parser.Parser.one_rank.Goals as goal

pub returns-then-is_full-clause-err : goal.returns-then-is_full-clause-err
returns-then-is_full-clause-err c = λ _.
    no_room (parser_view c.args.self.now) c.args.line_number (with_sample (parser_view c.args.self.now) c.args.line_number c.args.one.time (union none (ranks_between c.args.one.rank c.args.one.rank)) c.args.one.path.now)
    (is_many c.args.self.now.paths.paths.items c.args.self.now.lines (sym c.is_full.ensures ∙ c.if-is_full.true))
    ∙ ap Err (sym c.over.ensures)

-- the line is a sample of its rank
is_sample : (c : goal.After-sample_of_one) → if_room (parser_view c.args.self.now) c.args.line_number (with_sample (parser_view c.args.self.now) c.args.line_number c.args.one.time (union none (ranks_between c.args.one.rank c.args.one.rank)) c.args.one.path.now) ≡ with_sample (parser_view c.args.self.now) c.args.line_number c.args.one.time (union none (ranks_between c.args.one.rank c.args.one.rank)) c.args.one.path.now
is_sample c =
    room (parser_view c.args.self.now) c.args.line_number (with_sample (parser_view c.args.self.now) c.args.line_number c.args.one.time (union none (ranks_between c.args.one.rank c.args.one.rank)) c.args.one.path.now)
    (are_few c.args.self.now.paths.paths.items c.args.self.now.lines (sym c.is_full.ensures ∙ c.if-is_full.false))

pub returns-clause-ok : goal.returns-clause-ok
returns-clause-ok c = subst (λ r. OnOk c.sample_of_one.result (r ≡ Ok (parser_view c.sample_of_one.new.self))) (sym (is_sample c)) c.sample_of_one.ensures.ok

pub returns-clause-err : goal.returns-clause-err
returns-clause-err c = subst (λ r. IsErrorOf c.sample_of_one.result r) (sym (is_sample c)) c.sample_of_one.ensures.err
