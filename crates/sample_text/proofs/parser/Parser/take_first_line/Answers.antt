use Rattle.std.proofs.Common.{◌∙◌, ◌<◌, ◌++◌, length, sym, ap, arith, Ok}
use Rattle.rank_set.specs.Ranks.{has}
use Rattle.text_lines.specs.Lines.{lines}
use Rattle.text_lines.specs.declared.text_error.TextError.TheVariants.{OutOfMemory}
use Rattle.text_lines.proofs.Errors.{handed_on}
use Rattle.sample_text.specs.ParserViews.{parser_nodes, parser_view, path_at}
use Rattle.sample_text.specs.Taking.{RefusesFirstLine}
use Rattle.sample_text.proofs.FirstLines.{some_line, path_some, first_line, first_sample, placed_sample, no_memory}
use Rattle.sample_text.proofs.LineWords.{some_left}
use Rattle.sample_text.proofs.Texts.{length-lines_of}
use Rattle.sample_text.proofs.parser.Parser.take_first_line.Goals as goal

pub returns-in_err-push_one_rank-clause-refused : goal.returns-in_err-push_one_rank-clause-refused
returns-in_err-push_one_rank-clause-refused c =
    handed_on c.from_residual.result OutOfMemory (λ e. RefusesFirstLine c.args.self.now c.args.line_number c.args.text.now e) c.from_residual.ensures
    (no_memory c.args.self.now c.args.line_number c.args.text.now c.requires.not_empty)

pub returns-in-Some-cut_same_path-clause-taken : goal.returns-in-Some-cut_same_path-clause-taken
returns-in-Some-cut_same_path-clause-taken c =
    let old = c.args.self.now in
    let start = c.in-Some.start in
    let begins = c.in-Some.ensures.sample in
    let path = c.in-Some-cut_same_path.ensures.path in
    let some = path_some path.line (path_at old.paths c.in-Some-cut_same_path.path) path.read in
    let later = lines c.in-Some-cut_same_path.after.now in
    let all = length-lines_of old.paths.paths.items old.lines in
    let few : length (parser_view old).lines < 262144 = omega (arith, all, c.in-Some-cut_same_path.ensures.room) in
    record {
      line = begins.start ++ path.line;
      first = first_line c.args.text.now start.rest.now start.time start.rank begins path.line later some path.first;
      taken = (
        first_sample c.args.text.now start.rest.now start.time start.rank begins path.line later some path.first (parser_nodes old) (parser_view old) c.args.line_number
            ∙ placed_sample (parser_view old) c.args.line_number start.time start.rank path.line (path_at old.paths c.in-Some-cut_same_path.path) few (ap (λ all. has all start.rank) (sym c.requires.ready.placed) ∙ c.in-Some-cut_same_path.ensures.placed) path.read
            ∙ ap Ok (sym c.in_ok-push_one_rank.ensures.ok),
        c.push_one_rank.ensures.nodes,
      );
    }

pub returns-in_err-one_rank-clause-refused : goal.returns-in_err-one_rank-clause-refused
returns-in_err-one_rank-clause-refused c =
    let old = c.args.self.now in
    let start = c.in-Some.start in
    let begins = c.in-Some.ensures.sample in
    let path = c.in-Some-next_text_line.path.now in
    let later = lines c.in-Some-next_text_line.after.now in
    let some = some_left path (sym c.is_empty.ensures ∙ c.if-not-is_empty.true) in
    handed_on c.from_residual-in_err-one_rank.result c.in_err-one_rank.field-0.0 (λ e. RefusesFirstLine old c.args.line_number c.args.text.now e) c.from_residual-in_err-one_rank.ensures
    (record {
      line = begins.start ++ path;
      later = later;
      first = first_line c.args.text.now start.rest.now start.time start.rank begins path later some c.in-Some-next_text_line.ensures.lines;
      refused = λ memory.
          first_sample c.args.text.now start.rest.now start.time start.rank begins path later some c.in-Some-next_text_line.ensures.lines (parser_nodes old) (parser_view old) c.args.line_number
          ∙ c.in_err-one_rank.ensures.err memory;
    })

pub returns-then-not-is_empty-clause-taken : goal.returns-then-not-is_empty-clause-taken
returns-then-not-is_empty-clause-taken c =
    let old = c.args.self.now in
    let start = c.in-Some.start in
    let begins = c.in-Some.ensures.sample in
    let path = c.in-Some-next_text_line.path.now in
    let later = lines c.in-Some-next_text_line.after.now in
    let some = some_left path (sym c.is_empty.ensures ∙ c.if-not-is_empty.true) in
    record {
      line = begins.start ++ path;
      first = first_line c.args.text.now start.rest.now start.time start.rank begins path later some c.in-Some-next_text_line.ensures.lines;
      taken = (
        first_sample c.args.text.now start.rest.now start.time start.rank begins path later some c.in-Some-next_text_line.ensures.lines (parser_nodes old) (parser_view old) c.args.line_number
            ∙ c.in_ok-one_rank.ensures.ok,
        c.one_rank.ensures.nodes,
      );
    }

pub unreachable-requires : goal.unreachable-requires
unreachable-requires c = some_line c.args.text.now c.requires.not_empty c.in_default-next_text_line-2.ensures.lines
