use Rattle.std.proofs.Common.{◌≡◌, ◌≢◌, ◌∙◌, ◌≤◌, ◌+◌, ◌++◌, ◌∷◌, [], length, length-append, sym, ap, subst, Ok, Err, arith}
use Rattle.rank_set.specs.Ranks.{has}
use Rattle.stat_plan.specs.LineLists.{one_rank}
use Rattle.stat_plan.specs.Samples.{all_ranks}
use Rattle.sample_text.proofs.FirstLines.{one_is_not_subset, one_is_subset}
use Rattle.stat_plan.specs.Plans.{sampled}
use Rattle.stat_plan.specs.StackLines.{line_of, lines_of, PathIndicesInRange}
use Rattle.stat_plan.specs.declared.samples.StackLine.{StackLine}
use Rattle.text_lines.specs.declared.text_error.TextError.TheVariants.{OutOfMemory}
use Rattle.sample_text.specs.ParserViews.{parser_view, path_at}
use Rattle.sample_text.specs.Steps.{with_sample}
use Rattle.sample_text.proofs.Texts.{same_lines, lines_more, numbered_more}
use Rattle.text_lines.proofs.Errors.{handed_on}
use Rattle.sample_text.proofs.Steps.{sample_unplaced, sample_bad_path, sample_good}
use Rattle.sample_text.proofs.parser.Parser.sample_of_one.Goals as goal

pub returns-then-not-contains-clause-err : goal.returns-then-not-contains-clause-err
returns-then-not-contains-clause-err c = λ _.
    sample_unplaced (parser_view c.args.self.now) c.args.line_number c.args.time (one_rank c.args.rank) c.args.text.now
    (one_is_not_subset (all_ranks c.args.self.now.placed.items) c.args.rank (ap (λ all. has all c.args.rank) (sym c.requires.ready.placed) ∙ sym c.contains.ensures ∙ c.if-not-contains.true))
    ∙ ap Err (sym c.bad.ensures)

pub returns-in_err-path-clause-err : goal.returns-in_err-path-clause-err
returns-in_err-path-clause-err c =
    handed_on c.from_residual.result c.in_err-path.field-0.0 (λ e. e ≢ OutOfMemory → with_sample (parser_view c.args.self.now) c.args.line_number c.args.time (one_rank c.args.rank) c.args.text.now ≡ Err e) c.from_residual.ensures
    (λ memory. sample_bad_path (parser_view c.args.self.now) c.args.line_number c.args.time (one_rank c.args.rank) c.args.text.now
    (one_is_subset (all_ranks c.args.self.now.placed.items) c.args.rank (ap (λ all. has all c.args.rank) (sym c.requires.ready.placed) ∙ sym c.contains.ensures ∙ c.if-not-contains.false))
    c.in_err-path.field-0.0 (c.in_err-path.ensures.err memory))

abbrev line : goal.In_ok-push_one → StackLine
line c = record { time = c.args.time; ranks = (one_rank c.args.rank); path = c.in_ok-path.path }

pub returns-clause-ok : goal.returns-clause-ok
returns-clause-ok c =
    let old = c.args.self.now.paths.paths.items in
    let new = c.number.new.self.paths.items in
    let lines = c.args.self.now.lines in
    let more : lines_of old lines ++ line_of new (line c) ∷ [] ≡ lines_of new c.push_one.new.self =
    ap (λ ls. ls ++ line_of new (line c) ∷ []) (sym (same_lines old new lines c.in_ok-path.ensures.old_paths c.requires.ready.numbered))
    ∙ sym (lines_more new lines (line c))
    ∙ ap (lines_of new) (sym c.in_ok-push_one.ensures.ok) in
    sample_good (parser_view c.args.self.now) c.args.line_number c.args.time (one_rank c.args.rank) c.args.text.now
    (one_is_subset (all_ranks c.args.self.now.placed.items) c.args.rank (ap (λ all. has all c.args.rank) (sym c.requires.ready.placed) ∙ sym c.contains.ensures ∙ c.if-not-contains.false))
    (path_at c.number.new.self c.in_ok-path.path) c.in_ok-path.ensures.ok
    ∙ ap (λ ls. Ok (sampled c.args.self.now.placed.items ls)) more

pub returns-clause-consistent : goal.returns-clause-consistent
returns-clause-consistent c =
    let old = c.args.self.now.paths.paths.items in
    let new = c.number.new.self.paths.items in
    let lines = c.args.self.now.lines in
    let len = ap length c.in_ok-push_one.ensures.ok ∙ length-append lines (line c ∷ []) in
    let one : length new ≤ length old + 1 = c.in_ok-path.ensures.at_most_one_new in
    let few = c.requires.ready.no_more_than_lines in
    record {
      paired = c.requires.ready.paired;
      placed = c.requires.ready.placed;
      paths = c.in_ok-path.ensures.holds;
      numbered = subst (PathIndicesInRange new) (sym c.in_ok-push_one.ensures.ok) (numbered_more old new lines (line c) c.in_ok-path.ensures.none_lost c.requires.ready.numbered c.in_ok-path.ensures.within);
      no_more_than_lines = omega (arith, len, one, few);
    }
