use Rattle.std.proofs.Common.{◌≡◌, ◌≢◌, ◌∙◌, length, sym, ap, Ok, Err, arith}
use Rattle.rank_set.specs.Ranks.{union}
use Rattle.stat_plan.specs.Plans.{sampled}
use Rattle.stat_plan.specs.Samples.{all_ranks}
use Rattle.text_lines.specs.declared.text_error.TextError.TheVariants.{OutOfMemory}
use Rattle.sample_text.specs.ParserViews.{parser_nodes, parser_view}
use Rattle.sample_text.specs.Steps.{are_disjoint, with_daemon}
use Rattle.sample_text.proofs.Sets.{all_ranks-add_at, length-add_at}
use Rattle.text_lines.proofs.Errors.{handed_on}
use Rattle.sample_text.proofs.Steps.{daemon_unnamed, daemon_bad_ranks, daemon_twice, daemon_good}
use Rattle.sample_text.proofs.parser.Parser.daemon.Goals as goal

pub returns-in_err-n-clause-err : goal.returns-in_err-n-clause-err
returns-in_err-n-clause-err c =
    handed_on c.from_residual.result c.in_err-n.field-0.0 (λ e. e ≢ OutOfMemory → with_daemon (parser_nodes c.args.self.now) (parser_view c.args.self.now) c.args.line_number c.args.name.now c.args.word.now ≡ Err e) c.from_residual.ensures
    (λ _. daemon_unnamed (parser_nodes c.args.self.now) (parser_view c.args.self.now) c.args.line_number c.args.name.now c.args.word.now c.in_err-n.field-0.0 c.in_err-n.ensures.err)

pub returns-in_err-ranks-clause-err : goal.returns-in_err-ranks-clause-err
returns-in_err-ranks-clause-err c =
    handed_on c.from_residual-in_err-ranks.result c.in_err-ranks.field-0.0 (λ e. e ≢ OutOfMemory → with_daemon (parser_nodes c.args.self.now) (parser_view c.args.self.now) c.args.line_number c.args.name.now c.args.word.now ≡ Err e) c.from_residual-in_err-ranks.ensures
    (λ memory. daemon_bad_ranks (parser_nodes c.args.self.now) (parser_view c.args.self.now) c.args.line_number c.args.name.now c.args.word.now c.in_ok-n.n c.in_ok-n.ensures.ok c.in_err-ranks.field-0.0 (c.in_err-ranks.ensures.err memory))

pub returns-then-not-are_disjoint-clause-err : goal.returns-then-not-are_disjoint-clause-err
returns-then-not-are_disjoint-clause-err c = λ _.
    daemon_twice (parser_nodes c.args.self.now) (parser_view c.args.self.now) c.args.line_number c.args.name.now c.args.word.now c.in_ok-n.n c.in_ok-n.ensures.ok c.in_ok-ranks.ranks c.in_ok-ranks.ensures.ok
    (ap (are_disjoint c.in_ok-ranks.ranks) (sym c.requires.placed) ∙ sym c.are_disjoint.ensures ∙ c.if-not-are_disjoint.true)
    ∙ ap Err (sym c.bad.ensures)

pub returns-clause-ok : goal.returns-clause-ok
returns-clause-ok c =
    daemon_good (parser_nodes c.args.self.now) (parser_view c.args.self.now) c.args.line_number c.args.name.now c.args.word.now c.in_ok-n.n c.in_ok-n.ensures.ok c.in_ok-ranks.ranks c.in_ok-ranks.ensures.ok
    (ap (are_disjoint c.in_ok-ranks.ranks) (sym c.requires.placed) ∙ sym c.are_disjoint.ensures ∙ c.if-not-are_disjoint.false)
    ∙ ap (λ sets. Ok (sampled sets (parser_view c.args.self.now).lines)) (sym c.in_ok-add_at.ensures)

pub returns-clause-consistent : goal.returns-clause-consistent
returns-clause-consistent c = record {
  paired = ap length c.in_ok-add_at.ensures ∙ length-add_at c.args.self.now.placed.items c.in_ok-n.n c.in_ok-ranks.ranks ∙ c.requires.paired;
  placed = c.in_ok-union_into.ensures.ok
      ∙ ap (λ a. union a c.in_ok-ranks.ranks) c.requires.placed
      ∙ all_ranks-add_at c.args.self.now.placed.items c.in_ok-n.n c.in_ok-ranks.ranks (omega (arith, c.in_ok-n.ensures.node, c.requires.paired))
      ∙ ap all_ranks (sym c.in_ok-add_at.ensures);
  paths = c.requires.paths;
  numbered = c.requires.numbered;
  no_more_than_lines = c.requires.no_more_than_lines;
}
