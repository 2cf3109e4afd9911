use Rattle.std.proofs.Common.{◌∙◌, sym, ap, Ok}
use Rattle.sample_text.specs.Words.{Stack}
use Rattle.sample_text.proofs.LineWords.{some_left}
use Rattle.sample_text.proofs.UsualLines.{path_is, usual_read}
use Rattle.sample_text.proofs.words.usual_line.Goals as goal

pub path_in-path-requires : goal.path_in-path-requires
path_in-path-requires c =
    path_is c.args.line.now c.as_bytes.result.now c.in_ok-rest.rest.now c.in_ok-time.rest.now c.in_ok-ranks.rest.now c.as_bytes.ensures.value c.in_ok-rest.ensures.cases.0 c.in_ok-rest.ensures.cases.1 c.in_ok-time.time.now c.in_ok-ranks.ranks.now c.after_blanks-text.result.now
    c.in_ok-time.ensures.words c.in_ok-ranks.ensures.words c.in_ok-time.ensures.rest c.in_ok-ranks.ensures.rest c.after_blanks-text.ensures.value

pub returns : goal.returns
returns c = λ n.
    usual_read c.args.line.now c.as_bytes.result.now c.in_ok-rest.rest.now c.in_ok-time.rest.now c.in_ok-ranks.rest.now c.as_bytes.ensures.value c.in_ok-rest.ensures.cases.0 c.in_ok-rest.ensures.cases.1 c.in_ok-time.time.now c.in_ok-ranks.ranks.now c.after_blanks-text.result.now
    c.in_ok-time.ensures.words c.in_ok-ranks.ensures.words c.in_ok-time.ensures.rest c.in_ok-ranks.ensures.rest c.after_blanks-text.ensures.value
    c.utf8.line (some_left c.after_blanks-text.result.now (sym c.is_empty.ensures ∙ c.if-is_empty.false)) n
    ∙ ap (λ p. Ok (Stack c.in_ok-time.time.now c.in_ok-ranks.ranks.now p)) (sym c.path_in-path.ensures)
