use Rattle.std.proofs.Common.{◌∙◌, ◌<◌, length, sym, ap, subst, eqb-true, Err}
use Rattle.text_lines.specs.Lines.{after_blanks, after_word}
use Rattle.sample_text.proofs.LineWords.{no_path, some_path, some_left}
use Rattle.sample_text.proofs.words.stack_words.Goals as goal

pub returns-then-is_empty-clause-err : goal.returns-then-is_empty-clause-err
returns-then-is_empty-clause-err c =
    no_path c.args.line_number c.args.rest.now c.in-Some.time.now c.in-Some-next_word.ranks.now c.in-Some.rest.now c.in-Some-next_word.rest.now c.in-Some.ensures.words c.in-Some-next_word.ensures.words
    (ap length (sym c.after_blanks-end.ensures.value) ∙ eqb-true _ _ (sym c.is_empty.ensures ∙ c.if-is_empty.true))
    ∙ ap Err (sym c.bad-then-is_empty.ensures)

pub path_in-path-requires : goal.path_in-path-requires
path_in-path-requires c =
    c.after_blanks-end.ensures.value ∙ ap after_blanks (c.in-Some-next_word.ensures.rest ∙ ap after_word (c.in-Some.ensures.rest ∙ ap after_word c.requires))

pub returns-clause-ok : goal.returns-clause-ok
returns-clause-ok c =
    let end = c.after_blanks-end.result.now in
    some_path c.args.line_number c.args.rest.now c.in-Some.time.now c.in-Some-next_word.ranks.now c.in-Some.rest.now c.in-Some-next_word.rest.now c.in-Some.ensures.words c.in-Some-next_word.ensures.words c.path_in-path.result.now
    c.in-Some.ensures.rest c.in-Some-next_word.ensures.rest (c.path_in-path.ensures ∙ c.after_blanks-end.ensures.value)
    (subst (λ t. 0 < length t) (sym c.path_in-path.ensures) (some_left end (sym c.is_empty.ensures ∙ c.if-is_empty.false)))
