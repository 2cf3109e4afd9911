use Rattle.std.proofs.Common.{◌≡◌, ◌∙◌, ◌<◌, ℕ, nat_eq, false, sym, arith}
use Rattle.std.proofs.lemmas.Bool.{eqb-true}
use Rattle.std.proofs.lemmas.Bool.Decides.{nat_tests}
use Rattle.stack_text.proofs.Pieces.{no_pieces, piece_last, piece_more}
use Rattle.stack_text.proofs.texts.next_piece.Goals as goal

some : (n : ℕ) → nat_eq n 0 ≡ false → 0 < n
some n e = grind (arith, nat_tests)

pub returns-then-is_empty-clause-pieces : goal.returns-then-is_empty-clause-pieces
returns-then-is_empty-clause-pieces c = no_pieces c.args.text.now (eqb-true _ _ (sym c.is_empty.ensures ∙ c.if-is_empty.true))

pub returns-in-Some-clause-pieces : goal.returns-in-Some-clause-pieces
returns-in-Some-clause-pieces c =
    piece_more c.args.text.now c.split_at.result.0.now c.split_at.result.1.now c.line_len.result
    (some _ (sym c.is_empty.ensures ∙ c.if-is_empty.false)) c.line_len.ensures.value c.split_at.ensures.front
    c.split_at.ensures.back c.in-Some.field-0-0.now c.in-Some.rest.now c.in-Some.ensures.cases.0

pub returns-in-None-clause-pieces : goal.returns-in-None-clause-pieces
returns-in-None-clause-pieces c =
    piece_last c.args.text.now c.split_at.result.0.now c.split_at.result.1.now c.line_len.result
    (some _ (sym c.is_empty.ensures ∙ c.if-is_empty.false)) c.line_len.ensures.value c.split_at.ensures.front
    c.split_at.ensures.back c.in-None.ensures.cases
