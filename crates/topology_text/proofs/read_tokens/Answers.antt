use Rattle.std.proofs.Common.{◌≡◌, ◌≢◌, ◌∙◌, ◌<◌, ◌≤◌, ℕ, List, length, drop, sym, ap, Ok, Err, nat_eq, false, true, arith}
use Rattle.text_lines.proofs.Errors.{handed_on}
use Rattle.std.proofs.lemmas.Bool.Decides.{nat_tests}
use Rattle.text_lines.specs.declared.text_error.TextError.{TextError}
use Rattle.text_lines.specs.declared.text_error.TextError.TheVariants.{OutOfMemory}
use Rattle.topology_text.specs.Tokens.{pieces, piece_at, piece_len, StopsAt}
use Rattle.topology_text.specs.Statements.{Parsed, with_piece, with_pieces}
use Rattle.topology_text.specs.ParserViews.{parser_view}
use Rattle.topology_text.specs.TokenViews.{token_bytes}
use Rattle.topology_text.proofs.Nodes.{piece_bad, piece_good}
use Rattle.topology_text.proofs.Bytes.{next_piece, no_pieces}
use Rattle.topology_text.proofs.read_tokens.Goals as goal

-- one token of what is left
module _ (s : Parsed) (line n : ℕ) (text : List ℕ) (stops : StopsAt text) (some : 0 < length text) (pos : 1 ≤ n) (is : n ≡ piece_len (piece_at text)) where
  next_bad : (e : TextError) → with_piece s line (piece_at text) ≡ Err e → with_pieces s (pieces line 0 text) ≡ Err e
  next_bad e bad = ap (with_pieces s) (next_piece line n text stops some pos is) ∙ piece_bad s line (piece_at text) _ e bad

  next_good : (t : Parsed) → with_piece s line (piece_at text) ≡ Ok t → with_pieces s (pieces line 0 text) ≡ with_pieces t (pieces line 0 (drop n text))
  next_good t good = ap (with_pieces s) (next_piece line n text stops some pos is) ∙ piece_good s line (piece_at text) _ t good

some_left : (text : List ℕ) → nat_eq (length text) 0 ≡ false → 0 < length text
some_left text e = grind (arith, nat_tests)

nothing_left : (text : List ℕ) → nat_eq (length text) 0 ≡ true → length text ≡ 0
nothing_left text e = grind (arith, nat_tests)

pub returns-in_default-clause-err : goal.returns-in_default-clause-err
returns-in_default-clause-err c = λ _. sym c.loop-rest.invariant.parsed
    ∙ next_bad (parser_view c.loop-rest.parser) c.loop-rest.line_number 1 c.loop-rest.rest.now c.loop-rest.invariant.stops (some_left c.loop-rest.rest.now (sym c.is_empty.ensures ∙ c.loop-rest-test.true)) (omega arith) (ap piece_len c.in_default.ensures.value) _ (ap (with_piece (parser_view c.loop-rest.parser) c.loop-rest.line_number) (sym c.in_default.ensures.value) ∙ ap Err (sym c.bad.ensures))

pub returns-in_err-take-clause-err : goal.returns-in_err-take-clause-err
returns-in_err-take-clause-err c =
    handed_on c.from_residual.result c.in_err-take.field-0.0 (λ e. e ≢ OutOfMemory → with_pieces (parser_view c.args.parser.now) (pieces 1 0 c.args.text.now) ≡ Err e) c.from_residual.ensures
    (λ memory. sym c.loop-rest.invariant.parsed
    ∙ next_bad (parser_view c.loop-rest.parser) c.loop-rest.line_number (token_bytes c.in-Some.token) c.loop-rest.rest.now c.loop-rest.invariant.stops (some_left c.loop-rest.rest.now (sym c.is_empty.ensures ∙ c.loop-rest-test.true)) c.in-Some.ensures.not_empty (ap piece_len c.in-Some.ensures.value) c.in_err-take.field-0.0
    (ap (with_piece (parser_view c.loop-rest.parser) c.loop-rest.line_number) (sym c.in-Some.ensures.value) ∙ c.in_err-take.ensures.err memory))

pub loop-rest-smaller : goal.loop-rest-smaller
loop-rest-smaller c =
    let e : length c.skipped.result.0.now < length c.loop-rest.rest.now = omega (arith, c.skipped.ensures.shorter, c.split_at.ensures.back_len, c.token_len.ensures, c.in-Some.ensures.not_empty) in e

pub loop-rest-preserved : goal.loop-rest-preserved
loop-rest-preserved c = record {
  room = omega (arith, c.skipped.ensures.room, c.split_at.ensures.back_len, c.loop-rest.invariant.room);
  stops = c.skipped.ensures.stops;
  parsed = ap (with_pieces (parser_view c.take.new.self)) (c.skipped.ensures.pieces ∙ ap (pieces c.loop-rest.line_number 0) (c.split_at.ensures.back ∙ ap (λ n. drop n c.loop-rest.rest.now) c.token_len.ensures))
      ∙ sym (next_good (parser_view c.loop-rest.parser) c.loop-rest.line_number (token_bytes c.in-Some.token) c.loop-rest.rest.now c.loop-rest.invariant.stops (some_left c.loop-rest.rest.now (sym c.is_empty.ensures ∙ c.loop-rest-test.true)) c.in-Some.ensures.not_empty (ap piece_len c.in-Some.ensures.value) (parser_view c.take.new.self)
      (ap (with_piece (parser_view c.loop-rest.parser) c.loop-rest.line_number) (sym c.in-Some.ensures.value) ∙ c.in_ok-take.ensures.ok))
      ∙ c.loop-rest.invariant.parsed;
}

pub returns-clause-ok : goal.returns-clause-ok
returns-clause-ok c =
    sym c.loop-rest.invariant.parsed
    ∙ ap (with_pieces (parser_view c.loop-rest.parser)) (no_pieces c.loop-rest.line_number c.loop-rest.rest.now (nothing_left c.loop-rest.rest.now (sym c.is_empty.ensures ∙ c.loop-rest-test.false)))
