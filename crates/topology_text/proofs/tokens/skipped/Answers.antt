use Rattle.std.proofs.Common.{drop, sym, ap, ◌∙◌, arith}
use Rattle.std.proofs.lemmas.Bool.{eq-eqb, ne_eqb}
use Rattle.topology_text.specs.Tokens.{pieces}
use Rattle.topology_text.proofs.Bytes.{after_feed, after_space, after_comment}
use Rattle.topology_text.proofs.tokens.skipped.Goals as goal

pub loop-b-preserved-then-b-eq10 : goal.loop-b-preserved-then-b-eq10
loop-b-preserved-then-b-eq10 c = record {
  room = omega (arith, c.in-Some.ensures.cases.1);
  shorter = omega (arith, c.in-Some.ensures.cases.1);
  pieces = after_feed c.loop-b.line_number c.in-Some.b.now c.in-Some.after.now c.if-b-eq10.true ∙ ap (λ t. pieces c.loop-b.line_number 0 t) (sym c.in-Some.ensures.cases.0) ∙ c.loop-b.invariant.pieces;
}

pub loop-b-preserved-then-is_space : goal.loop-b-preserved-then-is_space
loop-b-preserved-then-is_space c =
    let not_feed = ne_eqb c.in-Some.b.now 10 c.if-b-eq10.false in
    record {
      room = omega (arith, c.in-Some.ensures.cases.1);
      shorter = omega (arith, c.in-Some.ensures.cases.1);
      pieces = after_space c.loop-b.line_number c.in-Some.b.now c.in-Some.after.now not_feed (sym c.is_space.ensures ∙ c.if-is_space.true) ∙ ap (λ t. pieces c.loop-b.line_number 0 t) (sym c.in-Some.ensures.cases.0) ∙ c.loop-b.invariant.pieces;
    }

pub loop-b-preserved : goal.loop-b-preserved
loop-b-preserved c =
    let not_feed = ne_eqb c.in-Some.b.now 10 c.if-b-eq10.false in
    let next = c.split_at.ensures.back ∙ ap (λ n. drop n c.in-Some.after.now) c.line_len.ensures.value in
    record {
      room = omega (arith, c.in-Some.ensures.cases.1, c.split_at.ensures.back_len);
      shorter = omega (arith, c.in-Some.ensures.cases.1, c.split_at.ensures.back_len);
      pieces = ap (λ t. pieces c.loop-b.line_number 0 t) next ∙ after_comment c.loop-b.line_number c.in-Some.b.now c.in-Some.after.now not_feed (sym c.is_space.ensures ∙ c.if-is_space.false) (eq-eqb _ _ c.if-b-eq35.true) ∙ ap (λ t. pieces c.loop-b.line_number 0 t) (sym c.in-Some.ensures.cases.0) ∙ c.loop-b.invariant.pieces;
    }
